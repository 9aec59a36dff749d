-- The columns of a list of numbers: one of its first three, and those behind it; or none.
use Prim.Native.Nat.{ℕ, ◌<◌}
use native.Mathlib.Omega.{arith}
use mathlib.Core.Path.{◌≡◌, refl, sym, ap, ◌∙◌}
use mathlib.Core.List.{List, [], ◌∷◌, ◌++◌}
use lib.ListN.{length}
use Rattle.columns.specs.declared.Column.{Column}
use Rattle.columns.specs.declared.survey.Survey.{Survey}
use Rattle.columns.specs.declared.Walk.{Walk}
use Rattle.columns.specs.Walks.{added, add_all, Fits, FitsAll, moved, column_out, column_types, Page, put_one, put_all}
use Rattle.numbers.specs.Entries.{entry_at, entries_of}

pub one_more : (ns xs rest : List ℕ) → ns ≡ xs ++ rest → length xs ≡ 3 → entries_of ns ≡ entry_at xs 0 ∷ entries_of rest
unfolding entries_of
one_more ns [] rest e l = absurd (omega arith)
one_more ns (a ∷ []) rest e l = absurd (omega arith)
one_more ns (a ∷ b ∷ []) rest e l = absurd (omega arith)
one_more ns (a ∷ b ∷ c ∷ []) rest e l = ap entries_of e
one_more ns (a ∷ b ∷ c ∷ d ∷ xs) rest e l = absurd (omega arith)

pub no_more : (xs : List ℕ) → length xs < 3 → entries_of xs ≡ []
unfolding entries_of
no_more [] h = refl
no_more (a ∷ []) h = refl
no_more (a ∷ b ∷ []) h = refl
no_more (a ∷ b ∷ c ∷ xs) h = absurd (omega arith)

-- a turn of each walk over them
pub survey_turn : (names ns xs rest : List ℕ) (s r : Survey) (e : Column) → ns ≡ xs ++ rest → length xs ≡ 3 → e ≡ entry_at xs 0 → r ≡ added names s e
    → add_all names r (entries_of rest) ≡ add_all names s (entries_of ns)
unfolding add_all
survey_turn names ns xs rest s r e is three f g =
    ap (λ (x : Survey). add_all names x (entries_of rest)) (g ∙ ap (added names s) f) ∙ sym (ap (add_all names s) (one_more ns xs rest is three))

abbrev pub page : List ℕ → List ℕ → Walk → Page
page out types walk = record { out = out; types = types; walk = walk }

pub fits_next : (names ns xs rest : List ℕ) (size : ℕ) (w : Walk) → ns ≡ xs ++ rest → length xs ≡ 3 → FitsAll names size w (entries_of ns)
    → Fits names size w (entry_at xs 0) × FitsAll names size (moved names w (entry_at xs 0)) (entries_of rest)
unfolding FitsAll
fits_next names ns xs rest size w is three f = rw (one_more ns xs rest is three) at f

pub put_turn : (names ns xs rest o t : List ℕ) (w : Walk) (e : Column) {o' t' : List ℕ} {w' : Walk} → ns ≡ xs ++ rest → length xs ≡ 3 → FitsAll names (length o) w (entries_of ns) → e ≡ entry_at xs 0
    → (w' ≡ moved names w e) × (o' ≡ column_out names w e o) × (t' ≡ column_types w e t) → length o' ≡ length o
    → FitsAll names (length o') w' (entries_of rest) × (put_all names (page o' t' w') (entries_of rest) ≡ put_all names (page o t w) (entries_of ns))
unfolding put_all
put_turn names ns xs rest o t w e {o'} {t'} {w'} is three f g k l =
    let left = (fits_next names ns xs rest (length o) w is three f).1 in
    let walk : w' ≡ moved names w (entry_at xs 0) = k.0 ∙ ap (moved names w) g in
    let out : o' ≡ column_out names w (entry_at xs 0) o = k.1 ∙ ap (λ (x : Column). column_out names w x o) g in
    let types : t' ≡ column_types w (entry_at xs 0) t = k.2 ∙ ap (λ (x : Column). column_types w x t) g in
    let same : page o' t' w' ≡ put_one names (page o t w) (entry_at xs 0) = rw (walk, out, types) refl in (
      rw (l, walk) left,
      ap (λ (p : Page). put_all names p (entries_of rest)) same ∙ sym (ap (put_all names (page o t w)) (one_more ns xs rest is three)),
    )
