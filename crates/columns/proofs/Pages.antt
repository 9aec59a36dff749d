-- What the walk that writes columns leaves: their types and their names, each where they belong, and the types in their memory.
use Prim.Native.Nat.{ℕ, suc, ◌+◌, ◌-◌, ◌≤◌}
use native.Mathlib.Numerals.{add-one}
use native.Mathlib.Omega.{arith}
use mathlib.Core.Path.{◌≡◌, refl, sym, ap, ◌∙◌}
use mathlib.Core.Bool.{false}
use mathlib.Core.List.{List, [], ◌∷◌, ◌++◌, flat_map}
use lib.ListN.{length, set, length-append}
use lib.Seq.{sets}
use lib.Dec.{eqb}
use borrow.Author.Tests.{ne_eqb}
use Rattle.format.specs.Message.{most_columns}
use Rattle.format.proofs.Numbers.{length-num_bytes}
use Rattle.put.specs.Put.{put}
use Rattle.put.proofs.Laws.{put_length, put_nothing, twice}
use Rattle.columns.specs.declared.Column.{Column as Entry}
use Rattle.columns.specs.declared.Walk.{Walk}
use Rattle.columns.specs.Entries.{types_in, type_bytes, name_bytes}
use Rattle.columns.specs.Walks.{moved, Page, put_one, put_all, FitsAll}
use Rattle.columns.proofs.Metadata.{Standing, types_size}
use Rattle.columns.proofs.Apart.{apart}

-- where none is left nothing is written
pub none_moved : (names : List ℕ) (w : Walk) (e : Entry) → w.left ≡ 0 → moved names w e ≡ w
none_moved names w e h = rw h

pub none_put : (names : List ℕ) (p : Page) (es : List Entry) → p.walk.left ≡ 0 → put_all names p es ≡ p
unfolding put_all
none_put names p [] h = refl
none_put names p (e ∷ es) h = let same : put_one names p e ≡ p = rw h in rw same (none_put names p es h)

pub none_fit : (names : List ℕ) (size : ℕ) (w : Walk) (es : List Entry) → w.left ≡ 0 → FitsAll names size w es
unfolding FitsAll
none_fit names size w [] h = tt
none_fit names size w (e ∷ es) h = ((λ less. absurd (omega arith)), rw (none_moved names w e h) (none_fit names size w es h))

-- the next column
pub more_moved : (names : List ℕ) (w : Walk) (e : Entry) (n : ℕ) → w.left ≡ suc n
    → moved names w e ≡ record { left = n; i = w.i + 1; kind_at = w.kind_at + 1; name_at = w.name_at + length (name_bytes names e) }
more_moved names w e n h =
    let some : eqb w.left 0 ≡ false = ne_eqb w.left 0 (λ z. omega arith) in
    let same : w.left - 1 ≡ n = omega arith in
    rw some (ap {B = Walk} (λ (k : ℕ). record { left = k; i = w.i + 1; kind_at = w.kind_at + 1; name_at = w.name_at + length (name_bytes names e) }) same)

pub more_put : (names : List ℕ) (p : Page) (e : Entry) (n : ℕ) → p.walk.left ≡ suc n
    → put_one names p e ≡ record {
      out = put (put p.out p.walk.kind_at (type_bytes e)) p.walk.name_at (name_bytes names e);
      types = set p.types p.walk.i e.wire_type;
      walk = record { left = n; i = p.walk.i + 1; kind_at = p.walk.kind_at + 1; name_at = p.walk.name_at + length (name_bytes names e) };
    }
more_put names p e n h =
    let some : eqb p.walk.left 0 ≡ false = ne_eqb p.walk.left 0 (λ z. omega arith) in
    rw (more_moved names p.walk e n h, some)

-- as many columns as are left have room
pub all_fit : (names : List ℕ) (size : ℕ) (w : Walk) (es : List Entry) → w.left ≡ length es → Standing names es → w.i + length es ≤ most_columns → w.kind_at + length es ≤ size
    → w.name_at + length (flat_map (name_bytes names) es) ≤ size → FitsAll names size w es
unfolding FitsAll Standing flat_map
all_fit names size w [] h s i k n = tt
all_fit names size w (e ∷ es) h s i k n =
    let sum = length-append (name_bytes names e) (flat_map (name_bytes names) es) in
    let next : Walk = record { left = length es; i = w.i + 1; kind_at = w.kind_at + 1; name_at = w.name_at + length (name_bytes names e) } in (
      (λ less. (omega arith, omega arith, s.0, omega arith)),
      rw (more_moved names w e (length es) h) (all_fit names size next es refl s.1 (omega arith) (omega arith) (omega arith)),
    )

-- and all are written
pub all_put : (names : List ℕ) (p : Page) (es : List Entry) → p.walk.left ≡ length es → p.walk.kind_at + length es ≤ p.walk.name_at
    → p.walk.name_at + length (flat_map (name_bytes names) es) ≤ length p.out
    → ((put_all names p es).out ≡ put (put p.out p.walk.kind_at (flat_map type_bytes es)) p.walk.name_at (flat_map (name_bytes names) es)) × ((put_all names p es).types ≡ sets p.types p.walk.i (types_in es))
unfolding put_all flat_map
all_put names p [] h k n =
    (sym (put_nothing (put p.out p.walk.kind_at []) p.walk.name_at ∙ put_nothing p.out p.walk.kind_at), refl)
all_put names p (e ∷ es) h k n =
    let b = p.out in
    let at = p.walk.kind_at in
    let m = p.walk.name_at in
    let te = type_bytes e in
    let ne = name_bytes names e in
    let ts = flat_map type_bytes es in
    let ns = flat_map (name_bytes names) es in
    let one : length te ≡ 1 = length-num_bytes 1 e.wire_type in
    let few : length ts ≡ length es = types_size es in
    let sum = length-append ne ns in
    let b₁ = put b at te in
    let b₂ = put b₁ m ne in
    let l₁ : length b₁ ≡ length b = put_length b at te (omega arith) in
    let l₂ : length b₂ ≡ length b₁ = put_length b₁ m ne (omega arith) in
    let types₁ = set p.types p.walk.i e.wire_type in
    let next : Page = record { out = b₂; types = types₁; walk = record { left = length es; i = p.walk.i + 1; kind_at = at + 1; name_at = m + length ne } } in
    let rest = all_put names next es refl (omega arith) (omega arith) in
    let same : put_one names p e ≡ next = more_put names p e (length es) h in
    let swap : put b₂ (at + 1) ts ≡ put (put b₁ (at + 1) ts) m ne = apart b₁ (at + 1) ts m ne (omega arith) (omega arith) in
    let kinds : put b₁ (at + 1) ts ≡ put b at (te ++ ts) = ap (λ (x : ℕ). put b₁ (at + x) ts) (sym one) ∙ twice b at te ts (omega arith) in
    let l₄ : length (put b at (te ++ ts)) ≡ length b = put_length b at (te ++ ts) (let s = length-append te ts in omega arith) in (
      ap (λ (q : Page). (put_all names q es).out) same ∙ rest.0 ∙ ap (λ (x : List ℕ). put x (m + length ne) ns) (swap ∙ ap (λ (x : List ℕ). put x m ne) kinds)
          ∙ twice (put b at (te ++ ts)) m ne ns (omega arith),
      ap (λ (q : Page). (put_all names q es).types) same ∙ rest.1 ∙ ap (λ (x : ℕ). sets types₁ x (types_in es)) (add-one p.walk.i),
    )
