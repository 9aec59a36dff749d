-- Bytes that may each stand after the three before them are a text, if a sequence begins with the first one and none goes on past the last.
use Prim.Native.Nat.{ℕ, zero, suc, ◌+◌, ◌≤◌, ◌<◌}
use mathlib.Core.Path.{◌≡◌, refl, sym, ◌∙◌, subst}
use mathlib.Core.Bool.{Bool, true, false, ◌&&◌, ◌||◌, true≢false}
use mathlib.Core.List.{List, [], ◌∷◌}
use lib.ListN.{length, drop, get_or, drop_of_length-le}
use lib.Seq.{drop-cons}
use lib.Dec.{leb, ltb, eqb}
use native.Mathlib.Omega.{arith}
use borrow.Author.Tests.{le-leb, lt-leb, leb-true, leb-false, ltb-false, eq-eqb, eqb-true, eqb-false}
use Rattle.format.specs.Result.{pick}
use Rattle.format.specs.Format.{fine}
use Rattle.format.specs.Text.{from_to, tail, utf8_from}
use Rattle.format.proofs.Texts.{utf8_low, utf8_next}
use Rattle.text.specs.Shown.{second_of_three, second_of_four}
use Rattle.text.specs.Windows.{unlike, goes_on, wrong_pair, wrong_after, RightRun, Between}
use Rattle.text.proofs.Sequences.{inside, two_of, three_of, four_of}
use Rattle.text.proofs.Runs.{run_join}

-- ---- what the tests say
pub or_false : (t u : Bool) → (t || u) ≡ false → (t ≡ false) × (u ≡ false)
or_false true u e = absurd (true≢false e)
or_false false u e = (refl, e)

or_right : (t : Bool) → (t || true) ≡ true
or_right true = refl
or_right false = refl

and_false : (t u : Bool) → t ≡ true → (t && u) ≡ false → u ≡ false
and_false true u is e = e
and_false false u is e = absurd (true≢false (sym is))

alike : (t u : Bool) → unlike t u ≡ false → t ≡ u
alike true true e = refl
alike true false e = e
alike false u e = sym e

-- a byte that goes on in a sequence
abbrev Tail : ℕ → Type 0
Tail d = (0x80 ≤ d) × (d ≤ 0xbf)

is_tail : (d : ℕ) → tail d ≡ true → Tail d
is_tail d e = by_low (leb 0x80 d) refl e
  where
    by_low : (t : Bool) → leb 0x80 d ≡ t → (t && leb d 0xbf) ≡ true → Tail d
    by_low true f g = (leb-true 0x80 d f, leb-true d 0xbf g)
    by_low false f g = absurd (true≢false (sym g))

tail_is : (d : ℕ) → Tail d → true ≡ tail d
tail_is d h = sym (inside 0x80 0xbf d h.0 h.1)

no_tail : (d : ℕ) → tail d ≡ false → 0x80 ≤ d → 0xbf < d
no_tail d e low = leb-false d 0xbf (and_false (leb 0x80 d) (leb d 0xbf) (le-leb 0x80 d low) e)

module _ (a b c : ℕ) where
  -- after these a sequence goes on, or none does
  goes_last : 0xc0 ≤ c → goes_on a b c ≡ true
  goes_last h = rw (le-leb 0xc0 c h)

  goes_middle : 0xe0 ≤ b → goes_on a b c ≡ true
  goes_middle h = rw (le-leb 0xe0 b h) (or_right (leb 0xc0 c))

  goes_first : 0xf0 ≤ a → goes_on a b c ≡ true
  goes_first h = rw (le-leb 0xf0 a h, or_right (leb 0xe0 b)) (or_right (leb 0xc0 c))

  stops : c < 0xc0 → b < 0xe0 → a < 0xf0 → goes_on a b c ≡ false
  stops h i j = rw (lt-leb 0xc0 c h, lt-leb 0xe0 b i, lt-leb 0xf0 a j)

  stopped : goes_on a b c ≡ false → (c < 0xc0) × (b < 0xe0)
  stopped e =
      let s = or_false (leb 0xc0 c) (leb 0xe0 b || leb 0xf0 a) e in
      (leb-false 0xc0 c s.0, leb-false 0xe0 b (or_false (leb 0xe0 b) (leb 0xf0 a) s.1).0)

  -- and the byte after them
  goes : (d : ℕ) → wrong_after a b c d ≡ false → goes_on a b c ≡ true → Tail d
  goes d e on = is_tail d (sym (alike (goes_on a b c) (tail d) (or_false (unlike (goes_on a b c) (tail d)) (wrong_pair c d) e).0) ∙ on)

  begins : (d : ℕ) → wrong_after a b c d ≡ false → goes_on a b c ≡ false → 0x80 ≤ d → 0xbf < d
  begins d e off low = no_tail d (sym (alike (goes_on a b c) (tail d) (or_false (unlike (goes_on a b c) (tail d)) (wrong_pair c d) e).0) ∙ off) low

-- ---- a first byte, and the second
record Pair (a b : ℕ) : Type 0 where
  least : 0xc0 ≤ a → 0xc1 < a
  most : a < 0xf5
  at_e0 : a ≡ 0xe0 → 0xa0 ≤ b
  at_ed : a ≡ 0xed → b ≤ 0x9f
  at_f0 : a ≡ 0xf0 → 0x90 ≤ b
  at_f4 : a ≡ 0xf4 → b ≤ 0x8f

pair : (a b : ℕ) → wrong_pair a b ≡ false → Pair a b
pair a b e =
    let c0 = leb 0xc0 a && leb a 0xc1 in
    let e0 = eqb a 0xe0 && ltb b 0xa0 in
    let ed = eqb a 0xed && ltb 0x9f b in
    let f0 = eqb a 0xf0 && ltb b 0x90 in
    let f4 = eqb a 0xf4 && ltb 0x8f b in
    let w = or_false (c0 || leb 0xf5 a) ((e0 || ed) || (f0 || f4)) e in
    let x = or_false c0 (leb 0xf5 a) w.0 in
    let y = or_false (e0 || ed) (f0 || f4) w.1 in
    let u = or_false e0 ed y.0 in
    let v = or_false f0 f4 y.1 in
    record {
      least = λ h. leb-false a 0xc1 (and_false (leb 0xc0 a) (leb a 0xc1) (le-leb 0xc0 a h) x.0);
      most = leb-false 0xf5 a x.1;
      at_e0 = λ is. ltb-false b 0xa0 (and_false (eqb a 0xe0) (ltb b 0xa0) (eq-eqb a 0xe0 is) u.0);
      at_ed = λ is. ltb-false 0x9f b (and_false (eqb a 0xed) (ltb 0x9f b) (eq-eqb a 0xed is) u.1);
      at_f0 = λ is. ltb-false b 0x90 (and_false (eqb a 0xf0) (ltb b 0x90) (eq-eqb a 0xf0 is) v.0);
      at_f4 = λ is. ltb-false 0x8f b (and_false (eqb a 0xf4) (ltb 0x8f b) (eq-eqb a 0xf4 is) v.1);
    }

pair_of : (a b c d : ℕ) → wrong_after a b c d ≡ false → Pair c d
pair_of a b c d e = pair c d (or_false (unlike (goes_on a b c) (tail d)) (wrong_pair c d) e).1

module _ (a b : ℕ) (p : Pair a b) (t : Tail b) where
  second_of_three_lem : true ≡ second_of_three a b
  second_of_three_lem = by_first (eqb a 0xe0) refl (eqb a 0xed) refl
    where
      by_first : (e0 : Bool) → eqb a 0xe0 ≡ e0 → (ed : Bool) → eqb a 0xed ≡ ed → true ≡ pick e0 (from_to 0xa0 0xbf b) (pick ed (from_to 0x80 0x9f b) (tail b))
      by_first true e ed f = sym (inside 0xa0 0xbf b (p.at_e0 (eqb-true a 0xe0 e)) t.1)
      by_first false e true f = sym (inside 0x80 0x9f b t.0 (p.at_ed (eqb-true a 0xed f)))
      by_first false e false f = tail_is b t

  second_of_four_lem : 0xf0 ≤ a → true ≡ second_of_four a b
  second_of_four_lem h = by_first (eqb a 0xf0) refl (eqb a 0xf4) refl
    where
      by_first : (f0 : Bool) → eqb a 0xf0 ≡ f0 → (f4 : Bool) → eqb a 0xf4 ≡ f4 → true ≡ pick f0 (from_to 0x90 0xbf b) (pick f4 (from_to 0x80 0x8f b) (from_to 0xf1 0xf3 a && tail b))
      by_first true e f4 f = sym (inside 0x90 0xbf b (p.at_f0 (eqb-true a 0xf0 e)) t.1)
      by_first false e true f = sym (inside 0x80 0x8f b t.0 (p.at_f4 (eqb-true a 0xf4 f)))
      by_first false e false f =
          let low = eqb-false a 0xf0 e in
          let high = eqb-false a 0xf4 f in
          rw (inside 0xf1 0xf3 a (omega (arith, low)) (omega (arith, high, p.most))) (tail_is b t)

-- ---- lists of such bytes
abbrev Rights : ℕ → ℕ → ℕ → List ℕ → Type 0
Rights a b c [] = goes_on a b c ≡ false
Rights a b c (d ∷ ds) = (wrong_after a b c d ≡ false) × Rights b c d ds

-- n such bytes at most, after three where no sequence goes on, are a text
abbrev AreText : ℕ → Type 0
AreText n = (k a b c : ℕ) (bs : List ℕ) → length bs ≤ n → Rights a b c bs → goes_on a b c ≡ false → utf8_from k 0 bs ≡ fine

-- a sequence, and the bytes after it
module _ (n : ℕ) (rest : AreText n) (k b c d : ℕ) (low : c < 0xc0) where
  goes_after : {e : ℕ} → 0xbf < d → wrong_after b c d e ≡ false → Tail e
  goes_after {e} h r = goes b c d e r (goes_last b c d h)

  not_last : 0xbf < d → goes_on b c d ≡ false → ⊥
  not_last h r = true≢false (sym (goes_last b c d h) ∙ r)

  two_bytes : (ds : List ℕ) → length ds ≤ n → Rights b c d ds → 0xbf < d → d ≤ 0xdf → utf8_from k 0 (d ∷ ds) ≡ fine
  two_bytes [] h r lo hi = absurd (not_last lo r)
  two_bytes (e ∷ es) h r lo hi =
      let t = goes_after lo r.0 in
      let first = sym (le-leb 0xc2 d ((pair_of b c d e r.0).least lo)) in
      utf8_next k d (e ∷ es) 1 (sym (two_of d e (get_or es 0 0) (get_or es 1 0) true true (omega arith) hi first (tail_is e t)))
      ∙ rest (k + 2) c d e es (omega arith) r.1 (stops c d e (omega (arith, t.1)) (omega arith) (omega arith))

  three_bytes : (ds : List ℕ) → length ds ≤ n → Rights b c d ds → 0xdf < d → d ≤ 0xef → utf8_from k 0 (d ∷ ds) ≡ fine
  three_bytes [] h r lo hi = absurd (not_last (omega arith) r)
  three_bytes (e ∷ []) h r lo hi = absurd (true≢false (sym (goes_middle c d e lo) ∙ r.1))
  three_bytes (e ∷ f ∷ fs) h r lo hi =
      let t = goes_after (omega arith) r.0 in
      let u = goes c d e f r.1.0 (goes_middle c d e lo) in
      utf8_next k d (e ∷ f ∷ fs) 2 (sym (three_of d e f (get_or fs 0 0) true true lo hi (second_of_three_lem d e (pair_of b c d e r.0) t) (tail_is f u)))
      ∙ rest (k + 3) d e f fs (omega arith) r.1.1 (stops d e f (omega (arith, u.1)) (omega (arith, t.1)) (omega arith))

  four_bytes : (ds : List ℕ) → length ds ≤ n → Rights b c d ds → 0xef < d → utf8_from k 0 (d ∷ ds) ≡ fine
  four_bytes [] h r lo = absurd (not_last (omega arith) r)
  four_bytes (e ∷ []) h r lo = absurd (true≢false (sym (goes_middle c d e (omega arith)) ∙ r.1))
  four_bytes (e ∷ f ∷ []) h r lo = absurd (true≢false (sym (goes_first d e f lo) ∙ r.1.1))
  four_bytes (e ∷ f ∷ g ∷ gs) h r lo =
      let t = goes_after (omega arith) r.0 in
      let u = goes c d e f r.1.0 (goes_middle c d e (omega arith)) in
      let v = goes d e f g r.1.1.0 (goes_first d e f lo) in
      utf8_next k d (e ∷ f ∷ g ∷ gs) 3 (sym (four_of d e f g true true true lo (second_of_four_lem d e (pair_of b c d e r.0) t lo) (tail_is f u) (tail_is g v)))
      ∙ rest (k + 4) e f g gs (omega arith) r.1.1.1 (stops e f g (omega (arith, v.1)) (omega (arith, u.1)) (omega (arith, t.1)))

  one_more : (a : ℕ) (ds : List ℕ) → length ds ≤ n → wrong_after a b c d ≡ false → Rights b c d ds → goes_on a b c ≡ false → utf8_from k 0 (d ∷ ds) ≡ fine
  one_more a ds h r₀ r s = by_first (leb d 0x7f) refl (leb d 0xdf) refl (leb d 0xef) refl
    where
      high : leb d 0x7f ≡ false → 0xbf < d
      high e = begins a b c d r₀ s (leb-false d 0x7f e)

      by_first : (t : Bool) → leb d 0x7f ≡ t → (u : Bool) → leb d 0xdf ≡ u → (v : Bool) → leb d 0xef ≡ v → utf8_from k 0 (d ∷ ds) ≡ fine
      by_first true e u f v g =
          let ascii = leb-true d 0x7f e in
          utf8_low k d ds ascii ∙ rest (k + 1) b c d ds h r (stops b c d (omega arith) (omega arith) (omega (arith, (stopped a b c s).1)))
      by_first false e true f v g = two_bytes ds h r (high e) (leb-true d 0xdf f)
      by_first false e false f true g = three_bytes ds h r (leb-false d 0xdf f) (leb-true d 0xef g)
      by_first false e false f false g = four_bytes ds h r (leb-false d 0xef g)

none_left : AreText 0
unfolding utf8_from
none_left k a b c [] h r s = refl
none_left k a b c (d ∷ ds) h r s = absurd (omega arith)

some_left : (n : ℕ) → AreText n → AreText (suc n)
unfolding utf8_from
some_left n rest k a b c [] h r s = refl
some_left n rest k a b c (d ∷ ds) h r s = one_more n rest k b c d (stopped a b c s).0 a ds (omega arith) r.0 r.1 s

rights_text : (n : ℕ) → AreText n
rights_text zero = none_left
rights_text (suc n) = some_left n (rights_text n)

-- ---- and of places
module _ (b : List ℕ) where
  abbrev pub RightAt : ℕ → Type 0
  RightAt p = wrong_after (get_or b p 0) (get_or b (p + 1) 0) (get_or b (p + 2) 0) (get_or b (p + 3) 0) ≡ false

  -- one more such byte
  pub right_more : (i k : ℕ) → RightRun b i k → RightAt (i + k) → RightRun b i (k + 1)
  right_more i k run one = run_join RightAt i k (i + k) 1 (k + 1) (omega arith) (omega arith) (omega arith) run (λ j h. subst RightAt (omega arith) one)

  rights_from : (i n : ℕ) → i + n + 3 ≡ length b → RightRun b i n → Between b (i + n) → Rights (get_or b i 0) (get_or b (i + 1) 0) (get_or b (i + 2) 0) (drop (i + 3) b)
  rights_from i zero all run stop =
      let far : length b ≤ i + 3 = omega arith in
      let none : drop (i + 3) b ≡ [] = drop_of_length-le b far in
      let here : i + 0 ≡ i = omega arith in
      rw none (subst (Between b) here stop)
  rights_from i (suc n) all run stop =
      let here : i + 0 ≡ i = omega arith in
      let more = rights_from (i + 1) n (omega arith) (λ k h. subst RightAt (omega arith) (run (suc k) (omega arith))) (subst (Between b) (omega arith) stop) in
      let two : i + 1 + 1 ≡ i + 2 = omega arith in
      let three : i + 1 + 2 ≡ i + 3 = omega arith in
      let four : i + 1 + 3 ≡ suc (i + 3) = omega arith in
      let within : i + 3 < length b = omega arith in
      rw (drop-cons b (i + 3) 0) (subst RightAt here (run 0 (omega arith)), rw (two, three, four) at more)

  pub windows_text : (i n : ℕ) → i + n + 3 ≡ length b → RightRun b i n → Between b i → Between b (i + n) → utf8_from (i + 3) 0 (drop (i + 3) b) ≡ fine
  windows_text i n all run start stop = rights_text (length (drop (i + 3) b)) (i + 3) _ _ _ (drop (i + 3) b) (omega arith) (rights_from i n all run stop) start
