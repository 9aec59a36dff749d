-- Names and texts past bytes that are fine: what is said of the rest is what is said of all.
use Prim.Native.Nat.{ℕ, zero, suc, ◌+◌, ◌-◌, ◌≤◌, ◌<◌}
use mathlib.Core.Path.{◌≡◌, refl, sym, ◌∙◌, ap, subst}
use mathlib.Core.Bool.{Bool, true, false}
use mathlib.Core.List.{List, [], ◌∷◌}
use lib.ListN.{length, drop, get_or, drop_of_length-le}
use lib.Seq.{drop-cons, drop-drop, get_or-drop}
use lib.Dec.{ltb}
use native.Mathlib.Omega.{arith}
use borrow.Author.Tests.{lt-ltb, le-ltb, ltb-true, ltb-false}
use Rattle.format.specs.declared.Fault.TheVariants.{Name, Text}
use Rattle.format.specs.Result.{pick}
use Rattle.format.specs.Format.{Verdict, fine, bad}
use Rattle.format.specs.Value.{ascii_from}
use Rattle.format.specs.Text.{sequence, utf8_from}
use Rattle.format.proofs.Texts.{utf8_low, utf8_next, utf8_stop}
use Rattle.text.specs.Shown.{LowRun, sequence_at, up_to}

pub low_none : (b : List ℕ) (i : ℕ) → LowRun b i 0
low_none b i k l = absurd (omega arith)

-- what holds of each place from s on, and in a run that begins there or before its end
pub run_join : (P : ℕ → Type 0) (s i j n m : ℕ) → s ≤ j → j ≤ s + i → s + m ≡ j + n → ((k : ℕ) → k < i → P (s + k)) → ((k : ℕ) → k < n → P (j + k)) → (k : ℕ) → k < m → P (s + k)
run_join P s i j n m h g all first more k l = by_test (ltb k i) refl
  where
    by_test : (t : Bool) → ltb k i ≡ t → P (s + k)
    by_test true e = first k (ltb-true k i e)
    by_test false e =
        let past = ltb-false k i e in
        let same : j + (s + k - j) ≡ s + k = omega arith in
        subst P same (more (s + k - j) (omega arith))

pub low_join : (b : List ℕ) (i j n : ℕ) → j ≤ i → LowRun b 0 i → LowRun b j n → LowRun b 0 (j + n)
low_join b i j n h = run_join (λ p. get_or b p 0 < 128) 0 i j n (j + n) (omega arith) (omega arith) (omega arith)

-- k bytes from a place on, none of which is above a top, and one more
abbrev pub Below : List ℕ → ℕ → ℕ → ℕ → Type 0
Below b i top k = (j : ℕ) → j < k → get_or b (i + j) 0 ≤ top

-- there is 0 past the end
pub past_end : (b : List ℕ) (i : ℕ) → length b ≤ i → get_or b i 0 ≡ 0
past_end [] i h = refl
past_end (a ∷ b) zero h = absurd (omega arith)
past_end (a ∷ b) (suc i) h = past_end b i (omega arith)

-- a rule that passes a byte of ASCII passes a run of them
module _ (from : ℕ → List ℕ → Verdict) (low : (k a : ℕ) (bs : List ℕ) → a < 128 → from k (a ∷ bs) ≡ from (k + 1) bs) (b : List ℕ) where
  pub turn : (i : ℕ) → i < length b → get_or b i 0 < 128 → from i (drop i b) ≡ from (i + 1) (drop (i + 1) b)
  turn i h l = let next : suc i ≡ i + 1 = omega arith in rw (drop-cons b i 0, next) (low i (get_or b i 0) (drop (i + 1) b) l)

  pub run : (n : ℕ) → n ≤ length b → LowRun b 0 n → from n (drop n b) ≡ from 0 b
  run zero h all = refl
  run (suc n) h all =
      let next : suc n ≡ n + 1 = omega arith in
      let here : get_or b n 0 < 128 = subst (λ (p : ℕ). get_or b p 0 < 128) (omega arith) (all n (omega arith)) in
      rw next (sym (turn n (omega arith) here) ∙ run n (omega arith) (λ k l. all k (omega arith)))

-- names
pub ascii_low : (k a : ℕ) (bs : List ℕ) → a < 128 → ascii_from k (a ∷ bs) ≡ ascii_from (k + 1) bs
ascii_low k a bs h = rw (lt-ltb a 128 h)

pub ascii_stop : (b : List ℕ) (i : ℕ) → i < length b → 127 < get_or b i 0 → ascii_from i (drop i b) ≡ bad Name i
ascii_stop b i h high = rw (drop-cons b i 0, le-ltb (get_or b i 0) 128 (omega arith))

pub ascii_done : (b : List ℕ) (i : ℕ) → length b ≤ i → ascii_from i (drop i b) ≡ fine
ascii_done b i h = let none : drop i b ≡ [] = drop_of_length-le b h in rw none

-- texts
abbrev pub text : ℕ → List ℕ → Verdict
text k bs = utf8_from k 0 bs

pub text_low : (k a : ℕ) (bs : List ℕ) → a < 128 → text k (a ∷ bs) ≡ text (k + 1) bs
text_low k a bs h = utf8_low k a bs (omega arith)

pub text_done : (b : List ℕ) (i : ℕ) → length b ≤ i → text i (drop i b) ≡ fine
unfolding utf8_from
text_done b i h = let none : drop i b ≡ [] = drop_of_length-le b h in rw none

module _ (b : List ℕ) (i : ℕ) (h : i < length b) where
  -- its bytes, by the list that begins with it
  begun : sequence (get_or b i 0) (get_or (drop (suc i) b) 0 0) (get_or (drop (suc i) b) 1 0) (get_or (drop (suc i) b) 2 0) ≡ sequence_at b i
  begun =
      let one : suc i + 0 ≡ i + 1 = omega arith in
      let two : suc i + 1 ≡ i + 2 = omega arith in
      let three : suc i + 2 ≡ i + 3 = omega arith in
      rw (get_or-drop (suc i) b 0 0, get_or-drop (suc i) b 1 0, get_or-drop (suc i) b 2 0, one, two, three)

  pub text_next : (n : ℕ) → n ≡ sequence_at b i → (n ≡ 0 → ⊥) → text (i + n) (drop (i + n) b) ≡ text i (drop i b)
  text_next zero e some = absurd (some refl)
  text_next (suc n) e some =
      let reads : text i (drop i b) ≡ text (i + suc n) (drop (suc n) (drop i b)) = rw (drop-cons b i 0) (utf8_next i (get_or b i 0) (drop (suc i) b) n (begun ∙ sym e)) in
      sym (reads ∙ ap (text (i + suc n)) (drop-drop (suc n) i b))

  pub text_stop : (n : ℕ) → n ≡ sequence_at b i → n ≡ 0 → text i (drop i b) ≡ bad Text i
  text_stop n e none = rw (drop-cons b i 0) (utf8_stop i (get_or b i 0) (drop (suc i) b) (begun ∙ sym e ∙ none))

-- sequences that were passed: what is said of all is that they are fine, or where the next one would begin
pub text_passed : (b : List ℕ) (r : ℕ) → text r (drop r b) ≡ text 0 b → (r < length b → sequence_at b r ≡ 0) → text 0 b ≡ up_to (length b) r
text_passed b r same stop = by_end (ltb r (length b)) refl
  where
    by_end : (t : Bool) → ltb r (length b) ≡ t → text 0 b ≡ pick t (bad Text r) fine
    by_end true e = let h = ltb-true r (length b) e in sym same ∙ text_stop b r h (sequence_at b r) refl (stop h)
    by_end false e = sym same ∙ text_done b r (ltb-false r (length b) e)

pub text_all : (b : List ℕ) → text 0 b ≡ fine → text 0 b ≡ up_to (length b) (length b)
text_all b e = e ∙ sym (rw (le-ltb (length b) (length b) (omega arith)))
