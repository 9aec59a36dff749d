-- Counted bodies: what their answers say, and where the bytes of one that was read stand.
use Prim.Native.Nat.{ℕ, ◌+◌, ◌≤◌}
use mathlib.Core.Path.{◌≡◌, sym, ◌∙◌, ap}
use mathlib.Core.Bool.{Bool, true, false, ◌&&◌}
use mathlib.Core.List.{List}
use mathlib.Core.Option.{Option, some, none}
use lib.ListN.{length, take, drop, length-drop}
use lib.Seq.{length-take-le}
use lib.Dec.{leb, ltb, eqb}
use native.Mathlib.Omega.{arith}
use borrow.Author.Tests.{ltb-false}
use Rattle.format.specs.declared.Fault.TheVariants.{Short, Negative, Limit}
use Rattle.format.specs.declared.Refusal.{Refusal}
use Rattle.std.specs.Prelude.{Result, Ok}
use Rattle.format.specs.Result.{Res, ok, no, pick}
use Rattle.format.specs.Number.{half, null4}
use Rattle.format.specs.Format.{number, counted, Verdict, fine, bad, judged}
use Rattle.format.proofs.Results.{bound, spared, ok_same, no_ok}
use Rattle.scan.specs.declared.Body.{Body}
use Rattle.scan.specs.Shown.{shown_body}

pub body_null : (at : ℕ) (r : Res (Option (List ℕ) × ℕ)) {a : Result Body Refusal} {next : ℕ} → a ≡ shown_body at r → a ≡ Ok (Body.Null next) → r ≡ ok (none, next)
body_null at (ok (none, next)) e told = ap (λ (n : ℕ). ok (none, n)) (cc)
body_null at (ok (some bs, next)) e told = absurd (let z : ◌≡◌ {A = ℕ} 0 1 = cc in omega arith)
body_null at (no f p) e told = absurd (let z : ◌≡◌ {A = ℕ} 0 1 = cc in omega arith)

-- a body that was read, whatever its rule: its bytes stand after the length field, and end where the reading does
pub record Stood (s : List ℕ) (at : ℕ) (bs : List ℕ) (end : ℕ) : Type 0 where
  pub far : end ≡ at + 4 + length bs
  pub fit : end ≤ length s
  pub bytes : take (length bs) (drop (at + 4) s) ≡ bs

some_same : {a b : List ℕ} → some a ≡ some b → a ≡ b
some_same e = cc

judged_some : (v : Verdict) (w : List ℕ × ℕ) (at : ℕ) (bs : List ℕ) (end : ℕ) → judged v w at ≡ ok (some bs, end) → (w.0 ≡ bs) × (w.1 ≡ end)
judged_some fine w at bs end e = let same = ok_same e in (some_same (ap (λ (p : Option (List ℕ) × ℕ). p.0) same), ap (λ (p : Option (List ℕ) × ℕ). p.1) same)
judged_some (bad f n) w at bs end e = absurd (no_ok e)

abbrev kind_of : Res (Option (List ℕ) × ℕ) → ℕ
kind_of (ok (none, n)) = 0
kind_of (ok (some bs, n)) = 1
kind_of (no f p) = 2

none_some : {n m : ℕ} {bs : List ℕ} → ◌≡◌ {A = Res (Option (List ℕ) × ℕ)} (ok (none, n)) (ok (some bs, m)) → ⊥
none_some e = let z : ◌≡◌ {A = ℕ} 0 1 = ap kind_of e in omega arith

module _ (nullable : Bool) (most : ℕ) (rule : List ℕ → Verdict) (l b : ℕ) (s : List ℕ) (at : ℕ) {bs : List ℕ} {end : ℕ} where
  pub stood : (counted nullable most rule l b).read s at ≡ ok (some bs, end) → Stood s at bs end
  unfolding counted
  stood e =
      let r = bound ((number 4 l).read s at) e in
      let n = r.0.0 in
      by_null n (nullable && eqb n null4) r.2
    where
      by_null : (n : ℕ) (t : Bool)
          → pick t (ok (none, at + 4))
          (pick (leb (half 4) n) (no Negative at)
          (pick (ltb most n) (no Limit at)
          (pick (ltb (length s) (at + 4 + n)) (no Short at)
          (judged (rule (take n (drop (at + 4) s))) (take n (drop (at + 4) s), at + 4 + n) at)))) ≡ ok (some bs, end)
          → Stood s at bs end
      by_null n true h = absurd (none_some h)
      by_null n false h =
          let t₁ = spared (leb (half 4) n) _ _ h in
          let t₂ = spared (ltb most n) _ _ t₁.1 in
          let t₃ = spared (ltb (length s) (at + 4 + n)) _ _ t₂.1 in
          let room : at + 4 + n ≤ length s = ltb-false (length s) (at + 4 + n) t₃.0 in
          let w = judged_some (rule (take n (drop (at + 4) s))) _ at bs end t₃.1 in
          let fit : n ≤ length (drop (at + 4) s) = simp length-drop (omega arith) in
          let size : length bs ≡ n = sym (ap length w.0) ∙ length-take-le n (drop (at + 4) s) fit in
          record { far = rw size (sym w.1); fit = omega (arith, w.1); bytes = rw size w.0 }
