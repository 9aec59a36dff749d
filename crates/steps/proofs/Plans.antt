-- What comes of a plan, whatever its state is: what it passed if it is accepted, that a refusal changes nothing, and which bytes it keeps.
use Prim.Native.Nat.{ℕ, ◌+◌, ◌-◌, ◌<◌, ◌≤◌}
use mathlib.Core.Path.{◌≡◌, refl, sym, ◌∙◌, ap}
use mathlib.Core.Bool.{true, ◌&&◌}
use mathlib.Core.List.{List, [], ◌∷◌, ◌++◌}
use lib.ListN.{length, take, drop, get_or, length-append, length-drop, get_or-append}
use lib.Seq.{length-take-le, get_or-take, get_or-drop, drop-append-add, drop-drop}
use lib.Dec.{leb}
use native.Mathlib.Omega.{arith}
use native.Mathlib.Nat.{add-zero}
use borrow.Author.Tests.{leb-true}
use Rattle.format.specs.declared.Fault.{Fault}
use Rattle.format.specs.Result.{Res, ok, no}
use Rattle.format.specs.Number.{num_bytes}
use Rattle.format.specs.Format.{Verdict, fine, bad}
use Rattle.format.proofs.Numbers.{length-num_bytes}
use Rattle.format.proofs.Results.{ok_same, no_ok, passed, and_true_both}
use Rattle.put.specs.Put.{put}
use Rattle.steps.specs.Plans.{Fill, Plan, Out, judged, answer_of, out_of, carry, fill_all}

-- a plan that meets nothing that refuses it
pub record Fine {S : Type 0} (p : Plan S) : Type 0 where
  pub permitted : p.permitted ≡ true
  pub faultless : p.faults ≡ fine
  pub limits : p.limits ≡ true

-- a plan that is accepted, in a buffer of so many bytes, and reaches n
pub record Accepted {S : Type 0} (p : Plan S) (size n : ℕ) : Type 0 where
  pub fine : Fine p
  pub reached : n ≡ p.at + length p.bytes
  pub few : n ≤ p.most
  pub fits : n ≤ size

judged_ok : (v : Verdict) (r : Res ℕ) (n : ℕ) → judged v r ≡ ok n → (v ≡ fine) × (r ≡ ok n)
judged_ok fine r n e = (refl, e)
judged_ok (bad f p) r n e = absurd (no_ok e)

pub answer_ok : {S : Type 0} (p : Plan S) (size n : ℕ) → answer_of p size ≡ ok n → Accepted p size n
answer_ok p size n e =
    let r = p.at + length p.bytes in
    let t₀ = passed p.permitted _ _ e in
    let t₁ = judged_ok p.faults _ n t₀.1 in
    let t₂ = passed (p.limits && leb r p.most) _ _ t₁.1 in
    let t₃ = passed (leb r size) _ _ t₂.1 in
    let a = and_true_both p.limits (leb r p.most) t₂.0 in
    let same : r ≡ n = ok_same t₃.1 in
    record {
      fine = record { permitted = t₀.0; faultless = t₁.0; limits = a.0 };
      reached = sym same;
      few = rw same at (leb-true r p.most a.1);
      fits = rw same at (leb-true r size t₃.0);
    }

out_ok : {S : Type 0} (r : Res ℕ) (p : Plan S) (st : S) (b : List ℕ) (n : ℕ) → (out_of r p st b).answer ≡ ok n
    → (r ≡ ok n) × (out_of r p st b ≡ record { answer = ok n; state = p.next n; buffer = fill_all p.fills (put b p.at p.bytes) })
out_ok (ok m) p st b n e = (e, ap (λ (r : Res ℕ). out_of r p st b) e)
out_ok (no f q) p st b n e = absurd (no_ok e)

out_no : {S : Type 0} (r : Res ℕ) (p : Plan S) (st : S) (b : List ℕ) (f : Fault) (q : ℕ) → (out_of r p st b).answer ≡ no f q → out_of r p st b ≡ record { answer = no f q; state = st; buffer = b }
out_no (ok m) p st b f q e = absurd (no_ok (sym e))
out_no (no g o) p st b f q e = ap (λ (r : Res ℕ). out_of r p st b) e

pub carry_ok : {S : Type 0} (p : Plan S) (st : S) (b : List ℕ) (n : ℕ) → (carry p st b).answer ≡ ok n
    → Accepted p (length b) n × (carry p st b ≡ record { answer = ok n; state = p.next n; buffer = fill_all p.fills (put b p.at p.bytes) })
unfolding carry
carry_ok p st b n e = let o = out_ok (answer_of p (length b)) p st b n e in (answer_ok p (length b) n o.0, o.1)

-- a refusal leaves the state and the buffer as they were
pub carry_no : {S : Type 0} (p : Plan S) (st : S) (b : List ℕ) (f : Fault) (q : ℕ) → (carry p st b).answer ≡ no f q → carry p st b ≡ record { answer = no f q; state = st; buffer = b }
unfolding carry
carry_no p st b f q e = out_no (answer_of p (length b)) p st b f q e

-- the bytes of b from n on, and those at places of which Keeps holds, are those of c
pub record Kept (b c : List ℕ) (n : ℕ) (Keeps : ℕ → Type 0) : Type 0 where
  pub size : length c ≡ length b
  pub behind : drop n c ≡ drop n b
  pub other : (i : ℕ) → Keeps i → get_or c i 0 ≡ get_or b i 0

-- a byte that stands before or behind a field
pub data Apart (i at width : ℕ) : Type 0 where
  before : i < at → Apart i at width
  behind : at + width ≤ i → Apart i at width

module _ (b : List ℕ) (at : ℕ) (bs : List ℕ) (h : at + length bs ≤ length b) where
  front : length (take at b) ≡ at
  front = length-take-le at b (omega arith)

  put_size : length (put b at bs) ≡ length b
  unfolding put
  put_size = simp (length-append, front, length-drop) (omega arith)

  put_behind : (n : ℕ) → at + length bs ≤ n → drop n (put b at bs) ≡ drop n b
  unfolding put
  put_behind n k =
      let m = n - (at + length bs) in
      let far : n ≡ length (take at b) + (length bs + m) = omega (arith, front) in
      let back : at + length bs + m ≡ n = omega arith in
      let d = drop (at + length bs) b in
      ap (λ (z : ℕ). drop z (put b at bs)) far
      ∙ (drop-append-add (take at b) (bs ++ d) (length bs + m) ∙ (drop-append-add bs d m ∙ (drop-drop m (at + length bs) b ∙ ap (λ (z : ℕ). drop z b) back)))

  put_before : (i : ℕ) → i < at → get_or (put b at bs) i 0 ≡ get_or b i 0
  unfolding put
  put_before i k = get_or-append (take at b) _ 0 i (omega (arith, front)) ∙ get_or-take at b i 0 k

  put_after : (i : ℕ) → at + length bs ≤ i → get_or (put b at bs) i 0 ≡ get_or b i 0
  unfolding put
  put_after i k =
      let same = ap (λ (l : List ℕ). get_or l 0 0) (put_behind i k) in
      simp (get_or-drop, add-zero) at same

  put_apart : (i : ℕ) → Apart i at (length bs) → get_or (put b at bs) i 0 ≡ get_or b i 0
  put_apart i (before k) = put_before i k
  put_apart i (behind k) = put_after i k

-- fields that end by n, and bytes that stand in none of them
abbrev pub EndBy : ℕ → List Fill → Type 0
EndBy n [] = Unit
EndBy n (f ∷ fs) = (f.at + f.width ≤ n) × EndBy n fs

abbrev pub Outside : List Fill → ℕ → Type 0
Outside [] i = Unit
Outside (f ∷ fs) i = Apart i f.at f.width × Outside fs i

fill_keeps : (fs : List Fill) (n : ℕ) (b : List ℕ) → n ≤ length b → EndBy n fs → Kept b (fill_all fs b) n (Outside fs)
fill_keeps [] n b h e = record { size = refl; behind = refl; other = λ i o. refl }
fill_keeps (f ∷ fs) n b h e =
    let bs = num_bytes f.width f.number in
    let wide : length bs ≡ f.width = length-num_bytes f.width f.number in
    let fit : f.at + length bs ≤ length b = omega (arith, e.0) in
    let c = put b f.at bs in
    let size = put_size b f.at bs fit in
    let k = fill_keeps fs n c (omega arith) e.1 in
    record {
      size = k.size ∙ size;
      behind = k.behind ∙ put_behind b f.at bs fit n (omega (arith, e.0));
      other = λ i o. k.other i o.1 ∙ put_apart b f.at bs fit i (rw wide o.0);
    }

-- a step that is accepted keeps all bytes from its new position on, and all before its old one but those that it fills
plan_keeps : {S : Type 0} (p : Plan S) (b : List ℕ) (n : ℕ) → n ≡ p.at + length p.bytes → n ≤ length b → EndBy p.at p.fills
    → Kept b (fill_all p.fills (put b p.at p.bytes)) n (λ i. (i < p.at) × Outside p.fills i)
plan_keeps p b n e h f =
    let fit : p.at + length p.bytes ≤ length b = omega arith in
    let c = put b p.at p.bytes in
    let size = put_size b p.at p.bytes fit in
    let k = fill_keeps p.fills p.at c (omega arith) f in
    let back : p.at + length p.bytes ≡ n = sym e in
    let q = length p.bytes in
    let d = fill_all p.fills c in
    let far : drop n d ≡ drop n c = ap (λ (z : ℕ). drop z d) e ∙ (sym (drop-drop q p.at d) ∙ (ap (drop q) k.behind ∙ (drop-drop q p.at c ∙ ap (λ (z : ℕ). drop z c) back))) in
    record {
      size = k.size ∙ size;
      behind = far ∙ put_behind b p.at p.bytes fit n (omega arith);
      other = λ i o. k.other i o.1 ∙ put_before b p.at p.bytes fit i o.0;
    }

-- the same of a plan that is carried out, where what it fills ends by its place if it is permitted
pub carry_keeps : {S : Type 0} (p : Plan S) (st : S) (b : List ℕ) (n : ℕ) → (carry p st b).answer ≡ ok n → (p.permitted ≡ true → EndBy p.at p.fills)
    → Kept b (carry p st b).buffer n (λ i. (i < p.at) × Outside p.fills i)
carry_keeps p st b n e f =
    let a = carry_ok p st b n e in
    let same = ap (λ (o : Out _). o.buffer) a.1 in
    rw same (plan_keeps p b n a.0.reached a.0.fits (f a.0.fine.permitted))
