-- Each way to make a format keeps that its refusals are right: what they claim of the bytes at their places holds there.
use Prim.Native.Nat.{ℕ, zero, suc, ◌+◌, ◌≤◌}
use mathlib.Core.Path.{◌≡◌, refl, sym, ap, subst}
use mathlib.Core.Bool.{Bool, true, false, ◌&&◌}
use mathlib.Core.List.{List, [], ◌∷◌, map}
use mathlib.Core.Logic.{inl, inr, ⊎_elim}
use mathlib.Core.Option
use mathlib.Core.Option.{some, none}
use lib.ListN.{length, take, drop, replicate}
use lib.Seq.{length-take-le, get_or-take}
use lib.Dec.{leb, ltb, eqb}
use native.Mathlib.Omega.{arith}
use borrow.Author.Tests.{leb-true, ltb-false}
use Rattle.format.specs.declared.Fault.{Fault}
use Rattle.format.specs.declared.Fault.TheVariants.{Short, Negative, Limit, Extra}
use Rattle.format.specs.Result.{Res, ok, no, bind, pick}
use Rattle.format.specs.Number.{num_at, half, null4}
use Rattle.format.specs.Format.{Format, Index, number, block, nothing, ruled, room, into, both, present, each, counted, Verdict, fine, bad, judged}
use Rattle.format.proofs.Results.{ok_same, no_ok, passed}
use Rattle.causes.specs.Causes.{Claim, breaks, differ, only, either, other, never, Holds, There, Rightly}

-- a number in a part of a list is the one in the list
num_at_take : (k n : ℕ) (s : List ℕ) (at : ℕ) → at + k ≤ n → num_at k (take n s) at ≡ num_at k s at
unfolding num_at
num_at_take zero n s at h = refl
num_at_take (suc k) n s at h = rw (get_or-take n s at 0 (omega arith), num_at_take k n s (at + 1) (omega arith))

-- what holds in a part of a list holds in the list
cut : (c : Claim) (n : ℕ) (s : List ℕ) (p : ℕ) → n ≤ length s → Holds c (take n s) p → Holds c s p
cut (breaks k test) n s p fit h = let size = length-take-le n s fit in (omega (arith, h.0), rw (num_at_take k n s p (omega (arith, h.0))) at h.1)
cut (differ j k test) n s p fit h =
    let size = length-take-le n s fit in
    let inside : p + j + k ≤ n = omega (arith, h.0) in
    (omega arith, rw (num_at_take j n s p (omega arith), num_at_take k n s (p + j) inside) at h.1)
cut (only q c) n s p fit h = (h.0, cut c n s p fit h.1)
cut (either c d) n s p fit h = ⊎_elim (λ l. inl (cut c n s p fit l)) (λ r. inr (cut d n s p fit r)) h
cut other n s p fit h = tt
cut never n s p fit h = h

module _ {P : Fault → ℕ → Type 0} {A : Type 0} where
  pub rightly_ok : {a : A} → Rightly P (ok a)
  rightly_ok = record { holds = λ f p e. absurd (no_ok (sym e)) }

  pub rightly_no : (f : Fault) (p : ℕ) → P f p → Rightly P {A = A} (no f p)
  rightly_no f p h = record { holds = λ g q e. let same : f ≡ g = cc in let there : p ≡ q = cc in rw (← same, ← there) h }

  pub rightly_pick : (t : Bool) {r q : Res A} → (t ≡ true → Rightly P r) → (t ≡ false → Rightly P q) → Rightly P (pick t r q)
  rightly_pick true h i = h refl
  rightly_pick false h i = i refl

module _ {P : Fault → ℕ → Type 0} {A B : Type 0} where
  pub rightly_bind : (r : Res A) {k : A → Res B} → Rightly P r → ((a : A) → r ≡ ok a → Rightly P (k a)) → Rightly P (bind r k)
  rightly_bind (ok a) h rest = rest a refl
  rightly_bind (no f p) h rest = rightly_no f p (h.holds f p refl)

-- the same of formats, at one place
module _ {P : Fault → ℕ → Type 0} {A B : Type 0} where
  pub rightly_into : (to : A → B) (from : B → A) (f : Format A) (s : List ℕ) (at : ℕ) → Rightly P (f.read s at) → Rightly P ((into to from f).read s at)
  unfolding into
  rightly_into to from f s at r = rightly_bind (f.read s at) r (λ w e. rightly_ok)

  pub rightly_both : (f : Format A) (g : A → Format B) (s : List ℕ) (at : ℕ) → Rightly P (f.read s at) → ((w : A × ℕ) → f.read s at ≡ ok w → Rightly P ((g w.0).read s w.1))
      → Rightly P ((both f g).read s at)
  unfolding both
  rightly_both f g s at r q = rightly_bind (f.read s at) r (λ w e. rightly_bind ((g w.0).read s w.1) (q w e) (λ v e. rightly_ok))

module _ {P : Fault → ℕ → Type 0} {A : Type 0} where
  pub rightly_ruled : (test : A → Bool) (fault : Fault) (f : Format A) (s : List ℕ) (at : ℕ) → Rightly P (f.read s at) → ((w : A × ℕ) → f.read s at ≡ ok w → test w.0 ≡ false → P fault at)
      → Rightly P ((ruled test fault f).read s at)
  unfolding ruled
  rightly_ruled test fault f s at r broken = rightly_bind (f.read s at) r (λ w e. rightly_pick (test w.0) (λ t. rightly_ok) (λ t. rightly_no fault at (broken w e t)))

module _ (claim : Fault → Claim) {A : Type 0} where
  cut_all : (n : ℕ) (s : List ℕ) → n ≤ length s → (r : Res A) → Rightly (There claim (take n s)) r → Rightly (There claim s) r
  cut_all n s fit r h = record { holds = λ f p e. cut (claim f) n s p fit (h.holds f p e) }

-- a fault that claims nothing of a value
abbrev pub Plain : (Fault → Claim) → Fault → Type 0
Plain claim f = (s : List ℕ) (p : ℕ) → Holds (claim f) s p

pub record Right (claim : Fault → Claim) {A : Type 0} (f : Format A) : Type 0 where
  pub rightly : (s : List ℕ) (at : ℕ) → Rightly (There claim s) (f.read s at)

module _ {claim : Fault → Claim} where
  pub right_number : Plain claim Short → (k field : ℕ) → Right claim (number k field)
  unfolding number
  right_number short k field = record { rightly = λ s at. rightly_pick (leb (at + k) (length s)) (λ e. rightly_ok) (λ e. rightly_no Short at (short s at)) }

  pub right_block : Plain claim Short → (n field : ℕ) → Right claim (block n field)
  unfolding block
  right_block short n field = record { rightly = λ s at. rightly_pick (leb (at + n) (length s)) (λ e. rightly_ok) (λ e. rightly_no Short at (short s at)) }

-- what a number that is read is
pub number_is : (k field : ℕ) (s : List ℕ) (at : ℕ) (w : ℕ × ℕ) → (number k field).read s at ≡ ok w → (at + k ≤ length s) × (w.0 ≡ num_at k s at) × (w.1 ≡ at + k)
unfolding number
number_is k field s at w e =
    let t = passed (leb (at + k) (length s)) _ _ e in
    let same = ok_same t.1 in
    (leb-true _ _ t.0, sym (ap (λ (q : ℕ × ℕ). q.0) same), sym (ap (λ (q : ℕ × ℕ). q.1) same))

module _ {claim : Fault → Claim} {A : Type 0} where
  pub right_nothing : (a : A) → Right claim (nothing a)
  unfolding nothing
  right_nothing a = record { rightly = λ s at. rightly_ok }

  pub right_ruled : (test : A → Bool) (fault : Fault) {f : Format A} → Right claim f → ((s : List ℕ) (at : ℕ) (w : A × ℕ) → f.read s at ≡ ok w → test w.0 ≡ false → Holds (claim fault) s at) → Right claim (ruled test fault f)
  right_ruled test fault {f} r broken = record { rightly = λ s at. rightly_ruled test fault f s at (r.rightly s at) (broken s at) }

  pub right_plain : (test : A → Bool) (fault : Fault) {f : Format A} → Plain claim fault → Right claim f → Right claim (ruled test fault f)
  right_plain test fault plain r = right_ruled test fault r (λ s at w e t. plain s at)

  pub right_room : Plain claim Short → Plain claim Negative → Plain claim Limit → Plain claim Extra → (most field : ℕ) {f : Format A} → Right claim f → Right claim (room most field f)
  unfolding room
  right_room short negative limit extra most field {f} r = record {
    rightly = λ s at.
        rightly_bind ((number 4 field).read s at) ((right_number {claim = claim} short 4 field).rightly s at) (λ w e.
        rightly_pick (leb (half 4) w.0) (λ t. rightly_no Negative at (negative s at)) (λ t.
        rightly_pick (ltb most w.0) (λ t. rightly_no Limit at (limit s at)) (λ t.
        rightly_pick (ltb (length s) (at + 4 + w.0)) (λ t. rightly_no Short at (short s at)) (λ fits.
        let end = at + 4 + w.0 in
        rightly_bind (f.read (take end s) (at + 4)) (cut_all claim end s (ltb-false _ _ fits) _ (r.rightly (take end s) (at + 4))) (λ q e.
        rightly_pick (eqb q.1 end) (λ t. rightly_ok) (λ t. rightly_no Extra q.1 (extra s q.1)))))));
  }

module _ {claim : Fault → Claim} where
  -- a number of k bytes that is refused for the rule that the fault claims to be broken
  pub right_tested : Plain claim Short → (k field : ℕ) (test : ℕ → Bool) (fault : Fault) → claim fault ≡ breaks k test → Right claim (ruled test fault (number k field))
  right_tested short k field test fault is =
      right_ruled test fault (right_number short k field) (λ s at w e t.
      let n = number_is k field s at w e in
      subst (λ (c : Claim). Holds c s at) (sym is) (n.0, subst (λ (z : ℕ). test z ≡ false) n.1 t))

module _ {claim : Fault → Claim} {A B : Type 0} where
  pub right_into : (to : A → B) (from : B → A) {f : Format A} → Right claim f → Right claim (into to from f)
  right_into to from {f} r = record { rightly = λ s at. rightly_into to from f s at (r.rightly s at) }

  pub right_both : {f : Format A} {g : A → Format B} → Right claim f → ((a : A) → Right claim (g a)) → Right claim (both f g)
  right_both {f} {g} r q = record { rightly = λ s at. rightly_both f g s at (r.rightly s at) (λ w e. (q w.0).rightly s w.1) }

module _ (claim : Fault → Claim) {A : Type 0} where
  -- each format of a list is right
  abbrev pub AllRight : List (Format A) → Type 0
  AllRight [] = Unit
  AllRight (f ∷ fs) = Right claim f × AllRight fs

module _ {claim : Fault → Claim} {A : Type 0} where
  pub right_pick : (t : Bool) {f g : Format A} → Right claim f → Right claim g → Right claim (pick t f g)
  right_pick true r q = r
  right_pick false r q = q

  pub right_present : (t : Bool) (d : A) {f : Format A} → Right claim f → Right claim (present t d f)
  unfolding present
  right_present true d r = right_into some (λ o. Option.get_or o d) r
  right_present false d r = right_nothing none

  pub all_replicate : (n : ℕ) {f : Format A} → Right claim f → AllRight claim (replicate n f)
  all_replicate zero r = tt
  all_replicate (suc n) r = (r, all_replicate n r)

  pub all_map : {B : Type 0} (g : B → Format A) → ((b : B) → Right claim (g b)) → (l : List B) → AllRight claim (map g l)
  all_map g r [] = tt
  all_map g r (b ∷ l) = (r b, all_map g r l)

  pub right_each : (at-index : ℕ → Index → Index) (k : ℕ) (fs : List (Format A)) → AllRight claim fs → Right claim (each at-index k fs)
  unfolding each
  right_each at-index k [] r = right_nothing []
  right_each at-index k (f ∷ fs) r = record {
    rightly = λ s at.
        rightly_bind (f.read s at) (r.0.rightly s at) (λ w e.
        rightly_bind ((each at-index (k + 1) fs).read s w.1) ((right_each at-index (k + 1) fs r.1).rightly s w.1) (λ v e. rightly_ok));
  }

-- what the rule of a body refuses, of a body that stands behind its length
abbrev pub Judges : (Fault → Claim) → (List ℕ → Verdict) → Type 0
Judges claim rule =
    (s : List ℕ) (at n : ℕ) → at + 4 + n ≤ length s → num_at 4 s at ≡ n → (f : Fault) (k : ℕ) → rule (take n (drop (at + 4) s)) ≡ bad f k → Holds (claim f) s (at + k)

module _ {P : Fault → ℕ → Type 0} where
  rightly_judged : (at : ℕ) (q : List ℕ × ℕ) (v : Verdict) → ((f : Fault) (k : ℕ) → v ≡ bad f k → P f (at + k)) → Rightly P (judged v q at)
  rightly_judged at q fine h = rightly_ok
  rightly_judged at q (bad f k) h = rightly_no f (at + k) (h f k refl)

module _ {claim : Fault → Claim} where
  pub right_counted : Plain claim Short → Plain claim Negative → Plain claim Limit → (nullable : Bool) (most : ℕ) (rule : List ℕ → Verdict) (l b : ℕ) → Judges claim rule → Right claim (counted nullable most rule l b)
  unfolding counted
  right_counted short negative limit nullable most rule l b judges = record {
    rightly = λ s at.
        rightly_bind ((number 4 l).read s at) ((right_number {claim = claim} short 4 l).rightly s at) (λ w e.
        rightly_pick (nullable && eqb w.0 null4) (λ t. rightly_ok) (λ t.
        rightly_pick (leb (half 4) w.0) (λ t. rightly_no Negative at (negative s at)) (λ t.
        rightly_pick (ltb most w.0) (λ t. rightly_no Limit at (limit s at)) (λ t.
        rightly_pick (ltb (length s) (at + 4 + w.0)) (λ t. rightly_no Short at (short s at)) (λ fits.
        rightly_judged at _ _ (judges s at w.0 (ltb-false _ _ fits) (sym (number_is 4 l s at w e).1)))))));
  }
