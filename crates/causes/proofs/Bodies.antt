-- The body of a geography is refused rightly: its rings by the laws of formats, what stands before them at its places.
use Prim.Native.Nat.{ℕ, ◌+◌, ◌≤◌}
use mathlib.Core.Path.{◌≡◌, sym, ap, ◌∙◌, subst}
use mathlib.Core.Bool.{Bool, false}
use mathlib.Core.List.{List}
use mathlib.Core.Logic.{inl, inr}
use lib.ListN.{length, replicate}
use lib.Dec.{leb, ltb, eqb}
use native.Mathlib.Omega.{arith}
use Rattle.format.specs.declared.Fault.{Fault}
use Rattle.format.specs.declared.Fault.TheVariants.{Negative, Extra, Geography}
use Rattle.format.specs.Result.{ok}
use Rattle.format.specs.Number.{num_at, half}
use Rattle.format.specs.Format.{Format, number, block, ruled, both, each}
use Rattle.format.specs.Message.{first}
use Rattle.format.specs.Geography.{vertex, ring, polygon, at_least, ringed, holes_of, fewest_vertices, body_kept, read_polygon}
use Rattle.format.proofs.Results.{ok_same, passed, bound}
use Rattle.causes.specs.Causes.{There, Rightly, of_body}
use Rattle.causes.proofs.Rightly.{Right, number_is, rightly_ok, rightly_no, rightly_pick, rightly_bind, rightly_ruled, rightly_both, rightly_into, right_number, right_block, right_nothing, right_ruled, right_plain, right_into, right_both, right_each, all_replicate}

ruleset laws = (right_number, right_block, right_nothing, right_plain, right_into, right_both, right_each, all_replicate, tt)

-- what was read of a value that passed its test, and of two in turn
module _ {A : Type 0} where
  ruled_is : (test : A → Bool) (fault : Fault) (f : Format A) (s : List ℕ) (at : ℕ) (w : A × ℕ) → (ruled test fault f).read s at ≡ ok w → f.read s at ≡ ok w
  unfolding ruled
  ruled_is test fault f s at w e = let b = bound (f.read s at) e in b.1 ∙ (passed (test b.0.0) fault at b.2).1

module _ {A B : Type 0} where
  abbrev Both : (f : Format A) (g : A → Format B) → List ℕ → ℕ → A × B → Type 0
  Both f g s at v = (u : A × ℕ) × (f.read s at ≡ ok u) × (u.0 ≡ v.0) × (w : B × ℕ) × ((g u.0).read s u.1 ≡ ok w) × (w.0 ≡ v.1)

  both_is : (f : Format A) (g : A → Format B) (s : List ℕ) (at : ℕ) (w : (A × B) × ℕ) → (both f g).read s at ≡ ok w → Both f g s at w.0
  unfolding both
  both_is f g s at w e =
      let b = bound (f.read s at) e in
      let c = bound ((g b.0.0).read s b.0.1) b.2 in
      let same = ok_same c.2 in
      (b.0, b.1, ap (λ (q : (A × B) × ℕ). q.0.0) same, c.0, c.1, ap (λ (q : (A × B) × ℕ). q.0.1) same)

-- a count that was read, whatever it is then held against
abbrev not_negative : ℕ → Format ℕ
not_negative field = ruled (λ n. ltb n (half 4)) Negative (number 4 field)

count_is : (field : ℕ) (s : List ℕ) (at : ℕ) (w : ℕ × ℕ) → (not_negative field).read s at ≡ ok w → (at + 4 ≤ length s) × (w.0 ≡ num_at 4 s at)
count_is field s at w e = let n = number_is 4 field s at w (ruled_is _ Negative (number 4 field) s at w e) in (n.0, n.1)

right_count : (field : ℕ) → Right of_body (not_negative field)
right_count field = search laws

-- a vertex count, wherever it stands
right_vertices : Right of_body (at_least fewest_vertices 65)
right_vertices = right_ruled (λ n. leb fewest_vertices n) Geography (right_count 65) (λ s at w e few.
    let n = count_is 65 s at w e in inr (inr (n.0, subst (λ (z : ℕ). leb fewest_vertices z ≡ false) n.1 few)))

right_ring : Right of_body ring
unfolding ring vertex
right_ring = search (laws, right_vertices) depth 10

-- the ring count, which stands at 3
rings_rightly : (s : List ℕ) (at : ℕ) → at ≡ 3 → Rightly (There of_body s) ((at_least 1 63).read s at)
rings_rightly s at there = rightly_ruled (λ n. leb 1 n) Geography (not_negative 63) s at ((right_count 63).rightly s at) (λ w e few.
    let n = count_is 63 s at w e in inr (inl (there, (n.0, subst (λ (z : ℕ). leb 1 z ≡ false) n.1 few))))

abbrev third : Format ℕ
third = ruled (λ h. leb h 1) Geography (number 1 62)

third_is : (s : List ℕ) (at : ℕ) (w : ℕ × ℕ) → third.read s at ≡ ok w → (at + 1 ≤ length s) × (w.0 ≡ num_at 1 s at) × (w.1 ≡ at + 1)
third_is s at w e = number_is 1 62 s at w (ruled_is _ Geography (number 1 62) s at w e)

-- the third byte and the ring count, which stand from 2 on
ringed_rightly : (s : List ℕ) (at : ℕ) → at ≡ 2 → Rightly (There of_body s) (ringed.read s at)
ringed_rightly s at there =
    rightly_ruled (λ p. eqb p.0 (holes_of p.1)) Geography (both third (λ h. at_least 1 63)) s at
    (rightly_both third (λ h. at_least 1 63) s at
    (rightly_ruled (λ h. leb h 1) Geography (number 1 62) s at ((right_number {claim = of_body} (λ s p. tt) 1 62).rightly s at) (λ w e bad.
    let n = number_is 1 62 s at w e in inl (there, inl (n.0, subst (λ (z : ℕ). leb z 1 ≡ false) n.1 bad))))
    (λ w e. rings_rightly s w.1 ((third_is s at w e).2 ∙ ap (λ (z : ℕ). z + 1) there)))
    (λ w e bad.
    let b = both_is third (λ h. at_least 1 63) s at w e in
    let h = third_is s at b.0 b.1 in
    let n = count_is 63 s b.0.1 b.3 (ruled_is _ Geography (not_negative 63) s b.0.1 b.3 b.4) in
    let byte : w.0.0 ≡ num_at 1 s at = sym b.2 ∙ h.1 in
    let count : w.0.1 ≡ num_at 4 s (at + 1) = sym b.5 ∙ n.1 ∙ ap (num_at 4 s) h.2 in
    inl (there, inr (omega (arith, n.0, h.2), rw (← byte, ← count) bad)))

pub body_rightly : (b : List ℕ) → Rightly (There of_body b) (read_polygon b)
unfolding polygon
body_rightly b =
    rightly_bind (polygon.read b 0) (rightly_into _ _ _ b 0
    (rightly_both (number 1 60) _ b 0 ((right_number {claim = of_body} (λ s p. tt) 1 60).rightly b 0) (λ v e.
    rightly_both (number 1 61) _ b v.1 ((right_number {claim = of_body} (λ s p. tt) 1 61).rightly b v.1) (λ w f.
    rightly_both ringed _ b w.1 (ringed_rightly b w.1 ((number_is 1 61 b v.1 w f).2 ∙ ap (λ (z : ℕ). z + 1) (number_is 1 60 b 0 v e).2)) (λ h g.
    (rest h.0.1).rightly b h.1)))))
    (λ q e. rightly_pick (eqb q.1 (length b)) (λ t. rightly_ok) (λ t. rightly_no Extra q.1 tt))
  where
    rest : (n : ℕ) → Right of_body (both (each first 0 (replicate n ring)) (λ rs. block body_kept 68))
    rest n = search (laws, right_ring)
