-- A body: what stands before the first ring, the rings, what is kept, and no byte more. Each refuses in its turn.
use Rattle.std.specs.Prelude.{Ok}
use Rattle.std.proofs.Common.{◌≡◌, ℕ, ◌+◌, List, length, take, replicate, refl, ap, ◌∙◌, arith, length-append, eq-eqb, ne_eqb}
use lib.ListN.{length-replicate}
use lib.Seq.{take-length}
use Rattle.format.specs.declared.Fault.{Fault}
use Rattle.format.specs.declared.Fault.TheVariants.{Extra}
use Rattle.format.specs.Result.{Res, ok, no as refused, bind}
use Rattle.format.specs.Number.{Bytes}
use Rattle.format.specs.Format.{Format, number, block, ruled, into, both, each}
use Rattle.format.specs.Message.{first}
use Rattle.format.specs.Geography.{Ring, Polygon, ring, at_least, ringed, polygon, body_kept, read_polygon}
use Rattle.format.proofs.Numbers.{length-num_bytes}
use Rattle.format.proofs.Laws.{lawful_each, all_replicate}
use Rattle.format.proofs.Geography.{lawful_ring}
use Rattle.places.proofs.Lists.{total, length-total}
use Rattle.scan.proofs.Answers.{took}
use Rattle.places.proofs.Readings.{both_parts, ruled_part, each_length}
use Rattle.areas.specs.Answers.{ring_state}
use Rattle.areas.specs.Passes.{head, rings_size, shown_survey}
use Rattle.areas.proofs.Heads.{counted}

-- ring n stands after 7 bytes and the rings before it
pub ring_place : (p : Polygon) (n : ℕ) → ring_state p n ≡ 7 + total ring (take n p.rings)
unfolding ring_state polygon into both ruled number block
ring_place p n =
    let l = take n p.rings in
    simp (length-append, length-num_bytes, length-total first 0 (length l) ring l (omega arith)) (omega arith)

-- the rings and what is kept behind them
abbrev pub after_head : ℕ → Format (List Ring × List ℕ)
after_head n = both (each first 0 (replicate n ring)) (λ rs. block body_kept 68)

-- one reading, and then another
abbrev after : {X Y : Type 0} → Res (X × ℕ) → (X → ℕ → Res (Y × ℕ)) → Res ((X × Y) × ℕ)
after x k = bind x (λ p. bind (k p.0 p.1) (λ q. ok ((p.0, q.0), q.1)))

module _ {A B C D : Type 0} where
  abbrev joined : (A × (B × C)) × ℕ → D × ℕ → Res ((A × (B × (C × D))) × ℕ)
  joined h w = ok ((h.0.0, (h.0.1.0, (h.0.1.1, w.0))), w.1)

  -- three readings and a fourth are read as three, and then the fourth
  module _ (y : ℕ → Res (B × ℕ)) (z : ℕ → Res (C × ℕ)) (k : C → ℕ → Res (D × ℕ)) where
    abbrev fourth : (A × (B × C)) × ℕ → Res ((A × (B × (C × D))) × ℕ)
    fourth h = bind (k h.0.1.1 h.1) (joined h)

    by_fourth : (a : A) (b : B) (c : C) (m : ℕ) (r : Res (D × ℕ)) → after (ok (a, m)) (λ a n. after (ok (b, n)) (λ b n. after (ok (c, n)) (λ c n. r))) ≡ bind r (joined ((a, (b, c)), m))
    by_fourth a b c m (ok w) = refl
    by_fourth a b c m (refused f p) = refl

    by_third : (a : A) (b : B) (m : ℕ) (r : Res (C × ℕ)) → after (ok (a, m)) (λ a n. after (ok (b, n)) (λ b n. after r k)) ≡ bind (after (ok (a, m)) (λ a n. after (ok (b, n)) (λ b n. r))) fourth
    by_third a b m (ok (c, n)) = by_fourth a b c n (k c n)
    by_third a b m (refused f p) = refl

    by_second : (a : A) (m : ℕ) (r : Res (B × ℕ)) → after (ok (a, m)) (λ a n. after r (λ b n. after (z n) k)) ≡ bind (after (ok (a, m)) (λ a n. after r (λ b n. z n))) fourth
    by_second a m (ok (b, n)) = by_third a b n (z n)
    by_second a m (refused f p) = refl

    regrouped : (x : Res (A × ℕ)) → after x (λ a n. after (y n) (λ b n. after (z n) k)) ≡ bind (after x (λ a n. after (y n) (λ b n. z n))) fourth
    regrouped (ok (a, n)) = by_second a n (y n)
    regrouped (refused f p) = refl

abbrev Lead : Type 0
Lead = ℕ × (ℕ × (ℕ × ℕ))

abbrev made : Lead → List Ring → List ℕ → Polygon
made v rs kept = record { edition = v.0; internal = v.1.0; holes = v.1.1.0; rings = rs; kept = kept }

module _ (s : List ℕ) where
  abbrev parts : Lead × ℕ → Res ((ℕ × (ℕ × ((ℕ × ℕ) × (List Ring × List ℕ)))) × ℕ)
  parts h = bind ((after_head h.0.1.1.1).read s h.1) (joined h)

  abbrev whole : (ℕ × (ℕ × ((ℕ × ℕ) × (List Ring × List ℕ)))) × ℕ → Res (Polygon × ℕ)
  whole q = let v = q.0 in ok (made (v.0, (v.1.0, v.1.1.0)) v.1.1.1.0 v.1.1.1.1, q.1)

  headed : polygon.read s 0 ≡ bind (bind (head.read s 0) parts) whole
  unfolding polygon into both head
  headed = ap (λ (r : Res ((ℕ × (ℕ × ((ℕ × ℕ) × (List Ring × List ℕ)))) × ℕ)). bind r whole)
      (regrouped (λ p. (number 1 61).read s p) (λ p. ringed.read s p) (λ h p. (after_head h.1).read s p) ((number 1 60).read s 0))

  -- the first ring stands at 7
  head_ends : (v : Lead) (at : ℕ) → head.read s 0 ≡ ok (v, at) → at ≡ 7
  unfolding head
  head_ends v at e =
      let p = both_parts s (number 1 60) _ 0 v at e in
      let q = both_parts s (number 1 61) _ p.0 v.1 at p.2 in
      let r = ruled_part s _ _ _ q.0 v.1.1 at q.2 in
      let w = both_parts s _ (λ h. at_least 1 63) q.0 v.1.1 at r in
      let third = ruled_part s _ _ (number 1 62) q.0 v.1.1.0 w.0 w.1 in
      omega (arith, (took 1 60 s 0 v.0 p.0 p.1).place, (took 1 61 s p.0 v.1.0 q.0 q.1).place, (took 1 62 s q.0 v.1.1.0 w.0 third).place, (counted 1 63 s w.0 w.2).place)

  pub head_refuses : {f : Fault} {p : ℕ} → head.read s 0 ≡ refused f p → read_polygon s ≡ refused f p
  head_refuses e = rw (headed, e)

  module _ (v : Lead) (at : ℕ) (is : head.read s 0 ≡ ok (v, at)) where
    abbrev n : ℕ
    n = v.1.1.1

    pub rings_refuse : {f : Fault} {p : ℕ} → (each first 0 (replicate n ring)).read s at ≡ refused f p → read_polygon s ≡ refused f p
    unfolding both
    rings_refuse e = rw (headed, is, e)

    module _ (rs : List Ring) (end : ℕ) (go : (each first 0 (replicate n ring)).read s at ≡ ok (rs, end)) where
      pub kept_refuses : {f : Fault} {p : ℕ} → (block body_kept 68).read s end ≡ refused f p → read_polygon s ≡ refused f p
      unfolding both
      kept_refuses e = rw (headed, is, go, e)

      module _ (kept : List ℕ) (last : ℕ) (kept_read : (block body_kept 68).read s end ≡ ok (kept, last)) where
        pub left_over : (last ≡ length s → ⊥) → read_polygon s ≡ refused Extra last
        unfolding both
        left_over other = rw (headed, is, go, kept_read, ne_eqb last (length s) other)

        pub body_is : last ≡ length s → read_polygon s ≡ ok (made v rs kept)
        unfolding both
        body_is same = rw (headed, is, go, kept_read, eq-eqb last (length s) same)

        -- what one pass finds
        pub surveyed : Bytes s → last ≡ length s → (sought : ℕ) → shown_survey sought (read_polygon s) ≡ Ok (record { rings = n; found = at + rings_size (take sought rs); end = end })
        surveyed by same sought =
            let p = made v rs kept in
            let l = take sought rs in
            let many : length rs ≡ n = each_length s first 0 (replicate n ring) at rs end go ∙ length-replicate n ring in
            let first-at : at ≡ 7 = head_ends v at is in
            let far = ((lawful_each first 0 (replicate n ring) (all_replicate n lawful_ring)).sound s by at rs end go).1.far in
            let total-all : length ((each first 0 (replicate n ring)).bytes rs) ≡ total ring rs = length-total first 0 n ring rs (omega arith) in
            let found : ring_state p sought ≡ at + rings_size l = rw (length-total first 0 (length l) ring l (omega arith), first-at) (ring_place p sought) in
            let ends : ring_state p (length rs) ≡ end = ring_place p (length rs) ∙ rw (take-length rs) (omega arith) in
            rw (body_is same, ends, found, many)
