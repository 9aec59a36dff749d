-- An accepted message: after its length and its version, at 5, its content is read and stands.
use Prim.Native.Nat.{ℕ, ◌+◌}
use mathlib.Core.Path.{◌≡◌, refl, sym, ◌∙◌, ap, ap₂}
use mathlib.Core.Bool.{Bool, true, false}
use mathlib.Core.List.{List, [], append-nil}
use lib.ListN.{length, length-append}
use native.Mathlib.Omega.{arith}
use Rattle.format.specs.Result.{ok}
use Rattle.format.specs.Number.{num_bytes, Bytes}
use Rattle.format.specs.Format.{number, ruled, into, both}
use Rattle.format.specs.Message.{Content, Message, message, content_of, a_response, the_response, response, response_layout, message_bytes, read_message}
use Rattle.format.proofs.Numbers.{length-num_bytes}
use Rattle.format.proofs.Demands.{accepted→encodes, accepted→passed}
use Rattle.scan.proofs.Answers.{took}
use Rattle.places.specs.Stands.{Stands}
use Rattle.places.proofs.Stands.{stands_at_lem, stands_into, stands_second}
use Rattle.places.proofs.Layouts.{length-number}
use Rattle.places.proofs.Readings.{both_parts, into_parts, ruled_part}

pub length-message : (layout : ℕ) (r : Message) → length (message_bytes layout r) ≡ 5 + length ((content_of layout r.version).bytes r.content)
unfolding message both into ruled
length-message layout r = rw (length-append, length-num_bytes, length-append, length-number) (omega arith)

module _ (layout : ℕ) (m : List ℕ) where
  pub content_stands : Bytes m → (r : Message) → read_message layout m ≡ ok r → Stands (content_of layout r.version) m 5 r.content
  unfolding message ruled
  content_stands b r accepted =
      let e = accepted→encodes layout m b r accepted in
      let all : Stands (message layout) m 4 r = record { good = e.0.good; before = num_bytes 4 (length ((message layout).bytes r)); after = []; whole = rw append-nil e.1; start = length-num_bytes 4 _ } in
      stands_at_lem (ap (λ (x : ℕ). 4 + x) (length-number 1 2 r.version)) (stands_second _ (content_of layout) (stands_into _ _ all))

  pub content_read : (r : Message) → read_message layout m ≡ ok r → ((number 1 2).read m 4 ≡ ok (r.version, 5)) × ((content_of layout r.version).read m 5 ≡ ok (r.content, length m))
  unfolding message
  content_read r accepted =
      let t = (accepted→passed layout m r accepted).message_read in
      let p = into_parts m _ _ (both _ (content_of layout)) 4 r (length m) t in
      let q = both_parts m _ (content_of layout) 4 p.0 (length m) p.1 in
      let version : p.0.0 ≡ r.version = ap (λ (x : Message). x.version) p.2 in
      let content : p.0.1 ≡ r.content = ap (λ (x : Message). x.content) p.2 in
      let read = ruled_part m _ _ (number 1 2) 4 p.0.0 q.0 q.1 in
      let far : q.0 ≡ 5 = (took 1 2 m 4 p.0.0 q.0 read).place in (
        read ∙ ap₂ (λ (x y : ℕ). ok (x, y)) version far,
        ap₂ (λ (x y : ℕ). (content_of layout x).read m y) (sym version) (sym far) ∙ q.2 ∙ ap (λ (x : Content). ok (x, length m)) content,
      )

-- that of a response, with its round trip or without
pub content_response : (timed : Bool) (version : ℕ) → content_of (response_layout timed) version ≡ into a_response the_response (response timed)
unfolding content_of
content_response true version = refl
content_response false version = refl
