-- `record::read_response` meets its contract: version, client data and flags, then the rest.
use Rattle.record.specs.declared.Field.{Field}
use Prim.Native.Nat.{ℕ}
use mathlib.Core.Path.{◌∙◌, ap, ap₂}
use mathlib.Core.List.{List}
use lib.ListN.{length}
use Rattle.format.specs.Message.{Response}
use Rattle.record.specs.Records.{response_of}
use Rattle.record.proofs.Fields.{byte_is}
use Rattle.record.proofs.Records.{replied, response_read}
use Rattle.record.proofs.read_response.Goals as goal

pub returns : goal.returns
returns c =
    λ r e.
    let a = c.args in
    let m = a.m.now in
    let p = response_read a.timed m r e in
    let t = replied a.timed m p.0 (length m) p.1 in
    let flags = c.byte_at.ensures ∙ byte_is m 13 ∙ ap (λ (x : (Field ℕ)). x.value) t.flags in
    let client = ap (λ (x : (Field (List ℕ))). x.value) (c.block_at-data.ensures ∙ t.client.0) in
    let version = ap (λ (x : (Field ℕ)). x.value) c.number_at-version.ensures ∙ p.3 in
    c.read_flagged.ensures p.0 (length m) p.1 flags client ∙ ap₂ (λ (v : ℕ) (l : Response). response_of v l) version p.2
