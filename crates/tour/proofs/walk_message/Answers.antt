-- `tour::walk_message` meets its contract: the length, the version, and the content by it. Assumes nothing.
use Rattle.std.proofs.Common.{leb, refl}
use Rattle.format.specs.declared.Fault.TheVariants.{Version}
use Rattle.format.specs.Message.{content_of, newest}
use Rattle.scan.proofs.Answers.{number_stands}
use Rattle.tally.proofs.Tours.{bytes_all}
use Rattle.tally.proofs.Values.{walked_typed}
use Rattle.tour.proofs.Messages.{walked_whole}
use Rattle.tour.proofs.walk_message.Goals as goal

pub returns : goal.returns
returns c =
    let a = c.args in
    let m = a.m.now in
    let b = bytes_all m c.type_inv.m in
    record { goes = walked_whole a.layout m b refl c.walk_fixed-length.ensures (walked_typed (λ n. leb n (newest a.layout)) Version 2 (content_of a.layout) m b (number_stands c.byte_at-version.ensures) c.walk_fixed-content.ensures c.walk_content.ensures) }
