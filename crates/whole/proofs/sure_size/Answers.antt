-- `whole::sure_size` meets its contract: by its type, a cell is a body or a number. Assumes nothing.
use Rattle.whole.proofs.Sures.{is_fixed, sure_number}
use Rattle.whole.proofs.sure_size.Goals as goal

pub returns-in_default : goal.returns-in_default
returns-in_default c =
    let a = c.args in
    sure_number a.bytes.now a.at a.t a.a a.b (is_fixed a.t c.in_default.in_default-own.rest.1) c.sure_fixed.ensures
