-- `quick::past_text` meets its contract: a body that is there, and that its rule lets pass. Assumes nothing.
use native.Mathlib.Omega.{arith}
use Rattle.quick.proofs.Bodies.{text_past}
use Rattle.quick.proofs.past_text.Goals as goal

pub returns-then-end-at : goal.returns-then-end-at
returns-then-end-at c = λ there. absurd (omega arith)

pub returns-then-s-end : goal.returns-then-s-end
returns-then-s-end c = λ there. absurd (omega arith)

pub returns-in-None : goal.returns-in-None
returns-in-None c =
    let a = c.args in
    let body = c.past_body-end in
    text_past a.s.now a.at body.result body.ensures c.if-end-at.false c.torn.ensures c.in-None.is
