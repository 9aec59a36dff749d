-- `reply::begin_reply` meets its contract: a refusal writes nothing; else the fields before the table count are written. Assumes nothing.
use native.Mathlib.Omega.{arith}
use mathlib.Core.Path.{◌≡◌, ap, ◌∙◌}
use mathlib.Core.List.{List, []}
use Prim.Native.Nat.{ℕ}
use lib.ListN.{length}
use Rattle.put.specs.Put.{put, given}
use Rattle.steps.specs.Steps.{begin_reply}
use Rattle.write.specs.Shown.{zero}
use Rattle.write.proofs.Taken.{step_taken}
use Rattle.reply.specs.Opening.{opening_of}
use Rattle.reply.proofs.Openings.{begin_answer, begin_refused, begin_whole}
use Rattle.reply.proofs.begin_reply.Goals as goal

pub returns-in_default : goal.returns-in_default
returns-in_default c =
    let eight : length c.args.client.now ≡ 8 = omega arith in
    begin_refused (begin_reply c.args.h.version (opening_of c.args.h c.args.client.now (given c.args.status) (given c.args.app) c.args.exception.now)) c.args.out.now c.nothing_open-none.ensures (begin_answer c.args.h c.args.client.now (given c.args.status) (given c.args.app) c.args.exception.now (length c.args.out.now) eight c.ask_begin-answer.ensures) c.in_default.is

pub returns : goal.returns
returns c =
    let eight : length c.args.client.now ≡ 8 = omega arith in
    step_taken (begin_reply c.args.h.version (opening_of c.args.h c.args.client.now (given c.args.status) (given c.args.app) c.args.exception.now)) zero c.args.out.now [] (begin_answer c.args.h c.args.client.now (given c.args.status) (given c.args.app) c.args.exception.now (length c.args.out.now) eight c.ask_begin-answer.ensures) c.in-Ok.is c.begun-state.ensures
    (c.put_opening.ensures ∙ ap (λ (bs : List ℕ). put c.args.out.now 0 bs) (begin_whole c.args.h c.args.client.now (given c.args.status) (given c.args.app) c.args.exception.now))
