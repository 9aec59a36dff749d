-- `reply::let_in_at` meets its contract: by the flag. Assumes nothing.
use native.Mathlib.Nat.{add-zero}
use mathlib.Core.Path.{sym}
use borrow.Author.Tests.{not-true}
use Rattle.put.proofs.Laws.{put_nothing}
use Rattle.reply.proofs.let_in_at.Goals as goal

pub returns-then-not-there : goal.returns-then-not-there
returns-then-not-there c =
    let e = not-true c.args.there c.if-not-there.true-raw in
    (sym (rw e (add-zero c.args.at)), sym (rw e (put_nothing c.args.out.now c.args.at)))
