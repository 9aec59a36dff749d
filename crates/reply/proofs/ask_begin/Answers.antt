-- `reply::ask_begin` meets its contract: its tests are those of the plan; the size is asked only where no argument is wrong. Assumes nothing.
use native.Mathlib.Omega.{arith}
use mathlib.Core.Path.{sym, ap, ◌∙◌}
use Rattle.write.specs.Shared.{verdict_of}
use Rattle.put.specs.Put.{given}
use Rattle.reply.proofs.Openings.{sizes_few}
use Rattle.reply.proofs.ask_begin.Goals as goal

pub overflow_add-second : goal.overflow_add-second
overflow_add-second c =
    let few = sizes_few c.args.h (given c.args.status) (given c.args.app) c.args.exception.now (sym c.opening_fault.ensures ∙ ap verdict_of c.in_ok-opening_fault.was)
    (rw c.has_flag.ensures at c.let_in_size-first.ensures) (rw c.has_flag-2.ensures at c.let_in_size-second.ensures) (rw c.has_flag-3.ensures at c.let_in_size-third.ensures) in
    omega arith

pub overflow_add-first : goal.overflow_add-first
overflow_add-first c =
    let few = sizes_few c.args.h (given c.args.status) (given c.args.app) c.args.exception.now (sym c.opening_fault.ensures ∙ ap verdict_of c.in_ok-opening_fault.was)
    (rw c.has_flag.ensures at c.let_in_size-first.ensures) (rw c.has_flag-2.ensures at c.let_in_size-second.ensures) (rw c.has_flag-3.ensures at c.let_in_size-third.ensures) in
    omega arith

pub overflow_add-first-2 : goal.overflow_add-first-2
overflow_add-first-2 c =
    let few = sizes_few c.args.h (given c.args.status) (given c.args.app) c.args.exception.now (sym c.opening_fault.ensures ∙ ap verdict_of c.in_ok-opening_fault.was)
    (rw c.has_flag.ensures at c.let_in_size-first.ensures) (rw c.has_flag-2.ensures at c.let_in_size-second.ensures) (rw c.has_flag-3.ensures at c.let_in_size-third.ensures) in
    omega arith
