-- `tour::is_calm` meets its contract, test by test. Assumes nothing.
use Rattle.std.proofs.Common.{◌≡◌, ℕ, ◌-◌, inl, inr, arith, leb-true}
use Rattle.tour.proofs.is_calm.Goals as goal

pub returns-then-room-task : goal.returns-then-room-task
returns-then-room-task c = λ is. inl c.if-room-task.true

pub returns-then-end-task : goal.returns-then-end-task
returns-then-end-task c = λ is. inr (inl c.if-end-task.true)

pub returns-then-task : goal.returns-then-task
returns-then-task c = λ is. absurd (let z : ◌≡◌ {A = ℕ} 0 1 = cc in omega arith)

pub returns : goal.returns
returns c =
    let a = c.args in
    λ is. let few = leb-true a.n (a.task.first - a.task.seen) is in inr (inr (omega arith))
