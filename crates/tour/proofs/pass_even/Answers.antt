-- `tour::pass_even` meets its contract. Assumes nothing.
use Rattle.std.proofs.Common.{ℕ, ◌+◌, ◌*◌, ◌%◌, ◌^◌, ◌≤◌, ap, ◌∙◌, ap₂, mul-le-mul, arith}
use Rattle.format.specs.Message.{most_columns}
use Rattle.tally.specs.declared.Tally.{Tally}
use Rattle.tour.specs.Calms.{resumed}
use Rattle.tour.proofs.pass_even.Goals as goal

pub overflow_mul-k : goal.overflow_mul-k
overflow_mul-k c =
    let p = c.requires in
    let fields : 1 + c.args.columns ≤ 1 + most_columns = omega arith in
    omega (arith, mul-le-mul p.0 fields)

pub overflow_add-to : goal.overflow_add-to
overflow_add-to c =
    let place = ap (λ (t : Tally). t.at) c.tally_of-from.ensures in
    let fit = c.requires.2 in
    omega arith

pub returns : goal.returns
returns c =
    let a = c.args in
    let from = c.tally_of-from.ensures in
    let place = ap (λ (t : Tally). t.at + a.k * a.size) from in
    let seen = c.wrapping_add_usize-seen.ensures.value ∙ ap (λ (t : Tally). (t.seen + a.k * (1 + a.columns)) % 2 ^ 64) from in
    c.resume.ensures ∙ ap₂ (λ (at seen : ℕ). resumed a.tour (record { at = at; seen = seen })) place seen
