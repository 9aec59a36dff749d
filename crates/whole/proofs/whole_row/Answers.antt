-- `whole::whole_row` meets its contract: a refusal hands back what came in; else the row's length, its cells and its length again are written. Assumes nothing.
use Prim.Native.Nat.{ℕ, ◌+◌, ◌/◌}
use native.Mathlib.Omega.{arith}
use mathlib.Core.Path.{◌≡◌, sym, subst}
use lib.ListN.{length}
use Rattle.format.specs.Message.{most_columns}
use Rattle.whole.specs.Laid.{FitAll}
use Rattle.whole.proofs.Lays.{refused, accepts, wrote}
use borrow.Author.Rules.{rules}
use Rattle.whole.proofs.whole_row.Goals as goal

pub returns-in_default : goal.returns-in_default
returns-in_default c =
    let a = c.args in
    refused a.bytes.now a.cells.now a.st a.types.now a.out.now c.ask_row-a.ensures c.in_default.is

pub number_at-first-requires : goal.number_at-first-requires
number_at-first-requires c =
    let a = c.args in
    let x = accepts a.bytes.now a.cells.now a.st a.types.now a.out.now c.ask_row-a.ensures c.in-Ok.is in
    x.taken.few

pub put_cells-requires : goal.put_cells-requires
put_cells-requires c =
    let a = c.args in
    let x = accepts a.bytes.now a.cells.now a.st a.types.now a.out.now c.ask_row-a.ensures c.in-Ok.is in
    let w = c.number_at-first.ensures in
    let same : length c.number_at-first.new.out ≡ length a.out.now = search rules in
    (x.wide, subst (λ (m : ℕ). FitAll a.bytes.now a.types.now a.cells.now 0 (length a.cells.now / 2) m (length c.number_at-first.new.out)) (sym w.0) (subst (λ (m : ℕ). FitAll a.bytes.now a.types.now a.cells.now 0 (length a.cells.now / 2) (a.st.position + 4) m) (sym same) x.taken.fits))

pub overflow_sub-n : goal.overflow_sub-n
overflow_sub-n c =
    let a = c.args in
    let x = accepts a.bytes.now a.cells.now a.st a.types.now a.out.now c.ask_row-a.ensures c.in-Ok.is in
    let w = c.number_at-first.ensures.0 in
    let low = x.taken.low in
    omega (arith, w, low)

pub number_at-requires : goal.number_at-requires
number_at-requires c =
    let a = c.args in
    let x = accepts a.bytes.now a.cells.now a.st a.types.now a.out.now c.ask_row-a.ensures c.in-Ok.is in
    let few = x.taken.few in
    search (rules, few)

pub overflow_add-st : goal.overflow_add-st
overflow_add-st c =
    let a = c.args in
    let x = accepts a.bytes.now a.cells.now a.st a.types.now a.out.now c.ask_row-a.ensures c.in-Ok.is in
    let more = x.more in
    search (rules, more)

pub returns : goal.returns
returns c =
    let a = c.args in
    let x = accepts a.bytes.now a.cells.now a.st a.types.now a.out.now c.ask_row-a.ensures c.in-Ok.is in
    let long : length a.types.now ≡ most_columns = omega (arith, c.lent-1.given) in
    wrote a.bytes.now a.cells.now a.st a.types.now a.out.now x long c.in_table-next.ensures c.number_at-first.ensures c.put_cells.ensures c.number_at.ensures.1
