-- `scan::read_name` meets its contract: the rule is asked last, of the body alone. Assumes nothing.
use mathlib.Core.Path.{◌∙◌, ap}
use Prim.Native.Nat.{ℕ}
use native.Mathlib.Omega.{arith}
use Rattle.std.specs.Prelude.{Ok}
use Rattle.format.specs.Value.{most_bytes, ascii}
use Rattle.format.proofs.Results.{handed_on}
use Rattle.text.proofs.Finds.{finds_names}
use Rattle.scan.specs.Shown.{shown_span}
use Rattle.scan.proofs.Counted.{span_here, span_refused, none_found, one_inside, one_found}
use Rattle.scan.proofs.read_name.Goals as goal

pub returns-in_err-start : goal.returns-in_err-start
returns-in_err-start c =
    let a = c.args in
    handed_on c.from_residual.ensures ∙ span_refused most_bytes a.s.now a.at c.read_span.ensures ascii c.in_err-start.was

pub slice_bounds-high_byte-count : goal.slice_bounds-high_byte-count
slice_bounds-high_byte-count c = (span_here most_bytes c.args.s.now c.args.at c.read_span.ensures c.in_ok-start.was).order

pub slice_bounds-high_byte-start : goal.slice_bounds-high_byte-start
slice_bounds-high_byte-start c = (span_here most_bytes c.args.s.now c.args.at c.read_span.ensures c.in_ok-start.was).order

pub slice_bounds-high_byte-end : goal.slice_bounds-high_byte-end
slice_bounds-high_byte-end c = (span_here most_bytes c.args.s.now c.args.at c.read_span.ensures c.in_ok-start.was).fit

pub overflow_add-result : goal.overflow_add-result
overflow_add-result c =
    let h = span_here most_bytes c.args.s.now c.args.at c.read_span.ensures c.in_ok-start.was in
    omega (arith, one_inside h finds_names c.high_byte.ensures c.in-Some.is, h.fit)

pub returns-in-Some : goal.returns-in-Some
returns-in-Some c =
    let h = span_here most_bytes c.args.s.now c.args.at c.read_span.ensures c.in_ok-start.was in
    ap (shown_span c.args.at) (one_found h finds_names c.high_byte.ensures c.in-Some.is)

pub returns-in-None : goal.returns-in-None
returns-in-None c =
    let h = span_here most_bytes c.args.s.now c.args.at c.read_span.ensures c.in_ok-start.was in
    ap (λ (p : ℕ). Ok (p, c.in_ok-start.end)) h.place ∙ ap (shown_span c.args.at) (none_found h finds_names c.high_byte.ensures c.in-None.is)
