-- `scan::read_text` meets its contract: the rule is asked last, of the body alone. Assumes nothing.
use mathlib.Core.Path.{◌∙◌, ap}
use Prim.Native.Nat.{ℕ}
use native.Mathlib.Omega.{arith}
use Rattle.std.specs.Prelude.{Ok}
use Rattle.format.specs.Text.{utf8}
use Rattle.format.specs.Value.{most_bytes}
use Rattle.format.proofs.Results.{handed_on}
use Rattle.scan.specs.declared.Body.{Body}
use Rattle.scan.specs.Shown.{shown_body}
use Rattle.text.proofs.Finds.{finds_texts}
use Rattle.scan.proofs.Counted.{here, other, refused, none_found, one_inside, one_found}
use Rattle.scan.proofs.read_text.Goals as goal

pub returns-in_err-body : goal.returns-in_err-body
returns-in_err-body c =
    let a = c.args in
    handed_on c.from_residual.ensures ∙ refused a.nullable most_bytes a.s.now a.at c.read_body.ensures utf8 c.in_err-body.was

pub returns-in_default : goal.returns-in_default
returns-in_default c =
    let a = c.args in
    other a.nullable most_bytes a.s.now a.at c.read_body.ensures utf8 c.in_ok-body.was c.in_default.not-Is

pub slice_bounds-torn-count : goal.slice_bounds-torn-count
slice_bounds-torn-count c = (here c.args.nullable most_bytes c.args.s.now c.args.at c.read_body.ensures c.in_ok-body.was c.in-Is.is).order

pub slice_bounds-torn-start : goal.slice_bounds-torn-start
slice_bounds-torn-start c = (here c.args.nullable most_bytes c.args.s.now c.args.at c.read_body.ensures c.in_ok-body.was c.in-Is.is).order

pub slice_bounds-torn-end : goal.slice_bounds-torn-end
slice_bounds-torn-end c = (here c.args.nullable most_bytes c.args.s.now c.args.at c.read_body.ensures c.in_ok-body.was c.in-Is.is).fit

pub overflow_add-result : goal.overflow_add-result
overflow_add-result c =
    let h = here c.args.nullable most_bytes c.args.s.now c.args.at c.read_body.ensures c.in_ok-body.was c.in-Is.is in
    omega (arith, one_inside h finds_texts c.torn.ensures c.in-Some.is, h.fit)

pub returns-in-Some : goal.returns-in-Some
returns-in-Some c =
    let h = here c.args.nullable most_bytes c.args.s.now c.args.at c.read_body.ensures c.in_ok-body.was c.in-Is.is in
    ap (shown_body c.args.at) (one_found h finds_texts c.torn.ensures c.in-Some.is)

pub returns-in-None : goal.returns-in-None
returns-in-None c =
    let h = here c.args.nullable most_bytes c.args.s.now c.args.at c.read_body.ensures c.in_ok-body.was c.in-Is.is in
    ap (λ (p : ℕ). Ok (Body.Is p c.in-Is.end)) h.place ∙ ap (shown_body c.args.at) (none_found h finds_texts c.torn.ensures c.in-None.is)
