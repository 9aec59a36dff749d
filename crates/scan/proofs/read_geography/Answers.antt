-- `scan::read_geography` meets its contract: the rule is asked last. Assumes nothing.
use mathlib.Core.Bool.{true}
use mathlib.Core.Path.{sym, ◌∙◌, ap}
use Prim.Native.Nat.{ℕ}
use native.Mathlib.Nat.{add-zero}
use native.Mathlib.Omega.{arith}
use Rattle.std.specs.Prelude.{Err}
use Rattle.format.specs.declared.Fault.TheVariants.{Geography}
use Rattle.format.specs.Value.{most_bytes, not_empty}
use Rattle.format.proofs.Results.{handed_on}
use Rattle.scan.specs.Shown.{shown_body, refusal}
use Rattle.scan.proofs.Counted.{here, other, refused, fails, body_passes, empty_not, some_fine}
use Rattle.scan.proofs.read_geography.Goals as goal

pub returns-in_err-body : goal.returns-in_err-body
returns-in_err-body c =
    let a = c.args in
    handed_on c.from_residual.ensures ∙ refused true most_bytes a.s.now a.at c.read_body.ensures not_empty c.in_err-body.was

pub returns-in_default : goal.returns-in_default
returns-in_default c =
    let a = c.args in
    other true most_bytes a.s.now a.at c.read_body.ensures not_empty c.in_ok-body.was c.in_default.not-Is

pub returns-then-start-end : goal.returns-then-start-end
returns-then-start-end c =
    let a = c.args in
    let h = here true most_bytes a.s.now a.at c.read_body.ensures c.in_ok-body.was c.in-Is.is in
    ap (λ (p : ℕ). Err (refusal Geography p)) (sym (add-zero a.at)) ∙ ap (shown_body a.at) (fails h not_empty (empty_not h.body (omega (arith, h.size))))

pub returns : goal.returns
returns c =
    let a = c.args in
    let h = here true most_bytes a.s.now a.at c.read_body.ensures c.in_ok-body.was c.in-Is.is in
    body_passes h not_empty (some_fine h.body (omega (arith, h.size, h.order)))
