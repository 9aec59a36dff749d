-- `scan::read_body` meets its contract: a null, or what the length says. Assumes nothing.
use Rattle.std.specs.Prelude.{Ok}
use Rattle.scan.specs.declared.Body.{Body}
use Prim.Native.Nat.{ℕ}
use mathlib.Core.Path.{sym, ◌∙◌, ap}
use Rattle.format.specs.Value.{anything}
use Rattle.format.proofs.Results.{handed_on}
use Rattle.scan.specs.Shown.{shown_body}
use Rattle.scan.proofs.Answers.{shown_go, shown_stop, took}
use Rattle.scan.proofs.Counted.{no_length, null_body, length_stands, spanned, span_failed}
use Rattle.scan.proofs.read_body.Goals as goal

pub returns-in_err-n : goal.returns-in_err-n
returns-in_err-n c =
    let stop = shown_stop _ c.read_number.ensures c.in_err-n.was in
    handed_on c.from_residual.ensures ∙ sym (ap (shown_body _) (no_length c.args.nullable c.args.most anything 0 0 _ _ stop))

pub returns-then-is_null : goal.returns-then-is_null
returns-then-is_null c =
    let got = shown_go _ c.read_number.ensures c.in_ok-n.was in
    let t = took 4 0 _ _ _ _ got in
    ap (λ (next : ℕ). Ok (Body.Null next)) t.place ∙ sym (ap (shown_body _) (null_body _ c.args.most anything 0 0 _ _ _ _ got (sym c.is_null.ensures ∙ c.if-is_null.true)))

pub span_of-requires : goal.span_of-requires
span_of-requires c = (took 4 0 _ _ _ _ (shown_go _ c.read_number.ensures c.in_ok-n.was)).fit

pub returns-in_err-start : goal.returns-in_err-start
returns-in_err-start c =
    let got = shown_go _ c.read_number.ensures c.in_ok-n.was in
    let whole = c.span_of.ensures (length_stands _ _ got) in
    handed_on c.from_residual-in_err-start.ensures ∙ span_failed c.args.nullable _ _ _ _ got (sym c.is_null.ensures ∙ c.if-is_null.false) whole c.in_err-start.was

pub returns : goal.returns
returns c =
    let got = shown_go _ c.read_number.ensures c.in_ok-n.was in
    let whole = c.span_of.ensures (length_stands _ _ got) in
    spanned c.args.nullable _ _ _ _ got (sym c.is_null.ensures ∙ c.if-is_null.false) whole c.in_ok-start.was
