-- `show::plain_cell` meets its contract: type by type.
use mathlib.Core.Path.{sym, ap, ◌∙◌}
use Prim.Native.Nat.{ℕ}
use borrow.Author.Tests.{ne_eqb}
use mir.Syntax.{w8, w16, w32, w64}
use mir.ValLaws.{to_z-of_z}
use Rattle.show.specs.declared.Cell.{Cell}
use Rattle.show.specs.Cells.{plain_cell}
use Rattle.show.proofs.plain_cell.Goals as goal

pub returns-in-3 : goal.returns-in-3
unfolding plain_cell
returns-in-3 c = ap Cell.Tinyint (to_z-of_z w8 _ (record { sfits = c.signed8.type_inv }) ∙ c.signed8.ensures) ∙ sym (ap (λ (t : ℕ). plain_cell t c.args.n) c.in-3.is)

pub returns-in-4 : goal.returns-in-4
unfolding plain_cell
returns-in-4 c = ap Cell.Smallint (to_z-of_z w16 _ (record { sfits = c.signed16.type_inv }) ∙ c.signed16.ensures) ∙ sym (ap (λ (t : ℕ). plain_cell t c.args.n) c.in-4.is)

pub returns-in-5 : goal.returns-in-5
unfolding plain_cell
returns-in-5 c = ap Cell.Integer (to_z-of_z w32 _ (record { sfits = c.signed32.type_inv }) ∙ c.signed32.ensures) ∙ sym (ap (λ (t : ℕ). plain_cell t c.args.n) c.in-5.is)

pub returns-in-8 : goal.returns-in-8
unfolding plain_cell
returns-in-8 c = c.float_cell.ensures ∙ sym (ap (λ (t : ℕ). plain_cell t c.args.n) c.in-8.is)

pub returns-in-11 : goal.returns-in-11
unfolding plain_cell
returns-in-11 c = ap Cell.Timestamp (to_z-of_z w64 _ (record { sfits = c.signed64.type_inv }) ∙ c.signed64.ensures) ∙ sym (ap (λ (t : ℕ). plain_cell t c.args.n) c.in-11.is)

pub returns-in_default : goal.returns-in_default
unfolding plain_cell
returns-in_default c =
    let t = c.args.t in
    let n = c.in_default.in_default-own.rest in
    ap Cell.Bigint (to_z-of_z w64 _ (record { sfits = c.signed64-in_default.type_inv }) ∙ c.signed64-in_default.ensures)
    ∙ sym (simp (ne_eqb t 3 n.0.0.0.0.1, ne_eqb t 4 n.0.0.0.1, ne_eqb t 5 n.0.0.1, ne_eqb t 8 n.0.1, ne_eqb t 11 n.1))
