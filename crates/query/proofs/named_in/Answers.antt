-- `query::named_in` meets its contract: what the search finds is a column, and that one is described.
use Rattle.format.proofs.Results.{handed_on}
use mathlib.Core.Path.{◌∙◌, sym, ap}
use Prim.Native.Nat.{ℕ}
use native.Mathlib.Omega.{arith}
use Rattle.format.specs.Result.{Res, ok, bind, told}
use Rattle.places.proofs.Lists.{entry_below}
use Rattle.places.proofs.Layouts.{metadata_stands, names_all, names_from}
use Rattle.query.specs.declared.ColumnLayout.{ColumnLayout}
use Rattle.query.specs.Answers.{column_of}
use Rattle.query.proofs.Theorems.{finds_first}
use Rattle.query.proofs.named_in.Goals as goal

pub returns-in_err-c : goal.returns-in_err-c
returns-in_err-c c =
    λ at b d t n k.
    let first = sym (c.search.ensures b.metadata.names (names_from d n k)) ∙ ap told c.in_err-c.was in
    ap told (handed_on c.from_residual.ensures) ∙ sym (ap (λ (r : Res ℕ). bind r (λ i. bind (column_of at b i) (λ l. ok (i, l)))) first)

pub returns : goal.returns
returns c =
    λ at b d t n k.
    let first = sym (c.search.ensures b.metadata.names (names_from d n k)) ∙ ap told c.in_ok-c.was in
    let below = entry_below b.metadata.names _ (finds_first _ b.metadata.names _ first).there in
    let there = c.column_at.ensures at b d t n (omega (arith, names_all (metadata_stands d))) in
    ap (λ (r : Res ColumnLayout). bind r (λ l. ok (c.in_ok-c.c, l))) there ∙ sym (ap (λ (r : Res ℕ). bind r (λ i. bind (column_of at b i) (λ l. ok (i, l)))) first)
