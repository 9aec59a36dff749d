-- `cards::read_rest` meets its contract: each test is the definition's, in its order. Assumes nothing.
use Rattle.std.specs.Prelude.{Err}
use mathlib.Core.Path.{◌∙◌, sym, ap}
use native.Mathlib.Omega.{arith}
use lib.ListN.{get_or, drop, length-drop}
use borrow.Author.Tests.{not-true, not-false}
use Rattle.cards.specs.Card.{wrong_from}
use Rattle.cards.specs.Shown.{shown_form}
use Rattle.cards.proofs.Forms.{no_column, long_name, wrong_name, right_name, left_over}
use Rattle.cards.proofs.Loops.{none_wrong, one_wrong, wrong_below}
use Rattle.cards.proofs.read_rest.Goals as goal

pub returns-then-not-is_column : goal.returns-then-not-is_column
returns-then-not-is_column c =
    let a = c.args in
    ap Err c.wrong.ensures ∙ sym (ap shown_form (no_column a.at a.position a.rest.now (sym c.is_column.ensures ∙ not-true _ c.if-not-is_column.true-raw)))

pub returns-then-size-gt-MOST_NAME : goal.returns-then-size-gt-MOST_NAME
returns-then-size-gt-MOST_NAME c =
    let a = c.args in
    let column = sym c.is_column.ensures ∙ not-false _ c.if-not-is_column.false-raw in
    ap Err c.wrong-then-size-gt-MOST_NAME.ensures ∙ sym (ap shown_form (long_name a.at a.position a.rest.now column c.if-size-gt-MOST_NAME.true))

pub returns-in-None : goal.returns-in-None
returns-in-None c =
    let a = c.args in
    let column = sym c.is_column.ensures ∙ not-false _ c.if-not-is_column.false-raw in
    let right = sym (ap (wrong_from (get_or a.rest.now 1 0) 0) (left_over 2 a.rest.now)) ∙ none_wrong _ c.wrong_byte.ensures c.in-None.is in
    sym (right_name a.at a.position a.rest.now column c.if-size-gt-MOST_NAME.false c.requires.0 right)

pub overflow_add-at-in-Some-2 : goal.overflow_add-at-in-Some-2
overflow_add-at-in-Some-2 c =
    let a = c.args in
    let wrong = sym (ap (wrong_from (get_or a.rest.now 1 0) 0) (left_over 2 a.rest.now)) ∙ one_wrong _ c.wrong_byte.ensures c.in-Some.is in
    omega (arith, wrong_below (get_or a.rest.now 1 0) 0 (drop 2 a.rest.now) _ wrong, length-drop 2 a.rest.now, c.requires.0, c.requires.1)

pub returns-in-Some : goal.returns-in-Some
returns-in-Some c =
    let a = c.args in
    let column = sym c.is_column.ensures ∙ not-false _ c.if-not-is_column.false-raw in
    let wrong = sym (ap (wrong_from (get_or a.rest.now 1 0) 0) (left_over 2 a.rest.now)) ∙ one_wrong _ c.wrong_byte.ensures c.in-Some.is in
    ap Err c.wrong-in-Some.ensures ∙ sym (ap shown_form (wrong_name a.at a.position a.rest.now column c.if-size-gt-MOST_NAME.false _ wrong))
