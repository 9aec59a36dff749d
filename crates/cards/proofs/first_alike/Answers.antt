-- `cards::first_alike` meets its contract: the columns that are left decide the search as all of them do. Assumes nothing.
use mathlib.Core.Path.{◌≡◌, refl, ◌∙◌, sym}
use Rattle.std.specs.Prelude.{Result, Ok, Err, Option as Maybe, Some, None}
use Rattle.std.specs.Result.{result_ok}
use native.Mathlib.Omega.{arith}
use borrow.Author.Tests.{eq-eqb, ne_eqb}
use Rattle.format.specs.Message.{unlimited}
use Rattle.scan.proofs.Answers.{span_stop}
use Rattle.scan.proofs.Counted.{span_here}
use Rattle.places.proofs.Lists.{sized}
use Rattle.cards.proofs.Alike.{types_fit, starts, never_refused, goes_on, fits_by, found_it, turn, ends}
use Rattle.cards.proofs.first_alike.Goals.{else-byte_at-wire_type-via-then-byte_at-wire_type+else-same_bytes, else-byte_at-wire_type-via-else-byte_at-wire_type}
use Rattle.cards.proofs.first_alike.Goals as goal

module _ {A E : Type 0} where
  was_ok : (r : Result A E) {o : Maybe A} {a : A} → o ≡ result_ok r → o ≡ Some a → r ≡ Ok a
  was_ok (Ok b) e f = cc
  was_ok (Err x) e f = cc

  was_no : (r : Result A E) {o : Maybe A} → o ≡ result_ok r → o ≡ None → (x : E) × (r ≡ Err x)
  was_no (Ok b) e f = cc
  was_no (Err x) e f = (x, refl)

pub loop-i-init : goal.loop-i-init
loop-i-init c = λ w. starts c.args.wire_type c.args.name.now w

pub returns-in_err-start : goal.returns-in_err-start
returns-in_err-start c =
    let a = c.args in
    let l = c.loop-i in
    λ w. absurd (never_refused w l.i l.at c.loop-i-test.true (l.invariant w).place (span_stop l.at (sized.read a.m.now l.at) c.read_span.ensures (was_no _ c.ok.ensures.value c.in_err-start.was).1))

pub overflow_add-layout : goal.overflow_add-layout
overflow_add-layout c = omega (arith, types_fit c.requires, c.loop-i-test.true)

pub slice_bounds-same_bytes-count : goal.slice_bounds-same_bytes-count
slice_bounds-same_bytes-count c =
    let a = c.args in
    let l = c.loop-i in
    (span_here unlimited a.m.now l.at c.read_span.ensures (was_ok _ c.ok.ensures.value c.in_ok-start.was)).order

pub slice_bounds-same_bytes-start : goal.slice_bounds-same_bytes-start
slice_bounds-same_bytes-start c =
    let a = c.args in
    let l = c.loop-i in
    (span_here unlimited a.m.now l.at c.read_span.ensures (was_ok _ c.ok.ensures.value c.in_ok-start.was)).order

pub slice_bounds-same_bytes-end : goal.slice_bounds-same_bytes-end
slice_bounds-same_bytes-end c =
    let a = c.args in
    let l = c.loop-i in
    (span_here unlimited a.m.now l.at c.read_span.ensures (was_ok _ c.ok.ensures.value c.in_ok-start.was)).fit

pub returns-then-same_bytes : goal.returns-then-same_bytes
returns-then-same_bytes c =
    let a = c.args in
    let l = c.loop-i in
    let h = span_here unlimited a.m.now l.at c.read_span.ensures (was_ok _ c.ok.ensures.value c.in_ok-start.was) in
    λ w.
    let below = c.loop-i-test.true in
    let fits = fits_by w l.i l.at below (l.invariant w).place h a.wire_type a.name.now c.byte_at.ensures in
    found_it a.wire_type a.name.now w (l.invariant w) below (fits ∙ rw (eq-eqb _ _ c.if-byte_at-wire_type.true) (sym c.same_bytes.ensures ∙ c.if-same_bytes.true))

pub loop-i-preserved : goal.loop-i-preserved
loop-i-preserved c =
    let a = c.args in
    let l = c.loop-i in
    let h = span_here unlimited a.m.now l.at c.read_span.ensures (was_ok _ c.ok.ensures.value c.in_ok-start.was) in
    let below = c.loop-i-test.true in
    λ w.
    let fits = fits_by w l.i l.at below (l.invariant w).place h a.wire_type a.name.now c.byte_at.ensures in
    turn a.wire_type a.name.now w (l.invariant w) below
    (elim c.else-byte_at-wire_type.branch [
      | else-byte_at-wire_type-via-then-byte_at-wire_type+else-same_bytes z ↦ fits ∙ rw (eq-eqb _ _ z.if-byte_at-wire_type.true) (sym z.same_bytes.ensures ∙ z.if-same_bytes.false)
      | else-byte_at-wire_type-via-else-byte_at-wire_type z ↦ fits ∙ rw (ne_eqb _ _ z.if-byte_at-wire_type.false)
    ])
    (goes_on w l.i l.at below (l.invariant w).place h)

pub returns : goal.returns
returns c = λ w. ends c.args.wire_type c.args.name.now w (c.loop-i.invariant w) c.loop-i-test.false
