-- Test by test, in the order of the definition.
use Rattle.std.proofs.Common.{arith, ◌≡◌, ℕ, ◌+◌, eqb, false, sym, ◌∙◌}
use borrow.Author.Tests.{eq-eqb, ne_eqb, le-leb, lt-leb}
use Rattle.listing.specs.Listing.{listing_of}
use Rattle.listing.proofs.judge.Goals as goal

-- a list with a first byte isn't empty
filled : (n rest : ℕ) → rest + 1 ≡ n → eqb n 0 ≡ false
filled n rest size = ne_eqb n 0 (λ none. omega (arith, none, size))

pub returns-in_default : goal.returns-in_default
unfolding listing_of
returns-in_default c = let e = c.refusal_at_0.ensures in rw (e.0, e.1, eq-eqb _ _ c.in_default.ensures.cases)

pub returns-then-input-le-MOST_INPUT : goal.returns-then-input-le-MOST_INPUT
unfolding listing_of
returns-then-input-le-MOST_INPUT c =
    let p = c.in-Some.ensures.cases in
    c.accept.ensures ∙ sym (rw (filled _ _ p.1, le-leb _ _ c.if-input-le-MOST_INPUT.true, p.0))

pub returns-then-is_kind : goal.returns-then-is_kind
unfolding listing_of
returns-then-is_kind c =
    let p = c.in-Some.ensures.cases in
    let e = c.refusal_at_0-then-is_kind.ensures in
    rw (e.0, e.1, filled _ _ p.1, lt-leb _ _ c.if-input-le-MOST_INPUT.false, p.0, sym c.is_kind.ensures ∙ c.if-is_kind.true)

pub returns : goal.returns
unfolding listing_of
returns c =
    let p = c.in-Some.ensures.cases in
    let e = c.refusal_at_0-2.ensures in
    rw (e.0, e.1, filled _ _ p.1, lt-leb _ _ c.if-input-le-MOST_INPUT.false, p.0, sym c.is_kind.ensures ∙ c.if-is_kind.false)
