-- `decimal`'s digits, at most 20, are pasted in, and a byte behind them.
use Rattle.std.proofs.Common.{rules, arith, refl, sym, take}
use Rattle.std.proofs.lemmas.Slice.{put_mid-paste}
use Rattle.listing.proofs.Spelled.{at_most_20, places, puts}
use Rattle.listing.proofs.put_number.Goals as goal

pub returns-clause-line_after : goal.returns-clause-line_after
returns-clause-line_after c =
    let made = c.decimal-count in
    let few = at_most_20 _ _ (search rules) made.ensures.len in
    puts _ _ (take made.result made.new.out) _ _ _ _
    (put_mid-paste _ _ _ _ _ _ c.copy_from_slice.ensures.after (omega (arith, made.ensures.in_bounds.1)) refl)
    (sym made.ensures.in_bounds.1)
    (omega arith)
    made.ensures.digits
    (places 19 1 _ _ (omega arith) made.ensures.len.0 (omega arith) made.ensures.len)
