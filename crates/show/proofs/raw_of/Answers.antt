-- `show::raw_of` meets its contract: by the kind of value.
use mathlib.Core.Path.{sym, ap, ap₂, ◌∙◌}
use mir.Syntax.{w8, w16, w32, w64}
use mir.Val.{SFits}
use mir.ValLaws.{to_z-of_z}
use Rattle.format.specs.Value.{t_tinyint, t_smallint, t_integer, t_bigint, t_float, t_timestamp, t_decimal, t_point}
use Rattle.scan.specs.Signed.{unsigned}
use Rattle.show.specs.declared.Raw.{Raw}
use Rattle.show.specs.Cells.{raw_of}
use borrow.Author.Rules.{rules}
use Rattle.show.proofs.raw_of.Goals as goal

pub returns-in-Tinyint : goal.returns-in-Tinyint
returns-in-Tinyint c =
    let f : SFits w8 c.in-Tinyint.z = search rules in
    ap (Raw.Bits t_tinyint 0) (c.unsigned8.ensures ∙ ap (unsigned 1) (to_z-of_z w8 c.in-Tinyint.z f)) ∙ sym (ap raw_of c.in-Tinyint.is)

pub returns-in-Smallint : goal.returns-in-Smallint
returns-in-Smallint c =
    let f : SFits w16 c.in-Smallint.z = search rules in
    ap (Raw.Bits t_smallint 0) (c.unsigned16.ensures ∙ ap (unsigned 2) (to_z-of_z w16 c.in-Smallint.z f)) ∙ sym (ap raw_of c.in-Smallint.is)

pub returns-in-Integer : goal.returns-in-Integer
returns-in-Integer c =
    let f : SFits w32 c.in-Integer.z = search rules in
    ap (Raw.Bits t_integer 0) (c.unsigned32.ensures ∙ ap (unsigned 4) (to_z-of_z w32 c.in-Integer.z f)) ∙ sym (ap raw_of c.in-Integer.is)

pub returns-in-Bigint : goal.returns-in-Bigint
returns-in-Bigint c =
    let f : SFits w64 c.in-Bigint.z = search rules in
    ap (Raw.Bits t_bigint 0) (c.unsigned64.ensures ∙ ap (unsigned 8) (to_z-of_z w64 c.in-Bigint.z f)) ∙ sym (ap raw_of c.in-Bigint.is)

pub returns-in-Timestamp : goal.returns-in-Timestamp
returns-in-Timestamp c =
    let f : SFits w64 c.in-Timestamp.z = search rules in
    ap (Raw.Bits t_timestamp 0) (c.unsigned64-in-Timestamp.ensures ∙ ap (unsigned 8) (to_z-of_z w64 c.in-Timestamp.z f)) ∙ sym (ap raw_of c.in-Timestamp.is)

pub returns-in-Float : goal.returns-in-Float
returns-in-Float c = ap (Raw.Bits t_float 0) c.float_bits.ensures ∙ sym (ap raw_of c.in-Float.is)

pub returns-in-FloatBits : goal.returns-in-FloatBits
returns-in-FloatBits c = sym (ap raw_of c.in-FloatBits.is)

pub returns-in-Decimal : goal.returns-in-Decimal
returns-in-Decimal c =
    let f : SFits w64 c.in-Decimal.upper = search rules in
    ap (λ u. Raw.Bits t_decimal u c.in-Decimal.lower) (c.unsigned64-in-Decimal.ensures ∙ ap (unsigned 8) (to_z-of_z w64 c.in-Decimal.upper f)) ∙ sym (ap raw_of c.in-Decimal.is)

pub returns-in-Point : goal.returns-in-Point
returns-in-Point c = ap₂ (Raw.Bits t_point) c.float_bits-in-Point.ensures c.float_bits-in-Point-2.ensures ∙ sym (ap raw_of c.in-Point.is)

pub returns-in-NullPoint : goal.returns-in-NullPoint
returns-in-NullPoint c = sym (ap raw_of c.in-NullPoint.is)

pub returns-in-Text : goal.returns-in-Text
returns-in-Text c = sym (ap raw_of c.in-Text.is)

pub returns-in-NullText : goal.returns-in-NullText
returns-in-NullText c = sym (ap raw_of c.in-NullText.is)

pub returns-in-Binary : goal.returns-in-Binary
returns-in-Binary c = sym (ap raw_of c.in-Binary.is)

pub returns-in-NullBinary : goal.returns-in-NullBinary
returns-in-NullBinary c = sym (ap raw_of c.in-NullBinary.is)

pub returns-in-Geography : goal.returns-in-Geography
returns-in-Geography c = sym (ap raw_of c.in-Geography.is)

pub returns-in-NullGeography : goal.returns-in-NullGeography
returns-in-NullGeography c = sym (ap raw_of c.in-NullGeography.is)
