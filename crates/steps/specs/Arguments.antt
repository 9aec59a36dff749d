-- What the steps take: the parts of a message that it says, and its faults, in wire order. A writer's refusal stands at its position.
use Rattle.std.specs.Prelude.{ℕ, ◌^◌, Bool, ◌&&◌, not, List, [], ◌∷◌, map, length, leb, ltb, eqb}
use Rattle.std.proofs.Math.Option.{Option, some, none}
use Rattle.format.specs.declared.Fault.TheVariants.{Limit, WireType, Decimal, Point, Flags, PastEnd}
use Rattle.format.specs.Result.{pick}
use Rattle.format.specs.Format.{Verdict, fine, bad}
use Rattle.format.specs.Text.{utf8}
use Rattle.format.specs.Value.{Value, fixed, body, width_of, is_counted, fixed_fine, anything, rule_of, ascii, most_bytes, t_decimal}
use Rattle.format.specs.Message.{Response, Metadata, flagged, flags_fine}
use Rattle.steps.specs.Plans.{also, test, placed}

abbrev pub text_fault : (List ℕ → Verdict) → ℕ → List ℕ → Verdict
text_fault rule p bs = also (test (leb (length bs) most_bytes) Limit p) (placed p (rule bs))

abbrev pub null_text_fault : (List ℕ → Verdict) → ℕ → Option (List ℕ) → Verdict
null_text_fault rule p none = fine
null_text_fault rule p (some bs) = text_fault rule p bs

-- a number is one of a type if the type has a fixed size and the number fits it; no number is cut
abbrev pub is_number_of : ℕ → ℕ → Bool
is_number_of t n = not (eqb (width_of t) 0) && ltb n (256 ^ width_of t)

unfoldable pub value_fault : ℕ → ℕ → Value → Verdict
value_fault p t (fixed n) = also (test (is_number_of t n) WireType p) (test (fixed_fine t n) (pick (eqb t t_decimal) Decimal Point) p)
value_fault p t (body b) = also (test (is_counted t) WireType p) (null_text_fault (rule_of t) p b)

-- a column's type, and its name; none for an entry past the name buffer
pub record Column : Type 0 where
  pub type : ℕ
  pub name : Option (List ℕ)

abbrev pub types_of : List Column → List ℕ
types_of = map (λ c. c.type)

abbrev pub metadata_of : ℕ → List Column → Metadata
metadata_of status cs = record { status = status; types = types_of cs; names = map (λ c. c.name) cs }

abbrev pub name_fault : ℕ → Option (List ℕ) → Verdict
name_fault p none = bad PastEnd 0
name_fault p (some bs) = text_fault ascii p bs

unfoldable pub name_faults : ℕ → List Column → Verdict
name_faults p [] = fine
name_faults p (c ∷ cs) = also (name_fault p c.name) (name_faults p cs)

-- the fields of a response before its table count; a string whose flag is not set is ignored
pub record Opening : Type 0 where
  pub client : List ℕ
  pub flags : ℕ
  pub status : ℕ
  pub status_string : Option (List ℕ)
  pub app_status : ℕ
  pub app_string : Option (List ℕ)
  pub round_trip : ℕ
  pub exception : List ℕ

-- the response that has them, and no table
abbrev pub opened : Opening → Response
opened o = record {
  head = record {
    client = o.client;
    flags = o.flags;
    status = o.status;
    status_string = pick (flagged 32 o.flags) (some o.status_string) none;
    app_status = o.app_status;
    app_string = pick (flagged 128 o.flags) (some o.app_string) none;
    round_trip = some o.round_trip;
    exception = pick (flagged 64 o.flags) (some (some o.exception)) none;
  };
  tables = [];
}

unfoldable pub opening_fault : Opening → Verdict
opening_fault o =
    also (test (flags_fine o.flags) Flags 0)
    (also (pick (flagged 32 o.flags) (null_text_fault utf8 0 o.status_string) fine)
    (also (pick (flagged 128 o.flags) (null_text_fault utf8 0 o.app_string) fine)
    (pick (flagged 64 o.flags) (text_fault anything 0 o.exception) fine)))
