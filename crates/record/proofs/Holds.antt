-- A shown place holds exactly its field's bytes.
use Prim.Native.Nat.{ℕ}
use mathlib.Core.Path.{◌≡◌}
use mathlib.Core.Bool.{Bool}
use mathlib.Core.List.{List}
use mathlib.Core.Option.{Option, some, none}
use lib.ListN.{take, drop}
use Rattle.format.specs.Result.{ok}
use Rattle.format.specs.Format.{Verdict}
use Rattle.format.specs.Value.{string, most_bytes}
use Rattle.show.proofs.Bodies.{stood}
use Rattle.record.specs.declared.Span.{Span}
use Rattle.record.specs.Spans.{span_of}

-- null is shown as null, and bytes by the place where they stand
abbrev pub Holds : List ℕ → Span → Option (List ℕ) → Type 0
Holds m (Span.At start size) none = ⊥
Holds m (Span.At start size) (some bs) = take size (drop start m) ≡ bs
Holds m Span.Null none = Unit
Holds m Span.Null (some bs) = ⊥
Holds m Span.Absent o = ⊥

-- and a string that is not there as absent
abbrev pub HoldsNote : List ℕ → Span → Option (Option (List ℕ)) → Type 0
HoldsNote m x none = x ≡ Span.Absent
HoldsNote m x (some o) = Holds m x o

module _ (s : List ℕ) (at : ℕ) where
  pub text_held : (nullable : Bool) (rule : List ℕ → Verdict) (l b : ℕ) (o : Option (List ℕ)) (next : ℕ) → (string nullable rule l b).read s at ≡ ok (o, next) → Holds s (span_of at o) o
  text_held nullable rule l b none next e = tt
  text_held nullable rule l b (some bs) next e = (stood nullable most_bytes rule l b s at e).bytes
