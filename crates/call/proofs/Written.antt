-- The bytes of parameters, and of what begins an invocation.
use Prim.Native.Nat.{ℕ, ◌+◌}
use native.Mathlib.Omega.{arith}
use mathlib.Core.Path.{◌≡◌, ap, ◌∙◌}
use mathlib.Core.List.{List, ◌++◌, append-nil, append_assoc}
use mathlib.Core.Option.{some}
use lib.ListN.{length, length-append}
use Rattle.format.specs.Number.{num_bytes}
use Rattle.format.specs.Format.{number, ruled, both, into, nothing, counted}
use Rattle.format.specs.Value.{t_null}
use Rattle.format.specs.Message.{null, argument, param}
use Rattle.format.proofs.Numbers.{length-num_bytes}
use Rattle.put.specs.Put.{sized}
use Rattle.steps.specs.State.{State}
use Rattle.steps.specs.Steps.{plan, begin_call}
use Rattle.steps.proofs.Call.{begin_bytes_lem}

pub null_bytes : param.bytes (record { type = t_null; argument = null }) ≡ num_bytes 1 1
unfolding param argument into both ruled number nothing
null_bytes = append-nil (num_bytes 1 1)

-- length, version, procedure, client data, count
pub begun_bytes : (version : ℕ) (p c : List ℕ) (st : State) (size : ℕ)
    → (plan (begin_call version p c) st size).bytes ≡ num_bytes 4 0 ++ (num_bytes 1 version ++ (sized (some p) ++ (c ++ num_bytes 2 0)))
unfolding counted
begun_bytes version p c st size = ap (λ (x : List ℕ). num_bytes 4 0 ++ x) (begin_bytes_lem version p c ∙ simp append_assoc)

pub begun_size : (version : ℕ) (p c : List ℕ) (st : State) (size : ℕ) → length c ≡ 8 → length (plan (begin_call version p c) st size).bytes ≡ 15 + length (sized (some p))
begun_size version p c st size e = ap length (begun_bytes version p c st size) ∙ simp (length-append, length-num_bytes, e) (omega arith)
