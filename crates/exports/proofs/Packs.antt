-- An answer of `accept`, packed, is the packed reading.
use Rattle.format.specs.Result.{told}
use Rattle.std.specs.Prelude.{Result, Ok, Err}
use Prim.Native.Nat.{ℕ}
use mathlib.Core.Path.{◌≡◌, sym, ap}
use mathlib.Core.List.{List}
use Rattle.format.specs.declared.Refusal.{Refusal}
use Rattle.format.specs.Message.{read_message}
use Rattle.message.specs.Verdict.{verdict_of}
use Rattle.message.proofs.Accepted.{verdict_go, verdict_stop}
use Rattle.numbers.specs.Packed.{packed, packed_no, nothing}

module _ (kind : ℕ) (m : List ℕ) {a : Result Unit Refusal} (e : told a ≡ verdict_of (read_message kind m)) where
  pub packs_fine : a ≡ (Ok tt) → ◌≡◌ {A = ℕ} 0 (packed nothing (read_message kind m))
  packs_fine is = ap (packed nothing) (sym (verdict_go (read_message kind m) e is).1)

  pub packs_refusal : {given : Refusal} → a ≡ Err given → packed_no given.fault given.place ≡ packed nothing (read_message kind m)
  packs_refusal is = ap (packed nothing) (sym (verdict_stop (read_message kind m) e is))
