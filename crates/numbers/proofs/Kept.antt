-- A step's answer packed and its state kept are what the step's definition gives.
use Rattle.format.specs.declared.Refusal.{Refusal}
use Rattle.std.specs.Prelude.{Result}
use Prim.Native.Nat.{ℕ}
use mathlib.Core.Path.{◌≡◌, refl, ◌∙◌, ap, subst}
use mathlib.Core.List.{List, []}
use Rattle.format.specs.Result.{Res, ok, no, told}
use Rattle.write.specs.declared.State.{State}
use Rattle.write.specs.declared.Outcome.{Outcome}
use Rattle.steps.specs.State as definition
use Rattle.steps.specs.Plans.{Out}
use Rattle.steps.specs.Steps.{Step, step}
use Rattle.write.specs.Shown.{seen, shown_answer, answered, came, types_after, Stepped, Opened}
use Rattle.numbers.specs.Packed.{packed, itself}
use Rattle.numbers.specs.Stored.{state_of, kept, listed, Gave, WroteFrom, Wrote, WroteAll, WroteLogin}

-- by the answer
pub answer_packed : (old : State) (a : Res ℕ) (s : definition.State) → packed itself (told (answered old a s).answer) ≡ packed itself a
answer_packed old (ok n) s = refl
answer_packed old (no f p) s = refl

state_kept : (ns : List ℕ) (old : State) (a : Res ℕ) (s : definition.State) → kept ns (answered old a s).answer (answered old a s).state ≡ listed ns a s
state_kept ns old (ok n) s = refl
state_kept ns old (no f p) s = refl

pub gave : (o : Out definition.State) (st : State) (ns : List ℕ) {s : Outcome} {r : ℕ} {ns' b' : List ℕ} → (s ≡ came st o) × (b' ≡ o.buffer)
    → (r ≡ packed itself (told s.answer)) × (ns' ≡ kept ns s.answer s.state) → Gave o ns r ns' b'
gave o st ns comes keeps = (
  keeps.0 ∙ ap (λ (z : Outcome). packed itself (told z.answer)) comes.0 ∙ answer_packed st o.answer o.state,
  keeps.1 ∙ ap (λ (z : Outcome). kept ns z.answer z.state) comes.0 ∙ state_kept ns st o.answer o.state,
  comes.1,
)

-- from the state that the numbers say
pub gave_from : (f : State → Out definition.State) (ns : List ℕ) {st : State} {s : Outcome} {r : ℕ} {ns' b' : List ℕ} → st ≡ state_of ns → (s ≡ came st (f st)) × (b' ≡ (f st).buffer)
    → (r ≡ packed itself (told s.answer)) × (ns' ≡ kept ns s.answer s.state) → Gave (f (state_of ns)) ns r ns' b'
gave_from f ns {st} {s} {r} {ns'} {b'} is comes keeps = subst (λ (z : State). Gave (f z) ns r ns' b') is (gave (f st) st ns comes keeps)

pub wrote_from : (S : Step) (st : State) (ns types b b' ns' : List ℕ) {s : Outcome} {r : ℕ} → Stepped S st types b s b' → (r ≡ packed itself (told s.answer)) × (ns' ≡ kept ns s.answer s.state)
    → WroteFrom S st ns types b r ns' b'
wrote_from S st ns types b b' ns' steps keeps = gave (step S (seen st types) b) st ns steps keeps

pub wrote : (S : Step) (ns types b b' ns' : List ℕ) {st : State} {s : Outcome} {r : ℕ} → st ≡ state_of ns → Stepped S st types b s b'
    → (r ≡ packed itself (told s.answer)) × (ns' ≡ kept ns s.answer s.state) → Wrote S ns types b r ns' b'
wrote S ns types b b' ns' is steps keeps = gave_from (λ (z : State). step S (seen z types) b) ns is steps keeps

pub wrote_all : (S : Step) (ns types b b' ns' types' : List ℕ) {st : State} {s : Outcome} {r : ℕ} → st ≡ state_of ns → Opened S st types b s types' b'
    → (r ≡ packed itself (told s.answer)) × (ns' ≡ kept ns s.answer s.state) → WroteAll S ns types b r ns' types' b'
wrote_all S ns types b b' ns' types' {st} {s} {r} is opens keeps =
    (wrote S ns [] b b' ns' is opens.0 keeps, subst (λ (z : State). types' ≡ types_after (step S (seen z []) b).answer (step S (seen z []) b).state.outer.types types) is opens.1)

-- an answer that is shown tells what it is of
pub told_shown_lem : (x : Res ℕ) → told (shown_answer x) ≡ x
told_shown_lem (ok n) = refl
told_shown_lem (no f p) = refl

pub wrote_login : (o : Out definition.State) {a : Result ℕ Refusal} {r : ℕ} {b : List ℕ} → (a ≡ shown_answer o.answer) × (b ≡ o.buffer) → r ≡ packed itself (told a) → WroteLogin o r b
wrote_login o says packs = (packs ∙ ap (λ (z : Result ℕ Refusal). packed itself (told z)) says.0 ∙ ap (packed itself) (told_shown_lem o.answer), says.1)
