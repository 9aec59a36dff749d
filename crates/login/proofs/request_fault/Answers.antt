-- `login::request_fault` meets its contract: its tests are the definition's, in its order. Assumes nothing.
use Prim.Native.Nat.{ℕ}
use mathlib.Core.Path.{ap, ap₂, ◌∙◌}
use Rattle.steps.specs.Plans.{also}
use Rattle.steps.specs.Logins.{hash_fault, request_fault}
use Rattle.login.proofs.request_fault.Goals as goal

pub returns : goal.returns
unfolding request_fault
returns c =
    c.also-4.ensures
    ∙ ap₂ also c.test-edition.ensures (c.also-3.ensures
    ∙ ap₂ also c.hash_version_fault-second.ensures (c.also-2.ensures
    ∙ ap₂ also c.text_fault-third.ensures (c.also.ensures
    ∙ ap₂ also c.text_fault-fourth.ensures (c.hash_fault-fifth.ensures ∙ ap (λ (n : ℕ). hash_fault n c.args.hash.now) c.hash_size.ensures))))
