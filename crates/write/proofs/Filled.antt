-- Fields that are filled in front of the position, and so in the buffer, and what the buffer is then.
use Prim.Native.Nat.{ℕ, ◌+◌, ◌≤◌}
use native.Mathlib.Omega.{arith}
use mathlib.Core.Path.{◌≡◌, sym, ap, ◌∙◌}
use mathlib.Core.List.{List, []}
use lib.ListN.{length}
use Rattle.format.specs.Number.{num_bytes}
use Rattle.format.specs.Message.{most_message}
use Rattle.format.proofs.Numbers.{length-num_bytes}
use Rattle.put.specs.Put.{put}
use Rattle.put.proofs.Laws.{put_length, put_nothing}

-- a field of so many bytes that ends by the position, which is within the message limit and the buffer
pub record Fills (at width position size : ℕ) : Type 0 where
  pub inside : at + width ≤ position
  pub few : position ≤ 4 + most_message
  pub room : at + width ≤ size

pub fills : (at width position size n : ℕ) → n ≡ position + 0 → n ≤ 4 + most_message → n ≤ size → at + width ≤ position → Fills at width position size
fills at width position size n e f g h = record { inside = h; few = omega arith; room = omega arith }

-- a number that is filled keeps the buffer's length
pub filled_length : (b : List ℕ) (at k n : ℕ) {c : List ℕ} → at + k ≤ length b → c ≡ put b at (num_bytes k n) → length c ≡ length b
filled_length b at k n h e = ap length e ∙ put_length b at (num_bytes k n) (rw length-num_bytes h)

-- one number filled, or two, where nothing was written
pub fill_one : (b : List ℕ) (position at k n : ℕ) {c : List ℕ} → c ≡ put b at (num_bytes k n) → c ≡ put (put b position []) at (num_bytes k n)
fill_one b position at k n e = e ∙ ap (λ (x : List ℕ). put x at (num_bytes k n)) (sym (put_nothing b position))

pub fill_two : (b : List ℕ) (position at k n at' k' n' : ℕ) {c d : List ℕ} → c ≡ put b at (num_bytes k n) → d ≡ put c at' (num_bytes k' n')
    → d ≡ put (put (put b position []) at (num_bytes k n)) at' (num_bytes k' n')
fill_two b position at k n at' k' n' e f = f ∙ ap (λ (x : List ℕ). put x at' (num_bytes k' n')) (fill_one b position at k n e)
