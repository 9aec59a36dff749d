-- `put::put_eight` meets its contract: the bytes of a number are its upper four and its lower four. Assumes nothing.
use mathlib.Core.Path.{sym, ap, ◌∙◌}
use mathlib.Core.List.{List, ◌++◌}
use Prim.Native.Nat.{ℕ, ◌/◌}
use lib.ListN.{drop}
use Rattle.format.specs.Number.{num_bytes}
use Rattle.format.proofs.Numbers.{length-num_bytes}
use Rattle.put.proofs.Laws.{front_two, num_bytes_split}
use Rattle.put.proofs.put_eight.Goals as goal

pub returns : goal.returns
returns c =
    let xs = c.args.out.now in
    let n = c.args.n in
    front_two xs (num_bytes 4 (n / 4294967296)) (num_bytes 4 n) _ _ 4 4 (length-num_bytes 4 _) (length-num_bytes 4 n) c.requires c.put_four.ensures c.put_four-2.ensures
    ∙ sym (ap (λ (bs : List ℕ). bs ++ drop 8 xs) (num_bytes_split 4 4 n))
