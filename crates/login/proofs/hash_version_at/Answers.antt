-- `login::hash_version_at` meets its contract: version 0 has no byte, and version 1 the hash version's. Assumes nothing.
use Prim.Native.Nat.{◌+◌, ◌≤◌}
use native.Mathlib.Nat.{add-zero}
use mathlib.Core.Path.{◌≡◌, sym, ap, ◌∙◌}
use lib.ListN.{length}
use Rattle.format.proofs.Numbers.{length-num_bytes}
use Rattle.put.proofs.Laws.{put_nothing}
use Rattle.login.specs.Parts.{hash_part}
use Rattle.login.proofs.Parts.{hash_none, hash_some}
use Rattle.login.proofs.hash_version_at.Goals as goal

pub returns-then-version-ne1 : goal.returns-then-version-ne1
returns-then-version-ne1 c =
    let e = hash_none c.args.version c.args.hashing c.if-version-ne1.true in
    (sym (rw e (add-zero c.args.at)), sym (rw e (put_nothing c.args.out.now c.args.at)))

pub number_at-requires : goal.number_at-requires
number_at-requires c =
    let e = hash_some c.args.version c.args.hashing c.if-version-ne1.false in
    let l : length (hash_part c.args.version c.args.hashing) ≡ 1 = ap length e ∙ length-num_bytes 1 c.args.hashing in
    let h : c.args.at + length (hash_part c.args.version c.args.hashing) ≤ length c.args.out.now = c.requires in
    rw l at h

pub returns : goal.returns
returns c =
    let e = hash_some c.args.version c.args.hashing c.if-version-ne1.false in
    (c.number_at.ensures.0 ∙ sym (rw (e, length-num_bytes)), c.number_at.ensures.1 ∙ sym (rw e))
