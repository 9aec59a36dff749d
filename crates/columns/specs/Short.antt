-- Why a survey's size stays bounded: a name that has no fault is short.
use Prim.Native.Nat.{ℕ, ◌+◌, ◌≤◌}
use native.Mathlib.Omega.{arith}
use mathlib.Core.Path.{◌≡◌, refl}
use mathlib.Core.Bool.{Bool, true, false}
use mathlib.Core.List.{List}
use mathlib.Core.Option.{some, none}
use lib.ListN.{length, take, drop, length-drop}
use lib.Dec.{leb}
use lib.Seq.{length-take-le}
use borrow.Author.Tests.{leb-true}
use Rattle.format.specs.declared.Fault.TheVariants.{Limit}
use Rattle.format.specs.Result.{pick}
use Rattle.format.specs.Format.{fine}
use Rattle.format.specs.Value.{ascii, most_bytes}
use Rattle.steps.specs.Plans.{test, placed}
use Rattle.steps.specs.Arguments.{name_fault}
use Rattle.steps.proofs.Back.{also_fine, test_fine}
use Rattle.columns.specs.declared.Column.{Column as Entry}
use Rattle.columns.specs.Entries.{name_of}

-- a name that has no fault stands in its buffer and is short
pub name_fine : (p : ℕ) (names : List ℕ) (e : Entry) → name_fault p (name_of names e) ≡ fine → (e.start + e.size ≤ length names) × (e.size ≤ most_bytes)
unfolding name_of
name_fine p names e = go (leb (e.start + e.size) (length names)) refl
  where
    go : (t : Bool) → leb (e.start + e.size) (length names) ≡ t → name_fault p (pick t (some (take e.size (drop e.start names))) none) ≡ fine → (e.start + e.size ≤ length names) × (e.size ≤ most_bytes)
    go true i f =
        let inside = leb-true (e.start + e.size) (length names) i in
        let d = length-drop e.start names in
        let l : length (take e.size (drop e.start names)) ≡ e.size = length-take-le e.size (drop e.start names) (omega arith) in
        let bs = take e.size (drop e.start names) in
        let short = leb-true (length bs) most_bytes (test_fine (leb (length bs) most_bytes) Limit p (also_fine (test (leb (length bs) most_bytes) Limit p) (placed p (ascii bs)) f).0) in
        (inside, omega arith)
    go false i f = absurd (let z : ◌≡◌ {A = ℕ} 0 1 = cc in omega arith)
