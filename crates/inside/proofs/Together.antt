-- What the answers say together of an accepted body: its fields tile it, so each byte has one owner, and windows add up to the list.
use Prim.Native.Nat.{ℕ, ◌≤◌, ◌<◌}
use mathlib.Core.Path.{◌≡◌}
use mathlib.Core.List.{List}
use lib.ListN.{length}
use Rattle.format.specs.declared.Fault.TheVariants.{PastEnd}
use Rattle.format.specs.Result.{ok, no}
use Rattle.format.specs.Number.{Bytes}
use Rattle.format.specs.Format.{Entry}
use Rattle.format.specs.Geography.{Polygon, read_polygon, polygon_fields}
use Rattle.format.proofs.Owner.{Owns}
use Rattle.format.proofs.Geography.{inside_tiles}
use Rattle.fields.specs.Questions.{owner_of}
use Rattle.fields.proofs.Together.{tile_answers, tile_ends, gathered, windows_all}

module _ (b : List ℕ) (by : Bytes b) (p : Polygon) (accepted : read_polygon b ≡ ok p) where
  abbrev pub all : List Entry
  all = polygon_fields p

  -- each byte has exactly one owner, and that is the one answered
  pub owner_answers : (k : ℕ) → k < length b → (x : Entry) × (i : ℕ) × (owner_of all k ≡ ok (x, i)) × Owns all k i × ((j : ℕ) → Owns all k j → j ≡ i)
  owner_answers = tile_answers all (length b) (inside_tiles b by p accepted)

  pub owner_ends : (k : ℕ) → length b ≤ k → owner_of all k ≡ no PastEnd 0
  owner_ends = tile_ends all (length b) (inside_tiles b by p accepted)

  -- windows from 0 on, each with room for an entry, are the whole list after at most as many steps as it has entries
  pub windows_together : (room : ℕ → ℕ) → ((i : ℕ) → 6 ≤ room i) → gathered room 0 (length all) all 0 ≡ all
  windows_together room big = windows_all room big all
