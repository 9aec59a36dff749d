-- What the cells of a row write, one behind the other.
use Rattle.std.specs.Prelude.{ℕ, zero, suc, ◌+◌, ◌*◌, ◌^◌, ◌≤◌, ◌≡◌, true, false, List, length, take, drop, get_or, eqb}
use Rattle.std.proofs.Math.Option.{some, none}
use Rattle.format.specs.Result.{pick}
use Rattle.format.specs.Number.{num_bytes}
use Rattle.format.specs.Value.{is_counted, width_of}
use Rattle.put.specs.Put.{put, sized}
use Rattle.whole.specs.Rows.{null_size}

-- the bytes of a cell by its two numbers
abbrev pub body_bytes : List ℕ → ℕ → ℕ → List ℕ
body_bytes bytes start size = sized (pick (eqb size null_size) none (some (take size (drop start bytes))))

unfoldable pub cell_bytes : List ℕ → ℕ → ℕ → ℕ → List ℕ
cell_bytes bytes t a b = pick (is_counted t) (body_bytes bytes a b) (num_bytes (width_of t) (a * 2 ^ 64 + b))

-- how many bytes of a value of a fixed size its upper and its lower half have
abbrev pub upper_of : ℕ → ℕ
upper_of t = pick (eqb (width_of t) 16) 8 0

abbrev pub lower_of : ℕ → ℕ
lower_of t = pick (eqb (width_of t) 16) 8 (width_of t)

-- the bytes of a cell that isn't null are there
abbrev pub Stands : List ℕ → ℕ → ℕ → Type 0
Stands bytes start size = eqb size null_size ≡ false → start + size ≤ length bytes

-- a cell goes where there is room for it, and its bytes are there
pub record Fits (bytes : List ℕ) (t a b at size : ℕ) : Type 0 where
  pub stands : is_counted t ≡ true → Stands bytes a b
  pub room : at + length (cell_bytes bytes t a b) ≤ size

abbrev pub cell_at : List ℕ → List ℕ → List ℕ → ℕ → List ℕ
cell_at bytes types ns k = cell_bytes bytes (get_or types k 0) (get_or ns (2 * k) 0) (get_or ns (2 * k + 1) 0)

-- the buffer with the cells from the k-th on, of which so many are left
unfoldable pub laid : List ℕ → List ℕ → List ℕ → ℕ → ℕ → ℕ → List ℕ → List ℕ
laid bytes types ns k zero at b = b
laid bytes types ns k (suc left) at b =
    let bs = cell_at bytes types ns k in
    laid bytes types ns (k + 1) left (at + length bs) (put b at bs)

unfoldable pub FitAll : List ℕ → List ℕ → List ℕ → ℕ → ℕ → ℕ → ℕ → Type 0
FitAll bytes types ns k zero at size = Unit
FitAll bytes types ns k (suc left) at size =
    Fits bytes (get_or types k 0) (get_or ns (2 * k) 0) (get_or ns (2 * k + 1) 0) at size × FitAll bytes types ns (k + 1) left (at + length (cell_at bytes types ns k)) size
