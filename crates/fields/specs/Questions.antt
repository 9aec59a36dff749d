-- The questions to a list of fields: how many there are, the n-th, the one that owns a byte, and a window of the list.
use Rattle.std.specs.Prelude.{ℕ, zero, suc, ◌+◌, ◌/◌, ◌&&◌, List, [], ◌∷◌, ◌++◌, length, take, drop, get_or, leb, ltb}
use Rattle.format.specs.declared.Fault.TheVariants.{PastEnd}
use Rattle.format.specs.Result.{Res, ok, no, pick}
use Rattle.format.specs.Format.{Entry}
use Rattle.tally.specs.Task.{six}

-- the n-th entry, from 0 on
abbrev pub nth : List Entry → ℕ → Res Entry
nth [] n = no PastEnd 0
nth (e ∷ es) zero = ok e
nth (e ∷ es) (suc n) = nth es n

-- the entry that a byte stands in, and its number; the first entry has the number n
unfoldable pub owner_from : ℕ → List Entry → ℕ → Res (Entry × ℕ)
owner_from n [] offset = no PastEnd 0
owner_from n (e ∷ es) offset = pick (leb e.at offset && ltb offset (e.at + e.size)) (ok (e, n)) (owner_from (n + 1) es offset)

abbrev pub owner_of : List Entry → ℕ → Res (Entry × ℕ)
owner_of es offset = owner_from 0 es offset

-- the entries from the first-th on, as many as have room in so many numbers
abbrev pub window_of : List Entry → ℕ → ℕ → List Entry
window_of es first room = take (room / 6) (drop first es)

abbrev pub window_count : List Entry → ℕ → ℕ → Res ℕ
window_count es first room = pick (ltb first (length es)) (ok (length (window_of es first room))) (no PastEnd 0)

-- the numbers of some entries, six for each
unfoldable pub sixes : List Entry → List ℕ
sixes [] = []
sixes (e ∷ es) = six e ++ sixes es

-- a lent list after a window was written to its front
abbrev pub over : List ℕ → List ℕ → List ℕ
over new old = new ++ drop (length new) old

abbrev pub window_out : Res (List Entry) → ℕ → List ℕ → List ℕ
window_out (ok es) first out = over (sixes (window_of es first (length out))) out
window_out (no f p) first out = out

-- the entry that six numbers are
abbrev pub entry_at : List ℕ → Entry
entry_at l = record { at = get_or l 0 0; size = get_or l 1 0; field = get_or l 2 0; index = record { i = get_or l 3 0; j = get_or l 4 0; k = get_or l 5 0 } }
