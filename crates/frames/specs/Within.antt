-- What `frames::next` promises: a frame that it answers lies within the buffer.
use Rattle.std.specs.Prelude.{◌≡◌, ◌≤◌, ℕ, List, length, take}
use Rattle.frames.specs.declared.Frame.{Frame}
use Rattle.frames.specs.declared.Frame.TheVariants.{Is, End, Broken}

-- the first n of xs are there: `&xs[..n]` lies within, and has n bytes
abbrev pub IsPrefixLen : ℕ → List ℕ → Type 0
IsPrefixLen n xs = (n ≤ length xs) × (n ≡ length (take n xs))

abbrev pub Within : Frame → List ℕ → Type 0
Within (Is n) buf = IsPrefixLen n buf
Within End buf = Unit {0}
Within Broken buf = Unit {0}
