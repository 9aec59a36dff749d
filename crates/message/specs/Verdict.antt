-- What is said of a message: that it is accepted, or why not and where. The record that it holds is left out.
use Rattle.format.specs.Result.{Res, ok, no}
use Rattle.format.specs.Message.{Message}

abbrev pub verdict_of : Res Message → Res Unit
verdict_of (ok r) = ok tt
verdict_of (no f p) = no f p
