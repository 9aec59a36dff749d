-- What each answer tells: its values, or the fault and its place.
use Rattle.format.specs.declared.Refusal.{Refusal}
use Rattle.std.specs.Prelude.{ℕ, Result, Ok, Err}
use Rattle.format.specs.Result.{Res, ok, no}
use Rattle.format.specs.Format as format
use Rattle.fields.specs.declared.Entry.{Entry}

abbrev pub told_entry : Entry → format.Entry
told_entry e = record { at = e.offset; size = e.size; field = e.field; index = record { i = e.i; j = e.j; k = e.k } }

abbrev pub told_listed : Result Entry Refusal → Res format.Entry
told_listed (Ok e) = ok (told_entry e)
told_listed (Err r) = no r.fault r.place

abbrev pub told_owned : Result (Entry × ℕ) Refusal → Res (format.Entry × ℕ)
told_owned (Ok (e, n)) = ok (told_entry e, n)
told_owned (Err r) = no r.fault r.place
