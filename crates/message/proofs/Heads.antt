-- A response: what stands before its tables, and then the tables.
use Rattle.format.specs.declared.Refusal.{Refusal}
use Rattle.std.specs.Prelude.{Result, Ok, Err}
use Prim.Native.Nat.{ℕ}
use mathlib.Core.Path.{◌≡◌, refl, sym, ◌∙◌, ap}
use mathlib.Core.Bool.{Bool, true, false}
use mathlib.Core.List.{List}
use mathlib.Core.Option.{Option, none}
use Rattle.format.specs.Format.{Format, Verdict, number, block, ruled, nothing, present, into, both, counted}
use Rattle.format.specs.Value.{string, anything}
use Rattle.format.specs.Message.{Table, Note, response, head, noted, trip, app_stated, tripped, after_flags, flag_byte, list, first, table, most_items, binary}
use Rattle.scan.specs.Shown.{shown_next}
use Rattle.scan.proofs.Steps.{into_ends, both_ends, goes_on, halts}
use Rattle.message.proofs.Runs.{present_ends}

-- a string that is there or not ends where it does, whatever the numbers of its fields; so does a number with such a string
module _ (l b : ℕ) (nullable : Bool) (rule : List ℕ → Verdict) (s : List ℕ) where
  note_fields : (there : Bool) (at : ℕ) → (present there none (string nullable rule l b)).read s at ≡ (present there none (string nullable rule 0 0)).read s at
  unfolding present counted into nothing number
  note_fields true at = refl
  note_fields false at = refl

  noted_fields : (width n : ℕ) (there : Bool) (at : ℕ)
      → (noted (number width n) there none (string nullable rule l b)).read s at ≡ (noted (number width 0) there none (string nullable rule 0 0)).read s at
  unfolding both number
  noted_fields width n there at = simp (note_fields there)

-- what reads a noted number answers by a test that is the flag's
module _ (l b : ℕ) (nullable : Bool) (rule : List ℕ → Verdict) (s : List ℕ) (at width n : ℕ) {t there : Bool} (same : t ≡ there) {a : Result ℕ Refusal} (e : a ≡ shown_next ((noted (number width 0) t none (string nullable rule 0 0)).read s at)) where
  pub noted_shows : a ≡ shown_next ((noted (number width n) there none (string nullable rule l b)).read s at)
  noted_shows = rw same at e ∙ sym (ap shown_next (noted_fields l b nullable rule s width n there at))

-- what follows two formats that end alike ends alike
module _ {A B C : Type 0} (f : Format A) (g : Format B) (h : Format C) (s : List ℕ) (at : ℕ) where
  both_alike : shown_next (f.read s at) ≡ shown_next (g.read s at) → shown_next ((both f (λ v. h)).read s at) ≡ shown_next ((both g (λ v. h)).read s at)
  both_alike = by_end (shown_next (f.read s at)) refl
    where
      by_end : (a : Result ℕ Refusal) → a ≡ shown_next (f.read s at) → a ≡ shown_next (g.read s at) → shown_next ((both f (λ v. h)).read s at) ≡ shown_next ((both g (λ v. h)).read s at)
      by_end (Ok next) e d = goes_on f h s at e refl ∙ sym (goes_on g h s at d refl)
      by_end (Err r) e d = halts f h s at e refl ∙ sym (halts g h s at d refl)

-- a round trip that is there, and one that is not, with the exception after it
module _ (s : List ℕ) (at : ℕ) (there : Bool) where
  pub timed_ends : (timed : Bool) → timed ≡ true → shown_next ((noted (trip timed) there none (binary 38 39)).read s at) ≡ shown_next ((noted (number 4 0) there none (binary 0 0)).read s at)
  timed_ends timed is =
      both_alike (trip timed) (number 4 37) (present there none (binary 38 39)) s at (present_ends 0 (number 4 37) s at timed is)
      ∙ ap shown_next (noted_fields 38 39 false anything s 4 37 there at)

  pub untimed_ends : (timed : Bool) → timed ≡ false → shown_next ((noted (trip timed) there none (binary 38 39)).read s at) ≡ shown_next ((present there none (binary 0 0)).read s at)
  unfolding present nothing
  untimed_ends timed is = rw is (both_ends (nothing none) (λ v. present there none (binary 38 39)) s at refl) ∙ ap shown_next (note_fields 38 39 false anything s there at)

-- a head, after its client data, and after its status
abbrev pub head_1 : Bool → Format (ℕ × ((ℕ × Note) × ((ℕ × Note) × (Option ℕ × Note))))
head_1 timed = both (flag_byte 30) (after_flags timed)

abbrev pub head_2 : Bool → ℕ → Format ((ℕ × Note) × (Option ℕ × Note))
head_2 timed flags = both (app_stated flags) (λ a. tripped timed flags)

module _ (timed : Bool) (s : List ℕ) (at : ℕ) where
  pub head_ends : shown_next ((head timed).read s at) ≡ shown_next ((both (block 8 22) (λ c. head_1 timed)).read s at)
  unfolding head
  head_ends = into_ends _ _ (both (block 8 22) (λ c. head_1 timed)) s at

  -- the last of it, by a test that is the flag's
  pub trip_shows : {t there : Bool} → t ≡ there → {a : Result ℕ Refusal} → a ≡ shown_next ((noted (trip timed) t none (binary 38 39)).read s at)
      → a ≡ shown_next ((noted (trip timed) there none (binary 38 39)).read s at)
  trip_shows same e = rw same at e

  pub flag_fields : (flag_byte 30).read s at ≡ (flag_byte 0).read s at
  unfolding ruled number
  flag_fields = refl

-- a response is its head, and then its tables
abbrev pub tables : Format (List Table)
tables = list 2 most_items 40 first table

pub response_ends : (timed : Bool) (s : List ℕ) (at : ℕ) → shown_next ((response timed).read s at) ≡ shown_next ((both (head timed) (λ h. tables)).read s at)
unfolding response
response_ends timed s at = into_ends _ _ (both (head timed) (λ h. tables)) s at
