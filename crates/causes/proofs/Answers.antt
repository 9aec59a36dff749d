-- What is read, asked and written, as it stands: 7 was split in each. And so it was in the answers of the C interface, whose numbers and places can be taken apart again.
use Prim.Native.Nat.{ℕ, ◌+◌, ◌/◌, ◌%◌, ◌^◌, ◌<◌}
use mathlib.Core.Path.{◌≡◌, refl, sym, subst}
use mathlib.Core.List.{List}
use native.Mathlib.Omega.{arith}
use borrow.Author.Tests.{ne_eqb}
use Rattle.format.specs.Result.{Res, ok, no, number_of}
use Rattle.format.specs.Message.{read_message}
use Rattle.format.specs.Geography.{read_polygon}
use Rattle.format.proofs.Decides.{number_small}
use Rattle.steps.specs.State.{State}
use Rattle.steps.specs.Steps.{Step, step}
use Rattle.steps.specs.Logins.{Welcome, login_request, login_response}
use Rattle.outline.specs.declared.State.{State as Outline}
use Rattle.outline.specs.Steps as outline
use Rattle.numbers.specs.Packed.{above, packed_by, packed}
use Rattle.causes.specs.Before.{number_before, found, refused, told, Split, unpacked}
use Rattle.causes.proofs.Split.{before_small, split_found, split_fault, split}

abbrev pub SplitIn : {A : Type 0} → Res A → Type 0
SplitIn r = Split (told number_before r) (told number_of r)

pub reading_split : (layout : ℕ) (m : List ℕ) → SplitIn (read_message layout m)
reading_split layout m = split (read_message layout m)

pub step_split : (s : Step) (st : State) (b : List ℕ) → SplitIn (step s st b).answer
step_split s st b = split (step s st b).answer

pub request_split : (version hash_version : ℕ) (service user hash b : List ℕ) → SplitIn (login_request version hash_version service user hash b).answer
request_split version hash_version service user hash b = split (login_request version hash_version service user hash b).answer

pub response_split : (version result : ℕ) (w : Welcome) (b : List ℕ) → SplitIn (login_response version result w b).answer
response_split version result w b = split (login_response version result w b).answer

pub body_split : (b : List ℕ) → SplitIn (read_polygon b)
body_split b = split (read_polygon b)

pub outline_split : (s : outline.Step) (st : Outline) (b : List ℕ) → SplitIn (outline.step s st b).answer
outline_split s st b = split (outline.step s st b).answer

-- an answer of the C interface, taken apart
unpack_ok : (n : ℕ) → unpacked (above n) ≡ found (above n / 2 ^ 8)
unpack_ok n = let low : above n % 2 ^ 8 ≡ 0 = omega arith in rw low refl

unpack_no : (n p : ℕ) → 0 < n → n < 256 → unpacked (above p + n) ≡ refused n (above p / 2 ^ 8)
unpack_no n p lo hi =
    let low : (above p + n) % 2 ^ 8 ≡ n = omega arith in
    let high : (above p + n) / 2 ^ 8 ≡ above p / 2 ^ 8 = omega arith in
    rw (low, high, ne_eqb n 0 (λ e. omega arith)) refl

module _ {A : Type 0} (show : A → ℕ) where
  pub packed_split : (a : Res A) → Split (unpacked (packed_by number_before show a)) (unpacked (packed show a))
  packed_split (ok a) = rw (unpack_ok (show a)) (split_found _)
  packed_split (no f p) =
      let now = number_small f in
      let was = before_small f in
      rw (unpack_no (number_before f) p was.0 was.1, unpack_no (number_of f) p now.0 now.1) (split_fault f _)

  -- whatever a call of the C interface is asked, its contract gives this
  pub called_split : (a : Res A) (r : ℕ) → r ≡ packed show a → Split (unpacked (packed_by number_before show a)) (unpacked r)
  called_split a r e = subst (λ (n : ℕ). Split (unpacked (packed_by number_before show a)) (unpacked n)) (sym e) (packed_split a)
