-- What the code reads of a message, field by field, and how the fields make up the record that it gives.
use Rattle.record.specs.declared.Field.{Field}
use Rattle.std.specs.Prelude.{Some, None}
use Rattle.std.specs.Prelude as std
use Prim.Native.Nat.{ℕ, ◌+◌, ◌-◌, ◌/◌, ◌%◌}
use mathlib.Core.Path.{◌≡◌, refl, sym, ◌∙◌, ap, ap₂}
use mathlib.Core.Bool.{Bool, true, false}
use mathlib.Core.List.{List, [], ◌∷◌}
use mathlib.Core.Option.{Option, some, none}
use lib.ListN.{length, take, drop, replicate}
use lib.Dec.{leb, eqb}
use lib.IntN.{ℤ}
use native.Mathlib.Omega.{arith}
use borrow.Author.Tests.{eq-eqb, ne_eqb}
use Rattle.std.specs.Int.{w32, to_be_bytes}
use Rattle.format.specs.declared.Fault.{Fault}
use Rattle.format.specs.Result.{Res, ok, no, bind}
use Rattle.format.specs.Number.{num_bytes}
use Rattle.format.specs.Format.{number, block, present, nothing, into}
use Rattle.format.specs.Value.{string, anything, most_bytes}
use Rattle.scan.proofs.Counted.{Here}
use Rattle.scan.specs.Signed.{signed}
use Rattle.scan.specs.Shown.{shown, number_in}
use Rattle.record.specs.declared.Span.{Span}
use Rattle.record.specs.declared.Noted.{Noted}
use Rattle.record.specs.declared.LoginRequestRecord.{LoginRequestRecord}
use Rattle.record.specs.declared.LoginResponseRecord.{LoginResponseRecord}
use Rattle.record.specs.declared.InvocationRecord.{InvocationRecord}
use Rattle.record.specs.Records.{login_response_of}
use Rattle.record.specs.Peeks.{num_in, spot_in, note_in, number_at, text_at, note_at, block_at, noted_at, hash_size, login_at, login_request_at, server_at, login_response_at, invocation_at}

-- ---- one field
abbrev pub spot : Span → ℕ → (Field Span)
spot x n = record { value = x; next = n }

module _ (s : List ℕ) (at : ℕ) where
  pub number_is : (k : ℕ) {n next : ℕ} → (number k 0).read s at ≡ ok (n, next) → ◌≡◌ {A = (Field ℕ)} (record { value = n; next = next }) (number_at s at k)
  unfolding number_at
  number_is k e = sym (ap (num_in at) e)

  pub number_none : (k : ℕ) {f : Fault} {p : ℕ} → (number k 0).read s at ≡ no f p → ◌≡◌ {A = (Field ℕ)} (record { value = 0; next = at }) (number_at s at k)
  unfolding number_at
  number_none k e = sym (ap (num_in at) e)

  -- one byte, by itself
  pub byte_is : number_in (shown ((number 1 0).read s at)) ≡ (number_at s at 1).value
  unfolding number_at
  byte_is = same ((number 1 0).read s at)
    where
      same : (r : Res (ℕ × ℕ)) → number_in (shown r) ≡ (num_in at r).value
      same (ok p) = refl
      same (no f p) = refl

  pub text_is : (nullable : Bool) {start end : ℕ} → Here nullable most_bytes s at start end → spot (Span.At start (end - start)) end ≡ text_at s at nullable
  unfolding text_at
  text_is nullable {start} {end} h = ap₂ (λ (x y : ℕ). spot (Span.At x y) end) h.place (sym h.size) ∙ sym (ap (spot_in at) h.read)

  pub text_null : (nullable : Bool) {next : ℕ} → (string nullable anything 0 0).read s at ≡ ok (none, next) → spot Span.Null next ≡ text_at s at nullable
  unfolding text_at
  text_null nullable e = sym (ap (spot_in at) e)

  pub text_none : (nullable : Bool) {f : Fault} {p : ℕ} → (string nullable anything 0 0).read s at ≡ no f p → spot Span.Absent at ≡ text_at s at nullable
  unfolding text_at
  text_none nullable e = sym (ap (spot_in at) e)

  pub note_absent : (there nullable : Bool) → there ≡ false → spot Span.Absent at ≡ note_at s at there nullable
  unfolding note_at present nothing
  note_absent there nullable e = rw e

  pub note_there : (there nullable : Bool) → there ≡ true → text_at s at nullable ≡ note_at s at there nullable
  unfolding text_at note_at present into
  note_there there nullable e = rw e (same ((string nullable anything 0 0).read s at))
    where
      same : (r : Res (Option (List ℕ) × ℕ)) → spot_in at r ≡ note_in at (bind r (λ p. ok (some p.0, p.1)))
      same (ok p) = refl
      same (no f p) = refl

  pub noted_is : (k : ℕ) (there nullable : Bool) (x : (Field ℕ)) (y : (Field Span)) → x ≡ number_at s at k → y ≡ note_at s x.next there nullable
      → ◌≡◌ {A = Noted} (record { number = x.value; span = y.value; next = y.next }) (noted_at s at k there nullable)
  noted_is k there nullable x y p q = rw (q, p)

  pub block_is : leb (at + 8) (length s) ≡ true → (bs : List ℕ) → bs ≡ take 8 (drop at s) → ◌≡◌ {A = (Field (List ℕ))} (record { value = bs; next = at + 8 }) (block_at s at)
  unfolding block_at block
  block_is e bs is = rw (e, is)

  pub block_none : leb (at + 8) (length s) ≡ false → ◌≡◌ {A = (Field (List ℕ))} (record { value = replicate 8 0; next = at }) (block_at s at)
  unfolding block_at block
  block_none e = rw e

-- the lowest bytes of a number, by its lowest 32 bits
pub four_is : (n : ℕ) → to_be_bytes w32 (n % 4294967296) ≡ num_bytes 4 n
unfolding num_bytes
four_is n =
    let a : n % 4294967296 / 16777216 % 256 ≡ n / 16777216 % 256 = omega arith in
    let b : n % 4294967296 / 65536 % 256 ≡ n / 65536 % 256 = omega arith in
    let c : n % 4294967296 / 256 % 256 ≡ n / 256 % 256 = omega arith in
    let d : n % 4294967296 % 256 ≡ n / 1 % 256 = omega arith in
    λ i. a i ∷ b i ∷ c i ∷ d i ∷ []

-- ---- the records
module _ (s : List ℕ) where
  pub login_is : (at version : ℕ) (edition : (std.Option ℤ)) (size : ℕ) (v : ℤ) (x y : (Field Span)) → v ≡ signed 1 version → x ≡ text_at s at false → y ≡ text_at s x.next false
      → ◌≡◌ {A = LoginRequestRecord} (record { version = v; hash_version = edition; service = x.value; user = y.value; hash = Span.At y.next size }) (login_at s at version edition size)
  login_is at version edition size v x y p q r = rw (p, r, q)

  pub request_0 : (x : (Field ℕ)) → x ≡ number_at s 4 1 → (x.value ≡ 1 → ⊥) → login_at s 5 x.value None 20 ≡ login_request_at s
  request_0 x p other = let no : eqb (number_at s 4 1).value 1 ≡ false = rw (← p) (ne_eqb x.value 1 other) in rw (p, no)

  pub request_1 : (x y : (Field ℕ)) (z : ℤ) (size : ℕ) → x ≡ number_at s 4 1 → y ≡ number_at s 5 1 → z ≡ signed 1 y.value → size ≡ hash_size y.value → x.value ≡ 1
      → login_at s 6 x.value (Some z) size ≡ login_request_at s
  request_1 x y z size p q a b e = let yes : eqb (number_at s 4 1).value 1 ≡ true = rw (← p) (eq-eqb x.value 1 e) in rw (a, b, q, p, yes)

  pub server_is : (version result : ℕ) (host connection start leader : (Field ℕ)) (build : (Field Span)) (v r h c t : ℤ) (l : List ℕ)
      → host ≡ number_at s 6 4 → connection ≡ number_at s 10 8 → start ≡ number_at s 18 8 → leader ≡ number_at s 26 4 → build ≡ text_at s 30 false
      → v ≡ signed 1 version → r ≡ signed 1 result → h ≡ signed 4 host.value → c ≡ signed 8 connection.value → t ≡ signed 8 start.value → l ≡ num_bytes 4 leader.value
      → ◌≡◌ {A = LoginResponseRecord} (record { version = v; result = r; host = h; connection = c; start = t; leader = l; build = build.value }) (server_at s version result)
  server_is version result host connection start leader build v r h c t l p₁ p₂ p₃ p₄ p₅ q₁ q₂ q₃ q₄ q₅ q₆ = rw (q₁, q₂, q₃, q₄, q₅, q₆, p₁, p₂, p₃, p₄, p₅)

  pub response_none : (x y : (Field ℕ)) → x ≡ number_at s 4 1 → y ≡ number_at s 5 1 → (y.value ≡ 0 → ⊥) → login_response_of x.value y.value none ≡ login_response_at s
  response_none x y p q other = let no : eqb (number_at s 5 1).value 0 ≡ false = rw (← q) (ne_eqb y.value 0 other) in rw (p, q, no)

  pub response_some : (x y : (Field ℕ)) → x ≡ number_at s 4 1 → y ≡ number_at s 5 1 → y.value ≡ 0 → server_at s x.value y.value ≡ login_response_at s
  response_some x y p q e = let yes : eqb (number_at s 5 1).value 0 ≡ true = rw (← q) (eq-eqb y.value 0 e) in rw (p, q, yes)

  pub invocation_is : (x : (Field ℕ)) (t : (Field Span)) (b : (Field (List ℕ))) (k : (Field ℕ)) (v : ℤ) → x ≡ number_at s 4 1 → t ≡ text_at s 5 false → b ≡ block_at s t.next → k ≡ number_at s b.next 2 → v ≡ signed 1 x.value
      → ◌≡◌ {A = InvocationRecord} (record { version = v; procedure = t.value; client = b.value; params = k.value; params_at = k.next }) (invocation_at s)
  invocation_is x t b k v p q r u e = rw (e, p, u, r, q)
