-- The walks over the contents of the kinds 1 to 3, each made from the walks over its fields.
use Rattle.std.proofs.Common.{◌≡◌, ℕ, Bool, true, false, eqb, leb, List, refl, ap, lit<, eq-eqb, ne_eqb}
use mathlib.Core.Option.{Option, some, none, get_or}
use Rattle.format.specs.declared.Fault.TheVariants.{Version}
use Rattle.format.specs.Result.{ok}
use Rattle.format.specs.Number.{Bytes}
use Rattle.format.specs.Format.{Format, Index, number, block, nothing, into, both, present, Verdict}
use Rattle.format.specs.Value.{string}
use Rattle.format.specs.Message.{text, list, most_items, first, param, invocation, Server, server, no_server, login_response, login_request, edition, hash_size, noted, trip}
use Rattle.format.proofs.Results.{ok_same, bound}
use Rattle.format.proofs.Laws.{Lawful, lawful_number, lawful_block, lawful_nothing, lawful_ruled, lawful_into, lawful_both, lawful_present}
use Rattle.format.proofs.Formats.{lawful_list, lawful_param, lawful_server}
use Rattle.tally.specs.declared.Tour.{Tour}
use Rattle.tally.specs.Walks.{Walked}
use Rattle.message.specs.Login.{login}
use Rattle.tally.proofs.Tours.{walked_ruled, walked_into, walked_both, walked_nothing}
use Rattle.tally.proofs.Values.{lawful_string, ruled_read}

-- how each format here is made
ruleset laws = (lawful_number, lawful_block, lawful_nothing, lawful_ruled, lawful_into, lawful_both, lawful_present, lawful_string, lawful_list, lawful_param, lawful_server, lit<, tt)

-- a value that is there, and one that is not
module _ {A : Type 0} (d : A) (f : Format A) (s : List ℕ) {ix : Index} where
  pub walked_present : (t : Bool) → t ≡ true → Bytes s → Lawful f → {tour : Tour} {out : List ℕ} {after : Tour} {written : List ℕ}
      → Walked f s ix tour out after written → Walked (present t d f) s ix tour out after written
  unfolding present
  walked_present t is by l w = rw is (walked_into s some (λ o. get_or o d) by l (λ a g. refl) w)

  pub walked_absent : (t : Bool) → t ≡ false → (tour : Tour) (out : List ℕ) → Walked (present t d f) s ix tour out tour out
  unfolding present
  walked_absent t is tour out = rw is (walked_nothing s tour out none)

-- the number of a field plays no part
pub number_told : (s : List ℕ) (k field at : ℕ) {n : ℕ} → ((m next : ℕ) → (number k 0).read s at ≡ ok (m, next) → n ≡ m) → (m next : ℕ) → (number k field).read s at ≡ ok (m, next) → n ≡ m
unfolding number
number_told s k field at told m next e = told m next e

-- what follows a result
abbrev pub served : ℕ → Format (Option Server)
served r = present (eqb r 0) no_server server

-- a login request's parts
abbrev hashed : ℕ → Format (Option ℕ × (Option (List ℕ) × (Option (List ℕ) × List ℕ)))
hashed version = both (present (eqb version 1) 0 (edition 3)) (λ h. login (hash_size h))

module _ (s : List ℕ) (by : Bytes s) {ix : Index} {tour : Tour} {out : List ℕ} {after : Tour} {written : List ℕ} where
  pub walked_invocation : Walked (both (text 20 21) (λ p. both (block 8 22) (λ c. list 2 most_items 23 first param))) s ix tour out after written → Walked invocation s ix tour out after written
  unfolding invocation
  walked_invocation w = walked_into s _ _ by (search laws depth 8) (λ v g. refl) w

  pub walked_server : Walked (both (number 4 11) (λ a. both (number 8 12) (λ b. both (number 8 13) (λ c. both (number 4 14) (λ d. text 15 16))))) s ix tour out after written → Walked server s ix tour out after written
  unfolding server
  walked_server w = walked_into s _ _ by (search laws depth 10) (λ v g. refl) w

  pub walked_response : Walked (both (number 1 10) served) s ix tour out after written → Walked login_response s ix tour out after written
  unfolding login_response
  walked_response w = walked_into s _ _ by (search laws depth 8) (λ v g. refl) w

  request : (version : ℕ) → Walked (hashed version) s ix tour out after written → Walked (login_request version) s ix tour out after written
  unfolding login_request
  request version w = walked_into s _ _ by (search laws depth 10) (λ v g. refl) w

  -- no hash version
  pub walked_old : (version : ℕ) → (version ≡ 1 → ⊥) → Walked (login 20) s ix tour out after written → Walked (login_request version) s ix tour out after written
  unfolding present nothing
  walked_old version other w =
      let is : eqb version 1 ≡ false = ne_eqb version 1 other in
      request version (walked_both by {g = λ h. login (hash_size h)} (search laws depth 8) (walked_absent 0 (edition 3) s (eqb version 1) is tour out) (λ h n e.
      let same : ◌≡◌ {A = Option ℕ} none h = ap (λ (p : Option ℕ × ℕ). p.0) (ok_same (rw is at e)) in
      rw (← same) w))

  module _ {mid : Tour} {half : List ℕ} where
    -- a hash version h
    pub walked_new : (version : ℕ) → version ≡ 1 → {h : ℕ} → ((m next : ℕ) → (number 1 0).read s tour.at ≡ ok (m, next) → h ≡ m) → Walked (number 1 3) s ix tour out mid half
        → Walked (login (hash_size (some h))) s ix mid half after written → Walked (login_request version) s ix tour out after written
    unfolding present into number
    walked_new version new {h} told t w =
        let is : eqb version 1 ≡ true = eq-eqb version 1 new in
        let edited = walked_ruled s (λ n. leb n 1) Version t in
        request version (walked_both by {g = λ v. login (hash_size v)} (search laws depth 8) (walked_present 0 (edition 3) s (eqb version 1) is by (search laws) edited) (λ v n e.
        let r = bound ((edition 3).read s tour.at) (rw is at e) in
        let m = r.0.0 in
        let same : h ≡ m = told m r.0.1 (ruled_read (λ n. leb n 1) Version (number 1 3) s tour.at r.1) in
        let there : some m ≡ v = ap (λ (p : Option ℕ × ℕ). p.0) (ok_same r.2) in
        rw (← there, ← same) w))

-- how long a hash is
pub hash_long : (h : ℕ) → h ≡ 1 → hash_size (some h) ≡ 32
hash_long h is = rw (eq-eqb h 1 is)

pub hash_short : (h : ℕ) → (h ≡ 1 → ⊥) → hash_size (some h) ≡ 20
hash_short h other = rw (ne_eqb h 1 other)

-- a number with a body that a flag says is there, and a round trip
pub lawful_noted : (k field : ℕ) (t nullable : Bool) (rule : List ℕ → Verdict) (l b : ℕ) → Lawful (noted (number k field) t none (string nullable rule l b))
lawful_noted k field t nullable rule l b = search laws

pub lawful_trip : (timed : Bool) → Lawful (trip timed)
lawful_trip timed = search laws

pub walked_if : {A : Type 0} (d : A) (f : Format A) {s : List ℕ} {ix : Index} {tour : Tour} {out : List ℕ} {after : Tour} {written : List ℕ} {t u : Bool} → t ≡ u
    → Walked (present t d f) s ix tour out after written → Walked (present u d f) s ix tour out after written
walked_if d f e w = rw e at w
