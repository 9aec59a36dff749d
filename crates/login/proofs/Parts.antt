-- What the logins write, part by part, and how long it is.
use Prim.Native.Nat.{ℕ, ◌+◌, ◌-◌, ◌≤◌}
use native.Mathlib.Omega.{arith}
use mathlib.Core.Path.{◌≡◌, refl, sym, ap, ap₂, ◌∙◌}
use mathlib.Core.Bool.{Bool, true, false}
use mathlib.Core.List.{List, [], ◌++◌, append-nil}
use mathlib.Core.Option.{some, none}
use lib.ListN.{length, length-append}
use lib.Dec.{leb, eqb}
use native.Mathlib.Nat.{le_trans, zero-add}
use borrow.Author.Tests.{leb-true, eq-eqb, ne_eqb}
use Rattle.std.specs.Prelude.{Result, Ok, Err}
use Rattle.format.specs.declared.Fault.TheVariants.{Version}
use Rattle.format.specs.declared.Refusal.{Refusal}
use Rattle.format.specs.Result.{pick}
use Rattle.format.specs.Number.{num_bytes}
use Rattle.format.specs.Format.{Verdict, fine, bad, number, block, ruled, into, both, nothing, present, counted}
use Rattle.format.specs.Text.{utf8}
use Rattle.format.specs.Value.{most_bytes}
use Rattle.format.specs.Message.{edition, hash_size, server, no_server, login_request as request_format, login_response as response_format, a_login_request, a_login_response, content_of, message, message_bytes}
use Rattle.format.proofs.Numbers.{length-num_bytes}
use Rattle.scan.proofs.Answers.{shown_go, shown_stop}
use Rattle.put.specs.Put.{put, sized}
use Rattle.put.proofs.Laws.{Puts, puts, sized_some}
use Rattle.steps.specs.State.{State, closed}
use Rattle.write.specs.Shown.{zero, shown_answer, Told}
use Rattle.write.specs.Shared.{verdict_of}
use Rattle.steps.specs.Plans.{Plan, answer_of, carry, fill_all, also, test}
use Rattle.steps.specs.Arguments.{text_fault}
use Rattle.steps.specs.Steps.{answer_at, says}
use Rattle.steps.specs.Logins.{hash_fault, written_request, written_response, Welcome, request_fault, response_fault, login_plan}
use Rattle.steps.proofs.Back.{also_fine, test_fine}
use Rattle.write.proofs.Bytes.{text_few}
use Rattle.write.proofs.Taken.{taken as accepts}
use Rattle.login.specs.Parts.{hash_part, server_of}

-- the hash version has a byte in version 1, and none in version 0
pub hash_part_lem : (t : Bool) (h : ℕ) → (present t 0 (edition 3)).bytes (pick t (some h) none) ≡ pick t (num_bytes 1 h) []
unfolding present into ruled number nothing
hash_part_lem true h = refl
hash_part_lem false h = refl

pub hash_part_length : (version h : ℕ) → length (hash_part version h) ≡ pick (eqb version 1) 1 0
hash_part_length version h = ap length (hash_part_lem (eqb version 1) h) ∙ go (eqb version 1)
  where
    go : (t : Bool) → length (pick t (num_bytes 1 h) []) ≡ pick t 1 0
    go true = length-num_bytes 1 h
    go false = refl

pub request_bytes : (version hashing : ℕ) (service user hash : List ℕ) → (message 1).bytes (says version (a_login_request (written_request version hashing service user hash)))
    ≡ num_bytes 1 version ++ (hash_part version hashing ++ (sized (some service) ++ (sized (some user) ++ hash)))
unfolding message content_of request_format into both ruled number block counted
request_bytes version hashing service user hash = refl

pub server_bytes : (w : Welcome) → server.bytes (server_of w) ≡ num_bytes 4 w.host ++ (num_bytes 8 w.connection ++ (num_bytes 8 w.start ++ (num_bytes 4 w.leader ++ sized (some w.build))))
unfolding server into both number counted
server_bytes w = refl

server_part : (t : Bool) (w : Welcome) → (present t no_server server).bytes (pick t (some (server_of w)) none) ≡ pick t (server.bytes (server_of w)) []
unfolding present into nothing
server_part true w = refl
server_part false w = refl

pub response_bytes : (version result : ℕ) (w : Welcome) → (message 2).bytes (says version (a_login_response (written_response result w)))
    ≡ num_bytes 1 version ++ (num_bytes 1 result ++ pick (eqb result 0) (server.bytes (server_of w)) [])
unfolding message content_of response_format into both ruled number
response_bytes version result w = ap (λ (x : List ℕ). num_bytes 1 version ++ (num_bytes 1 result ++ x)) (server_part (eqb result 0) w)

-- how long a message is with its length, and that it is so many bytes
pub record Whole (n total size : ℕ) : Type 0 where
  pub is : n ≡ total
  pub room : n ≤ size

pub request_length : (version hashing : ℕ) (service user hash : List ℕ) → length (message_bytes 1 (says version (a_login_request (written_request version hashing service user hash))))
    ≡ 5 + (length (hash_part version hashing) + (4 + length service + (4 + length user + length hash)))
request_length version hashing service user hash =
    let m = (message 1).bytes (says version (a_login_request (written_request version hashing service user hash))) in
    let s = sized_some service in
    let u = sized_some user in
    let l₀ = length-append (num_bytes 4 (length m)) m in
    let l₁ = length-num_bytes 4 (length m) in
    let l₂ = ap length (request_bytes version hashing service user hash) in
    let l₃ = length-append (num_bytes 1 version) (hash_part version hashing ++ (sized (some service) ++ (sized (some user) ++ hash))) in
    let l₄ = length-num_bytes 1 version in
    let l₅ = length-append (hash_part version hashing) (sized (some service) ++ (sized (some user) ++ hash)) in
    let l₆ = length-append (sized (some service)) (sized (some user) ++ hash) in
    let l₇ = length-append (sized (some user)) hash in
    omega arith

pub request_whole : (version hashing : ℕ) (service user hash : List ℕ) (n : ℕ) → n ≡ 5 + (length (hash_part version hashing) + (4 + length service + (4 + length user + length hash)))
    → num_bytes 4 (n - 4) ++ (num_bytes 1 version ++ (hash_part version hashing ++ (sized (some service) ++ (sized (some user) ++ hash))))
    ≡ message_bytes 1 (says version (a_login_request (written_request version hashing service user hash)))
request_whole version hashing service user hash n e =
    let m = (message 1).bytes (says version (a_login_request (written_request version hashing service user hash))) in
    let l = request_length version hashing service user hash in
    let l₀ = length-append (num_bytes 4 (length m)) m in
    let l₁ = length-num_bytes 4 (length m) in
    let same : n - 4 ≡ length m = omega arith in
    let rest = num_bytes 1 version ++ (hash_part version hashing ++ (sized (some service) ++ (sized (some user) ++ hash))) in
    ap (λ (k : ℕ). num_bytes 4 k ++ rest) same ∙ ap (λ (x : List ℕ). num_bytes 4 (length m) ++ x) (sym (request_bytes version hashing service user hash))

-- a request that has no fault is short
hash_at_most : (t : Bool) (h : ℕ) → hash_size (pick t (some h) none) ≤ 32
hash_at_most true h = go (eqb h 1)
  where
    go : (t : Bool) → pick t 32 20 ≤ 32
    go true = omega arith
    go false = omega arith
hash_at_most false h = omega arith

pub request_limits : (version hashing : ℕ) (service user hash : List ℕ) → request_fault version hashing service user hash ≡ fine → (length service ≤ most_bytes) × (length user ≤ most_bytes) × (length hash ≤ 32)
unfolding request_fault
request_limits version hashing service user hash e =
    let n = hash_size (pick (eqb version 1) (some hashing) none) in
    let f₁ = pick (eqb version 1) (test (leb hashing 1) Version 0) fine in
    let f₂ = text_fault utf8 0 service in
    let f₃ = text_fault utf8 0 user in
    let z₀ = also_fine (test (leb version 1) Version 0) (also f₁ (also f₂ (also f₃ (hash_fault n hash)))) e in
    let z₁ = also_fine f₁ (also f₂ (also f₃ (hash_fault n hash))) z₀.1 in
    let z₂ = also_fine f₂ (also f₃ (hash_fault n hash)) z₁.1 in
    let z₃ = also_fine f₃ (hash_fault n hash) z₂.1 in
    let z₄ = also_fine (test (leb n (length hash)) _ 0) (test (leb (length hash) n) _ 0) z₃.1 in
    let h : length hash ≤ n = leb-true (length hash) n (test_fine (leb (length hash) n) _ 0 z₄.1) in
    let most : n ≤ 32 = hash_at_most (eqb version 1) hashing in
    (text_few utf8 0 service z₂.0, text_few utf8 0 user z₃.0, le_trans h most)

-- a response
pub server_length : (w : Welcome) → length (server.bytes (server_of w)) ≡ 28 + length w.build
server_length w = ap length (server_bytes w) ∙ simp (length-append, length-num_bytes) (omega arith)

pub response_length : (version result : ℕ) (w : Welcome) → length (message_bytes 2 (says version (a_login_response (written_response result w)))) ≡ 6 + pick (eqb result 0) (28 + length w.build) 0
response_length version result w =
    let m = (message 2).bytes (says version (a_login_response (written_response result w))) in
    let part = pick (eqb result 0) (server.bytes (server_of w)) [] in
    let l₀ = length-append (num_bytes 4 (length m)) m in
    let l₁ = length-num_bytes 4 (length m) in
    let l₂ = ap length (response_bytes version result w) in
    let l₃ = length-append (num_bytes 1 version) (num_bytes 1 result ++ part) in
    let l₄ = length-num_bytes 1 version in
    let l₅ = length-append (num_bytes 1 result) part in
    let l₆ = length-num_bytes 1 result in
    let l₇ : length part ≡ pick (eqb result 0) (28 + length w.build) 0 = go (eqb result 0) in
    omega arith
  where
    go : (t : Bool) → length (pick t (server.bytes (server_of w)) []) ≡ pick t (28 + length w.build) 0
    go true = server_length w
    go false = refl

pub response_whole : (version result : ℕ) (w : Welcome) (n : ℕ) → n ≡ 6 + pick (eqb result 0) (28 + length w.build) 0
    → num_bytes 4 (n - 4) ++ (num_bytes 1 version ++ (num_bytes 1 result ++ pick (eqb result 0) (server.bytes (server_of w)) [])) ≡ message_bytes 2 (says version (a_login_response (written_response result w)))
response_whole version result w n e =
    let m = (message 2).bytes (says version (a_login_response (written_response result w))) in
    let l = response_length version result w in
    let l₀ = length-append (num_bytes 4 (length m)) m in
    let l₁ = length-num_bytes 4 (length m) in
    let same : n - 4 ≡ length m = omega arith in
    let rest = num_bytes 1 version ++ (num_bytes 1 result ++ pick (eqb result 0) (server.bytes (server_of w)) []) in
    ap (λ (k : ℕ). num_bytes 4 k ++ rest) same ∙ ap (λ (x : List ℕ). num_bytes 4 (length m) ++ x) (sym (response_bytes version result w))

-- the fault of a response: its numbers have none
pub also_none : (v : Verdict) → also v fine ≡ v
also_none fine = refl
also_none (bad f p) = refl

-- what was found of the arguments is no fault
pub is_fine : {x : Result Unit Refusal} {u : Unit} {v : Verdict} → x ≡ Ok u → verdict_of x ≡ v → v ≡ fine
is_fine e f = sym f ∙ ap verdict_of e

-- bytes that are put whole
pub puts_whole : (b : List ℕ) (at : ℕ) (bs : List ℕ) {m : ℕ} {c : List ℕ} → at + length bs ≤ length b → (m ≡ at + length bs) × (c ≡ put b at bs) → Puts b at (length bs) bs m c
puts_whole b at bs f e = puts b at (length bs) bs refl f e

module _ (p : Plan State) (b : List ℕ) where
  -- a login that is refused, and one that is taken
  pub refused : {a r : Result ℕ Refusal} {x : Refusal} → a ≡ shown_answer (answer_of p (length b)) → a ≡ Err x → r ≡ Err x → Told (carry p (closed 0) b) r b
  unfolding carry
  refused e f h = let s = shown_stop (answer_of p (length b)) e f in (h ∙ sym (rw s), sym (rw s))

  pub taken : {a : Result ℕ Refusal} {n : ℕ} {c : List ℕ} → a ≡ shown_answer (answer_of p (length b)) → a ≡ Ok n → c ≡ fill_all p.fills (put b p.at p.bytes) → Told (carry p (closed 0) b) (Ok n) c
  unfolding carry
  taken e f h = let s = shown_go (answer_of p (length b)) e f in (sym (rw s), h ∙ sym (rw s))

-- where a login that is taken ends
pub whole : (v : Verdict) (bs b : List ℕ) (total : ℕ) {a : Result ℕ Refusal} {n : ℕ} → length bs ≡ total → a ≡ shown_answer (answer_of (login_plan v bs) (length b)) → a ≡ Ok n → Whole n total (length b)
whole v bs b total l e f =
    let t = (accepts (login_plan v bs) zero b [] e f).accepted in
    record { is = t.reached ∙ zero-add (length bs) ∙ l; room = t.fits }

pub hash_none : (version h : ℕ) → (version ≡ 1 → ⊥) → hash_part version h ≡ []
hash_none version h n = hash_part_lem (eqb version 1) h ∙ rw (ne_eqb version 1 n)

pub hash_some : (version h : ℕ) → version ≡ 1 → hash_part version h ≡ num_bytes 1 h
hash_some version h e = hash_part_lem (eqb version 1) h ∙ rw (eq-eqb version 1 e)

-- a response's fault, by its result
pub response_fault_none : (version result : ℕ) (w : Welcome) → (result ≡ 0 → ⊥) → response_fault version result w ≡ test (leb version 1) Version 0
unfolding response_fault
response_fault_none version result w n = rw (ne_eqb result 0 n) (also_none (test (leb version 1) Version 0))

pub response_fault_some : (version result : ℕ) (w : Welcome) → result ≡ 0 → response_fault version result w ≡ also (test (leb version 1) Version 0) (text_fault utf8 0 w.build)
unfolding response_fault
response_fault_some version result w e = rw (eq-eqb result 0 e)

-- a response's answer is the same for all numbers
pub same_answer : (version result size : ℕ) (w u : Welcome) → w.build ≡ u.build
    → answer_of (login_plan (response_fault version result w) (message_bytes 2 (says version (a_login_response (written_response result w))))) size
    ≡ answer_of (login_plan (response_fault version result u) (message_bytes 2 (says version (a_login_response (written_response result u))))) size
unfolding response_fault
same_answer version result size w u e =
    let l : length (message_bytes 2 (says version (a_login_response (written_response result w)))) ≡ length (message_bytes 2 (says version (a_login_response (written_response result u)))) =
    response_length version result w ∙ ap (λ (x : List ℕ). 6 + pick (eqb result 0) (28 + length x) 0) e ∙ sym (response_length version result u) in
    ap₂ (λ (x : List ℕ) (n : ℕ). answer_at true (also (test (leb version 1) Version 0) (pick (eqb result 0) (text_fault utf8 0 x) fine)) true 0 n size) e l

-- how long a response is, by its result
pub response_length-none : (version result : ℕ) (w : Welcome) → (result ≡ 0 → ⊥) → length (message_bytes 2 (says version (a_login_response (written_response result w)))) ≡ 6
response_length-none version result w n = response_length version result w ∙ ap (λ (t : Bool). 6 + pick t (28 + length w.build) 0) (ne_eqb result 0 n)

pub response_length-some : (version result : ℕ) (w : Welcome) → result ≡ 0 → length (message_bytes 2 (says version (a_login_response (written_response result w)))) ≡ 34 + length w.build
response_length-some version result w e =
    let sum : 6 + (28 + length w.build) ≡ 34 + length w.build = omega arith in
    response_length version result w ∙ ap (λ (t : Bool). 6 + pick t (28 + length w.build) 0) (eq-eqb result 0 e) ∙ sum

pub request_length-by : (version hashing : ℕ) (service user hash : List ℕ) → length (message_bytes 1 (says version (a_login_request (written_request version hashing service user hash))))
    ≡ 5 + (pick (eqb version 1) 1 0 + (4 + length service + (4 + length user + length hash)))
request_length-by version hashing service user hash =
    request_length version hashing service user hash
    ∙ ap (λ (k : ℕ). 5 + (k + (4 + length service + (4 + length user + length hash)))) (hash_part_length version hashing)

-- a response's bytes, by its result
pub response_whole_none : (version result : ℕ) (w : Welcome) (n : ℕ) → (result ≡ 0 → ⊥) → n ≡ 6 + pick (eqb result 0) (28 + length w.build) 0
    → num_bytes 4 (n - 4) ++ (num_bytes 1 version ++ num_bytes 1 result) ≡ message_bytes 2 (says version (a_login_response (written_response result w)))
response_whole_none version result w n k e =
    ap (λ (x : List ℕ). num_bytes 4 (n - 4) ++ (num_bytes 1 version ++ x))
    (sym (append-nil (num_bytes 1 result)) ∙ ap (λ (t : Bool). num_bytes 1 result ++ pick t (server.bytes (server_of w)) []) (sym (ne_eqb result 0 k)))
    ∙ response_whole version result w n e

pub response_whole_some : (version result : ℕ) (w : Welcome) (n : ℕ) → result ≡ 0 → n ≡ 6 + pick (eqb result 0) (28 + length w.build) 0
    → num_bytes 4 (n - 4) ++ (num_bytes 1 version ++ (num_bytes 1 result ++ server.bytes (server_of w))) ≡ message_bytes 2 (says version (a_login_response (written_response result w)))
response_whole_some version result w n k e =
    ap (λ (t : Bool). num_bytes 4 (n - 4) ++ (num_bytes 1 version ++ (num_bytes 1 result ++ pick t (server.bytes (server_of w)) []))) (sym (eq-eqb result 0 k))
    ∙ response_whole version result w n e
