-- The demand on the writer, of calls of its functions. The calls that a good message spells are all accepted and write it (good_calls); and calls that are accepted,
-- from a login or a begin to a finish, have written a good message, which they spell and which the reader reads (calls_wrote).
use Prim.Native.Nat.{ℕ, ◌≤◌}
use mathlib.Core.Path.{◌≡◌, refl, sym, ap, ◌∙◌, subst}
use mathlib.Core.Bool.{true}
use mathlib.Core.List.{List, [], ◌∷◌, ◌++◌}
use lib.ListN.{length, take}
use Rattle.std.specs.Prelude.{Result, Ok}
use Rattle.format.specs.declared.Refusal.{Refusal}
use Rattle.format.specs.Result.{ok}
use Rattle.format.specs.Message.{Message, message_bytes, is_kind, GoodMessage, most_columns, read_message}
use Rattle.format.proofs.Results.{ok_same}
use Rattle.scan.proofs.Answers.{shown_go}
use Rattle.steps.specs.State.{State, closed, stage_number}
use Rattle.steps.specs.Plans.{Plan, Out, carry}
use Rattle.steps.specs.Logins.{login_request, login_response}
use Rattle.steps.specs.Steps.{Step, begin_call, finish_call, begin_reply, finish_reply, plan, step, run}
use Rattle.steps.specs.Spells.{AllHeld}
use Rattle.steps.specs.Writings.{Writing, request_call, response_call, call_steps, reply_steps, kind_of, written, HeldWriting, writing_of, overlaid}
use Rattle.steps.proofs.Plans.{carry_ok}
use Rattle.steps.proofs.Writes.{good_writes}
use Rattle.steps.proofs.Typed.{good_held}
use Rattle.steps.proofs.RoundTrip.{read_written}
use Rattle.write.specs.declared.State.{State as Code}
use Rattle.write.specs.Shown.{zero, seen, shown_answer, came, types_after, Told}
use Rattle.write.specs.Calls.{Left, Loan, nothing, look, whole, loan, Meets, Chain, Calls, CallsTo, Finished, Wrote}
use Rattle.write.proofs.Chain.{RunsTo, first_ok, run→chain, chain→run}

-- a login's answer is that of its definition
told→accepted : (o : Out State) (a : Result ℕ Refusal) (b' : List ℕ) (n : ℕ) (m : List ℕ) → Told o a b' → RunsTo o n m → (a ≡ Ok n) × (b' ≡ m)
told→accepted o a b' n m t e = (t.0 ∙ ap shown_answer e.0, t.1 ∙ e.1)

accepted→told : (o : Out State) (a : Result ℕ Refusal) (b' : List ℕ) (n : ℕ) (m : List ℕ) → Told o a b' → (a ≡ Ok n) × (b' ≡ m) → RunsTo o n m
accepted→told o a b' n m t e = (shown_go o.answer t.0 e.0, sym t.1 ∙ e.1)

-- what comes of a writing and what comes of its calls
written→calls : (w : Writing) (types b : List ℕ) → length types ≡ most_columns → (n : ℕ) (m : List ℕ) → RunsTo (written w (seen zero types) b) n m → (c : Calls w types b) → CallsTo w types b c n m
written→calls (request_call version h service user hash) types b long n m e c = told→accepted (login_request version h service user hash b) c.1 c.2 n m c.3 e
written→calls (response_call version result w) types b long n m e c = told→accepted (login_response version result w b) c.1 c.2 n m c.3 e
written→calls (call_steps version procedure client ss) types b long n m e c = run→chain (begin_call version procedure client) ss zero types b n m long e c.1 c.2 c.3
written→calls (reply_steps version o ss) types b long n m e c = run→chain (begin_reply version o) ss zero types b n m long e c.1 c.2 c.3

calls→written : (w : Writing) (types b : List ℕ) → length types ≡ most_columns → (n : ℕ) (m : List ℕ) → (c : Calls w types b) → CallsTo w types b c n m → RunsTo (written w (seen zero types) b) n m
calls→written (request_call version h service user hash) types b long n m c e = accepted→told (login_request version h service user hash b) c.1 c.2 n m c.3 e
calls→written (response_call version result w) types b long n m c e = accepted→told (login_response version result w b) c.1 c.2 n m c.3 e
calls→written (call_steps version procedure client ss) types b long n m c e = chain→run (begin_call version procedure client) ss zero types b n m long c.1 c.2 c.3 e
calls→written (reply_steps version o ss) types b long n m c e = chain→run (begin_reply version o) ss zero types b n m long c.1 c.2 c.3 e

-- ---- there are such calls: a function answers every input, by its contract, and what a good message spells is of the functions' types
called : (h : Loan) (s : Step) (st : Code) (types b : List ℕ) → (l : Left) × Meets h s st types b l
called nothing s st types b = let o = step s (seen st []) b in (record { came = came st o; types = types; buffer = o.buffer }, ((refl, refl), refl))
called look s st types b = let o = step s (seen st types) b in (record { came = came st o; types = types; buffer = o.buffer }, ((refl, refl), refl))
called whole s st types b = let o = step s (seen st []) b in (record { came = came st o; types = types_after o.answer o.state.outer.types types; buffer = o.buffer }, ((refl, refl), refl))

chained : (ss : List Step) → AllHeld ss → (l : Left) → Chain ss l
chained [] h l = tt
chained (s ∷ ss) h l = let n = called (loan s) s l.came.state l.types l.buffer in (h.0, n.0, n.1, chained ss h.1 n.0)

calls_of : (w : Writing) → HeldWriting w → (types b : List ℕ) → Calls w types b
calls_of (request_call version h service user hash) k types b = let o = login_request version h service user hash b in (k, shown_answer o.answer, o.buffer, (refl, refl))
calls_of (response_call version result w) k types b = let o = login_response version result w b in (k, shown_answer o.answer, o.buffer, (refl, refl))
calls_of (call_steps version procedure client ss) k types b =
    let n = called nothing (begin_call version procedure client) zero types b in
    ((k.0, k.1, k.2, tt), n.0, n.1, chained ss k.3 n.0)
calls_of (reply_steps version o ss) k types b = let n = called nothing (begin_reply version o) zero types b in ((k.0, k.1, tt), n.0, n.1, chained ss k.2 n.0)

pub spelled_calls : (kind : ℕ) (r : Message) → is_kind kind ≡ true → GoodMessage kind r → (types b : List ℕ) → Calls (writing_of r) types b
spelled_calls kind r known g types b = calls_of (writing_of r) (good_held kind r known g) types b

-- the calls that a good message spells, on a buffer with room for it: whatever they answer by their contracts, each is accepted, the last answers the message's length,
-- and the message stands in front of the buffer, with all behind it as it was. The memory for types is an array of as many bytes as a table may have columns.
pub good_calls : (kind : ℕ) (r : Message) → is_kind kind ≡ true → GoodMessage kind r → (types b : List ℕ) → length types ≡ most_columns → let m = message_bytes kind r in
    length m ≤ length b → (c : Calls (writing_of r) types b) → CallsTo (writing_of r) types b c (length m) (overlaid b m)
good_calls kind r known g types b long room c =
    let e = good_writes kind r known g (seen zero types) b room in
    written→calls (writing_of r) types b long _ _ (ap (λ (o : Out State). o.answer) e, ap (λ (o : Out State). o.buffer) e) c

-- what the arguments of all calls say, from what those of each say
all_held : (ss : List Step) (l : Left) → Chain ss l → AllHeld ss
all_held [] l c = tt
all_held (s ∷ ss) l c = (c.0, all_held ss c.1 c.3)

held : (w : Writing) (types b : List ℕ) → Calls w types b → HeldWriting w
held (request_call version h service user hash) types b c = c.0
held (response_call version result w) types b c = c.0
held (call_steps version procedure client ss) types b c = let h = c.0 in (h.0, h.1, h.2, all_held ss c.1 c.3)
held (reply_steps version o ss) types b c = let h = c.0 in (h.0, h.1, all_held ss c.1 c.3)

-- a plan after which nothing is open, a step of such plans, and steps that such a step ends
carry_closes : (p : Plan State) (st : State) (b : List ℕ) (n : ℕ) → ((m : ℕ) → p.next m ≡ closed m) → (carry p st b).answer ≡ ok n → stage_number (carry p st b).state.stage ≡ 0
carry_closes p st b n closes e = ap (λ (o : Out State). stage_number o.state.stage) (carry_ok p st b n e).1 ∙ ap (λ (x : State). stage_number x.stage) (closes n)

run_closes : (f : Step) → ((st : State) (size m : ℕ) → (plan f st size).next m ≡ closed m) → (ss : List Step) (st : State) (b : List ℕ) (n : ℕ)
    → (run (ss ++ (f ∷ [])) st b).answer ≡ ok n → stage_number (run (ss ++ (f ∷ [])) st b).state.stage ≡ 0
unfolding run step
run_closes f closes [] st b n e =
    let m = first_ok (step f st b) (run []) n e in
    rw m.1 (carry_closes (plan f st (length b)) st b m.0 (closes st (length b)) m.1)
run_closes f closes (s ∷ ss) st b n e =
    let m = first_ok (step s st b) (run (ss ++ (f ∷ []))) n e in
    rw m.1 (run_closes f closes ss (step s st b).state (step s st b).buffer n (rw m.1 at e))

closes : (w : Writing) → Finished w → (st : State) (b : List ℕ) (n : ℕ) → (written w st b).answer ≡ ok n → stage_number (written w st b).state.stage ≡ 0
unfolding login_request login_response
closes (request_call version h service user hash) f st b n e = carry_closes _ (closed 0) b n (λ m. refl) e
closes (response_call version result w) f st b n e = carry_closes _ (closed 0) b n (λ m. refl) e
closes (call_steps version procedure client ss) f st b n e = rw f.1 (run_closes finish_call (λ st size m. refl) (begin_call version procedure client ∷ f.0) st b n (rw f.1 at e))
closes (reply_steps version o ss) f st b n e = rw f.1 (run_closes finish_reply (λ st size m. refl) (begin_reply version o ∷ f.0) st b n (rw f.1 at e))

-- calls that are accepted from a login or a begin on, the last of them a finish, have written a good message
pub calls_wrote : (w : Writing) (types b : List ℕ) → length types ≡ most_columns → (c : Calls w types b) (n : ℕ) (b' : List ℕ) → CallsTo w types b c n b' → Finished w → Wrote w b n b'
calls_wrote w types b long c n b' to f =
    let st = seen zero types in
    let e = calls→written w types b long n b' c to in
    let r = read_written w (held w types b c) st b (n, e.0, closes w f st b n e.0) in
    record {
      message = r.message;
      good = r.good;
      spelled = r.spelled;
      size = ok_same (sym e.0 ∙ ap (λ (o : Out State). o.answer) r.wrote);
      buffer = sym e.1 ∙ ap (λ (o : Out State). o.buffer) r.wrote;
      read = subst (λ (x : List ℕ). read_message (kind_of w) (take n x) ≡ ok r.message) e.1 r.read;
    }
