-- Calls of the C interface are calls of the library: the state that is read from the numbers is the one that the last call left, and an answer's low 8 bits are 0
-- exactly if it is accepted. So what is proved of the library's calls (write/proofs/Calls) holds of them.
use Rattle.format.specs.declared.Refusal.{Refusal}
use Rattle.std.specs.Prelude.{Result, Ok, Err}
use Prim.Native.Nat.{ℕ, ◌+◌, ◌*◌, ◌%◌, ◌^◌, ◌<◌, ◌≤◌}
use native.Mathlib.Omega.{arith}
use native.Mathlib.Nat.{mod-eq_of_lt}
use mathlib.Core.Path.{◌≡◌, refl, sym, ap, ◌∙◌, subst}
use mathlib.Core.Bool.{Bool, true, false}
use mathlib.Core.List.{List, [], ◌∷◌}
use lib.ListN.{length, get_or, length-append}
use lib.Dec.{ltb}
use borrow.Author.Tests.{lt-ltb, ltb-true}
use Rattle.format.specs.declared.Fault.{Fault}
use Rattle.format.proofs.Decides.{number_small}
use Rattle.format.specs.Result.{Res, ok, no, pick, told}
use Rattle.format.specs.Value.{is_column}
use Rattle.format.specs.Message.{Message, message, message_bytes, is_kind, GoodMessage, most_columns}
use Rattle.format.proofs.Results.{no_ok, and_true_both}
use Rattle.format.proofs.Numbers.{length-num_bytes}
use Rattle.show.proofs.Kept.{among}
use Rattle.steps.specs.declared.Stage.{Stage}
use Rattle.steps.specs.declared.Stage.TheVariants.{Closed, Call, Array, Reply, Table, Row}
use Rattle.steps.specs.State.{State, stage_number, is_element}
use Rattle.steps.specs.Plans.{Out}
use Rattle.steps.specs.Steps.{Step, begin_call, null_param, one_param, bytes_param, open_array, element, close_array, finish_call, begin_reply, open_table, open_row, cell, close_row, close_table, finish_reply, plan, step, run}
use Rattle.steps.specs.Logins.{login_request, login_response}
use Rattle.steps.specs.Writings.{Writing, request_call, response_call, call_steps, reply_steps, kind_of, written, writing_of, overlaid}
use Rattle.steps.proofs.Writes.{good_writes}
use Rattle.steps.proofs.Plans.{Accepted}
use Rattle.steps.proofs.Accepted.{step_ok}
use Rattle.steps.proofs.Back.{test_fine}
use Rattle.write.specs.declared.State.{State as Code}
use Rattle.write.specs.declared.Outcome.{Outcome}
use Rattle.write.specs.Shown.{zero, seen, shown, shown_answer, answered, came}
use Rattle.write.specs.Calls as library
use Rattle.write.specs.Calls.{Loan, nothing, look, whole, loan, Finished}
use Rattle.write.proofs.Chain.{lent, came_ok, goes→accepted, RunsTo, first_ok, run→chain}
use Rattle.write.proofs.Calls.{calls_wrote as library-wrote}
use Rattle.numbers.specs.Packed.{above, packed, packed_no, itself}
use Rattle.numbers.specs.Stored.{stage_of, state_of, numbers_of, listed, WroteFrom, WroteLogin}
use Rattle.numbers.specs.Calls.{Left, Meets, Begun, Chain, ChainTo, Calls, CallsTo}
use Rattle.numbers.proofs.Kept.{answer_packed, told_shown_lem}

-- an answer's low 8 bits
above_accepted : (n : ℕ) → above n % 2 ^ 8 ≡ 0
above_accepted n = omega arith

refused_not : (f : Fault) (p : ℕ) → packed_no f p % 2 ^ 8 ≡ 0 → ⊥
refused_not f p e = let s = number_small f in omega (arith, s.0, s.1)

above_whole : (n : ℕ) → n < 2 ^ 56 → above n ≡ n * 2 ^ 8
above_whole n h = mod-eq_of_lt (omega arith)

-- a packed answer that is accepted
packed_ok : (a : Result ℕ Refusal) (r : ℕ) → r ≡ packed itself (told a) → r % 2 ^ 8 ≡ 0 → (m : ℕ) × (a ≡ Ok m) × (r ≡ above m)
packed_ok (Ok m) r e z = (m, refl, e)
packed_ok (Err x) r e z = absurd (refused_not x.fault x.place (ap (λ (n : ℕ). n % 2 ^ 8) (sym e) ∙ z))

ok_packed : (a : Result ℕ Refusal) (r n : ℕ) → r ≡ packed itself (told a) → a ≡ Ok n → r ≡ above n
ok_packed a r n e i = e ∙ ap (λ (x : Result ℕ Refusal). packed itself (told x)) i

-- the state that is read from a state's numbers
stage_again : (s : Stage) → stage_of (stage_number s) ≡ s
stage_again Closed = refl
stage_again Call = refl
stage_again Array = refl
stage_again Reply = refl
stage_again Table = refl
stage_again Row = refl

state_again : (s : Code) → s.inner_type < 256 → state_of (numbers_of s) ≡ s
state_again s h = rw (stage_again s.stage, lt-ltb s.inner_type 256 h) refl

-- a step leaves an element type that is a byte
element_byte : (t : ℕ) → is_element t ≡ true → t < 256
element_byte t e =
    among (λ (t : ℕ). t < 256) (omega arith) (omega arith) (omega arith) (omega arith) (omega arith) (omega arith) (omega arith) (omega arith) (omega arith) (omega arith) (omega arith)
    t (and_true_both (is_column t) _ e).0

next_byte : (s : Step) (st : State) (size n : ℕ) → st.inner.type < 256 → Accepted (plan s st size) size n → ((plan s st size).next n).inner.type < 256
next_byte (begin_call version procedure client) st size n h a = omega arith
next_byte null_param st size n h a = omega arith
next_byte (one_param t v) st size n h a = omega arith
next_byte (bytes_param bs) st size n h a = omega arith
next_byte (open_array t) st size n h a = element_byte t (test_fine (is_element t) _ st.position a.fine.faultless)
next_byte (element t v) st size n h a = h
next_byte close_array st size n h a = omega arith
next_byte finish_call st size n h a = omega arith
next_byte (begin_reply version o) st size n h a = omega arith
next_byte (open_table status cs) st size n h a = omega arith
next_byte open_row st size n h a = omega arith
next_byte (cell t v) st size n h a = omega arith
next_byte close_row st size n h a = omega arith
next_byte close_table st size n h a = omega arith
next_byte finish_reply st size n h a = omega arith

step_byte : (s : Step) (st : State) (b : List ℕ) (n : ℕ) → st.inner.type < 256 → (step s st b).answer ≡ ok n → (step s st b).state.inner.type < 256
step_byte s st b n h e =
    let w = step_ok s st b n e in
    subst (λ (o : Out State). o.state.inner.type < 256) (sym w.1) (next_byte s st (length b) n h w.0)

read_byte : (ns : List ℕ) → (state_of ns).inner_type < 256
read_byte ns = go (ltb (get_or ns 5 0) 256) refl
  where
    go : (t : Bool) → ltb (get_or ns 5 0) 256 ≡ t → pick t (get_or ns 5 0) 0 < 256
    go true e = ltb-true (get_or ns 5 0) 256 e
    go false e = omega arith

-- a call of the interface that left l is one of the library with this outcome
pub record Same (o : Outcome) (l : Left) : Type 0 where
  pub answer : l.answer ≡ packed itself (told o.answer)
  pub state : state_of l.numbers ≡ o.state

abbrev in_library : Outcome → Left → library.Left
in_library o l = record { came = o; types = l.types; buffer = l.buffer }

-- the numbers say the state that was left, if they said the one before where a refusal leaves them
state_left : (st : Code) (ns : List ℕ) (a : Res ℕ) (x : State) → ((n : ℕ) → a ≡ ok n → x.inner.type < 256) → ((f : Fault) (p : ℕ) → a ≡ no f p → state_of ns ≡ st)
    → state_of (listed ns a x) ≡ (answered st a x).state
state_left st ns (ok n) x h e = state_again (shown x) (h n refl)
state_left st ns (no f p) x h e = e f p refl

same_from : (s : Step) (st : Code) (ns types b : List ℕ) (l : Left) → st.inner_type < 256 → ((f : Fault) (p : ℕ) → (step s (seen st types) b).answer ≡ no f p → state_of ns ≡ st)
    → WroteFrom s st ns types b l.answer l.numbers l.buffer → Same (came st (step s (seen st types) b)) l
same_from s st ns types b l h e w =
    let o = step s (seen st types) b in
    record {
      answer = w.0 ∙ sym (answer_packed st o.answer o.state);
      state = ap state_of w.1 ∙ state_left st ns o.answer o.state (λ n i. step_byte s (seen st types) b n h i) e;
    }

-- by what it is lent
same : (h : Loan) (s : Step) (ns types b : List ℕ) (l : Left) → Meets h s ns types b l → let st = state_of ns in let o = came st (step s (seen st (lent h types)) b) in
    library.Meets h s st types b (in_library o l) × Same o l
same nothing s ns types b l m = (((refl, m.0.2), m.1), same_from s (state_of ns) ns [] b l (read_byte ns) (λ f p i. refl) m.0)
same look s ns types b l m = (((refl, m.0.2), m.1), same_from s (state_of ns) ns types b l (read_byte ns) (λ f p i. refl) m.0)
same whole s ns types b l m = (((refl, m.0.2), m.1), same_from s (state_of ns) ns [] b l (read_byte ns) (λ f p i. refl) m.0)

-- calls of the interface as calls of the library
abbrev outcome : Step → Left → Outcome
outcome s l = let st = state_of l.numbers in came st (step s (seen st (lent (loan s) l.types)) l.buffer)

to_library : (ss : List Step) (l : Left) (o : Outcome) → Same o l → Chain ss l → library.Chain ss (in_library o l)
to_library [] l o e c = tt
to_library (s ∷ ss) l o e c =
    let next = in_library (outcome s l) c.1 in
    let k = same (loan s) s l.numbers l.types l.buffer c.1 c.2 in
    (c.0, next, subst (λ (st : Code). library.Called s st l.types l.buffer next) e.state k.0, to_library ss c.1 (outcome s l) k.1 c.3)

chain_there : (ss : List Step) (l : Left) (o : Outcome) (e : Same o l) (c : Chain ss l) (n : ℕ) (b' : List ℕ) → ChainTo ss l c n b'
    → (m : ℕ) × (n * 2 ^ 8 ≡ above m) × library.ChainTo ss (in_library o l) (to_library ss l o e c) m b'
unfolding to_library
chain_there [] l o e c n b' to =
    let a = packed_ok o.answer l.answer e.answer (ap (λ (x : ℕ). x % 2 ^ 8) to.0 ∙ omega arith) in
    (a.0, sym to.0 ∙ a.2, (a.1, to.1))
chain_there (s ∷ ss) l o e c n b' to =
    let k = same (loan s) s l.numbers l.types l.buffer c.1 c.2 in
    let a = packed_ok o.answer l.answer e.answer to.0 in
    let r = chain_there ss c.1 (outcome s l) k.1 c.3 n b' to.1 in
    (r.0, r.1, ((a.0, a.1), r.2))

chain_here : (ss : List Step) (l : Left) (o : Outcome) (e : Same o l) (c : Chain ss l) (n : ℕ) (b' : List ℕ) → n < 2 ^ 56
    → library.ChainTo ss (in_library o l) (to_library ss l o e c) n b' → ChainTo ss l c n b'
unfolding to_library
chain_here [] l o e c n b' few to = (ok_packed o.answer l.answer n e.answer to.0 ∙ above_whole n few, to.1)
chain_here (s ∷ ss) l o e c n b' few to =
    let k = same (loan s) s l.numbers l.types l.buffer c.1 c.2 in
    let a = ok_packed o.answer l.answer to.0.0 e.answer to.0.1 in
    (ap (λ (x : ℕ). x % 2 ^ 8) a ∙ above_accepted to.0.0, chain_here ss c.1 (outcome s l) k.1 c.3 n b' few to.1)

-- the first of some calls that are all accepted
first_accepted : (ss : List Step) (l : Left) (c : Chain ss l) (n : ℕ) (b' : List ℕ) → ChainTo ss l c n b' → l.answer % 2 ^ 8 ≡ 0
first_accepted [] l c n b' to = ap (λ (x : ℕ). x % 2 ^ 8) to.0 ∙ omega arith
first_accepted (s ∷ ss) l c n b' to = to.0

-- a begin, which reads no state, and the steps behind it
abbrev begun : Step → List ℕ → Outcome
begun s b = came zero (step s (seen zero []) b)

module _ (s : Step) (ss : List Step) (ns types b : List ℕ) (l : Left) (w : Begun s ns types b l) (long : length types ≡ most_columns)
    (known : library.Called s zero types b (in_library (begun s b) l)) where
  begun_same : (n : ℕ) → (begun s b).answer ≡ Ok n → Same (begun s b) l
  begun_same n e =
      let x = step s (seen zero []) b in
      same_from s zero ns [] b l (omega arith) (λ f p i. absurd (no_ok (sym i ∙ came_ok zero x n e))) w.0

  steps_here : (c : Chain ss l) (n : ℕ) (b' : List ℕ) → n < 2 ^ 56 → RunsTo (run (s ∷ ss) (seen zero types) b) n b' → ChainTo ss l c n b'
  unfolding run
  steps_here c n b' few e =
      let m = first_ok (step s (seen zero types) b) (run ss) n e.0 in
      let k = begun_same m.0 (goes→accepted s zero types b long (in_library (begun s b) l) known m.0 m.1) in
      chain_here ss l (begun s b) k c n b' few (run→chain s ss zero types b n b' long e (in_library (begun s b) l) known (to_library ss l (begun s b) k c))

  steps_there : (c : Chain ss l) (n : ℕ) (b' : List ℕ) → ChainTo ss l c n b'
      → (m : ℕ) × (n * 2 ^ 8 ≡ above m) × (d : library.Chain ss (in_library (begun s b) l)) × library.ChainTo ss (in_library (begun s b) l) d m b'
  steps_there c n b' to =
      let x = step s (seen zero []) b in
      let a = packed_ok (begun s b).answer l.answer (w.0.0 ∙ sym (answer_packed zero x.answer x.state)) (first_accepted ss l c n b' to) in
      let k = begun_same a.0 a.1 in
      let r = chain_there ss l (begun s b) k c n b' to in
      (r.0, r.1, to_library ss l (begun s b) k c, r.2)

-- a login
login_here : (o : Out State) (r : ℕ) (b' : List ℕ) → WroteLogin o r b' → (n : ℕ) (m : List ℕ) → n < 2 ^ 56 → RunsTo o n m → (r ≡ n * 2 ^ 8) × (b' ≡ m)
login_here o r b' w n m few e = (w.0 ∙ ap (packed itself) e.0 ∙ above_whole n few, w.1 ∙ e.1)

login_there : (o : Out State) (r : ℕ) (b' : List ℕ) → WroteLogin o r b' → (n : ℕ) (m : List ℕ) → (r ≡ n * 2 ^ 8) × (b' ≡ m)
    → (k : ℕ) × (n * 2 ^ 8 ≡ above k) × (shown_answer o.answer ≡ Ok k) × (b' ≡ m)
login_there o r b' w n m to =
    let a = packed_ok (shown_answer o.answer) r (w.0 ∙ ap (packed itself) (sym (told_shown_lem o.answer))) (ap (λ (x : ℕ). x % 2 ^ 8) to.0 ∙ omega arith) in
    (a.0, sym to.0 ∙ a.2, a.1, to.1)

-- for every writing
module _ (ns types b : List ℕ) (long : length types ≡ most_columns) where
  written→calls : (w : Writing) (n : ℕ) (m : List ℕ) → n < 2 ^ 56 → RunsTo (written w (seen zero types) b) n m → (c : Calls w ns types b) → CallsTo w ns types b c n m
  written→calls (request_call version h service user hash) n m few e c = login_here (login_request version h service user hash b) c.1 c.2 c.3 n m few e
  written→calls (response_call version result w) n m few e c = login_here (login_response version result w b) c.1 c.2 c.3 n m few e
  written→calls (call_steps version procedure client ss) n m few e c =
      steps_here (begin_call version procedure client) ss ns types b c.1 c.2 long ((refl, c.2.0.2), c.2.1) c.3 n m few e
  written→calls (reply_steps version o ss) n m few e c = steps_here (begin_reply version o) ss ns types b c.1 c.2 long ((refl, c.2.0.2), c.2.1) c.3 n m few e

  calls→library : (w : Writing) (c : Calls w ns types b) (n : ℕ) (b' : List ℕ) → CallsTo w ns types b c n b'
      → (m : ℕ) × (n * 2 ^ 8 ≡ above m) × (d : library.Calls w types b) × library.CallsTo w types b d m b'
  calls→library (request_call version h service user hash) c n b' to =
      let o = login_request version h service user hash b in
      let k = login_there o c.1 c.2 c.3 n b' to in
      (k.0, k.1, (c.0, shown_answer o.answer, c.2, (refl, c.3.1)), (k.2, k.3))
  calls→library (response_call version result w) c n b' to =
      let o = login_response version result w b in
      let k = login_there o c.1 c.2 c.3 n b' to in
      (k.0, k.1, (c.0, shown_answer o.answer, c.2, (refl, c.3.1)), (k.2, k.3))
  calls→library (call_steps version procedure client ss) c n b' to =
      let s = begin_call version procedure client in
      let known : library.Called s zero types b (in_library (begun s b) c.1) = ((refl, c.2.0.2), c.2.1) in
      let k = steps_there s ss ns types b c.1 c.2 long known c.3 n b' to in
      (k.0, k.1, (c.0, in_library (begun s b) c.1, known, k.2), k.3)
  calls→library (reply_steps version o ss) c n b' to =
      let s = begin_reply version o in
      let known : library.Called s zero types b (in_library (begun s b) c.1) = ((refl, c.2.0.2), c.2.1) in
      let k = steps_there s ss ns types b c.1 c.2 long known c.3 n b' to in
      (k.0, k.1, (c.0, in_library (begun s b) c.1, known, k.2), k.3)

-- a good message's length is told whole
good_few : (kind : ℕ) (r : Message) → GoodMessage kind r → length (message_bytes kind r) < 2 ^ 56
good_few kind r g =
    let size : length (message_bytes kind r) ≡ 4 + length ((message kind).bytes r) = simp (length-append, length-num_bytes) in
    omega (arith, g.few_bytes)

-- the calls that a good message spells are accepted and write it
pub good_calls : (kind : ℕ) (r : Message) → is_kind kind ≡ true → GoodMessage kind r → (ns types b : List ℕ) → length types ≡ most_columns → let m = message_bytes kind r in
    length m ≤ length b → (c : Calls (writing_of r) ns types b) → CallsTo (writing_of r) ns types b c (length m) (overlaid b m)
good_calls kind r known g ns types b long room c =
    let e = good_writes kind r known g (seen zero types) b room in
    written→calls ns types b long (writing_of r) _ _ (good_few kind r g) (ap (λ (o : Out State). o.answer) e, ap (λ (o : Out State). o.buffer) e) c

-- calls that are accepted to a finish have written a good message
pub calls_wrote : (w : Writing) (ns types b : List ℕ) → length types ≡ most_columns → (c : Calls w ns types b) (n : ℕ) (b' : List ℕ) → CallsTo w ns types b c n b' → Finished w → library.Wrote w b n b'
calls_wrote w ns types b long c n b' to f =
    let k = calls→library ns types b long w c n b' to in
    let r = library-wrote w types b long k.2 k.0 b' k.3 f in
    let few : k.0 < 2 ^ 56 = subst (λ (z : ℕ). z < 2 ^ 56) (sym r.size) (good_few (kind_of w) r.message r.good) in
    let same_size : n * 2 ^ 8 ≡ k.0 * 2 ^ 8 = k.1 ∙ above_whole k.0 few in
    let is : k.0 ≡ n = omega arith in
    subst (λ (z : ℕ). library.Wrote w b z b') is r
