-- The walk over a whole message, made from the walks over its length, its version and its content.
use Rattle.std.specs.Prelude.{Result, Ok, Err}
use Rattle.std.proofs.Common.{◌≡◌, ℕ, eqb, leb, List, length, refl, ap, ◌∙◌, ne_eqb}
use Rattle.format.specs.declared.Fault.TheVariants.{Version}
use Rattle.format.specs.declared.Refusal.{Refusal}
use Rattle.format.specs.Result.{Res, ok, no, bind, told}
use Rattle.format.specs.Number.{Bytes}
use Rattle.format.specs.Format.{Index, Entry, number, both, piece}
use Rattle.format.specs.Message.{Message, message, read_message, message_fields, no_index, content_of, newest, login_request, login_response, invocation, response, a_login_request, a_login_response, an_invocation, a_response, the_login_request, the_login_response, the_invocation, the_response}
use Rattle.format.proofs.Laws.{lawful_number, lawful_ruled, lawful_both}
use Rattle.format.proofs.Formats.{lawful_login_request, lawful_login_response, lawful_invocation, lawful_response, lawful_content_of}
use Rattle.format.proofs.Demands.{accepted→passed}
use Rattle.scan.proofs.Answers.{took}
use Rattle.message.specs.Verdict.{verdict_of}
use Rattle.message.proofs.Accepted.{verdict_go, verdict_stop}
use Rattle.message.proofs.Whole.{versioned}
use Rattle.tally.specs.declared.Task.{Task}
use Rattle.tally.specs.declared.Tour.{Tour}
use Rattle.tally.specs.Task.{State, doing, visited}
use Rattle.tour.specs.Tour.{fields_of, task_after, out_after}
use Rattle.tally.specs.Walks.{state_of, Walked}
use Rattle.tour.specs.Whole.{Whole}
use Rattle.tally.proofs.Visits.{visited_both}
use Rattle.tally.proofs.Tours.{walked_into}

module _ (s : List ℕ) (by : Bytes s) {ix : Index} {tour : Tour} {out : List ℕ} {after : Tour} {written : List ℕ} (layout version : ℕ) where
  -- the content of each layout
  pub walked_1 : layout ≡ 1 → Walked (login_request version) s ix tour out after written → Walked (content_of layout version) s ix tour out after written
  unfolding content_of
  walked_1 is t = rw is (walked_into s a_login_request the_login_request by (lawful_login_request version) (λ v g. refl) t)

  pub walked_2 : layout ≡ 2 → Walked login_response s ix tour out after written → Walked (content_of layout version) s ix tour out after written
  unfolding content_of
  walked_2 is t = rw is (walked_into s a_login_response the_login_response by lawful_login_response (λ v g. refl) t)

  pub walked_3 : layout ≡ 3 → Walked invocation s ix tour out after written → Walked (content_of layout version) s ix tour out after written
  unfolding content_of
  walked_3 is t = rw is (walked_into s an_invocation the_invocation by lawful_invocation (λ v g. refl) t)

  pub walked_4 : (layout ≡ 1 → ⊥) → (layout ≡ 2 → ⊥) → (layout ≡ 3 → ⊥) → Walked (response (eqb layout 4)) s ix tour out after written → Walked (content_of layout version) s ix tour out after written
  unfolding content_of
  walked_4 a b c t = rw (ne_eqb layout 1 a, ne_eqb layout 2 b, ne_eqb layout 3 c) (walked_into s a_response the_response by (lawful_response (eqb layout 4)) (λ v g. refl) t)

module _ (layout : ℕ) (m : List ℕ) (by : Bytes m) {tour : Tour} {out : List ℕ} {after : Tour} {written : List ℕ} where
  walked_message : Walked (both (versioned layout) (content_of layout)) m no_index tour out after written → Walked (message layout) m no_index tour out after written
  unfolding message
  walked_message t =
      walked_into m (λ v. record { version = v.0; content = v.1 }) (λ l. (l.version, l.content)) by
      (lawful_both (lawful_ruled (λ n. leb n (newest layout)) Version (lawful_number 1 2)) (lawful_content_of layout)) (λ v g. refl) t

module _ (layout : ℕ) (m : List ℕ) (by : Bytes m) {start : Tour} {out : List ℕ} {mid : Tour} {written : List ℕ} {after : Tour} {more : List ℕ} where
  pub walked_whole : start.at ≡ 0 → Walked (number 4 1) m no_index start out mid written → Walked (both (versioned layout) (content_of layout)) m no_index mid written after more
      → (r : Message) → read_message layout m ≡ ok r → (after.at ≡ length m) × (state_of after more ≡ visited (state_of start out) (message_fields layout r))
  unfolding number
  walked_whole none t u r e =
      let p = accepted→passed layout m r e in
      let x = t.goes p.n p.next (rw none p.length-read) in
      let four : mid.at ≡ 4 = x.0 ∙ (took 4 1 m 0 p.n p.next p.length-read).place in
      let y = (walked_message layout m by u).goes r (length m) (rw four p.message_read) in
      let first : state_of mid written ≡ visited (state_of start out) (piece 4 0 1 no_index) = rw none at x.1 in
      let second : state_of after more ≡ visited (state_of mid written) ((message layout).fields no_index 4 r) = rw four at y.1 in
      (y.0, rw (visited_both, ← first) second)

-- the answer of a tour that met the fields es, where those are what there is
pub tour_met : {x : Res (List Entry)} {es : List Entry} (st : State) {after : State} → x ≡ ok es → after ≡ visited st es → (ok after.task ≡ task_after x st) × (after.out ≡ out_after x st)
tour_met st are state = (rw are (ap (λ (z : State). ok z.task) state), rw are (ap (λ (z : State). z.out) state))

-- the answer of a tour over a message that is refused, and over one that is accepted
pub tour_refused : (layout : ℕ) (m : List ℕ) (st : State) {v : Result Unit Refusal} {x : Refusal} → told v ≡ verdict_of (read_message layout m) → v ≡ Err x
    → (no x.fault x.place ≡ task_after (fields_of layout m) st) × (st.out ≡ out_after (fields_of layout m) st)
tour_refused layout m st told none = rw (verdict_stop (read_message layout m) told none) (refl, refl)

pub tour_accepted : (layout : ℕ) (m : List ℕ) (task : Task) (out : List ℕ) {after : Tour} {written : List ℕ} {v : Result Unit Refusal} → told v ≡ verdict_of (read_message layout m) → v ≡ Ok tt
    → Whole layout m task out after written → (ok after.task ≡ task_after (fields_of layout m) (doing task out)) × (written ≡ out_after (fields_of layout m) (doing task out))
tour_accepted layout m task out {after} {written} told fine w =
    let go = verdict_go (read_message layout m) told fine in
    let es = message_fields layout go.0 in
    let are : fields_of layout m ≡ ok es = ap (λ (x : Res Message). bind x (λ q. ok (message_fields layout q))) go.1 in
    tour_met (doing task out) are (w.goes go.0 go.1).1
