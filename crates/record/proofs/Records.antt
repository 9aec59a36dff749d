-- What the code reads of an accepted message is its record, kind by kind.
use Rattle.record.specs.declared.Field.{Field}
use Rattle.std.specs.Prelude.{Some, None}
use Rattle.std.specs.Prelude as std
use Rattle.std.specs.Prelude.{Result, Ok, Err}
use Prim.Native.Nat.{ℕ, ◌+◌, ◌%◌, min}
use mathlib.Core.Path.{◌≡◌, refl, sym, ◌∙◌, ap, ap₂, subst}
use mathlib.Core.Bool.{Bool, true, false}
use mathlib.Core.List.{List}
use mathlib.Core.Option.{Option, some, none, get_or}
use lib.ListN.{length, take, drop}
use lib.Dec.{eqb}
use lib.IntN.{ℤ}
use native.Mathlib.Omega.{arith}
use Rattle.format.specs.declared.Fault.TheVariants.{Flags}
use Rattle.format.specs.declared.Refusal.{Refusal}
use Rattle.format.specs.Result.{Res, ok, no, told}
use Rattle.format.specs.Format.{Format, number, block, both, present, nothing}
use Rattle.format.specs.Text.{utf8}
use Rattle.format.specs.Message as wire
use Rattle.format.specs.Message.{Message, Server, content_of, read_message, login_request, login_response, server, no_server, invocation, response_layout, response, head, app_stated, tripped, flag_byte, after_flags, text, edition, flagged, most_items, first, param, table}
use Rattle.format.proofs.Results.{ok_same}
use Rattle.message.specs.Verdict.{verdict_of}
use Rattle.message.proofs.Accepted.{verdict_go, verdict_stop}
use Rattle.scan.specs.Signed.{signed}
use Rattle.places.specs.Places.{after_text, after_note, after_number, trip_size}
use Rattle.places.proofs.Readings.{block_size, both_parts, into_parts, ruled_part}
use Rattle.places.proofs.Contents.{content_response}
use Rattle.places.proofs.Replies.{tabled}
use Rattle.places.proofs.Calls.{call_1, call_2}
use Rattle.record.specs.declared.Span.{Span}
use Rattle.record.specs.declared.Noted.{Noted}
use Rattle.record.specs.declared.LoginRequestRecord.{LoginRequestRecord}
use Rattle.record.specs.declared.ResponseRecord.{ResponseRecord}
use Rattle.record.specs.Spans.{span_of, note_of}
use Rattle.record.specs.Records.{record_in, login_request_of, login_response_of, invocation_of, response_of}
use Rattle.record.specs.Peeks.{number_at, text_at, noted_at, block_at, login_at, login_request_at, server_at, login_response_at, invocation_at}
use Rattle.record.proofs.Fields.{spot}
use Rattle.record.proofs.Holds.{HoldsNote}
use Rattle.record.proofs.Says.{number_says, text_says, list_says, trip_says, notice, number_both, ruled_both, block_both, text_both, noted_both, said}

-- ---- an answer's record
module _ {A : Type 0} (show : Message → A) (w : Res Message) {v : Result Unit Refusal} (e : told v ≡ verdict_of w) where
  pub fine_record : (x : A) → v ≡ Ok tt → ((r : Message) → w ≡ ok r → x ≡ show r) → ok x ≡ record_in show w
  fine_record x fine says = let g = verdict_go w e fine in ap ok (says g.0 g.1) ∙ sym (ap (record_in show) g.1)

  pub refused_record : {q : Refusal} → v ≡ Err q → no q.fault q.place ≡ record_in show w
  refused_record bad = sym (ap (record_in show) (verdict_stop w e bad))

-- ---- kind 1: from the service on
abbrev pub Rest : Option ℕ → Format (Option (List ℕ) × (Option (List ℕ) × List ℕ))
Rest h = both (text 4 5) (λ s. both (text 6 7) (λ u. block (wire.hash_size h) 8))

module _ (m : List ℕ) (v : ℕ) (version : number_at m 4 1 ≡ record { value = v; next = 5 }) where
  login_put : (at size : ℕ) (e : (std.Option ℤ)) (s u : Option (List ℕ)) (bs : List ℕ)
      → text_at m at false ≡ spot (span_of at s) (after_text at s) → text_at m (after_text at s) false ≡ spot (span_of (after_text at s) u) (after_text (after_text at s) u) → length bs ≡ size
      → login_at m at v e size ≡ record {
        version = signed 1 v;
        hash_version = e;
        service = span_of at s;
        user = span_of (after_text at s) u;
        hash = Span.At (after_text (after_text at s) u) (length bs);
      }
  login_put at size e s u bs p q r = rw (p, q, r)

  -- from the service on
  login_rest : (at : ℕ) (e : (std.Option ℤ)) (h : Option ℕ) (a : Option (List ℕ) × (Option (List ℕ) × List ℕ)) (end : ℕ)
      → (both (text 4 5) (λ s. both (text 6 7) (λ u. block (wire.hash_size h) 8))).read m at ≡ ok (a, end)
      → login_at m at v e (wire.hash_size h) ≡ record {
        version = signed 1 v;
        hash_version = e;
        service = span_of at a.0;
        user = span_of (after_text at a.0) a.1.0;
        hash = Span.At (after_text (after_text at a.0) a.1.0) (length a.1.1);
      }
  login_rest at e h a end read =
      let q₁ = text_both m at false utf8 4 5 (λ s. both (text 6 7) (λ u. block (wire.hash_size h) 8)) a end read in
      let q₂ = text_both m (after_text at a.0) false utf8 6 7 (λ u. block (wire.hash_size h) 8) a.1 end q₁.1 in
      login_put at (wire.hash_size h) e a.0 a.1.0 a.1.1 q₁.0 q₂.0 (block_size m _ (wire.hash_size h) 8 a.1.1 end q₂.1)

  abbrev put : Option (List ℕ) × (Option (List ℕ) × List ℕ) → Option ℕ → LoginRequestRecord
  put a h = login_request_of v (record { hash_version = h; service = a.0; user = a.1.0; hash = a.1.1 })

  by_version : (t : Bool) → eqb v 1 ≡ t → (h : Option ℕ) (mid : ℕ) (a : Option (List ℕ) × (Option (List ℕ) × List ℕ)) (end : ℕ)
      → (present t 0 (edition 3)).read m 5 ≡ ok (h, mid) → (Rest h).read m mid ≡ ok (a, end)
      → login_request_at m ≡ put a h
  unfolding present nothing
  by_version true is h mid a end first rest =
      let p = into_parts m some _ (edition 3) 5 h mid first in
      let n = number_says m 5 1 3 p.0 mid (ruled_part m _ _ (number 1 3) 5 p.0 mid p.1) in
      let read : (Rest (some p.0)).read m 6 ≡ ok (a, end) = ap₂ (λ (x : Option ℕ) (y : ℕ). (Rest x).read m y) p.2 (sym n.1) ∙ rest in
      rw (version, is, n.0) (login_rest 6 (Some (signed 1 p.0)) (some p.0) a end read ∙ ap (put a) p.2)
  by_version false is h mid a end first rest =
      let same = ok_same first in
      let gone : none ≡ h = ap (λ (w : Option ℕ × ℕ). w.0) same in
      let at : 5 ≡ mid = ap (λ (w : Option ℕ × ℕ). w.1) same in
      let read : (Rest none).read m 5 ≡ ok (a, end) = ap₂ (λ (x : Option ℕ) (y : ℕ). (Rest x).read m y) gone at ∙ rest in
      rw (version, is) (login_rest 5 None none a end read ∙ ap (put a) gone)

  login_says : (l : wire.LoginRequest) (end : ℕ) → (login_request v).read m 5 ≡ ok (l, end) → login_request_at m ≡ login_request_of v l
  unfolding login_request
  login_says l end e =
      let p = into_parts m _ _ (both (present (eqb v 1) 0 (edition 3)) Rest) 5 l end e in
      let q = both_parts m (present (eqb v 1) 0 (edition 3)) Rest 5 p.0 end p.1 in
      by_version (eqb v 1) refl p.0.0 q.0 p.0.1 end q.1 q.2 ∙ ap (login_request_of v) p.2

pub login_request_says : (m : List ℕ) (r : Message) → read_message 1 m ≡ ok r → login_request_at m ≡ login_request_of r.version (wire.the_login_request r.content)
unfolding content_of
login_request_says m r e =
    let t = said 1 m r e in
    let p = into_parts m wire.a_login_request _ (login_request r.version) 5 r.content (length m) t.content in
    login_says m r.version t.version p.0 (length m) p.1 ∙ ap (λ (c : wire.Content). login_request_of r.version (wire.the_login_request c)) p.2

-- ---- kind 2
module _ (m : List ℕ) (v : ℕ) (version : number_at m 4 1 ≡ record { value = v; next = 5 }) where
  server_says : (r : ℕ) (x : Server) (end : ℕ) → server.read m 6 ≡ ok (x, end) → server_at m v r ≡ login_response_of v r (some x)
  unfolding server
  server_says r x end e =
      let p = into_parts m _ _ (both (number 4 11) (λ a. both (number 8 12) (λ b. both (number 8 13) (λ c. both (number 4 14) (λ d. text 15 16))))) 6 x end e in
      let a = p.0 in
      let q₁ = number_both m 6 4 11 (λ a. both (number 8 12) (λ b. both (number 8 13) (λ c. both (number 4 14) (λ d. text 15 16)))) a end p.1 in
      let q₂ = number_both m 10 8 12 (λ b. both (number 8 13) (λ c. both (number 4 14) (λ d. text 15 16))) a.1 end q₁.1 in
      let q₃ = number_both m 18 8 13 (λ c. both (number 4 14) (λ d. text 15 16)) a.1.1 end q₂.1 in
      let q₄ = number_both m 26 4 14 (λ d. text 15 16) a.1.1.1 end q₃.1 in
      let q₅ = text_says m 30 false utf8 15 16 a.1.1.1.1 end q₄.1 in
      rw (q₁.0, q₂.0, q₃.0, q₄.0, q₅.0) (ap (λ (y : Server). login_response_of v r (some y)) p.2)

  by_result : (t : Bool) (r : ℕ) → number_at m 5 1 ≡ record { value = r; next = 6 } → eqb r 0 ≡ t → (o : Option Server) (end : ℕ) → (present t no_server server).read m 6 ≡ ok (o, end) → login_response_at m ≡ login_response_of v r o
  unfolding present nothing
  by_result true r first is o end e =
      let p = into_parts m some _ server 6 o end e in
      rw (version, first, is) (server_says r p.0 end p.1 ∙ ap (login_response_of v r) p.2)
  by_result false r first is o end e = rw (version, first, is) (ap (λ (w : Option Server × ℕ). login_response_of v r w.0) (ok_same e))

  response_2 : (l : wire.LoginResponse) (end : ℕ) → login_response.read m 5 ≡ ok (l, end) → login_response_at m ≡ login_response_of v l.result l.server
  unfolding login_response
  response_2 l end e =
      let p = into_parts m _ _ (both (number 1 10) (λ r. present (eqb r 0) no_server server)) 5 l end e in
      let q = number_both m 5 1 10 (λ r. present (eqb r 0) no_server server) p.0 end p.1 in
      by_result (eqb p.0.0 0) p.0.0 q.0 refl p.0.1 end q.1 ∙ ap (λ (x : wire.LoginResponse). login_response_of v x.result x.server) p.2

pub login_response_says : (m : List ℕ) (r : Message) → read_message 2 m ≡ ok r
    → login_response_at m ≡ login_response_of r.version (wire.the_login_response r.content).result (wire.the_login_response r.content).server
unfolding content_of
login_response_says m r e =
    let t = said 2 m r e in
    let p = into_parts m wire.a_login_response _ login_response 5 r.content (length m) t.content in
    response_2 m r.version t.version p.0 (length m) p.1
    ∙ ap (λ (c : wire.Content). login_response_of r.version (wire.the_login_response c).result (wire.the_login_response c).server) p.2

-- ---- kind 3
call_says : (m : List ℕ) (v : ℕ) → number_at m 4 1 ≡ record { value = v; next = 5 } → (l : wire.Invocation) (end : ℕ) → invocation.read m 5 ≡ ok (l, end) → invocation_at m ≡ invocation_of v l
unfolding invocation
call_says m v version l end e =
    let p = into_parts m _ _ (both (text 20 21) call_1) 5 l end e in
    let a = p.0 in
    let q₁ = text_both m 5 false utf8 20 21 call_1 a end p.1 in
    let q₂ = block_both m (after_text 5 a.0) 22 (λ c. call_2) a.1 end q₁.1 in
    let q₃ = list_says m (after_text 5 a.0 + 8) most_items 23 first param a.1.1 end q₂.1 in
    let far : after_text 5 a.0 + 8 + 2 ≡ after_text 5 a.0 + 10 = omega arith in
    rw (version, q₁.0, q₂.0, q₃, far) (ap (invocation_of v) p.2)

pub invocation_says : (m : List ℕ) (r : Message) → read_message 3 m ≡ ok r → invocation_at m ≡ invocation_of r.version (wire.the_invocation r.content)
unfolding content_of
invocation_says m r e =
    let t = said 3 m r e in
    let p = into_parts m wire.an_invocation _ invocation 5 r.content (length m) t.content in
    call_says m r.version t.version p.0 (length m) p.1 ∙ ap (λ (c : wire.Content). invocation_of r.version (wire.the_invocation c)) p.2

-- ---- kind 4: what stands at each place of a response
-- where the application status, the round trip and the exception stand
abbrev app_at : wire.Response → ℕ
app_at l = after_note 15 l.head.status_string

abbrev trip_at : wire.Response → ℕ
trip_at l = after_note (app_at l + 1) l.head.app_string

abbrev exception_at : wire.Response → ℕ
exception_at l = after_number 4 (trip_at l) l.head.round_trip

trip_small : (timed : Bool) → min (trip_size timed) 8 ≡ trip_size timed
trip_small true = refl
trip_small false = refl

module _ (timed : Bool) (m : List ℕ) where
  pub record Replied (l : wire.Response) : Type 0 where
    pub client : (block_at m 5 ≡ record { value = l.head.client; next = 13 }) × (take (length l.head.client) (drop 5 m) ≡ l.head.client)
    pub flags : number_at m 13 1 ≡ record { value = l.head.flags; next = 14 }
    pub status : (noted_at m 14 1 (flagged 32 l.head.flags) true ≡ notice l.head.status 15 l.head.status_string) × HoldsNote m (note_of 15 l.head.status_string) l.head.status_string
    pub app : (noted_at m (app_at l) 1 (flagged 128 l.head.flags) true ≡ notice l.head.app_status (app_at l + 1) l.head.app_string) × HoldsNote m (note_of (app_at l + 1) l.head.app_string) l.head.app_string
    pub trip : (noted_at m (trip_at l) (trip_size timed) (flagged 64 l.head.flags) false ≡ notice (get_or l.head.round_trip 0) (exception_at l) l.head.exception) × HoldsNote m (note_of (exception_at l) l.head.exception) l.head.exception
    pub tables : number_at m (after_note (exception_at l) l.head.exception) 2 ≡ record { value = length l.tables; next = after_note (exception_at l) l.head.exception + 2 }

  pub replied : (l : wire.Response) (end : ℕ) → (response timed).read m 5 ≡ ok (l, end) → Replied l
  unfolding response head
  replied l end e =
      let p = into_parts m _ _ (both (head timed) (λ h. tabled)) 5 l end e in
      let q = both_parts m (head timed) (λ h. tabled) 5 p.0 end p.1 in
      let w = into_parts m _ _ (both (block 8 22) (λ c. both (flag_byte 30) (after_flags timed))) 5 p.0.0 q.0 q.1 in
      let a = w.0 in
      let c = block_both m 5 22 (λ c. both (flag_byte 30) (after_flags timed)) a q.0 w.1 in
      let f = ruled_both m 13 (λ n. eqb (n % 32) 0) Flags 1 30 (after_flags timed) a.1 q.0 c.1 in
      let flags = a.1.0 in
      let s = noted_both m 14 1 31 (flagged 32 flags) true utf8 32 33 (λ s. both (app_stated flags) (λ a. tripped timed flags)) a.1.1 q.0 f.1 in
      let app = after_note 15 a.1.1.0.1 in
      let b = noted_both m app 1 34 (flagged 128 flags) true utf8 35 36 (λ a. tripped timed flags) a.1.1.1 q.0 s.1 in
      let trip = after_note (app + 1) a.1.1.1.0.1 in
      let r = trip_says m trip timed (flagged 64 flags) a.1.1.1.1 q.0 b.1 in
      let n = list_says m q.0 most_items 40 first table p.0.1 end q.2 in
      subst Replied p.2 (subst (λ (h : wire.Head). Replied (record { head = h; tables = p.0.1 })) w.2
      (record { client = (c.0, c.2); flags = f.0; status = (s.0, s.2); app = (b.0, b.2); trip = (r.0, r.2); tables = rw (← r.1) n }))

  -- what the code finds there is the record
  pub reply_is : (version flags size : ℕ) (client : List ℕ) (f g h : Bool) (a b c : Noted) (k : (Field ℕ)) (v x y z : ℤ)
      → size ≡ trip_size timed → f ≡ flagged 32 flags → g ≡ flagged 128 flags → h ≡ flagged 64 flags
      → a ≡ noted_at m 14 1 f true → b ≡ noted_at m a.next 1 g true → c ≡ noted_at m b.next (min size 8) h false → k ≡ number_at m c.next 2
      → v ≡ signed 1 version → x ≡ signed 1 a.number → y ≡ signed 1 b.number → z ≡ signed 4 c.number
      → (l : wire.Response) (end : ℕ) → (response timed).read m 5 ≡ ok (l, end) → flags ≡ l.head.flags → client ≡ l.head.client
      → ◌≡◌ {A = ResponseRecord} (record {
        version = v;
        client = client;
        flags = flags;
        status = x;
        status_string = a.span;
        app_status = y;
        app_string = b.span;
        round_trip = z;
        exception = c.span;
        tables = k.value;
        tables_at = k.next;
      }) (response_of version l)
  reply_is version flags size client f g h a b c k v x y z w f₁ f₂ f₃ p₁ p₂ p₃ p₄ q₁ q₂ q₃ q₄ l end e is same =
      let t = replied l end e in
      let small : min size 8 ≡ trip_size timed = ap (λ (n : ℕ). min n 8) w ∙ trip_small timed in
      let A = p₁ ∙ ap (λ (u : Bool). noted_at m 14 1 u true) (f₁ ∙ ap (flagged 32) is) ∙ t.status.0 in
      let B = p₂ ∙ ap₂ (λ (n : ℕ) (u : Bool). noted_at m n 1 u true) (ap (λ (w : Noted). w.next) A) (f₂ ∙ ap (flagged 128) is) ∙ t.app.0 in
      let C =
      p₃ ∙ ap₂ (λ (n : ℕ) (u : Bool). noted_at m n (min size 8) u false) (ap (λ (w : Noted). w.next) B) (f₃ ∙ ap (flagged 64) is)
      ∙ ap (λ (n : ℕ). noted_at m (trip_at l) n (flagged 64 l.head.flags) false) small ∙ t.trip.0 in
      let K = p₄ ∙ ap (λ (n : ℕ). number_at m n 2) (ap (λ (w : Noted). w.next) C) ∙ t.tables in
      rw (q₁, q₂, q₃, q₄, K, C, B, A, is, same)

-- the response of an accepted message, and what the code finds of its version, flags and client data
pub response_read : (timed : Bool) (m : List ℕ) (r : Message) → read_message (response_layout timed) m ≡ ok r
    → (l : wire.Response) × ((response timed).read m 5 ≡ ok (l, length m)) × (l ≡ wire.the_response r.content) × ((number_at m 4 1).value ≡ r.version)
response_read timed m r e =
    let t = said (response_layout timed) m r e in
    let read = ap (λ (f : Format wire.Content). f.read m 5) (sym (content_response timed r.version)) ∙ t.content in
    let p = into_parts m wire.a_response _ (response timed) 5 r.content (length m) read in
    (p.0, p.1, ap wire.the_response p.2, ap (λ (x : (Field ℕ)). x.value) t.version)
