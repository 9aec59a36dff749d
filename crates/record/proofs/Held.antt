-- Where an accepted message's strings and blocks are shown, their bytes stand. The numbers are shown as the signed numbers of their fields by definition.
use Prim.Native.Nat.{ℕ}
use mathlib.Core.Path.{◌≡◌, sym, ◌∙◌, ap, subst}
use mathlib.Core.Bool.{Bool, true, false}
use mathlib.Core.List.{List}
use mathlib.Core.Option.{Option, some, none}
use lib.ListN.{length, take, drop}
use lib.Dec.{eqb}
use Rattle.format.specs.Result.{ok}
use Rattle.format.specs.Number.{Bytes, num_bytes}
use Rattle.format.specs.Format.{number, block, both, present, nothing}
use Rattle.format.specs.Text.{utf8}
use Rattle.format.specs.Message as wire
use Rattle.format.specs.Message.{Message, Server, content_of, read_message, login_request, login_response, server, no_server, invocation, response_layout, text, edition}
use Rattle.format.proofs.Numbers.{num_bytes_num_at}
use Rattle.format.proofs.Results.{ok_same}
use Rattle.scan.proofs.Answers.{took}
use Rattle.places.specs.Places.{after_text, after_number}
use Rattle.places.proofs.Readings.{block_held, both_parts, into_parts, ruled_part}
use Rattle.places.proofs.Calls.{call_1, call_2}
use Rattle.record.specs.Records.{login_request_of, login_response_of, invocation_of, response_of}
use Rattle.record.proofs.Holds.{Holds, HoldsNote, text_held}
use Rattle.record.proofs.Says.{number_says, number_both, block_both, text_both, said}
use Rattle.record.proofs.Records.{Rest, replied, response_read}

-- ---- kind 1
abbrev pub LoginRequestHeld : List ℕ → ℕ → wire.LoginRequest → Type 0
LoginRequestHeld m v l = Holds m (login_request_of v l).service l.service × Holds m (login_request_of v l).user l.user × Holds m (login_request_of v l).hash (some l.hash)

module _ (m : List ℕ) where
  byte_ends : (t : Bool) (h : Option ℕ) (mid : ℕ) → (present t 0 (edition 3)).read m 5 ≡ ok (h, mid) → mid ≡ after_number 1 5 h
  unfolding present nothing
  byte_ends true h mid e =
      let p = into_parts m some _ (edition 3) 5 h mid e in
      (number_says m 5 1 3 p.0 mid (ruled_part m _ _ (number 1 3) 5 p.0 mid p.1)).1 ∙ ap (after_number 1 5) p.2
  byte_ends false h mid e =
      let same = ok_same e in
      sym (ap (λ (w : Option ℕ × ℕ). w.1) same) ∙ ap (λ (w : Option ℕ × ℕ). after_number 1 5 w.0) same

  login_held : (v : ℕ) (l : wire.LoginRequest) (end : ℕ) → (login_request v).read m 5 ≡ ok (l, end) → LoginRequestHeld m v l
  unfolding login_request
  login_held v l end e =
      let p = into_parts m _ _ (both (present (eqb v 1) 0 (edition 3)) Rest) 5 l end e in
      let h = p.0.0 in
      let a = p.0.1 in
      let q = both_parts m (present (eqb v 1) 0 (edition 3)) Rest 5 p.0 end p.1 in
      let at = after_number 1 5 h in
      let rest = ap (λ (n : ℕ). (Rest h).read m n) (sym (byte_ends (eqb v 1) h q.0 q.1)) ∙ q.2 in
      let q₁ = text_both m at false utf8 4 5 (λ s. both (text 6 7) (λ u. block (wire.hash_size h) 8)) a end rest in
      let q₂ = text_both m (after_text at a.0) false utf8 6 7 (λ u. block (wire.hash_size h) 8) a.1 end q₁.1 in
      let q₃ = block_held m (after_text (after_text at a.0) a.1.0) (wire.hash_size h) 8 a.1.1 end q₂.1 in
      subst (LoginRequestHeld m v) p.2 (q₁.2, q₂.2, q₃)

  pub login_request_held : (r : Message) → read_message 1 m ≡ ok r → LoginRequestHeld m r.version (wire.the_login_request r.content)
  unfolding content_of
  login_request_held r e =
      let p = into_parts m wire.a_login_request _ (login_request r.version) 5 r.content (length m) (said 1 m r e).content in
      subst (λ (c : wire.Content). LoginRequestHeld m r.version (wire.the_login_request c)) p.2 (login_held r.version p.0 (length m) p.1)

-- ---- kind 2: after a result of 0 the leader and the build string
abbrev pub ServerHeld : List ℕ → ℕ → ℕ → Option Server → Type 0
ServerHeld m v r none = Unit
ServerHeld m v r (some x) = (take 4 (drop 26 m) ≡ (login_response_of v r (some x)).leader) × Holds m (login_response_of v r (some x)).build x.build

module _ (m : List ℕ) (bytes : Bytes m) where
  server_held : (v r : ℕ) (x : Server) (end : ℕ) → server.read m 6 ≡ ok (x, end) → ServerHeld m v r (some x)
  unfolding server
  server_held v r x end e =
      let p = into_parts m _ _ (both (number 4 11) (λ a. both (number 8 12) (λ b. both (number 8 13) (λ c. both (number 4 14) (λ d. text 15 16))))) 6 x end e in
      let a = p.0 in
      let q₁ = number_both m 6 4 11 (λ a. both (number 8 12) (λ b. both (number 8 13) (λ c. both (number 4 14) (λ d. text 15 16)))) a end p.1 in
      let q₂ = number_both m 10 8 12 (λ b. both (number 8 13) (λ c. both (number 4 14) (λ d. text 15 16))) a.1 end q₁.1 in
      let q₃ = number_both m 18 8 13 (λ c. both (number 4 14) (λ d. text 15 16)) a.1.1 end q₂.1 in
      let q₄ = both_parts m (number 4 14) (λ d. text 15 16) 26 a.1.1.1 end q₃.1 in
      let t = took 4 14 m 26 a.1.1.1.0 q₄.0 q₄.1 in
      let leader : take 4 (drop 26 m) ≡ num_bytes 4 a.1.1.1.0 = sym (ap (num_bytes 4) t.value ∙ num_bytes_num_at 4 m bytes 26 t.fit) in
      let build = ap (λ (n : ℕ). (text 15 16).read m n) (sym t.place) ∙ q₄.2 in
      subst (λ (y : Server). ServerHeld m v r (some y)) p.2 (leader, text_held m 30 false utf8 15 16 a.1.1.1.1 end build)

  result_held : (t : Bool) (v r : ℕ) (o : Option Server) (end : ℕ) → (present t no_server server).read m 6 ≡ ok (o, end) → ServerHeld m v r o
  unfolding present nothing
  result_held true v r o end e =
      let p = into_parts m some _ server 6 o end e in
      subst (ServerHeld m v r) p.2 (server_held v r p.0 end p.1)
  result_held false v r o end e = subst (ServerHeld m v r) (ap (λ (w : Option Server × ℕ). w.0) (ok_same e)) tt

  pub login_response_held : (r : Message) → read_message 2 m ≡ ok r → ServerHeld m r.version (wire.the_login_response r.content).result (wire.the_login_response r.content).server
  unfolding content_of login_response
  login_response_held r e =
      let p = into_parts m wire.a_login_response _ login_response 5 r.content (length m) (said 2 m r e).content in
      let w = into_parts m _ _ (both (number 1 10) (λ r. present (eqb r 0) no_server server)) 5 p.0 (length m) p.1 in
      let q = number_both m 5 1 10 (λ r. present (eqb r 0) no_server server) w.0 (length m) w.1 in
      subst (λ (c : wire.Content). ServerHeld m r.version (wire.the_login_response c).result (wire.the_login_response c).server) p.2
      (subst (λ (l : wire.LoginResponse). ServerHeld m r.version l.result l.server) w.2
      (result_held (eqb w.0.0 0) r.version w.0.0 w.0.1 (length m) q.1))

-- ---- kind 3
abbrev pub InvocationHeld : List ℕ → ℕ → wire.Invocation → Type 0
InvocationHeld m v l = Holds m (invocation_of v l).procedure l.procedure × (take (length l.client) (drop (after_text 5 l.procedure) m) ≡ l.client)

-- ---- kind 4
abbrev pub ResponseHeld : List ℕ → ℕ → wire.Response → Type 0
ResponseHeld m v l =
    (take (length l.head.client) (drop 5 m) ≡ l.head.client)
    × HoldsNote m (response_of v l).status_string l.head.status_string
    × HoldsNote m (response_of v l).app_string l.head.app_string
    × HoldsNote m (response_of v l).exception l.head.exception

module _ (m : List ℕ) where
  call_held : (v : ℕ) (l : wire.Invocation) (end : ℕ) → invocation.read m 5 ≡ ok (l, end) → InvocationHeld m v l
  unfolding invocation
  call_held v l end e =
      let p = into_parts m _ _ (both (text 20 21) call_1) 5 l end e in
      let a = p.0 in
      let q₁ = text_both m 5 false utf8 20 21 call_1 a end p.1 in
      let q₂ = block_both m (after_text 5 a.0) 22 (λ c. call_2) a.1 end q₁.1 in
      subst (InvocationHeld m v) p.2 (q₁.2, q₂.2)

  pub invocation_held : (r : Message) → read_message 3 m ≡ ok r → InvocationHeld m r.version (wire.the_invocation r.content)
  unfolding content_of
  invocation_held r e =
      let p = into_parts m wire.an_invocation _ invocation 5 r.content (length m) (said 3 m r e).content in
      subst (λ (c : wire.Content). InvocationHeld m r.version (wire.the_invocation c)) p.2 (call_held r.version p.0 (length m) p.1)

  pub response_held : (timed : Bool) (r : Message) → read_message (response_layout timed) m ≡ ok r → ResponseHeld m r.version (wire.the_response r.content)
  response_held timed r e =
      let p = response_read timed m r e in
      let t = replied timed m p.0 (length m) p.1 in
      subst (ResponseHeld m r.version) p.2 (t.client.1, t.status.1, t.app.1, t.trip.1)
