-- What a good message spells is of the functions' types: its bytes are bytes and its numbers fit. So the functions can be called with it.
use Prim.Native.Nat.{ℕ, zero, suc, ◌+◌, ◌<◌}
use mathlib.Core.Path.{◌≡◌, sym, ap, subst}
use mathlib.Core.Bool.{Bool, true, false}
use mathlib.Core.List.{List, [], ◌∷◌, ◌++◌, flat_map, map}
use mathlib.Core.Option.{Option, some, none, get_or}
use lib.ListN.{length, replicate}
use lib.Dec.{eqb, lit<}
use native.Mathlib.Omega.{arith}
use Rattle.format.specs.Result.{pick}
use Rattle.format.specs.Number.{Bytes}
use Rattle.format.specs.Format.{Format, Index, Verdict, number, block, nothing, room, ruled, into, both, present, counted, each}
use Rattle.format.specs.declared.Fault.TheVariants.{Decimal, Point}
use Rattle.format.specs.Text.{utf8}
use Rattle.format.specs.Value.{Value, fixed, body, number_of, body_of, value, string, anything, ascii, is_counted, width_of, fixed_fine, rule_of, most_bytes, t_array, t_null, t_tinyint, t_decimal}
use Rattle.format.specs.Message.{Argument, null, one, array, Items, bytes, values, bytes_of, values_of, Param, param, argument, array_of, one_of, items, list, binary, edition, column_type, most_items, first, second, third, LoginRequest, LoginResponse, Server, server, no_server, login_request, login_response, Invocation, invocation, Table, metadata, table, row, unlimited, Response, head, response, flagged, Content, a_login_request, a_login_response, an_invocation, a_response, the_login_request, the_login_response, the_invocation, the_response, content_of, Message, message, is_kind, GoodMessage}
use Rattle.steps.specs.Steps.{Step, says, element, close_array, finish_call, close_row, close_table, finish_reply}
use Rattle.steps.specs.Spells.{text_of, argument_steps, param_steps, cell_steps, row_steps, columns_of, table_steps, HeldText, HeldValue, HeldColumns, AllHeld, HeldWelcome}
use Rattle.steps.specs.Writings.{HeldWriting, welcome_of, content_writing, writing_of}
use Rattle.steps.proofs.Writes.{request_content, response_content, call_content, reply_content, by_kind}

-- ---- lists of steps
all_both : (xs ys : List Step) → AllHeld xs → AllHeld ys → AllHeld (xs ++ ys)
all_both [] ys h k = k
all_both (x ∷ xs) ys h k = (h.0, all_both xs ys h.1 k)

module _ {A : Type 0} (f : Format A) (steps : A → List Step) (each-held : (a : A) → f.Good a → AllHeld (steps a)) (at-index : ℕ → Index → Index) where
  many_held : (k n : ℕ) (l : List A) → (each at-index k (replicate n f)).Good l → AllHeld (flat_map steps l)
  unfolding each nothing flat_map
  many_held k n [] g = tt
  many_held k zero (a ∷ l) g = let z : ◌≡◌ {A = ℕ} (suc (length l)) 0 = ap length g in absurd (omega arith)
  many_held k (suc n) (a ∷ l) g = all_both (steps a) (flat_map steps l) (each-held a g.0) (many_held (k + 1) n l g.1)

  list_held : (k most field : ℕ) (l : List A) → (list k most field at-index f).Good l → AllHeld (flat_map steps l)
  unfolding list into both
  list_held k most field l g = many_held 0 (length l) l g.0.1

-- ---- texts and values
text_held : (nullable : Bool) (most : ℕ) (rule : List ℕ → Verdict) (l b : ℕ) (o : Option (List ℕ)) → (counted nullable most rule l b).Good o → HeldText o
unfolding counted
text_held nullable most rule l b none g = tt
text_held nullable most rule l b (some bs) g = g.1

bytes_held : (o : Option (List ℕ)) → HeldText o → Bytes (text_of o)
bytes_held none h = tt
bytes_held (some bs) h = h

value_held : (l b t : ℕ) (v : Value) → (value l b t).Good v → HeldValue v
unfolding value into
value_held l b t (fixed n) g = tt
value_held l b t (body o) g = by_type (is_counted t) g
  where
    by_type : (c : Bool)
        → (pick c (into body body_of (string true (rule_of t) l b)) (into fixed number_of (ruled (fixed_fine t) (pick (eqb t t_decimal) Decimal Point) (number (width_of t) b)))).Good (body o) → HeldText o
    by_type true g = text_held true most_bytes (rule_of t) l b o g.0
    by_type false g = absurd (let z : ◌≡◌ {A = ℕ} 0 1 = cc in omega arith)

-- ---- an invocation
items_held : (t e : ℕ) (i : Items) → (items e).Good i → AllHeld (argument_steps t (array e i))
unfolding items into flat_map
items_held t e i g = by_type (eqb e t_tinyint) i g
  where
    by_type : (k : Bool) (i : Items) → (pick k (into bytes bytes_of (binary 26 28)) (into values values_of (list 2 most_items 26 second (value 27 28 e)))).Good i → AllHeld (argument_steps t (array e i))
    by_type true (bytes o) g = (bytes_held o (text_held false most_bytes anything 26 28 o g.0), tt)
    by_type true (values l) g = absurd (let z : ◌≡◌ {A = ℕ} 0 1 = cc in omega arith)
    by_type false (bytes o) g = absurd (let z : ◌≡◌ {A = ℕ} 0 1 = cc in omega arith)
    by_type false (values l) g = (tt, all_both (flat_map (λ v. element e v ∷ []) l) (close_array ∷ []) (list_held (value 27 28 e) (λ v. element e v ∷ []) (λ v h. (value_held 27 28 e v h, tt)) second 2 most_items 26 l g.0) (tt, tt))

param_held : (p : Param) → param.Good p → AllHeld (param_steps p)
unfolding param argument into both nothing
param_held p g = by_type (eqb p.type t_null) (eqb p.type t_array) p.argument g.0.1
  where
    by_type : (j k : Bool) (a : Argument)
        → (pick j (nothing null) (pick k (into (λ v. array v.0 v.1) array_of (both (column_type 25) items)) (into one one_of (value 27 28 p.type)))).Good a → AllHeld (argument_steps p.type a)
    by_type j k null g = (tt, tt)
    by_type true k (one v) g = absurd (let z : ◌≡◌ {A = ℕ} 0 1 = cc in omega arith)
    by_type true k (array e i) g = absurd (let z : ◌≡◌ {A = ℕ} 0 1 = cc in omega arith)
    by_type false true (one v) g = absurd (let z : ◌≡◌ {A = ℕ} 0 1 = cc in omega arith)
    by_type false true (array e i) g = items_held p.type e i g.0.1
    by_type false false (one v) g = (value_held 27 28 p.type v g.0, tt)
    by_type false false (array e i) g = absurd (let z : ◌≡◌ {A = ℕ} 0 1 = cc in omega arith)

call_held : (version : ℕ) (i : Invocation) → (message 3).Good (says version (an_invocation i)) → HeldWriting (content_writing version (an_invocation i))
unfolding message content_of invocation into both ruled number block
call_held version i g =
    let h = g.0.1.0.0 in (
      g.0.0.0,
      bytes_held i.procedure (text_held false most_bytes utf8 20 21 i.procedure h.0),
      h.1.0,
      all_both (flat_map param_steps i.params) (finish_call ∷ []) (list_held param param_steps param_held first 2 most_items 23 i.params h.1.1) (tt, tt),
    )

-- ---- a response
cells_held : (k : ℕ) (ts : List ℕ) (vs : List Value) → (each third k (map (value 50 51) ts)).Good vs → AllHeld (cell_steps ts vs)
unfolding each nothing
cells_held k [] vs g = tt
cells_held k (t ∷ ts) [] g = tt
cells_held k (t ∷ ts) (v ∷ vs) g = (value_held 50 51 t v g.0, cells_held (k + 1) ts vs g.1)

row_held : (ts : List ℕ) (vs : List Value) → (row ts).Good vs → AllHeld (row_steps ts vs)
unfolding row room
row_held ts vs g = (tt, all_both (cell_steps ts vs) (close_row ∷ []) (cells_held 0 ts vs g.0) (tt, tt))

columns_held : (k : ℕ) (ts : List ℕ) (ns : List (Option (List ℕ))) → (each third k (replicate (length ts) (string false ascii 46 47))).Good ns → HeldColumns (columns_of ts ns)
unfolding each nothing
columns_held k [] ns g = tt
columns_held k (t ∷ ts) [] g = tt
columns_held k (t ∷ ts) (n ∷ ns) g = (text_held false most_bytes ascii 46 47 n g.0, columns_held (k + 1) ts ns g.1)

table_held : (t : Table) → table.Good t → AllHeld (table_steps t)
unfolding table metadata room into both ruled number
table_held t g =
    let m = t.metadata in
    let h = g.0.0.0.0.0 in (
      (h.0, columns_held 0 m.types m.names h.1.1.1),
      all_both (flat_map (row_steps m.types) t.rows) (close_table ∷ []) (list_held (row m.types) (row_steps m.types) (row_held m.types) second 4 unlimited 48 t.rows g.0.0.1) (tt, tt),
    )

note_held : (there : Bool) (nullable : Bool) (most : ℕ) (rule : List ℕ → Verdict) (l b : ℕ) (o : Option (Option (List ℕ))) → (present there none (counted nullable most rule l b)).Good o → HeldText (get_or o none)
unfolding present into nothing
note_held true nullable most rule l b o g = text_held nullable most rule l b (get_or o none) g.0
note_held false nullable most rule l b o g = subst (λ (z : Option (Option (List ℕ))). HeldText (get_or z none)) (sym g) tt

reply_held : (version : ℕ) (r : Response) → (message 4).Good (says version (a_response r)) → HeldWriting (content_writing version (a_response r))
unfolding message content_of response head into both ruled number block present
reply_held version r g =
    let h = g.0.1.0.0 in
    let f = h.0.0.1 in
    let e = r.head.exception in (
      g.0.0.0,
      record {
        client = h.0.0.0;
        flags = f.0.0;
        status = f.1.0.0;
        status_string = note_held (flagged 32 r.head.flags) true most_bytes utf8 32 33 r.head.status_string f.1.0.1;
        app_status = f.1.1.0.0;
        app_string = note_held (flagged 128 r.head.flags) true most_bytes utf8 35 36 r.head.app_string f.1.1.0.1;
        round_trip = f.1.1.1.0.0;
        exception = bytes_held (get_or e none) (note_held (flagged 64 r.head.flags) false most_bytes anything 38 39 e f.1.1.1.1);
      },
      all_both (flat_map table_steps r.tables) (finish_reply ∷ []) (list_held table table_steps table_held first 2 most_items 40 r.tables h.1) (tt, tt),
    )

-- ---- the logins
edition_held : (there : Bool) (o : Option ℕ) → (present there 0 (edition 3)).Good o → get_or o 0 < 256
unfolding present into nothing ruled number
edition_held true o g = g.0.0
edition_held false o g = subst (λ (z : Option ℕ). get_or z 0 < 256) (sym g) (lit< tt)

request_held : (version : ℕ) (r : LoginRequest) → (message 1).Good (says version (a_login_request r)) → HeldWriting (content_writing version (a_login_request r))
unfolding message content_of login_request into both ruled number block
request_held version r g =
    let h = g.0.1.0.0 in (
      g.0.0.0,
      edition_held (eqb version 1) r.hash_version h.0,
      bytes_held r.service (text_held false most_bytes utf8 4 5 r.service h.1.0),
      bytes_held r.user (text_held false most_bytes utf8 6 7 r.user h.1.1.0),
      h.1.1.1.1,
    )

welcome_held : (there : Bool) (o : Option Server) → (present there no_server server).Good o → HeldWelcome (welcome_of o)
unfolding present server into both nothing number
welcome_held true o g =
    let h = g.0.0 in
    let s = get_or o no_server in
    record { host = h.0; connection = h.1.0; start = h.1.1.0; leader = h.1.1.1.0; build = bytes_held s.build (text_held false most_bytes utf8 15 16 s.build h.1.1.1.1) }
welcome_held false o g = subst (λ (z : Option Server). HeldWelcome (welcome_of z)) (sym g) (record { host = lit< tt; connection = lit< tt; start = lit< tt; leader = lit< tt; build = tt })

response_held : (version : ℕ) (r : LoginResponse) → (message 2).Good (says version (a_login_response r)) → HeldWriting (content_writing version (a_login_response r))
unfolding message content_of login_response into both ruled number
response_held version r g = let h = g.0.1.0.0 in (g.0.0.0, h.0, welcome_held (eqb r.result 0) r.server h.1)

-- a content of a kind, as that kind's
same_held : (v kind : ℕ) (c d : Content) → ((message kind).Good (says v c) → d ≡ c) → ((message kind).Good (says v d) → HeldWriting (content_writing v d)) → (message kind).Good (says v c) → HeldWriting (content_writing v c)
same_held v kind c d e h g = subst (λ (x : Content). (message kind).Good (says v x) → HeldWriting (content_writing v x)) (e g) h g

-- the arguments of the calls that a good message spells are of the functions' types
pub good_held : (kind : ℕ) (r : Message) → is_kind kind ≡ true → GoodMessage kind r → HeldWriting (writing_of r)
good_held kind r known g =
    let v = r.version in
    let c = r.content in
    by_kind (λ (k : ℕ). (message k).Good r → HeldWriting (writing_of r))
    (same_held v 1 c (a_login_request (the_login_request c)) (request_content v c) (request_held v (the_login_request c)))
    (same_held v 2 c (a_login_response (the_login_response c)) (response_content v c) (response_held v (the_login_response c)))
    (same_held v 3 c (an_invocation (the_invocation c)) (call_content v c) (call_held v (the_invocation c)))
    (same_held v 4 c (a_response (the_response c)) (reply_content v c) (reply_held v (the_response c)))
    kind known g.good
