-- Writer and reader undo each other, for every kind: what was written reads as the record that the writing spells (read_written), and the
-- writing that a record spells, where the record was read, writes the message (written_read).
use Prim.Native.Nat.{ℕ, ◌≤◌}
use mathlib.Core.Path.{◌≡◌, refl, sym, ◌∙◌, ap, subst}
use mathlib.Core.Bool.{Bool, true, false}
use mathlib.Core.List.{List, ◌++◌}
use mathlib.Core.Option.{some, none, get_or}
use lib.ListN.{length, take, drop, length-append}
use lib.Seq.{take-append_seam, drop-append_seam}
use lib.Dec.{eqb}
use native.Mathlib.Omega.{arith}
use Rattle.format.specs.Result.{ok, pick}
use Rattle.format.specs.Number.{Bytes}
use Rattle.format.specs.Message.{Server, Message, read_message, message_bytes, is_kind, GoodMessage}
use Rattle.format.proofs.Results.{ok_same}
use Rattle.format.proofs.Demands.{accepted→encodes, encodes→accepted, encodes_once}
use Rattle.steps.specs.State.{State, closed}
use Rattle.steps.specs.Plans.{Out}
use Rattle.steps.specs.Arguments.{opened}
use Rattle.steps.specs.Logins.{Welcome}
use Rattle.steps.specs.Spells.{opening_of}
use Rattle.steps.specs.Writings.{Writing, request_call, response_call, call_steps, reply_steps, kind_of, written, in_front, HeldWriting, welcome_of, writing_of, no_welcome, trimmed, overlaid}
use Rattle.steps.proofs.Back.{Ends}
use Rattle.steps.proofs.CallBack.{call_wrote}
use Rattle.steps.proofs.ReplyBack.{reply_wrote}
use Rattle.steps.proofs.LoginsBack.{request_wrote, response_wrote}
use Rattle.steps.proofs.Writes.{good_writes}

-- a writing that was accepted up to n has written a good message, which spells this writing: what stands before n reads as it, and what stands behind n is as it was
pub record ReadBack (w : Writing) (st : State) (b : List ℕ) (n : ℕ) : Type 0 where
  pub message : Message
  pub good : GoodMessage (kind_of w) message
  pub wrote : written w st b ≡ in_front b (message_bytes (kind_of w) message)
  pub read : read_message (kind_of w) (take n (written w st b).buffer) ≡ ok message
  pub spelled : trimmed w ≡ writing_of message
  pub kept : drop n (written w st b).buffer ≡ drop n b

read_back : (w : Writing) (st : State) (b : List ℕ) (n : ℕ) (r : Message) → let m = message_bytes (kind_of w) r in
    (written w st b).answer ≡ ok n → GoodMessage (kind_of w) r × (written w st b ≡ in_front b m) → trimmed w ≡ writing_of r → ReadBack w st b n
read_back w st b n r e g s =
    let m = message_bytes (kind_of w) r in
    let same : n ≡ length m = ok_same (sym e ∙ ap (λ (o : Out State). o.answer) g.1) in
    let buffer = ap (λ (o : Out State). o.buffer) g.1 in
    record {
      message = r;
      good = g.0;
      wrote = g.1;
      read = rw (buffer, same) (rw take-append_seam (encodes→accepted (kind_of w) r g.0));
      spelled = s;
      kept = rw (buffer, same) (drop-append_seam m (drop (length m) b));
    }

hash_version_kept : (t : Bool) (h : ℕ) → pick t h 0 ≡ get_or (pick t (some h) none) 0
hash_version_kept true h = refl
hash_version_kept false h = refl

welcome_kept : (t : Bool) (w : Welcome) → let s : Server = record { host = w.host; connection = w.connection; start = w.start; leader = w.leader; build = some w.build } in
    pick t w no_welcome ≡ welcome_of (pick t (some s) none)
welcome_kept true w = refl
welcome_kept false w = refl

-- reading what an accepted writing left gives the record that the writing spells
pub read_written : (w : Writing) → HeldWriting w → (st : State) (b : List ℕ) → (e : Ends (written w st b)) → ReadBack w st b e.0
read_written (request_call version h service user hash) k st b e =
    read_back (request_call version h service user hash) st b e.0 _ e.1 (request_wrote version h service user hash k.0 k.1 k.2 k.3 k.4 b e.0 e.1)
    (ap (λ (x : ℕ). request_call version x service user hash) (hash_version_kept (eqb version 1) h))
read_written (response_call version result w) k st b e =
    read_back (response_call version result w) st b e.0 _ e.1 (response_wrote version result w k.0 k.1 k.2 b e.0 e.1)
    (ap (λ (x : Welcome). response_call version result x) (welcome_kept (eqb result 0) w))
read_written (call_steps version procedure client ss) k st b e =
    let s = call_wrote version procedure client k.0 k.1 k.2 ss k.3 st b e in
    let said = s.0.spelled in
    read_back (call_steps version procedure client ss) st b e.0 _ e.1 (s.0.good, s.1) (cc)
read_written (reply_steps version o ss) k st b e =
    let s = reply_wrote version o k.0 k.1 ss k.2 st b e in
    read_back (reply_steps version o ss) st b e.0 _ e.1 (s.0.good, s.1) (ap (reply_steps version (opening_of (opened o))) s.0.spelled)

-- and it is the only one: no two good messages of a kind spell the same writing
pub spells_once : (kind : ℕ) (r q : Message) → is_kind kind ≡ true → GoodMessage kind r → GoodMessage kind q → writing_of r ≡ writing_of q → r ≡ q
spells_once kind r q known g h e =
    let x = message_bytes kind r in
    let y = message_bytes kind q in
    let b = x ++ y in
    let l = length-append x y in
    let same : in_front b x ≡ in_front b y
    = sym (good_writes kind r known g (closed 0) b (omega arith)) ∙ (ap (λ (w : Writing). written w (closed 0) b) e ∙ good_writes kind q known h (closed 0) b (omega arith)) in
    let n : length x ≡ length y = ok_same (ap (λ (o : Out State). o.answer) same) in
    let bytes : take (length x) (overlaid b x) ≡ take (length x) (overlaid b y) = ap (λ (o : Out State). take (length x) o.buffer) same in
    encodes_once kind r q g h (sym (take-append_seam x _) ∙ (bytes ∙ rw n (take-append_seam y _)))

-- the writing that the record of an accepted message spells puts the message in front of any buffer that is long enough, and changes no other byte
pub written_read : (kind : ℕ) (m : List ℕ) → is_kind kind ≡ true → Bytes m → (r : Message) → read_message kind m ≡ ok r → (st : State) (b : List ℕ) → length m ≤ length b → written (writing_of r) st b ≡ in_front b m
written_read kind m known bytes r e st b room =
    let z = accepted→encodes kind m bytes r e in
    subst (λ (x : List ℕ). length x ≤ length b → written (writing_of r) st b ≡ in_front b x) z.1 (good_writes kind r known z.0 st b) room
