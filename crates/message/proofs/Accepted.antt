-- What `accept`'s contract says: it accepts exactly the bytes of good messages, each of one record, and it leaves no choice of an answer.
use Rattle.std.specs.Prelude.{Result, Ok, Err}
use Prim.Native.Nat.{ℕ, ◌<◌}
use mathlib.Core.Path.{◌≡◌, refl, sym, ◌∙◌, ap}
use mathlib.Core.Bool.{Bool, true, false, ◌&&◌, false≢true}
use mathlib.Core.List.{List}
use lib.ListN.{get_or}
use lib.Dec.{leb}
use native.Mathlib.Omega.{arith}
use Rattle.format.specs.declared.Refusal.{Refusal}
use Rattle.format.specs.declared.Fault.TheVariants.{WireType}
use Rattle.format.specs.Result.{Res, ok, no, pick, told}
use Rattle.format.specs.Message.{Message, GoodMessage, is_kind, is_layout, kind_layout, read_message, message_bytes}
use Rattle.format.proofs.Results.{and_true_both}
use Rattle.format.proofs.Demands.{accepted→encodes, encodes→accepted, encodes_once}
use Rattle.scan.specs.Shown.{refusal}
use Rattle.message.specs.Verdict.{verdict_of}
use Rattle.message.proofs.Parts.{bytes_all}
use Rattle.message.proofs.Whole.{unknown}

-- no two answers are told alike: what is told gives the answer back
abbrev pub untold : Res Unit → Result Unit Refusal
untold (ok u) = (Ok tt)
untold (no f p) = Err (refusal f p)

told_back : (a : Result Unit Refusal) → untold (told a) ≡ a
told_back (Ok tt) = refl
told_back (Err r) = refl

pub told_once : (a b : Result Unit Refusal) → told a ≡ told b → a ≡ b
told_once a b e = sym (told_back a) ∙ ap untold e ∙ told_back b

-- an answer and the reading that it tells of
pub verdict_go : (r : Res Message) {a : Result Unit Refusal} → told a ≡ verdict_of r → a ≡ (Ok tt) → (v : Message) × (r ≡ ok v)
verdict_go (ok v) e told = (v, refl)
verdict_go (no f p) e is = absurd (let z : ◌≡◌ {A = ℕ} 0 1 = cc (ap told is) in omega arith)

pub verdict_stop : (r : Res Message) {a : Result Unit Refusal} {x : Refusal} → told a ≡ verdict_of r → a ≡ Err x → r ≡ no x.fault x.place
verdict_stop (ok v) e is = absurd (let z : ◌≡◌ {A = ℕ} 0 1 = cc (ap told is) in omega arith)
verdict_stop (no f p) {a} e is = let same = sym is ∙ told_once a (Err (refusal f p)) e in cc

-- a kind is its own layout, and a number that is no kind is refused before all else
pub kind_layout_lem : (kind : ℕ) → is_kind kind ≡ true → kind_layout kind ≡ kind
kind_layout_lem kind e = rw (and_true_both (leb 1 kind) (leb kind 4) e).1

pub no_kind : (kind : ℕ) (m : List ℕ) → is_kind kind ≡ false → read_message (kind_layout kind) m ≡ no WireType 0
no_kind kind m e = unknown (kind_layout kind) m (by_tests (leb 1 kind) (leb kind 4) refl e)
  where
    by_tests : (low few : Bool) → leb 1 kind ≡ low → low && few ≡ false → is_layout (pick few kind 0) ≡ false
    by_tests low false is e = refl
    by_tests false true is e = rw is
    by_tests true true is e = absurd (false≢true (sym e))

module _ (layout : ℕ) (m : List ℕ) where
  -- what `accept_layout` promises of its answer; `accept` does so for the layout of its kind
  abbrev pub Promised : Result Unit Refusal → Type 0
  Promised a = told a ≡ verdict_of (read_message layout m)

  -- two answers that keep the promise are equal
  pub answer_once : (a b : Result Unit Refusal) → Promised a → Promised b → a ≡ b
  answer_once a b e f = told_once a b (e ∙ sym f)

  -- a record that the bytes are the encoding of
  pub record Says (r : Message) : Type 0 where
    pub good : GoodMessage layout r
    pub bytes : message_bytes layout r ≡ m

  -- there is at most one
  pub says_once : (r q : Message) → Says r → Says q → r ≡ q
  says_once r q g h = encodes_once layout r q g.good h.good (g.bytes ∙ sym h.bytes)

  module _ (a : Result Unit Refusal) (e : Promised a) where
    -- bytes that are accepted say a record
    pub fine→says : ((k : ℕ) → get_or m k 0 < 256) → a ≡ (Ok tt) → (r : Message) × Says r
    fine→says all told =
        let go = verdict_go (read_message layout m) e told in
        let w = accepted→encodes layout m (bytes_all m all) go.0 go.1 in
        (go.0, record { good = w.0; bytes = w.1 })

    -- bytes that say one are accepted
    pub says→fine : (r : Message) → Says r → a ≡ (Ok tt)
    says→fine r g = told_once a (Ok tt) (e ∙ ap verdict_of (ap (read_message layout) (sym g.bytes) ∙ encodes→accepted layout r g.good))
