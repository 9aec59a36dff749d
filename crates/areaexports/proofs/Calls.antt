-- Calls of the C interface are calls of the library: the state that is read from the numbers is the one that the last call left, and an answer's low 8 bits are 0
-- exactly if it is accepted. So what is proved of the library's calls (outline/proofs/Calls) holds of them.
use Rattle.format.specs.declared.Refusal.{Refusal}
use Rattle.std.specs.Prelude.{Result, Ok, Err}
use Prim.Native.Nat.{ℕ, ◌*◌, ◌%◌, ◌^◌, ◌<◌, ◌≤◌}
use native.Mathlib.Omega.{arith}
use native.Mathlib.Nat.{mod-eq_of_lt}
use mathlib.Core.Path.{◌≡◌, refl, sym, ap, ◌∙◌, subst}
use mathlib.Core.List.{List, [], ◌∷◌}
use lib.ListN.{length, drop, length-append}
use Rattle.format.specs.declared.Fault.{Fault}
use Rattle.format.proofs.Decides.{number_small}
use Rattle.format.specs.Result.{Res, ok, no, told}
use Rattle.format.specs.Geography.{Polygon, polygon}
use Rattle.format.proofs.Results.{no_ok}
use Rattle.steps.specs.Writings.{overlaid}
use Rattle.numbers.specs.Packed.{above, packed, packed_no, itself}
use Rattle.numbers.proofs.Kept.{told_shown_lem}
use Rattle.outline.specs.declared.Outline.{Outline}
use Rattle.outline.specs.declared.Outline.TheVariants.{Closed, Area, Ring}
use Rattle.outline.specs.declared.State.{State}
use Rattle.outline.specs.declared.Outcome.{Outcome}
use Rattle.outline.specs.State.{closed, stage_number}
use Rattle.outline.specs.Steps.{Step, begin_area, step}
use Rattle.outline.specs.Spells.{polygon_rest}
use Rattle.outline.specs.Shown.{came, Stepped}
use Rattle.outline.specs.Calls as library
use Rattle.outline.specs.Calls.{Finished}
use Rattle.outline.proofs.Taken.{shown_ok}
use Rattle.outline.proofs.Frame.{step_no, step_keeps}
use Rattle.outline.proofs.Calls.{spelled_calls, good_calls as library-good, calls_wrote as library-wrote}
use Rattle.areaexports.specs.Stored.{stage_of, state_of, numbers_of, kept, WroteFrom, Wrote}
use Rattle.areaexports.specs.Calls.{Left, Chain, ChainTo, Calls, CallsTo}

-- an answer's low 8 bits
refused_not : (f : Fault) (p : ℕ) → packed_no f p % 2 ^ 8 ≡ 0 → ⊥
refused_not f p e = let s = number_small f in omega (arith, s.0, s.1)

above_whole : (n : ℕ) → n < 2 ^ 56 → above n ≡ n * 2 ^ 8
above_whole n h = mod-eq_of_lt (omega arith)

-- a packed answer that is accepted
packed_ok : (a : Result ℕ Refusal) (r : ℕ) → r ≡ packed itself (told a) → r % 2 ^ 8 ≡ 0 → (m : ℕ) × (a ≡ Ok m) × (r ≡ above m)
packed_ok (Ok m) r e z = (m, refl, e)
packed_ok (Err x) r e z = absurd (refused_not x.fault x.place (ap (λ (n : ℕ). n % 2 ^ 8) (sym e) ∙ z))

ok_packed : (a : Result ℕ Refusal) (r n : ℕ) → r ≡ packed itself (told a) → a ≡ Ok n → r ≡ above n
ok_packed a r n e i = e ∙ ap (λ (x : Result ℕ Refusal). packed itself (told x)) i

ok_accepted : (a : Result ℕ Refusal) (r n : ℕ) → r ≡ packed itself (told a) → a ≡ Ok n → r % 2 ^ 8 ≡ 0
ok_accepted a r n e i = let is = ok_packed a r n e i in omega arith

-- the state that is read from a state's numbers
stage_again : (s : Outline) → stage_of (stage_number s) ≡ s
stage_again Closed = refl
stage_again Area = refl
stage_again Ring = refl

state_again : (s : State) → state_of (numbers_of s) ≡ s
state_again s = rw (stage_again s.stage) refl

-- a call of the interface that left l is one of the library with this outcome
record Same (o : Outcome) (l : Left) : Type 0 where
  answer : l.answer ≡ packed itself (told o.answer)
  state : state_of l.numbers ≡ o.state

abbrev in_library : Outcome → Left → library.Left
in_library o l = record { came = o; buffer = l.buffer }

-- the numbers say the state that was left, if they said the one before where a refusal leaves them
state_left : (s : Step) (st : State) (ns b : List ℕ) (a : Res ℕ) → (step s st b).answer ≡ a → ((f : Fault) (p : ℕ) → a ≡ no f p → state_of ns ≡ st) → state_of (kept ns a (step s st b).state) ≡ (step s st b).state
state_left s st ns b (ok n) e before = state_again (step s st b).state
state_left s st ns b (no f p) e before = before f p refl ∙ sym (step_no s st b f p e).0

same_from : (s : Step) (st : State) (ns b : List ℕ) (l : Left) → ((f : Fault) (p : ℕ) → (step s st b).answer ≡ no f p → state_of ns ≡ st)
    → WroteFrom s st ns b l.answer l.numbers l.buffer → Same (came (step s st b)) l
same_from s st ns b l before w =
    let o = step s st b in
    record {
      answer = w.0 ∙ sym (ap (packed itself) (told_shown_lem o.answer));
      state = ap state_of w.1 ∙ state_left s st ns b o.answer refl before;
    }

-- the outcome of the next call, and that it is the same
abbrev outcome : Step → Left → Outcome
outcome s l = came (step s (state_of l.numbers) l.buffer)

same_next : (s : Step) (l next : Left) → Wrote s l.numbers l.buffer next.answer next.numbers next.buffer → Same (outcome s l) next
same_next s l next w = same_from s (state_of l.numbers) l.numbers l.buffer next (λ f p e. refl) w

to_library : (ss : List Step) (l : Left) (o : Outcome) → Same o l → Chain ss l → library.Chain ss (in_library o l)
to_library [] l o e c = tt
to_library (s ∷ ss) l o e c =
    let next = in_library (outcome s l) c.1 in
    (c.0, next, subst (λ (st : State). Stepped s st l.buffer next.came next.buffer) e.state (refl, c.2.2), to_library ss c.1 (outcome s l) (same_next s l c.1 c.2) c.3)

chain_there : (ss : List Step) (l : Left) (o : Outcome) (e : Same o l) (c : Chain ss l) (n : ℕ) (b' : List ℕ) → ChainTo ss l c n b'
    → (m : ℕ) × (n * 2 ^ 8 ≡ above m) × library.ChainTo ss (in_library o l) (to_library ss l o e c) m b'
unfolding to_library
chain_there [] l o e c n b' to =
    let a = packed_ok o.answer l.answer e.answer (ap (λ (x : ℕ). x % 2 ^ 8) to.0 ∙ omega arith) in
    (a.0, sym to.0 ∙ a.2, (a.1, to.1))
chain_there (s ∷ ss) l o e c n b' to =
    let a = packed_ok o.answer l.answer e.answer to.0 in
    let r = chain_there ss c.1 (outcome s l) (same_next s l c.1 c.2) c.3 n b' to.1 in
    (r.0, r.1, ((a.0, a.1), r.2))

chain_here : (ss : List Step) (l : Left) (o : Outcome) (e : Same o l) (c : Chain ss l) (n : ℕ) (b' : List ℕ) → n < 2 ^ 56
    → library.ChainTo ss (in_library o l) (to_library ss l o e c) n b' → ChainTo ss l c n b'
unfolding to_library
chain_here [] l o e c n b' few to = (ok_packed o.answer l.answer n e.answer to.0 ∙ above_whole n few, to.1)
chain_here (s ∷ ss) l o e c n b' few to =
    (ok_accepted o.answer l.answer to.0.0 e.answer to.0.1, chain_here ss c.1 (outcome s l) (same_next s l c.1 c.2) c.3 n b' few to.1)

-- the first of some calls that are all accepted, of the interface and of the library
first_accepted : (ss : List Step) (l : Left) (c : Chain ss l) (n : ℕ) (b' : List ℕ) → ChainTo ss l c n b' → l.answer % 2 ^ 8 ≡ 0
first_accepted [] l c n b' to = ap (λ (x : ℕ). x % 2 ^ 8) to.0 ∙ omega arith
first_accepted (s ∷ ss) l c n b' to = to.0

library_first : (ss : List Step) (l : library.Left) (c : library.Chain ss l) (n : ℕ) (b' : List ℕ) → library.ChainTo ss l c n b' → (m : ℕ) × (l.came.answer ≡ Ok m)
library_first [] l c n b' to = (n, to.0)
library_first (s ∷ ss) l c n b' to = to.0

-- calls leave a buffer of the same size
step_size : (s : Step) (st : State) (b : List ℕ) (a : Res ℕ) → (step s st b).answer ≡ a → length (step s st b).buffer ≡ length b
step_size s st b (ok n) e = (step_keeps s st b n e).size
step_size s st b (no f p) e = ap length (step_no s st b f p e).1

chain_size : (ss : List Step) (l : Left) (c : Chain ss l) (n : ℕ) (b' : List ℕ) → ChainTo ss l c n b' → length b' ≡ length l.buffer
chain_size [] l c n b' to = sym (ap length to.1)
chain_size (s ∷ ss) l c n b' to =
    chain_size ss c.1 c.3 n b' to.1 ∙ (ap length c.2.2 ∙ step_size s (state_of l.numbers) l.buffer _ refl)

laid_inside : (b m : List ℕ) {b' : List ℕ} → b' ≡ overlaid b m → length m ≤ length b'
laid_inside b m e = omega (arith, ap length e, length-append m (drop (length m) b))

-- a begin, which reads no state: where it is accepted, the calls from it on are calls of the library
abbrev begun : ℕ → ℕ → List ℕ → Outcome
begun i j b = came (step (begin_area i j) (closed 0) b)

module _ (i j : ℕ) (ss : List Step) (ns b : List ℕ) (c : Calls i j ss ns b) where
  begun_same : (m : ℕ) → (begun i j b).answer ≡ Ok m → Same (begun i j b) c.2
  begun_same m e =
      let o = step (begin_area i j) (closed 0) b in
      same_from (begin_area i j) (closed 0) ns b c.2 (λ f p x. absurd (no_ok (sym x ∙ shown_ok o.answer refl e))) c.3

  of_library : Same (begun i j b) c.2 → library.Calls i j ss b
  of_library k = (c.0, c.1, in_library (begun i j b) c.2, (refl, c.3.2), to_library ss c.2 (begun i j b) k c.4)

-- Err slice has as many as 2^56 bytes, so that an answer tells a position whole; that is a premise here, for a list may be of any length.

-- the calls that a good polygon spells, on a buffer with room for it, are accepted and write it
pub good_calls : (p : Polygon) → polygon.Good p → (ns b : List ℕ) → length b < 2 ^ 56 → let m = polygon.bytes p in length m ≤ length b → (c : Calls p.edition p.internal (polygon_rest p) ns b)
    → CallsTo p.edition p.internal (polygon_rest p) ns b c (length m) (overlaid b m)
unfolding of_library
good_calls p g ns b few room c =
    let m = polygon.bytes p in
    let d = spelled_calls p g b in
    let first = library_first (polygon_rest p) d.2 d.4 (length m) (overlaid b m) (library-good p g b room d) in
    let accepted = sym (ap (λ (o : Outcome). o.answer) d.3.0) ∙ first.1 in
    let k = begun_same p.edition p.internal (polygon_rest p) ns b c first.0 accepted in
    let whole : length m < 2 ^ 56 = omega arith in
    chain_here (polygon_rest p) c.2 (begun p.edition p.internal b) k c.4 (length m) (overlaid b m) whole
    (library-good p g b room (of_library p.edition p.internal (polygon_rest p) ns b c k))

-- calls that are accepted from a begin to a finish have written a good polygon
pub calls_wrote : (i j : ℕ) (ss : List Step) (ns b : List ℕ) → length b < 2 ^ 56 → (c : Calls i j ss ns b) (n : ℕ) (b' : List ℕ) → CallsTo i j ss ns b c n b' → Finished ss
    → library.Wrote (begin_area i j ∷ ss) b n b'
unfolding of_library
calls_wrote i j ss ns b few c n b' to f =
    let o = step (begin_area i j) (closed 0) b in
    let a = packed_ok (begun i j b).answer c.2.answer (c.3.0 ∙ sym (ap (packed itself) (told_shown_lem o.answer))) (first_accepted ss c.2 c.4 n b' to) in
    let k = begun_same i j ss ns b c a.0 a.1 in
    let r = chain_there ss c.2 (begun i j b) k c.4 n b' to in
    let w = library-wrote i j ss b (of_library i j ss ns b c k) r.0 b' r.2 f in
    let size : length b' ≡ length b = chain_size ss c.2 c.4 n b' to ∙ (ap length c.3.2 ∙ step_size (begin_area i j) (closed 0) b _ refl) in
    let inside = laid_inside b (polygon.bytes w.area) w.buffer in
    let whole : r.0 < 2 ^ 56 = omega (arith, w.size) in
    let told : n * 2 ^ 8 ≡ r.0 * 2 ^ 8 = r.1 ∙ above_whole r.0 whole in
    let is : r.0 ≡ n = omega arith in
    subst (λ (z : ℕ). library.Wrote (begin_area i j ∷ ss) b z b') is w
