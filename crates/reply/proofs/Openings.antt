-- A response's fields before its table count: the parts that the code writes are the plan's bytes, and its tests give the plan's answer.
use Prim.Native.Nat.{ℕ, ◌+◌, ◌*◌, ◌≤◌, ◌%◌}
use native.Mathlib.Nat.{zero-add}
use native.Mathlib.Omega.{arith}
use mathlib.Core.Path.{◌≡◌, refl, sym, ap, ap₂, ◌∙◌}
use mathlib.Core.Bool.{Bool, true, false}
use mathlib.Core.List.{List, [], ◌++◌, append_assoc}
use mathlib.Core.Option.{Option, some, none}
use lib.ListN.{length, length-append}
use lib.Dec.{leb, eqb}
use Rattle.std.specs.Prelude.{Result, Ok, Err}
use Rattle.format.specs.declared.Fault.TheVariants.{Version, Flags}
use Rattle.format.specs.declared.Refusal.{Refusal}
use Rattle.format.specs.Result.{pick}
use Rattle.format.specs.Number.{num_bytes}
use Rattle.format.specs.Format.{Verdict, fine, number, block, ruled, both, present, nothing, into, counted}
use Rattle.format.specs.Text.{utf8}
use Rattle.format.specs.Value.{anything, most_bytes}
use Rattle.format.specs.Message.{null_text, binary, flagged, head as head_format, a_response, message}
use Rattle.format.proofs.Numbers.{length-num_bytes}
use Rattle.put.specs.Put.{put, sized}
use Rattle.put.proofs.Laws.{Puts, puts, sized_null, sized_some}
use Rattle.write.specs.declared.State.{State as Code}
use Rattle.steps.specs.Plans.{answer_of, also, test}
use Rattle.steps.specs.Arguments.{text_fault, null_text_fault, opening_fault, opened}
use Rattle.steps.specs.Steps.{Step, answer_at, plan, says, begin_reply}
use Rattle.write.specs.Shown.{zero, seen, shown_answer, Stepped}
use Rattle.steps.proofs.Back.{also_fine}
use Rattle.steps.proofs.Reply.{head, begin_bytes_lem}
use Rattle.write.proofs.Bytes.{text_few}
use Rattle.write.proofs.Taken.{answered, step_refused, step_accepted}
use Rattle.reply.specs.declared.Head.{Head}
use Rattle.reply.specs.Opening.{opening_of, begin_fault, let_in, status_part, app_part, exception_part, begin_size, front_bytes, middle_bytes, end_bytes, begin_bytes}

-- bytes that are put whole
pub puts_whole : (b : List ℕ) (at : ℕ) (bs : List ℕ) {m : ℕ} {c : List ℕ} → at + length bs ≤ length b → (m ≡ at + length bs) × (c ≡ put b at bs) → Puts b at (length bs) bs m c
puts_whole b at bs f e = puts b at (length bs) bs refl f e

-- a string that its flag lets in
null_part : (t : Bool) (x y : ℕ) (o : Option (List ℕ)) → (present t none (null_text x y)).bytes (pick t (some o) none) ≡ pick t (sized o) []
unfolding present into nothing counted
null_part true x y none = refl
null_part true x y (some bs) = refl
null_part false x y o = refl

binary_part : (t : Bool) (x y : ℕ) (bs : List ℕ) → (present t none (binary x y)).bytes (pick t (some (some bs)) none) ≡ let_in t (some bs)
unfolding present into nothing counted
binary_part true x y bs = refl
binary_part false x y bs = refl

module _ (rule : List ℕ → Verdict) where
  let_in_limit : (there : Bool) (o : Option (List ℕ)) → pick there (null_text_fault rule 0 o) fine ≡ fine → length (let_in there o) ≤ 4 + most_bytes
  let_in_limit true none e = let l = sized_null in omega arith
  let_in_limit true (some bs) e = let l = sized_some bs in let h = text_few rule 0 bs e in omega arith
  let_in_limit false o e = omega arith

-- the parts, one after the other
regroup : (a b c d e f g i j k l : List ℕ) → a ++ ((b ++ (c ++ (d ++ ((e ++ f) ++ ((g ++ i) ++ (j ++ k)))))) ++ l) ≡ (a ++ (b ++ (c ++ (d ++ e)))) ++ ((f ++ (g ++ i)) ++ (j ++ (k ++ l)))
regroup a b c d e f g i j k l = simp append_assoc

pub begin_whole : (h : Head) (client : List ℕ) (status app : Option (List ℕ)) (exception : List ℕ) → begin_bytes h client status app exception
    ≡ num_bytes 4 0 ++ (message 4).bytes (says h.version (a_response (opened (opening_of h client status app exception))))
unfolding head head_format into both ruled number block present
begin_whole h client status app exception =
    let o = opening_of h client status app exception in
    let f₀ = flagged 32 h.flags in
    let f₁ = flagged 128 h.flags in
    let f₂ = flagged 64 h.flags in
    let p = status_part h status in
    let q = app_part h app in
    let r = exception_part h exception in
    let q₀ = (present f₁ none (null_text 35 36)).bytes (opened o).head.app_string in
    let r₀ = (present f₂ none (binary 38 39)).bytes (opened o).head.exception in
    let parts : List ℕ → List ℕ → List ℕ → List ℕ = λ x y z. num_bytes 4 0 ++ ((num_bytes 1 h.version ++ (client ++ (num_bytes 1 h.flags ++ ((num_bytes 1 h.status ++ x)
    ++ ((num_bytes 1 h.app_status ++ y) ++ (num_bytes 4 h.round_trip ++ z)))))) ++ num_bytes 2 0) in
    sym (
    ap (λ (x : List ℕ). num_bytes 4 0 ++ x) (begin_bytes_lem h.version (opened o))
    ∙ ap (λ (x : List ℕ). parts x q₀ r₀) (null_part f₀ 32 33 o.status_string)
    ∙ ap (λ (x : List ℕ). parts p x r₀) (null_part f₁ 35 36 o.app_string)
    ∙ ap (λ (x : List ℕ). parts p q x) (binary_part f₂ 38 39 exception)
    ∙ regroup (num_bytes 4 0) (num_bytes 1 h.version) client (num_bytes 1 h.flags) (num_bytes 1 h.status) p (num_bytes 1 h.app_status) q (num_bytes 4 h.round_trip) r (num_bytes 2 0))

-- how long they are
pub front_length : (h : Head) (client : List ℕ) → length client ≡ 8 → length (front_bytes h client) ≡ 15
front_length h client e = simp (length-append, length-num_bytes, e)

pub middle_length : (h : Head) (status app : Option (List ℕ)) → length (middle_bytes h status app) ≡ length (status_part h status) + (1 + length (app_part h app))
middle_length h status app =
    let x = status_part h status in
    let y = app_part h app in
    let n = num_bytes 1 h.app_status in
    length-append x (n ++ y) ∙ ap (λ (k : ℕ). length x + k) (length-append n y ∙ ap (λ (k : ℕ). k + length y) (length-num_bytes 1 h.app_status))

pub end_length : (h : Head) (exception : List ℕ) → length (end_bytes h exception) ≡ 4 + (length (exception_part h exception) + 2)
end_length h exception =
    let x = exception_part h exception in
    length-append (num_bytes 4 h.round_trip) (x ++ num_bytes 2 0)
    ∙ ap₂ ◌+◌ (length-num_bytes 4 h.round_trip) (length-append x (num_bytes 2 0) ∙ ap (λ (k : ℕ). length x + k) (length-num_bytes 2 0))

begin_length : (h : Head) (client : List ℕ) (status app : Option (List ℕ)) (exception : List ℕ) → length client ≡ 8
    → length (num_bytes 4 0 ++ (message 4).bytes (says h.version (a_response (opened (opening_of h client status app exception))))) ≡ begin_size h status app exception
begin_length h client status app exception e =
    let l₀ = ap length (sym (begin_whole h client status app exception)) in
    let l₁ = length-append (front_bytes h client) (middle_bytes h status app ++ end_bytes h exception) in
    let l₂ = length-append (middle_bytes h status app) (end_bytes h exception) in
    let l₃ = front_length h client e in
    let l₄ = middle_length h status app in
    let l₅ = end_length h exception in
    omega arith

-- strings without a fault are short
opening_limits : (h : Head) (status app : Option (List ℕ)) (exception : List ℕ) → begin_fault h status app exception ≡ fine
    → (length (status_part h status) ≤ 4 + most_bytes) × (length (app_part h app) ≤ 4 + most_bytes) × (length (exception_part h exception) ≤ 4 + most_bytes)
unfolding opening_fault
opening_limits h status app exception e =
    let f₀ = test (eqb (h.flags % 32) 0) Flags 0 in
    let f₁ = pick (flagged 32 h.flags) (null_text_fault utf8 0 status) fine in
    let f₂ = pick (flagged 128 h.flags) (null_text_fault utf8 0 app) fine in
    let f₃ = pick (flagged 64 h.flags) (text_fault anything 0 exception) fine in
    let z₀ = also_fine (test (leb h.version 1) Version 0) (also f₀ (also f₁ (also f₂ f₃))) e in
    let z₁ = also_fine f₀ (also f₁ (also f₂ f₃)) z₀.1 in
    let z₂ = also_fine f₁ (also f₂ f₃) z₁.1 in
    let z₃ = also_fine f₂ f₃ z₂.1 in
    (let_in_limit utf8 (flagged 32 h.flags) status z₂.0, let_in_limit utf8 (flagged 128 h.flags) app z₃.0, let_in_limit anything (flagged 64 h.flags) (some exception) z₃.1)

-- and so their sum, however the code counts them, fits
pub sizes_few : (h : Head) (status app : Option (List ℕ)) (exception : List ℕ) {x y z : ℕ} → begin_fault h status app exception ≡ fine → x ≡ length (status_part h status) → y ≡ length (app_part h app)
    → z ≡ length (exception_part h exception) → x + (y + z) ≤ 12 + 3 * most_bytes
sizes_few h status app exception e f g i = let l = opening_limits h status app exception e in omega (arith, l.0, l.1, l.2)

module _ (h : Head) (client : List ℕ) (status app : Option (List ℕ)) (exception : List ℕ) (size : ℕ) (eight : length client ≡ 8) {a : Result ℕ Refusal} where
  pub begin_answer : a ≡ shown_answer (answer_at true (begin_fault h status app exception) true 0 (begin_size h status app exception) size)
      → a ≡ shown_answer (answer_of (plan (begin_reply h.version (opening_of h client status app exception)) (seen zero []) size) size)
  unfolding opening_fault
  begin_answer e = answered (plan (begin_reply h.version (opening_of h client status app exception)) (seen zero []) size) size e refl refl (λ u w. (refl, sym (begin_length h client status app exception eight)))

-- where a begin that is taken ends
pub record Whole (n sum size : ℕ) : Type 0 where
  pub is : n ≡ sum
  pub room : n ≤ size

pub begin_ends : (h : Head) (client : List ℕ) (status app : Option (List ℕ)) (exception b : List ℕ) {a : Result ℕ Refusal} {n : ℕ} → length client ≡ 8
    → a ≡ shown_answer (answer_at true (begin_fault h status app exception) true 0 (begin_size h status app exception) (length b)) → a ≡ Ok n → Whole n (begin_size h status app exception) (length b)
begin_ends h client status app exception b eight e f =
    let t = step_accepted (begin_reply h.version (opening_of h client status app exception)) zero b [] (begin_answer h client status app exception (length b) eight e) f in
    record { is = t.reached ∙ zero-add _ ∙ begin_length h client status app exception eight; room = t.fits }

-- a begin that is refused gives back that nothing is open
pub begin_refused : (s : Step) (b : List ℕ) {none : Code} {a : Result ℕ Refusal} {x : Refusal} → none ≡ zero → a ≡ shown_answer (answer_of (plan s (seen zero []) (length b)) (length b)) → a ≡ Err x
    → Stepped s zero [] b (record { answer = a; state = none }) b
begin_refused s b e f g = rw e (step_refused s zero b [] f g)
