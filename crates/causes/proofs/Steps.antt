-- A step is refused rightly: a cause that it gives is one of what it was given.
use Prim.Native.Nat.{ℕ}
use mathlib.Core.Path.{◌≡◌, refl, sym, ◌∙◌, subst}
use mathlib.Core.Bool.{Bool, true, false, true≢false}
use mathlib.Core.List.{List, [], ◌∷◌}
use mathlib.Core.Logic.{inl, inr}
use mathlib.Core.Option.{Option, some, none}
use lib.ListN.{length, get_or}
use lib.Dec.{leb, eqb}
use borrow.Author.Tests.{eqb-true}
use Rattle.format.specs.declared.Fault.TheVariants.{Limit, WireType, Decimal, Point, Name, Geography, Output, PastEnd, Stage as WrongStage}
use Rattle.format.specs.Result.{pick, number_of}
use Rattle.format.specs.Format.{Verdict}
use Rattle.format.specs.Text.{utf8}
use Rattle.format.specs.Value.{Value, fixed, body, is_counted, fixed_fine, anything, not_empty, rule_of, ascii, t_decimal, t_geography, t_string}
use Rattle.format.specs.Geography.{fewest_vertices}
use Rattle.steps.specs.State.{State}
use Rattle.steps.specs.Plans.{also, test}
use Rattle.steps.specs.Arguments.{Column, Opening, is_number_of, value_fault, name_fault, name_faults, opening_fault}
use Rattle.steps.specs.Steps.{Step, begin_call, null_param, one_param, bytes_param, open_array, element, close_array, finish_call, begin_reply, open_table, open_row, cell, close_row, close_table, finish_reply, plan, step}
use Rattle.steps.specs.Logins.{Welcome, login_request, login_response, request_fault, response_fault}
use Rattle.outline.specs.declared.State.{State as Outline}
use Rattle.outline.specs.Steps as outline
use Rattle.causes.specs.Causes.{Rightly}
use Rattle.causes.specs.Given.{Given, value, flags, columns, nothing, given, Anywhere, NoCause, For, of_value, HighByte, Claims, of_outline}
use Rattle.causes.proofs.Messages.{ascii_byte, fixed_cases}
use Rattle.causes.proofs.Verdicts.{Blames, rightly_carry, blames_fine, blames_bad, blames_test, blames_also, blames_pick, blames_text, blames_note, blames_utf8}

ruleset laws = (blames_fine, blames_test, blames_also, blames_pick, blames_text, blames_note, blames_utf8, refl)

abbrev FixedBreaks : ℕ → ℕ → Type 0
FixedBreaks n t = fixed_fine t n ≡ false → of_value t (fixed n) (pick (eqb t t_decimal) Decimal Point)

-- a body is refused by the rule of its type if it is an empty geography, or no text
rule_blames : (t : ℕ) (bs : List ℕ) → Blames (of_value t (body (some bs))) (rule_of t bs)
rule_blames t bs = go (eqb t t_geography) (eqb t t_string) refl
  where
    empty : (bs : List ℕ) → eqb t t_geography ≡ true → Blames (of_value t (body (some bs))) (not_empty bs)
    empty [] is = blames_bad Geography 0 (eqb-true t t_geography is, refl)
    empty (b ∷ bs) is = blames_fine

    go : (g s : Bool) → eqb t t_geography ≡ g → Blames (of_value t (body (some bs))) (pick g not_empty (pick s utf8 anything) bs)
    go true s is = empty bs is
    go false true is = blames_utf8 refl bs
    go false false is = blames_fine

value_blames : (p t : ℕ) (v : Value) → Blames (of_value t v) (value_fault p t v)
unfolding value_fault
value_blames p t (fixed n) =
    blames_also (test (is_number_of t n) WireType p) (blames_test (is_number_of t n) WireType p (λ e. refl))
    (blames_test (fixed_fine t n) (pick (eqb t t_decimal) Decimal Point) p (fixed_cases (FixedBreaks n) (λ bad. (refl, bad)) (λ bad. (refl, bad)) (λ t all bad. absurd (true≢false (sym (all n) ∙ bad))) t))
value_blames p t (body b) =
    blames_also (test (is_counted t) WireType p) (blames_test (is_counted t) WireType p (λ e. refl))
    (blames_note (rule_of t) p b refl (λ bs is. subst (λ (b : Option (List ℕ)). Blames (of_value t (body b)) (rule_of t bs)) (sym is) (rule_blames t bs)))

name_blames : (p : ℕ) (b : Option (List ℕ)) → Blames (For Name (HighByte b)) (name_fault p b)
name_blames p none = blames_bad PastEnd 0 refl
name_blames p (some bs) = blames_text ascii p bs refl (record { blames = λ f q e. let h = ascii_byte 4 bs f q e in rw h.3 (h.0, h.1, h.4) })

widen : {A D : Type 0} {v : Verdict} → (A → D) → Blames (For Name A) v → Blames (For Name D) v
widen {A} {D} h b = record { blames = λ f p e. wider (eqb (number_of f) (number_of Name)) (NoCause f) (b.blames f p e) }
  where
    wider : (t : Bool) (C : Type 0) → pick t A C → pick t D C
    wider true C a = h a
    wider false C c = c

names_blame : (p : ℕ) (cs : List Column) → Blames (Claims (columns cs)) (name_faults p cs)
unfolding name_faults
names_blame p [] = blames_fine
names_blame p (c ∷ cs) = blames_also (name_fault p c.name) (widen inl (name_blames p c.name)) (widen inr (names_blame p cs))

opening_blames : (o : Opening) → Blames (Claims (flags o.flags)) (opening_fault o)
unfolding opening_fault
opening_blames o = search laws depth 10

-- the faults of every step claim nothing of what it was given
plain : (g : Given) → Claims g WrongStage × Claims g Limit × Claims g Output × Claims g WireType
plain (value t (fixed n)) = (refl, refl, refl, refl)
plain (value t (body b)) = (refl, refl, refl, refl)
plain (flags n) = (refl, refl, refl, refl)
plain (columns cs) = (refl, refl, refl, refl)
plain nothing = (refl, refl, refl, refl)

typed_blames : (p t u : ℕ) (v : Value) → Blames (of_value t v) (also (test (eqb t u) WireType p) (value_fault p t v))
typed_blames p t u v = blames_also (test (eqb t u) WireType p) (blames_test (eqb t u) WireType p (λ e. (plain (value t v)).3)) (value_blames p t v)

faults_blamed : (s : Step) (st : State) (size : ℕ) → Blames (Claims (given s)) (plan s st size).faults
faults_blamed (begin_call version procedure client) st size = search laws
faults_blamed null_param st size = blames_fine
faults_blamed (one_param t v) st size = value_blames st.position t v
faults_blamed (bytes_param bs) st size = search laws
faults_blamed (open_array t) st size = search laws
faults_blamed (element t v) st size = typed_blames st.position t st.inner.type v
faults_blamed close_array st size = blames_fine
faults_blamed finish_call st size = blames_fine
faults_blamed (begin_reply version o) st size = search (laws, opening_blames)
faults_blamed (open_table status cs) st size = search (laws, names_blame)
faults_blamed open_row st size = blames_fine
faults_blamed (cell t v) st size = typed_blames st.position t (get_or st.outer.types st.inner.count 0) v
faults_blamed close_row st size = blames_fine
faults_blamed close_table st size = blames_fine
faults_blamed finish_reply st size = blames_fine

-- whatever the state and the buffer are
pub step_rightly : (s : Step) (st : State) (b : List ℕ) → Rightly (Anywhere (Claims (given s))) (step s st b).answer
unfolding step
step_rightly s st b =
    let always = plain (given s) in
    rightly_carry (plan s st (length b)) st b always.0 always.1 always.2 (faults_blamed s st (length b))

-- the logins are given nothing that may break such a rule
pub request_rightly : (version hash_version : ℕ) (service user hash b : List ℕ) → Rightly (Anywhere (Claims nothing)) (login_request version hash_version service user hash b).answer
unfolding login_request request_fault
request_rightly version hash_version service user hash b = rightly_carry _ _ b refl refl refl (search laws depth 10)

pub response_rightly : (version result : ℕ) (w : Welcome) (b : List ℕ) → Rightly (Anywhere (Claims nothing)) (login_response version result w b).answer
unfolding login_response response_fault
response_rightly version result w b = rightly_carry _ _ b refl refl refl (search laws depth 10)

-- the steps of an area
outline_plain : (s : outline.Step) (st : Outline) → of_outline s st WrongStage × of_outline s st Limit × of_outline s st Output
outline_plain (outline.begin_area edition internal) st = (refl, refl, refl)
outline_plain (outline.open_ring mark) st = (refl, refl, refl)
outline_plain (outline.add_vertex x y z) st = (refl, refl, refl)
outline_plain (outline.close_ring kept) st = (refl, refl, refl)
outline_plain (outline.finish_area kept) st = (refl, refl, refl)

outline_blamed : (s : outline.Step) (st : Outline) (size : ℕ) → Blames (of_outline s st) (outline.plan s st size).faults
outline_blamed (outline.begin_area edition internal) st size = blames_fine
outline_blamed (outline.open_ring mark) st size = blames_fine
outline_blamed (outline.add_vertex x y z) st size = blames_fine
outline_blamed (outline.close_ring kept) st size = blames_test (leb fewest_vertices st.vertices) Geography st.position (λ few. few)
outline_blamed (outline.finish_area kept) st size = blames_test (leb 1 st.rings) Geography st.position (λ few. few)

pub outline_rightly : (s : outline.Step) (st : Outline) (b : List ℕ) → Rightly (Anywhere (of_outline s st)) (outline.step s st b).answer
unfolding outline.step
outline_rightly s st b =
    let always = outline_plain s st in
    rightly_carry (outline.plan s st (length b)) st b always.0 always.1 always.2 (outline_blamed s st (length b))
