-- A message is refused rightly: what a refusal's number claims of the bytes at its place holds. Format by format, by the laws of what each is made of.
use Prim.Native.Nat.{ℕ, suc, ◌+◌, ◌<◌, ◌≤◌}
use mathlib.Core.Path.{◌≡◌, refl, sym, ap, ◌∙◌, subst}
use mathlib.Core.Bool.{Bool, true, false, ◌||◌, true≢false}
use mathlib.Core.List.{List, [], ◌∷◌}
use lib.ListN.{length, get_or, take, drop, length-drop}
use lib.Seq.{length-take-le, get_or-take, get_or-drop}
use lib.Dec.{leb, ltb, eqb}
use native.Mathlib.Omega.{arith}
use borrow.Author.Tests.{eqb-true}
use Rattle.format.specs.declared.Fault.{Fault}
use Rattle.format.specs.declared.Fault.TheVariants.{Short, Negative, Limit, Extra, WireType, Decimal, Point, Name, Geography}
use Rattle.format.specs.Result.{pick}
use Rattle.format.specs.Number.{num_at, half}
use Rattle.format.specs.Format.{Format, Index, number, ruled, bad}
use Rattle.format.specs.Text.{utf8}
use Rattle.format.specs.Value.{value, width_of, fixed_fine, anything, not_empty, rule_of, name_byte_fine, ascii_from, ascii, t_decimal, t_point, t_geography, t_string}
use Rattle.format.specs.Message.{login_request, server, login_response, list, items, argument, param, invocation, metadata, row, table, head, response, content_of, message, read_message, is_layout, most_message}
use Rattle.format.proofs.Texts.{utf8_bad}
use Rattle.causes.specs.Causes.{Holds, There, Rightly, of_message}
use Rattle.causes.proofs.Rightly.{Right, Judges, number_is, rightly_ok, rightly_no, rightly_pick, rightly_bind, right_number, right_block, right_nothing, right_ruled, right_plain, right_tested, right_room, right_into, right_both, right_pick, right_present, right_each, right_counted, all_replicate, all_map}

-- the rules of bodies
judges_anything : Judges of_message anything
judges_anything s at n fits is f k e = absurd (let z : ◌≡◌ {A = ℕ} 0 1 = cc in omega arith)

judges_utf8 : Judges of_message utf8
judges_utf8 s at n fits is f k e = rw (utf8_bad 4 0 _ f k e).0 tt

-- what the rule of a name refuses is a byte above 127, at its place
abbrev pub AtByte : ℕ → List ℕ → Fault → ℕ → Type 0
AtByte k bs f p = (i : ℕ) × (i < length bs) × (p ≡ k + i) × (f ≡ Name) × (name_byte_fine (get_or bs i 0) ≡ false)

pub ascii_byte : (k : ℕ) (bs : List ℕ) (f : Fault) (p : ℕ) → ascii_from k bs ≡ bad f p → AtByte k bs f p
ascii_byte k [] f p e = absurd (let z : ◌≡◌ {A = ℕ} 0 1 = cc in omega arith)
ascii_byte k (b ∷ bs) f p e = by_test (name_byte_fine b) refl (ascii_byte (k + 1) bs f p) e
  where
    by_test : (t : Bool) → name_byte_fine b ≡ t → (ascii_from (k + 1) bs ≡ bad f p → AtByte (k + 1) bs f p) → pick t (ascii_from (k + 1) bs) (bad Name k) ≡ bad f p → AtByte k (b ∷ bs) f p
    by_test true is rest e = let h = rest e in (suc h.0, omega (arith, h.1), omega (arith, h.2), h.3, h.4)
    by_test false is rest e = let same : k ≡ p = cc in (0, omega arith, omega arith, cc, is)

one_byte : (s : List ℕ) (p : ℕ) → num_at 1 s p ≡ get_or s p 0
unfolding num_at
one_byte s p = omega arith

judges_ascii : Judges of_message ascii
judges_ascii s at n fits is f k e =
    let h = ascii_byte 4 (take n (drop (at + 4) s)) f k e in
    let size : length (take n (drop (at + 4) s)) ≡ n = length-take-le n (drop (at + 4) s) (simp length-drop (omega arith)) in
    let small : h.0 < n = omega (arith, h.1) in
    let byte : get_or (take n (drop (at + 4) s)) h.0 0 ≡ get_or s (at + 4 + h.0) 0 = get_or-take n (drop (at + 4) s) h.0 0 small ∙ get_or-drop (at + 4) s h.0 0 in
    let there : at + 4 + h.0 ≡ at + k = omega (arith, h.2) in
    rw h.3 (omega arith, rw (one_byte s (at + k), ← there, ← byte) h.4)

judges_not_empty : Judges of_message not_empty
judges_not_empty s at n fits is f k e = by_body _ refl e
  where
    by_body : (bs : List ℕ) → take n (drop (at + 4) s) ≡ bs → not_empty bs ≡ bad f k → Holds (of_message f) s (at + k)
    by_body [] none e =
        let size : length (take n (drop (at + 4) s)) ≡ n = length-take-le n (drop (at + 4) s) (simp length-drop (omega arith)) in
        let empty : n ≡ 0 = sym size ∙ ap length none in
        let first : 0 ≡ k = cc in
        let geography : Geography ≡ f = cc in
        let here : at + k ≡ at = omega arith in
        rw (← geography, here) (omega arith, rw (is ∙ empty) refl)
    by_body (b ∷ bs) some e = absurd (let z : ◌≡◌ {A = ℕ} 0 1 = cc in omega arith)

judges_rule : (t : ℕ) → Judges of_message (rule_of t)
judges_rule t = go (eqb t t_geography) (eqb t t_string)
  where
    go : (g s : Bool) → Judges of_message (pick g not_empty (pick s utf8 anything))
    go true s = judges_not_empty
    go false true = judges_utf8
    go false false = judges_anything

ruleset laws = (right_number, right_block, right_nothing, right_plain, right_tested, right_room, right_into, right_both, right_pick, right_present, right_each, right_counted, all_replicate, all_map, judges_anything, judges_utf8, judges_ascii, judges_rule, tt)

-- a value of a fixed size: a decimal, a point, or one that any number is
pub fixed_cases : (P : ℕ → Type 0) → P t_decimal → P t_point → ((t : ℕ) → ((n : ℕ) → fixed_fine t n ≡ true) → P t) → (t : ℕ) → P t
fixed_cases P decimal point any t = go (eqb t t_decimal) (eqb t t_point) refl refl
  where
    go : (d p : Bool) → eqb t t_decimal ≡ d → eqb t t_point ≡ p → P t
    go true p is q = subst P (sym (eqb-true t t_decimal is)) decimal
    go false true is q = subst P (sym (eqb-true t t_point q)) point
    go false false is q = any t (λ n. rw (is, q) refl)

abbrev FixedBreaks : List ℕ → ℕ → ℕ → Type 0
FixedBreaks s at t = at + width_of t ≤ length s → fixed_fine t (num_at (width_of t) s at) ≡ false → Holds (of_message (pick (eqb t t_decimal) Decimal Point)) s at

fixed_breaks : (t : ℕ) (s : List ℕ) (at : ℕ) → FixedBreaks s at t
fixed_breaks t s at = fixed_cases (FixedBreaks s at) (λ fits bad. (fits, bad)) (λ fits bad. (fits, bad)) (λ t all fits bad. absurd (true≢false (sym (all (num_at (width_of t) s at)) ∙ bad))) t

right_fixed : (b t : ℕ) → Right of_message (ruled (fixed_fine t) (pick (eqb t t_decimal) Decimal Point) (number (width_of t) b))
right_fixed b t =
    right_ruled (fixed_fine t) (pick (eqb t t_decimal) Decimal Point) (right_number (λ s p. tt) (width_of t) b) (λ s at w e bad.
    let n = number_is (width_of t) b s at w e in
    fixed_breaks t s at n.0 (subst (λ (z : ℕ). fixed_fine t z ≡ false) n.1 bad))

right_value : (a b t : ℕ) → Right of_message (value a b t)
unfolding value
right_value a b t = search (laws, right_fixed)

module _ {A : Type 0} where
  right_list : (k most field : ℕ) (at-index : ℕ → Index → Index) {f : Format A} → Right of_message f → Right of_message (list k most field at-index f)
  unfolding list
  right_list k most field at-index {f} r = search laws depth 8

right_login_request : (version : ℕ) → Right of_message (login_request version)
unfolding login_request
right_login_request version = search laws depth 10

right_server : Right of_message server
unfolding server
right_server = search laws depth 10

right_login_response : Right of_message login_response
unfolding login_response
right_login_response = search (laws, right_server)

right_items : (t : ℕ) → Right of_message (items t)
unfolding items
right_items t = search (laws, right_value, right_list)

right_argument : (t : ℕ) → Right of_message (argument t)
unfolding argument
right_argument t = search (laws, right_value, right_items) depth 7

right_param : Right of_message param
unfolding param
right_param = search (laws, right_argument)

right_invocation : Right of_message invocation
unfolding invocation
right_invocation = search (laws, right_list, right_param)

right_metadata : Right of_message metadata
unfolding metadata
right_metadata = search laws depth 10

right_row : (types : List ℕ) → Right of_message (row types)
unfolding row
right_row types = search (laws, right_value)

right_table : Right of_message table
unfolding table
right_table = search (laws, right_metadata, right_list, right_row) depth 8

right_head : (timed : Bool) → Right of_message (head timed)
unfolding head
right_head timed = search laws depth 16

right_response : (timed : Bool) → Right of_message (response timed)
unfolding response
right_response timed = search (laws, right_list, right_table, right_head)

right_content_of : (layout version : ℕ) → Right of_message (content_of layout version)
unfolding content_of
right_content_of layout version = search (laws, right_login_request, right_login_response, right_invocation, right_response)

right_message : (layout : ℕ) → Right of_message (message layout)
unfolding message
right_message layout = search (laws, right_content_of)

pub message_rightly : (layout : ℕ) (m : List ℕ) → Rightly (There of_message m) (read_message layout m)
message_rightly layout m =
    rightly_pick (is_layout layout) (λ t.
    rightly_bind ((number 4 1).read m 0) ((right_number {claim = of_message} (λ s p. tt) 4 1).rightly m 0) (λ w e.
    rightly_pick (eqb w.0 0 || leb (half 4) w.0) (λ t. rightly_no Negative 0 tt) (λ t.
    rightly_pick (ltb most_message w.0) (λ t. rightly_no Limit 0 tt) (λ t.
    rightly_pick (ltb (length m) (4 + w.0)) (λ t. rightly_no Short 0 tt) (λ t.
    rightly_pick (ltb (4 + w.0) (length m)) (λ t. rightly_no Extra (4 + w.0) tt) (λ t.
    rightly_bind ((message layout).read m 4) ((right_message layout).rightly m 4) (λ q e.
    rightly_pick (eqb q.1 (length m)) (λ t. rightly_ok) (λ t. rightly_no Extra q.1 tt))))))))
    (λ t. rightly_no WireType 0 tt)
