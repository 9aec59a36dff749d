-- What each step over an accepted invocation answers, by what stands at its place.
use Prim.Native.Nat.{ℕ, ◌+◌, ◌≤◌, ◌<◌, min}
use mathlib.Core.Path.{◌≡◌, refl, sym, ◌∙◌, ap, ap₂}
use mathlib.Core.Bool.{Bool, true, false}
use mathlib.Core.List.{List}
use lib.ListN.{length, replicate}
use lib.Dec.{eqb, lit<}
use native.Mathlib.Omega.{arith}
use borrow.Author.Tests.{eqb-true, eqb-false}
use Rattle.format.specs.declared.Fault.TheVariants.{PastEnd, WireType}
use Rattle.format.specs.Result.{Res, ok, no, bind}
use Rattle.format.specs.Number.{Bytes}
use Rattle.format.specs.Format.{number, each}
use Rattle.format.specs.Text.{utf8}
use Rattle.format.specs.Value.{Value, value, string, anything, most_bytes}
use Rattle.format.specs.Message.{first, second, Argument, one_of, Param, param, Message, the_invocation, read_message}
use Rattle.format.proofs.Lengths.{lawful_counted}
use Rattle.format.proofs.Formats.{lawful_value, lawful_param}
use Rattle.pass.specs.Passes.{Passes}
use Rattle.places.specs.Stands.{Stands}
use Rattle.places.specs.Places.{params_of, param_at, element_at}
use Rattle.places.specs.Entries.{entry, values_in, value_here, element_of}
use Rattle.places.proofs.Stands.{stands_read, stands_fits, stands_at_lem}
use Rattle.places.proofs.Lists.{entry_in, entry_past, stands_entry, some_lands}
use Rattle.places.proofs.Layouts.{length-number}
use Rattle.places.proofs.Calls.{call_size, name_stands, client_size, params_listed, param_place, call_stands, param_count_stands, params_stand, param_stands, type_stands, argument_stands, is_null, is_one, width_for, Arrayed, arrayed, element_place, width_small}
use Rattle.places.proofs.Values.{element_here}
use Rattle.query.specs.Answers.{Given, given_of, of_param}
use Rattle.query.specs.Shown.{past_of, cell_in, shown_of}
use Rattle.query.specs.declared.ShownCell.{ShownCell}
use Rattle.scan.specs.Shown.{shown_next, shown, number_in}
use Rattle.format.proofs.Texts.{counted_unruled}
use Rattle.show.specs.declared.Cell.{Cell}
use Rattle.show.specs.Cells.{cell_of, unruled, shown_as}
use Rattle.show.proofs.Values.{unruled_reads}
use Rattle.query.proofs.Walks.{after_is, count_is, byte_is}
use Rattle.query.proofs.Opened.{found, found_asked}

-- the steps over an invocation
module _ (m : List ℕ) (b : Bytes m) (v : Message) (accepted : read_message 3 m ≡ ok v) {client counted : ℕ}
    (e₁ : client ≡ past_of (shown_next ((string false anything 0 0).read m 5))) (e₂ : counted ≡ past_of (shown_next ((number 8 0).read m client))) where
  counted_is : counted ≡ 5 + call_size (the_invocation v.content) + 8
  counted_is =
      let d = call_stands m b v accepted in
      let fit = stands_fits (params_listed d) in
      let named = stands_read (lawful_counted false most_bytes utf8 20 21 (lit< tt)) (name_stands d) in
      let client-is : client ≡ 5 + call_size (the_invocation v.content) = e₁ ∙ rw (counted_unruled false most_bytes utf8 20 21 0 0 m 5 _ named) in
      after_is m 8 client e₂ client-is (omega arith)

  pub params_is : {n : ℕ} → n ≡ number_in (shown ((number 2 0).read m counted)) → n ≡ length (params_of v)
  params_is f = count_is m 2 23 counted f counted_is (param_count_stands m b v accepted)

  pub param_past : (p : ℕ) → length (params_of v) ≤ p → no PastEnd 0 ≡ bind (entry (params_of v) p) (λ q. ok (param_at v p))
  param_past p h = sym (ap (λ (r : Res Param). bind r (λ q. ok (param_at v p))) (entry_past (params_of v) p h))

  pub param_found : (p from : ℕ) {at : ℕ} → p < length (params_of v) → from ≡ past_of (shown_next ((number 2 0).read m counted))
      → Passes (each first 0 (replicate p param)) m from at → ok at ≡ bind (entry (params_of v) p) (λ q. ok (param_at v p))
  param_found p from {at} h f g =
      let fit = stands_fits (param_count_stands m b v accepted) in
      let size = length-number 2 23 (length (params_of v)) in
      let from_is : from ≡ 5 + call_size (the_invocation v.content) + 8 + 2 = after_is m 2 counted f counted_is (omega arith) in
      let lands = some_lands first param lawful_param (length (params_of v)) p (params_of v) (omega arith) (params_stand m b v accepted) in
      let passes : Passes (each first 0 (replicate p param)) m (5 + call_size (the_invocation v.content) + 8 + 2) at = rw from_is at g in
      let at-is : at ≡ param_at v p = passes.ends _ _ lands ∙ sym (param_place v p (client_size (call_stands m b v accepted))) in
      let w = entry_in (params_of v) p h in
      ap ok at-is ∙ sym (ap (λ (r : Res Param). bind r (λ q. ok (param_at v p))) w.1)

-- a value that stands is shown
pub value_shown : (m : List ℕ) (l b t at : ℕ) {v : Value} → Stands (value l b t) m at v → (t' at' : ℕ) {cell : Cell} → t' ≡ t → at' ≡ at
    → cell ≡ cell_in (shown_as (cell_of t' at') ((unruled t').read m at')) → cell ≡ cell_of t at v
value_shown m l b t at d t' at' same there e = e ∙ rw (same, there, unruled_reads m at l b t (stands_read (lawful_value l b t) d))

-- the steps over a parameter
module _ (m : List ℕ) {at : ℕ} {q : Param} (d : Stands param m at q) {t inner : ℕ}
    (e₁ : t ≡ number_in (shown ((number 1 0).read m at))) (e₂ : inner ≡ past_of (shown_next ((number 1 0).read m at))) where
  type_is : t ≡ q.type
  type_is = byte_is m 24 at e₁ refl (type_stands d)

  inner_is : inner ≡ at + 1
  inner_is = after_is m 1 at e₂ refl (omega (arith, stands_fits (type_stands d), length-number 1 24 q.type))

  pub null_is : t ≡ 1 → Given.nothing ≡ given_of at q.type q.argument
  null_is h = sym (ap (given_of at q.type) (is_null q.type q.argument (argument_stands d) (sym type_is ∙ h)))

  pub one_is : (t ≡ 1 → ⊥) → (t ≡ 157 → ⊥) → {cell : Cell} → cell ≡ cell_in (shown_as (cell_of t inner) ((unruled t).read m inner)) → Given.value cell ≡ given_of at q.type q.argument
  one_is n k e =
      let w = is_one q.type q.argument (argument_stands d) (λ z. n (type_is ∙ z)) (λ z. k (type_is ∙ z)) in
      let shown = value_shown m 27 28 q.type (at + 1) w.1 t inner type_is inner_is e in
      ap Given.value shown ∙ sym (ap (given_of at q.type) w.0)

  -- an array, after its type
  module _ (h : t ≡ 157) where
    held : Arrayed m at q.argument
    held = arrayed d (sym type_is ∙ h)

    module _ {elem counted : ℕ} (f₁ : elem ≡ number_in (shown ((number 1 0).read m inner))) (f₂ : counted ≡ past_of (shown_next ((number 1 0).read m inner))) where
      elem_is : elem ≡ held.type
      elem_is = byte_is m 25 inner f₁ inner_is held.typed_by

      items_at : counted ≡ at + 1 + 1
      items_at = after_is m 1 inner f₂ inner_is (omega (arith, stands_fits held.typed_by, length-number 1 25 held.type))

      module _ {width n : ℕ} (f₃ : width ≡ width_for elem) (f₄ : n ≡ number_in (shown ((number (min width 8) 0).read m counted))) where
        width_is : width ≡ width_for held.type
        width_is = f₃ ∙ ap width_for elem_is

        n_is : n ≡ length (values_in held.items_in)
        n_is = count_is m (width_for held.type) 26 counted (f₄ ∙ ap (λ (w : ℕ). number_in (shown ((number w 0).read m counted))) (ap (λ (w : ℕ). min w 8) width_is ∙ width_small held.type)) items_at held.list_in.count

        pub array_is : Given.list elem n ≡ given_of at q.type q.argument
        array_is = ap₂ Given.list elem_is n_is ∙ sym (ap (given_of at q.type) held.is)

        pub element_past : (e : ℕ) → n ≤ e → no PastEnd 0 ≡ bind (element_of at q.argument e) (λ z. ok (shown_of z))
        element_past e g =
            let past : entry (values_in held.items_in) e ≡ no PastEnd 0 = entry_past (values_in held.items_in) e (omega (arith, n_is)) in
            sym (ap (λ (a : Argument). bind (element_of at a e) (λ z. ok (shown_of z))) held.is ∙ rw past)

        pub element_is : (e from place : ℕ) {cell : Cell} → e < n → from ≡ past_of (shown_next ((number width 0).read m counted))
            → Passes (each second 0 (replicate e (value 27 28 elem))) m from place
            → cell ≡ cell_in (shown_as (cell_of elem place) ((unruled elem).read m place))
            → ok (record { cell = cell; type_at = inner }) ≡ bind (element_of at q.argument e) (λ z. ok (shown_of z))
        element_is e from place {cell} g k₁ k₂ k₃ =
            let ty = held.type in
            let l = held.items_in in
            let ls = held.list_in in
            let fit = stands_fits ls.count in
            let size = length-number (width_for ty) 26 (length (values_in l)) in
            let few : e < length (values_in l) = omega (arith, n_is) in
            let from_is : from ≡ at + 1 + 1 + width_for ty = after_is m width counted k₁ items_at (omega (arith, width_is)) ∙ ap (λ (x : ℕ). at + 1 + 1 + x) width_is in
            let lands = some_lands second (value 27 28 ty) (lawful_value 27 28 ty) (length (values_in l)) e (values_in l) (omega arith) ls.elements in
            let passes : Passes (each second 0 (replicate e (value 27 28 ty))) m (at + 1 + 1 + width_for ty) place = rw (elem_is, from_is) at k₂ in
            let place_is : place ≡ element_at at ty l e = passes.ends _ _ lands ∙ sym (element_place at (at + 1 + 1) ty l ls e) in
            let w = entry_in (values_in l) e few in
            let here = stands_at_lem (sym (element_place at (at + 1 + 1) ty l ls e)) (stands_entry second 0 (length (values_in l)) (value 27 28 ty) (values_in l) e ls.elements w.1) in
            let shown : cell ≡ cell_of ty (element_at at ty l e) w.0 = value_shown m 27 28 ty (element_at at ty l e) here elem place elem_is place_is k₃ in
            let parts : ok (record { cell = cell; type_at = inner }) ≡ ok (shown_of (element_here at ty l e w.0))
            = ap (λ (z : Cell). ok (record { cell = z; type_at = inner })) shown ∙ ap (λ (z : ℕ). ok (record { cell = cell_of ty (element_at at ty l e) w.0; type_at = z })) inner_is in
            let answer = parts ∙ sym (ap (λ (r : Res Value). bind (bind r (λ v. ok (element_here at ty l e v))) (λ z. ok (shown_of z))) w.1) in
            answer ∙ sym (ap (λ (a : Argument). bind (element_of at a e) (λ z. ok (shown_of z))) held.is)

module _ (m : List ℕ) {at : ℕ} {q : Param} (d : Stands param m at q) {t : ℕ} (e₁ : t ≡ number_in (shown ((number 1 0).read m at))) where
  -- a parameter that is no array has no elements
  pub no_array : (t ≡ 157 → ⊥) → (e : ℕ) → no WireType at ≡ bind (element_of at q.argument e) (λ z. ok (shown_of z))
  no_array k e = by_type (eqb q.type 1) refl
    where
      same : t ≡ q.type
      same = byte_is m 24 at e₁ refl (type_stands d)

      by_type : (b : Bool) → eqb q.type 1 ≡ b → no WireType at ≡ bind (element_of at q.argument e) (λ z. ok (shown_of z))
      by_type true h = sym (ap (λ (a : Argument). bind (element_of at a e) (λ z. ok (shown_of z))) (is_null q.type q.argument (argument_stands d) (eqb-true q.type 1 h)))
      by_type false h = sym (ap (λ (a : Argument). bind (element_of at a e) (λ z. ok (shown_of z))) (is_one q.type q.argument (argument_stands d) (eqb-false q.type 1 h) (λ z. k (same ∙ z))).0)

-- a parameter's own value, and none
module _ (m : List ℕ) {at : ℕ} {q : Param} (d : Stands param m at q) {t : ℕ} (e₁ : t ≡ number_in (shown ((number 1 0).read m at))) where
  abbrev Answer : Res ShownCell
  Answer = bind (value_here at q.type q.argument) (λ z. ok (shown_of z))

  by_argument : {a : Argument} → q.argument ≡ a → Answer ≡ bind (value_here at q.type a) (λ z. ok (shown_of z))
  by_argument e = ap (λ (a : Argument). bind (value_here at q.type a) (λ z. ok (shown_of z))) e

  same_type : t ≡ q.type
  same_type = byte_is m 24 at e₁ refl (type_stands d)

  pub null_no_value : t ≡ 1 → no WireType at ≡ Answer
  null_no_value h = sym (by_argument (is_null q.type q.argument (argument_stands d) (sym same_type ∙ h)))

  pub array_no_value : t ≡ 157 → no WireType at ≡ Answer
  array_no_value h = sym (by_argument (arrayed d (sym same_type ∙ h)).is)

  pub value_is : (t ≡ 1 → ⊥) → (t ≡ 157 → ⊥) → {inner : ℕ} {cell : Cell} → inner ≡ past_of (shown_next ((number 1 0).read m at))
      → cell ≡ cell_in (shown_as (cell_of t inner) ((unruled t).read m inner)) → ok (record { cell = cell; type_at = at }) ≡ Answer
  value_is n k {inner} {cell} f e =
      let w = is_one q.type q.argument (argument_stands d) (λ z. n (same_type ∙ z)) (λ z. k (same_type ∙ z)) in
      let there : inner ≡ at + 1 = after_is m 1 at f refl (omega (arith, stands_fits (type_stands d), length-number 1 24 q.type)) in
      let shown : cell ≡ cell_of q.type (at + 1) (one_of q.argument) = value_shown m 27 28 q.type (at + 1) w.1 t inner same_type there e in
      ap (λ (c : Cell). ok (record { cell = c; type_at = at })) shown ∙ sym (by_argument w.0)

-- what is asked of a parameter that was found
module _ {A : Type 0} (m : List ℕ) (b : Bytes m) (p : ℕ) (ask : ℕ → Param → Res A) where
  pub param_asked : {at : ℕ} {x : Res A} → ok at ≡ of_param m p (λ at q. ok at) → ((q : Param) → Stands param m at q → x ≡ ask at q) → x ≡ of_param m p ask
  param_asked {at} {x} e h =
      let w = found 3 params_of param_at m p (λ at q. at) e in
      let stands : Stands param m at w.part = stands_at_lem (sym w.is) (param_stands m b w.message w.accepted p w.there) in
      h w.part stands ∙ ap (λ (z : ℕ). ask z w.part) w.is ∙ sym (found_asked 3 params_of param_at m p w ask)
