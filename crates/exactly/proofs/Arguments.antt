-- A parameter reads as exactly the bytes that are listed for it, and so does an element of an array.
use Prim.Native.Nat.{ℕ, zero, suc, ◌+◌, ◌≤◌}
use mathlib.Core.Path.{◌≡◌, refl, sym, ◌∙◌, ap, ap₂, subst}
use mathlib.Core.Bool.{Bool, true, false, ◌||◌, false≢true}
use mathlib.Core.List.{List, [], ◌∷◌, map}
use mathlib.Core.Option.{Option, some, none}
use lib.ListN.{length, take, drop}
use lib.Dec.{eqb, ltb, leb}
use native.Mathlib.Omega.{arith}
use borrow.Author.Tests.{ne_eqb, eqb-true, eqb-false, ltb-true, leb-true, lt-ltb, le-leb}
use Rattle.format.specs.declared.Fault.{Fault}
use Rattle.format.specs.declared.Fault.TheVariants.{WireType}
use Rattle.format.specs.Result.{Res, ok, no, bind}
use Rattle.format.specs.Number.{num_bytes, Bytes}
use Rattle.format.specs.Format.{Index, Entry, number, block, ruled, into, both, counted, piece}
use Rattle.format.specs.Value.{Value, fixed, body, value, is_column, t_varbinary, t_tinyint, t_null, t_array}
use Rattle.format.specs.Message.{first, second, list, binary, column_type, most_items, Items, bytes, values, bytes_of, values_of, items, Argument, null, one, array, argument, Param, param, Invocation, invocation, Message, content_of, the_invocation, read_message, message_fields, no_index}
use Rattle.format.proofs.Results.{ok_same, no_ok, bound}
use Rattle.format.proofs.Took.{tiles_piece}
use Rattle.places.specs.Stands.{Stands}
use Rattle.places.specs.Places.{params_of, param_at, element_at}
use Rattle.places.specs.Entries.{entry, Here, values_in, element_of}
use Rattle.places.proofs.Stands.{stands_at_lem, stands_into, stands_ruled, stands_first, stands_second}
use Rattle.places.proofs.Lists.{total, stands_entry}
use Rattle.places.proofs.Layouts.{one_byte}
use Rattle.places.proofs.Calls.{call_2, call_size, client_size, call_stands, param_place, param_stands, type_stands, argument_stands, is_null, is_one, is_array, listed, width_for, element_place}
use Rattle.places.proofs.Values.{body_stands}
use Rattle.show.specs.declared.Cell.{Cell}
use Rattle.show.specs.Cells.{plain_cell, cell_of, type_of}
use Rattle.query.specs.Answers.{Given, given_of, shown_here, ask_parameter, ask_element}
use Rattle.exactly.specs.Listed.{listed_for, bytes_at, start_of, bytes_for, field_bytes, Says, of_parameter, ParameterReads, ElementReads}
use Rattle.exactly.proofs.Alone.{Other, Misses, Alone, misses, misses_block, misses_value, misses_nothing, misses_some, none_piece, in_front_lem, in_back, in_into, in_ruled, in_first, in_second, in_list, past_list}
use Rattle.exactly.proofs.Says.{all_body, alone_number, alone_value, tiled_bytes, kept, number_reads, byte_reads, stands_says, value_reads}
use Rattle.exactly.proofs.Exactly.{length-ruled, in_message, entry_none}

-- ---- parts of an invocation that list nothing for it, if no such field at such indices is it
up : (k n : ℕ) → leb (suc k) n ≡ true → leb k n ≡ true
up k n h = le-leb k n (omega (arith, leb-true (suc k) n h))

module _ {l b : ℕ} {ix jx : Index} where
  misses_items : (t : ℕ) → ((n : ℕ) (y : Index) → leb 26 n ≡ true → y.i ≡ jx.i → Other l b ix n y) → Misses l b ix (items t) jx
  unfolding items
  misses_items t w = search (misses, misses_value) depth 8

  misses_argument : (t : ℕ) → ((n : ℕ) (y : Index) → leb 25 n ≡ true → y.i ≡ jx.i → Other l b ix n y) → Misses l b ix (argument t) jx
  unfolding argument
  misses_argument t w = search (misses, misses_value, misses_items, up 25) depth 8

  misses_param : ((n : ℕ) (y : Index) → leb 24 n ≡ true → y.i ≡ jx.i → Other l b ix n y) → Misses l b ix param jx
  unfolding param
  misses_param w = search (misses, misses_argument, up 24) depth 8

-- ---- on the way to a parameter, and in it to its type and to what follows that
block_size : (v : Invocation) → length v.client ≡ 8 → length ((block 8 22).bytes v.client) ≡ 8
unfolding block
block_size v h = h

module _ {l b : ℕ} {ix : Index} {es : List Entry} where
  in_params : (r : Message) → ((n : ℕ) (y : Index) → ltb n 24 ≡ true → Other l b ix n y) → length (the_invocation r.content).client ≡ 8
      → Alone l b ix es call_2 no_index (5 + call_size (the_invocation r.content) + 8) (params_of r) → listed_for l b ix (message_fields 3 r) ≡ es
  unfolding content_of invocation
  in_params r low size w =
      in_message 3 r (λ n y h. low n y (lt-ltb n 24 (omega (arith, leb-true n 2 h))))
      (in_into _ _ (in_into _ _ (in_second _ (search (misses, low)) (in_second _ (misses_block 8 22 (low 22 no_index refl)) (rw (block_size (the_invocation r.content) size) w)))))

  in_call : (r : Message) (p : ℕ) {q : Param} → ix.i ≡ p → ((n : ℕ) (y : Index) → ltb n 24 ≡ true → Other l b ix n y) → length (the_invocation r.content).client ≡ 8 → entry (params_of r) p ≡ ok q
      → Alone l b ix es param (first p no_index) (param_at r p) q → listed_for l b ix (message_fields 3 r) ≡ es
  in_call r p same low size e w = in_params r low size (in_list first 2 most_items 23 (params_of r) p e (low 23 no_index refl) (λ j h. misses_param (omega arith)) (rw (param_place r p size) at w))

module _ {l b : ℕ} {ix jx : Index} {es : List Entry} {at : ℕ} {q : Param} where
  in_param : Other l b ix 24 jx → Alone l b ix es (argument q.type) jx (at + 1) q.argument → Alone l b ix es param jx at q
  unfolding param
  in_param h w = in_into _ _ (in_second _ (search (misses, h)) (rw length-ruled w))

param_type_alone : (ix : Index) (at : ℕ) (q : Param) → Alone 24 24 ix ((number 1 24).fields ix at q.type) param ix at q
unfolding param
param_type_alone ix at q = in_into _ _ (in_first (λ t. misses_argument t (omega (arith, leb-true))) (in_ruled _ _ (alone_number 1 24 ix refl)))

-- ---- a parameter by its type: null, an array, or a value
same_param : {t u : ℕ} {a b : Argument} → t ≡ u → a ≡ b → ◌≡◌ {A = Param} (record { type = t; argument = a }) (record { type = u; argument = b })
same_param e f = ap₂ (λ (x : ℕ) (y : Argument). record { type = x; argument = y }) e f

or_none : (b : Bool) → b || false ≡ true → b ≡ true
or_none true e = refl
or_none false e = e

module _ {m : List ℕ} {at : ℕ} where
  param_column : (t : ℕ) → (t ≡ 1 → ⊥) → (t ≡ 157 → ⊥) → {a : Argument} → Stands param m at (record { type = t; argument = a }) → is_column t ≡ true
  unfolding param ruled
  param_column t n k d = or_none (is_column t) (rw (ne_eqb t 1 n, ne_eqb t 157 k) at (stands_first (ruled (λ t. is_column t || (eqb t t_null || eqb t t_array)) WireType (number 1 24)) argument (stands_into _ _ d)).good.1)

  by_type : (P : Param → Type 0) (q : Param) → Stands param m at q → P (record { type = t_null; argument = null })
      → ((t : ℕ) (l : Items) → Stands (both (column_type 25) items) m (at + 1) (t, l) → P (record { type = t_array; argument = array t l }))
      → ((t : ℕ) (v : Value) → (t ≡ 1 → ⊥) → (t ≡ 157 → ⊥) → is_column t ≡ true → Stands (value 27 28 t) m (at + 1) v → P (record { type = t; argument = one v })) → P q
  by_type P q d p-null p-array p-one = by_null (eqb q.type 1) refl
    where
      a : Stands (argument q.type) m (at + 1) q.argument
      a = argument_stands d

      by_array : (n : q.type ≡ 1 → ⊥) (b : Bool) → eqb q.type 157 ≡ b → P q
      by_array n true e =
          let same = eqb-true q.type 157 e in
          let w = is_array q.type q.argument a same in
          subst P (same_param (sym same) (sym w.0)) (p-array _ _ w.1)
      by_array n false e =
          let k = eqb-false q.type 157 e in
          let w = is_one q.type q.argument a n k in
          subst P (same_param refl (sym w.0)) (p-one q.type _ n k (param_column q.type n k d) w.1)

      by_null : (b : Bool) → eqb q.type 1 ≡ b → P q
      by_null true e =
          let same = eqb-true q.type 1 e in
          subst P (same_param (sym same) (sym (is_null q.type q.argument a same))) p-null
      by_null false e = by_array (eqb-false q.type 1 e) (eqb q.type 157) refl

-- ---- an array by its elements' type: bytes, or values
to_value : {m : List ℕ} {at : ℕ} {bs : List ℕ} → Stands (binary 26 28) m at (some bs) → Stands (value 26 28 t_varbinary) m at (body (some bs))
unfolding value into counted
to_value d = record { good = (d.good, refl); before = d.before; after = d.after; whole = d.whole; start = d.start }

module _ {m : List ℕ} {at : ℕ} where
  by_items : (P : ℕ → Items → Type 0) (t : ℕ) (l : Items) → Stands (items t) m at l → ((bs : List ℕ) → take (length bs) (drop (at + 4) m) ≡ bs → P t_tinyint (bytes (some bs)))
      → ((vs : List Value) → eqb t t_tinyint ≡ false → P t (values vs)) → P t l
  unfolding items into counted
  by_items P t l d p-bytes p-values = by_type (eqb t 3) refl
    where
      of_bytes : (o : Option (List ℕ)) → Stands (binary 26 28) m at o → P 3 (bytes o)
      of_bytes none b = absurd (false≢true b.good)
      of_bytes (some bs) b = p-bytes bs (body_stands 26 28 t_varbinary bs (to_value b)).1

      by_type : (b : Bool) → eqb t 3 ≡ b → P t l
      by_type true e =
          let same = eqb-true t 3 e in
          let here : Stands (into bytes bytes_of (binary 26 28)) m at l = rw same at d in
          rw (same, ← here.good.1) (of_bytes (bytes_of l) (stands_into bytes bytes_of here))
      by_type false e =
          let here : Stands (into values values_of (list 2 most_items 26 second (value 27 28 t))) m at l = rw e at d in
          rw (← here.good.1) (p-values (values_of l) e)

-- ---- in an array: its elements' type and their count, and an element
module _ {l b : ℕ} {ix jx : Index} {es : List Entry} {o t : ℕ} {v : Items} where
  in_array : Other l b ix 25 jx → Alone l b ix es (items t) jx (o + 1) v → Alone l b ix es (argument t_array) jx o (array t v)
  unfolding argument
  in_array h w = in_into _ _ (in_second items (search (misses, h)) (rw length-ruled w))

module _ (ix : Index) (o t : ℕ) (l : Items) where
  element_type_alone : Alone 25 25 ix ((number 1 25).fields ix o t) (argument t_array) ix o (array t l)
  unfolding argument
  element_type_alone = in_into _ _ (in_first (λ u. misses_items u (omega (arith, leb-true))) (in_ruled _ _ (alone_number 1 25 ix refl)))

bytes_alone : (ix : Index) (o : ℕ) (bs : List ℕ) → Alone 27 28 ix (piece (length bs) (o + 4) 28 ix) (items t_tinyint) ix o (bytes (some bs))
unfolding items counted
bytes_alone ix o bs = in_into _ _ (record { is = in_back 27 28 ix (piece 4 o 26 ix) (piece (length bs) (o + 4) 28 ix) (none_piece 27 28 ix 4 o 26 ix (omega arith)) (all_body 27 28 ix (length bs) (o + 4)) })

values_alone : (ix : Index) (o t : ℕ) (vs : List Value) (e : ℕ) {v : Value} → eqb t t_tinyint ≡ false → entry vs e ≡ ok v
    → Alone 27 28 (second e ix) ((value 27 28 t).fields (second e ix) (o + 2 + total (value 27 28 t) (take e vs)) v) (items t) ix o (values vs)
unfolding items
values_alone ix o t vs e n f = rw n (in_into _ _ (in_list second 2 most_items 26 vs e f (omega arith) (λ j s. misses_value 27 28 t (omega arith) (omega arith)) (alone_value 27 28 t (second e ix) refl)))

-- its count
count_alone : {m : List ℕ} (ix : Index) (o t : ℕ) (l : Items) → Stands (items t) m o l → Alone 26 26 ix ((number (width_for t) 26).fields ix o (length (values_in l))) (items t) ix o l
unfolding items list counted number
count_alone {m} ix o t l d = by_items (λ t l. Alone 26 26 ix ((number (width_for t) 26).fields ix o (length (values_in l))) (items t) ix o l) t l d of_bytes of_values
  where
    of_bytes : (bs : List ℕ) → take (length bs) (drop (o + 4) m) ≡ bs → Alone 26 26 ix ((number 4 26).fields ix o (length (map fixed bs))) (items t_tinyint) ix o (bytes (some bs))
    of_bytes bs e = in_into _ _ (record { is = in_front_lem 26 26 ix (piece 4 o 26 ix) (piece (length bs) (o + 4) 28 ix) (none_piece 26 26 ix (length bs) (o + 4) 28 ix (omega arith)) (all_body 26 26 ix 4 o) })

    of_values : (vs : List Value) → eqb t t_tinyint ≡ false → Alone 26 26 ix ((number (width_for t) 26).fields ix o (length vs)) (items t) ix o (values vs)
    of_values vs n = rw n (in_into _ _ (in_into _ _ (in_first (λ u. misses_some second 0 u (λ j h. misses_value 27 28 t (omega arith) (omega arith))) (in_ruled _ _ (in_ruled _ _ (alone_number 2 26 ix refl))))))

-- a body that has a byte starts at its place
body_starts : (ix : Index) (o : ℕ) (bs : List ℕ) (e : ℕ) {v : Value} → entry (map fixed bs) e ≡ ok v → start_of (piece (length bs) o 28 ix) ≡ o
body_starts ix o [] e f = absurd (no_ok f)
body_starts ix o (b ∷ bs) e f = refl

-- the byte at e of an array of bytes says the tinyint that it is, which is shown alike wherever it stands
module _ (m : List ℕ) (all : Bytes m) (at start : ℕ) where
  byte_says : (b : ℕ) → Stands (value 27 28 t_tinyint) m at (fixed b) → Says 27 28 m (b ∷ []) start (cell_of t_tinyint at (fixed b))
  unfolding value into ruled number plain_cell
  byte_says b d =
      let w : Says 27 28 m (b ∷ []) at (cell_of t_tinyint at (fixed b)) = rw (one_byte b d.good.0.0) at (stands_says m all 27 28 t_tinyint at (fixed b) refl d) in
      record { encodes = w.encodes; reads = w.reads; shows = w.shows }

  byte_in_lem : (bs : List ℕ) (e : ℕ) {v : Value} → entry (map fixed bs) e ≡ ok v → Stands (value 27 28 t_tinyint) m at v → Says 27 28 m (take 1 (drop e bs)) start (cell_of t_tinyint at v)
  byte_in_lem [] e f d = absurd (no_ok f)
  byte_in_lem (b ∷ bs) zero f d = let same = ok_same f in rw (← same) (byte_says b (rw (← same) at d))
  byte_in_lem (b ∷ bs) (suc e) f d = byte_in_lem bs e f d

-- ---- what is answered of parameter p
module _ (m : List ℕ) (all : Bytes m) (r : Message) (accepted : read_message 3 m ≡ ok r) (p : ℕ) where
  abbrev at : ℕ
  at = param_at r p

  abbrev ix : Index
  ix = of_parameter p

  abbrev fs : List Entry
  fs = message_fields 3 r

  -- what is alone in the parameter is all that is listed
  from_call : (l b : ℕ) (ix : Index) {es : List Entry} {q : Param} → ix.i ≡ p → 24 ≤ l → 24 ≤ b → entry (params_of r) p ≡ ok q → Alone l b ix es param (first p no_index) at q → listed_for l b ix fs ≡ es
  from_call l b ix same h k is w = in_call r p same (omega (arith, ltb-true)) (client_size (call_stands m all r accepted)) is w

  type_reads : (q : Param) → entry (params_of r) p ≡ ok q → field_bytes 24 ix m fs ≡ q.type ∷ []
  type_reads q is = byte_reads m 24 ix fs at q.type (type_stands (param_stands m all r accepted p is)) (from_call 24 24 ix refl (omega arith) (omega arith) is (param_type_alone ix at q))

  null_reads : (l b : ℕ) → 25 ≤ l → 25 ≤ b → entry (params_of r) p ≡ ok (record { type = t_null; argument = null }) → listed_for l b ix fs ≡ []
  unfolding argument
  null_reads l b h k is = from_call l b ix refl (omega arith) (omega arith) is (in_param (omega arith) (record { is = (misses_nothing null).none (at + 1) null }))

  value_alone : (t : ℕ) (v : Value) → (t ≡ 1 → ⊥) → (t ≡ 157 → ⊥) → Alone 27 28 ix ((value 27 28 t).fields ix (at + 1) v) (argument t) ix (at + 1) (one v)
  unfolding argument
  value_alone t v n k = rw (ne_eqb t 1 n, ne_eqb t 157 k) (in_into _ _ (alone_value 27 28 t ix refl))

  module _ (t : ℕ) (l : Items) (d : Stands (both (column_type 25) items) m (at + 1) (t, l)) (is : entry (params_of r) p ≡ ok (record { type = t_array; argument = array t l })) where
    held : Stands (items t) m (at + 1 + 1) l
    held = stands_at_lem (ap (λ (x : ℕ). at + 1 + x) (length-ruled is_column WireType 1 25 t)) (stands_second (column_type 25) items d)

    -- what is alone in the array is all that is listed
    from_array : (n b : ℕ) (jx : Index) {es : List Entry} → jx.i ≡ p → 26 ≤ n → 26 ≤ b → Alone n b jx es (items t) ix (at + 1 + 1) l → listed_for n b jx fs ≡ es
    from_array n b jx same h k w = from_call n b jx same (omega arith) (omega arith) is (in_param (omega arith) (in_array (omega arith) w))

    element_type_reads : field_bytes 25 ix m fs ≡ t ∷ []
    element_type_reads = byte_reads m 25 ix fs (at + 1) t (stands_ruled is_column WireType (stands_first (column_type 25) items d)) (from_call 25 25 ix refl (omega arith) (omega arith) is (in_param (omega arith) (element_type_alone ix (at + 1) t l)))

    count_reads : field_bytes 26 ix m fs ≡ num_bytes (width_for t) (length (values_in l))
    count_reads = number_reads m (width_for t) 26 ix fs (at + 1 + 1) _ (listed t l held).count (from_array 26 26 ix refl (omega arith) (omega arith) (count_alone ix (at + 1 + 1) t l held))

    module _ (e : ℕ) (v : Value) (f : entry (values_in l) e ≡ ok v) where
      element_stands : Stands (value 27 28 t) m (element_at at t l e) v
      element_stands = stands_at_lem (sym (element_place at (at + 1 + 1) t l (listed t l held) e)) (stands_entry second 0 (length (values_in l)) (value 27 28 t) (values_in l) e (listed t l held).elements f)

      fine : is_column t ≡ true
      unfolding ruled
      fine = (stands_first (column_type 25) items d).good.1

      element_type_is : field_bytes 25 ix m fs ≡ type_of (cell_of t (element_at at t l e) v) ∷ []
      element_type_is = element_type_reads ∙ ap (λ (z : ℕ). z ∷ []) (sym (kept m all 27 28 t (element_at at t l e) v fine element_stands).1)

  parameter_reads : (q : Param) → entry (params_of r) p ≡ ok q → ParameterReads m fs p (given_of at q.type q.argument)
  parameter_reads q is =
      by_type (λ q. entry (params_of r) p ≡ ok q → ParameterReads m fs p (given_of at q.type q.argument)) q (param_stands m all r accepted p is)
      (λ is. record { type_byte = type_reads _ is; argument = (null_reads 25 26 (omega arith) (omega arith) is, null_reads 27 28 (omega arith) (omega arith) is) })
      (λ t l d is. record { type_byte = type_reads _ is; argument = (element_type_reads t l d is, count_reads t l d is) })
      (λ t v n k fine d is. record {
        type_byte = type_reads _ is ∙ ap (λ (z : ℕ). z ∷ []) (sym (kept m all 27 28 t (at + 1) v fine d).1);
        argument = value_reads m all 27 28 t (at + 1) v fine d ix fs (from_call 27 28 ix refl (omega arith) (omega arith) is (in_param (omega arith) (value_alone t v n k)));
      })
      is

  module _ (e : ℕ) (v : Value) where
    abbrev ElementIs : ℕ → Items → Type 0
    ElementIs t l = Stands (both (column_type 25) items) m (at + 1) (t, l) → entry (params_of r) p ≡ ok (record { type = t_array; argument = array t l }) → entry (values_in l) e ≡ ok v → ElementReads m fs p e (cell_of t (element_at at t l e) v)

    of_bytes : (bs : List ℕ) → take (length bs) (drop (at + 1 + 1 + 4) m) ≡ bs → ElementIs t_tinyint (bytes (some bs))
    of_bytes bs part d is f =
        let l = bytes (some bs) in
        let listing = from_array t_tinyint l d is 27 28 ix refl (omega arith) (omega arith) (bytes_alone ix (at + 1 + 1) bs) in
        let start : start_of (listed_for 27 28 ix fs) ≡ at + 1 + 1 + 4 = ap start_of listing ∙ body_starts ix (at + 1 + 1 + 4) bs e f in
        let bytes-are : bytes_for 27 28 ix m fs ≡ bs = ap (bytes_at m) listing ∙ tiled_bytes m (piece (length bs) (at + 1 + 1 + 4) 28 ix) (at + 1 + 1 + 4) (length bs) (tiles_piece (length bs) (at + 1 + 1 + 4) 28 ix) ∙ part in
        let here = element_stands t_tinyint l d is e v f in
        record {
          type_byte = element_type_is t_tinyint l d is e v f;
          in_body = λ tiny. record { entries = rw (bytes-are, start) listing; says = rw bytes-are (byte_in_lem m all (element_at at t_tinyint l e) _ bs e f here) };
          by_itself = λ not. absurd (not (kept m all 27 28 t_tinyint (element_at at t_tinyint l e) v refl here).1);
        }

    of_values : (t : ℕ) (vs : List Value) → eqb t t_tinyint ≡ false → ElementIs t (values vs)
    of_values t vs n d is f =
        let l = values vs in
        let here = element_stands t l d is e v f in
        let good = fine t l d is e v f in
        let place : element_at at t l e ≡ at + 1 + 1 + 2 + total (value 27 28 t) (take e vs) = element_place at (at + 1 + 1) t l (listed t l (held t l d is)) e ∙ rw n in
        record {
          type_byte = element_type_is t l d is e v f;
          in_body = λ tiny. absurd (eqb-false t t_tinyint n (sym (kept m all 27 28 t (element_at at t l e) v good here).1 ∙ tiny));
          by_itself = λ not. value_reads m all 27 28 t (element_at at t l e) v good here (second e ix) fs (from_array t l d is 27 28 (second e ix) refl (omega arith) (omega arith) (rw place (values_alone ix (at + 1 + 1) t vs e n f)));
        }

  element_reads : (e : ℕ) (q : Param) → entry (params_of r) p ≡ ok q → (h : Here) → element_of at q.argument e ≡ ok h → ElementReads m fs p e (shown_here h)
  element_reads e q is =
      by_type (λ q. entry (params_of r) p ≡ ok q → (h : Here) → element_of at q.argument e ≡ ok h → ElementReads m fs p e (shown_here h)) q (param_stands m all r accepted p is)
      (λ is h f. absurd (no_ok f))
      (λ t l d is h f.
      let v = bound (entry (values_in l) e) f in
      subst (λ (z : Here). ElementReads m fs p e (shown_here z)) (ok_same v.2) (by_items (ElementIs e v.0) t l (held t l d is) (of_bytes e v.0) (of_values e v.0 t) d is v.1))
      (λ t v n k fine d is h f. absurd (no_ok f))
      is

pub parameter_reads_its_bytes : (m : List ℕ) → Bytes m → (r : Message) → read_message 3 m ≡ ok r → (p : ℕ) (g : Given) → ask_parameter m p ≡ ok g → ParameterReads m (message_fields 3 r) p g
parameter_reads_its_bytes m all r accepted p g e =
    let q = bound (entry (params_of r) p) {k = λ q. ok (given_of (param_at r p) q.type q.argument)} (rw accepted at e) in
    subst (ParameterReads m (message_fields 3 r) p) (ok_same q.2) (parameter_reads m all r accepted p q.0 q.1)

pub element_reads_its_bytes : (m : List ℕ) → Bytes m → (r : Message) → read_message 3 m ≡ ok r → (p e : ℕ) (x : Cell) → ask_element m p e ≡ ok x → ElementReads m (message_fields 3 r) p e x
element_reads_its_bytes m all r accepted p e x f =
    let q = bound (entry (params_of r) p) {k = λ q. bind (element_of (param_at r p) q.argument e) (λ h. ok (shown_here h))} (rw accepted at f) in
    let h = bound (element_of (param_at r p) q.0.argument e) q.2 in
    subst (ElementReads m (message_fields 3 r) p e) (ok_same h.2) (element_reads m all r accepted p e q.0 q.1 h.0 h.1)

-- ---- for a parameter that is refused nothing is listed
pub refused_parameter_has_no_bytes : (m : List ℕ) → Bytes m → (r : Message) → read_message 3 m ≡ ok r → (p : ℕ) {f : Fault} {at : ℕ} → ask_parameter m p ≡ no f at → (l b : ℕ) → 24 ≤ l → 24 ≤ b → (ix : Index) → ix.i ≡ p → listed_for l b ix (message_fields 3 r) ≡ []
refused_parameter_has_no_bytes m all r accepted p {f} {at} e l b h k ix same = by_entry (entry (params_of r) p) refl (rw accepted at e)
  where
    by_entry : (q : Res Param) → entry (params_of r) p ≡ q → bind q (λ q. ok (given_of (param_at r p) q.type q.argument)) ≡ no f at → listed_for l b ix (message_fields 3 r) ≡ []
    by_entry (ok q) is g = absurd (no_ok (sym g))
    by_entry (no f at) is g = in_params r (omega (arith, ltb-true)) (client_size (call_stands m all r accepted)) (past_list first 2 most_items 23 (params_of r) p (entry_none (params_of r) p is) (omega arith) (λ j s. misses_param (omega arith)))
