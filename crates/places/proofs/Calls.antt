-- An accepted invocation: its parameters, and an array's elements, stand where specs/Places.antt says.
use Prim.Native.Nat.{ℕ, zero, suc, ◌+◌, min}
use mathlib.Core.Path.{◌≡◌, refl, sym, ap}
use mathlib.Core.Bool.{Bool, true, false, ◌||◌, false≢true}
use mathlib.Core.List.{List, [], ◌∷◌, ◌++◌, map, append_assoc}
use mathlib.Core.Option.{Option, some, none}
use lib.ListN.{length, take, replicate, length-append, length-map}
use lib.Dec.{eqb}
use native.Mathlib.Omega.{arith}
use borrow.Author.Tests.{ne_eqb, eqb-true}
use Rattle.format.specs.declared.Fault.TheVariants.{WireType}
use Rattle.format.specs.Result.{ok, pick}
use Rattle.format.specs.Number.{num_bytes, Bytes}
use Rattle.format.specs.Format.{Format, number, block, nothing, ruled, into, both, each, counted}
use Rattle.format.specs.Value.{value, fixed, is_column, t_null, t_array, t_tinyint}
use Rattle.format.specs.Message.{first, second, list, text, binary, column_type, most_items, Items, bytes, values, bytes_of, values_of, items, Argument, null, one, array, one_of, array_of, argument, Param, param, Invocation, invocation, Message, content_of, the_invocation, read_message}
use Rattle.format.proofs.Numbers.{length-num_bytes}
use Rattle.places.specs.Stands.{Stands}
use Rattle.places.specs.Places.{params_of, reparamed, param_at, element_at, cut_items}
use Rattle.places.specs.Entries.{entry, values_in}
use Rattle.places.proofs.Stands.{stands_at_lem, stands_into, stands_ruled, stands_first, stands_second}
use Rattle.places.proofs.Lists.{total, stands_entry}
use Rattle.places.proofs.Layouts.{length-number, length-list, list_count, list_values, one_byte}
use Rattle.places.proofs.Contents.{length-message, content_stands}

-- an invocation, after its name
abbrev pub call_2 : Format (List Param)
call_2 = list 2 most_items 23 first param

abbrev pub call_1 : Option (List ℕ) → Format (List ℕ × List Param)
call_1 p = both (block 8 22) (λ c. call_2)

module _ {s : List ℕ} {at : ℕ} {v : Invocation} (d : Stands invocation s at v) where
  called : Stands (both (text 20 21) call_1) s at (v.procedure, (v.client, v.params))
  unfolding invocation
  called = stands_into _ _ d

  pub name_stands : Stands (text 20 21) s at v.procedure
  name_stands = stands_first (text 20 21) call_1 called

  pub client_size : length v.client ≡ 8
  unfolding block
  client_size = (stands_first (block 8 22) (λ c. call_2) (stands_second (text 20 21) call_1 called)).good.0

  pub params_listed : Stands call_2 s (at + length ((text 20 21).bytes v.procedure) + 8) v.params
  unfolding block
  params_listed = stands_at_lem (ap (λ (x : ℕ). at + length ((text 20 21).bytes v.procedure) + x) client_size) (stands_second (block 8 22) (λ c. call_2) (stands_second (text 20 21) call_1 called))

-- how many bytes stand before a parameter count
abbrev pub call_size : Invocation → ℕ
call_size v = length ((text 20 21).bytes v.procedure)

length-call : (v : Invocation) → length v.client ≡ 8 → length (invocation.bytes v) ≡ call_size v + 8 + (2 + total param v.params)
unfolding invocation into both block
length-call v h = rw (length-append, length-append, h, length-list 2 most_items 23 first param v.params) (omega arith)

pub param_place : (r : Message) (p : ℕ) → length (the_invocation r.content).client ≡ 8 → param_at r p ≡ 5 + call_size (the_invocation r.content) + 8 + 2 + total param (take p (params_of r))
unfolding param_at content_of into
param_place r p h = rw (length-message 3, length-call (reparamed (the_invocation r.content) (take p (params_of r))) h) (omega arith)

module _ (m : List ℕ) (b : Bytes m) (r : Message) (accepted : read_message 3 m ≡ ok r) where
  pub call_stands : Stands invocation m 5 (the_invocation r.content)
  unfolding content_of
  call_stands = stands_into _ _ (content_stands 3 m b r accepted)

  pub param_count_stands : Stands (number 2 23) m (5 + call_size (the_invocation r.content) + 8) (length (params_of r))
  param_count_stands = list_count 2 most_items 23 first param (params_listed call_stands)

  pub params_stand : Stands (each first 0 (replicate (length (params_of r)) param)) m (5 + call_size (the_invocation r.content) + 8 + 2) (params_of r)
  params_stand = list_values 2 most_items 23 first param (params_listed call_stands)

  pub param_stands : (p : ℕ) {q : Param} → entry (params_of r) p ≡ ok q → Stands param m (param_at r p) q
  param_stands p e = stands_at_lem (sym (param_place r p (client_size call_stands))) (stands_entry first 0 (length (params_of r)) param (params_of r) p params_stand e)

-- a parameter: its type, and what that says of it
abbrev is_param : ℕ → Bool
is_param t = is_column t || (eqb t t_null || eqb t t_array)

module _ {s : List ℕ} {at : ℕ} {q : Param} (d : Stands param s at q) where
  typed : Stands (both (ruled is_param WireType (number 1 24)) argument) s at (q.type, q.argument)
  unfolding param
  typed = stands_into _ _ d

  pub type_stands : Stands (number 1 24) s at q.type
  type_stands = stands_ruled is_param WireType (stands_first (ruled is_param WireType (number 1 24)) argument typed)

  pub argument_stands : Stands (argument q.type) s (at + 1) q.argument
  unfolding ruled
  argument_stands = stands_at_lem (ap (λ (x : ℕ). at + x) (length-number 1 24 q.type)) (stands_second (ruled is_param WireType (number 1 24)) argument typed)

module _ {s : List ℕ} {at : ℕ} (t : ℕ) (a : Argument) (d : Stands (argument t) s at a) where
  pub is_null : t ≡ 1 → a ≡ null
  unfolding argument nothing
  is_null e = rw e at d.good

  pub is_one : (t ≡ 1 → ⊥) → (t ≡ 157 → ⊥) → (a ≡ one (one_of a)) × Stands (value 27 28 t) s at (one_of a)
  unfolding argument into
  is_one n k =
      let here : Stands (into one one_of (value 27 28 t)) s at a = rw (ne_eqb t 1 n, ne_eqb t 157 k) at d in
      (sym here.good.1, stands_into one one_of here)

  pub is_array : t ≡ 157 → (a ≡ array (array_of a).0 (array_of a).1) × Stands (both (column_type 25) items) s at (array_of a)
  unfolding argument into
  is_array e =
      let here : Stands (into (λ v. array v.0 v.1) array_of (both (column_type 25) items)) s at a = rw e at d in
      (sym here.good.1, stands_into (λ v. array v.0 v.1) array_of here)

-- an array's elements: how wide their count is, the count, and the elements as values
abbrev pub width_for : ℕ → ℕ
width_for t = pick (eqb t t_tinyint) 4 2

-- bytes as tinyints
tiny_each : (k : ℕ) (bs : List ℕ) → Bytes bs → (each second k (replicate (length bs) (value 27 28 3))).Good (map fixed bs) × ((each second k (replicate (length bs) (value 27 28 3))).bytes (map fixed bs) ≡ bs)
unfolding each nothing value into ruled number
tiny_each k [] h = (refl, refl)
tiny_each k (b ∷ bs) h =
    let w = tiny_each (k + 1) bs h.1 in
    ((((h.0, refl), refl), w.0), rw (one_byte b h.0, w.1))

tiny_total : (e : ℕ) (bs : List ℕ) → total (value 27 28 3) (take e (map fixed bs)) ≡ length (take e bs)
unfolding total value into ruled number
tiny_total zero bs = refl
tiny_total (suc e) [] = refl
tiny_total (suc e) (b ∷ bs) = rw (length-num_bytes, tiny_total e bs) (omega arith)

-- an array's elements, where its count stands
pub record Listed (s : List ℕ) (at t : ℕ) (l : Items) : Type 0 where
  pub count : Stands (number (width_for t) 26) s at (length (values_in l))
  pub elements : Stands (each second 0 (replicate (length (values_in l)) (value 27 28 t))) s (at + width_for t) (values_in l)
  pub cut : (e : ℕ) → length ((items t).bytes (cut_items l e)) ≡ width_for t + total (value 27 28 t) (take e (values_in l))

module _ {s : List ℕ} {at : ℕ} where
  listed_some : (o : Option (List ℕ)) → Stands (binary 26 28) s at o → Listed s at 3 (bytes o)
  unfolding counted items into number
  listed_some none d = absurd (false≢true d.good)
  listed_some (some bs) d =
      let w = tiny_each 0 bs d.good.1 in
      let long : length (map fixed bs) ≡ length bs = length-map bs fixed in
      record {
        count = record { good = omega (arith, d.good.0); before = d.before; after = bs ++ d.after; whole = rw (long, ← append_assoc (num_bytes 4 (length bs))) d.whole; start = d.start };
        elements = record {
          good = rw long w.0;
          before = d.before ++ num_bytes 4 (length bs);
          after = d.after;
          whole = rw (long, w.1, append_assoc d.before, ← append_assoc (num_bytes 4 (length bs))) d.whole;
          start = rw (length-append, d.start, length-num_bytes);
        };
        cut = λ e. rw (length-append, length-num_bytes, tiny_total e bs);
      }

  listed_bytes : (l : Items) → Stands (items 3) s at l → Listed s at 3 l
  unfolding items into
  listed_bytes l d =
      let here : Stands (into bytes bytes_of (binary 26 28)) s at l = d in
      rw (← here.good.1) (listed_some (bytes_of l) (stands_into bytes bytes_of here))

  listed_list : (t : ℕ) (l : Items) → eqb t 3 ≡ false → Stands (items t) s at l → Listed s at t l
  unfolding items into
  listed_list t l e d =
      let here : Stands (into values values_of (list 2 most_items 26 second (value 27 28 t))) s at l = rw e at d in
      let inner = stands_into values values_of here in
      let all : Listed s at t (values (values_of l)) = record {
        count = rw e (list_count 2 most_items 26 second (value 27 28 t) inner);
        elements = rw e (list_values 2 most_items 26 second (value 27 28 t) inner);
        cut = λ k. rw e (length-list 2 most_items 26 second (value 27 28 t) (take k (values_of l)));
      } in
      rw (← here.good.1) all

  pub listed : (t : ℕ) (l : Items) → Stands (items t) s at l → Listed s at t l
  listed t l d = by_type (eqb t 3) refl
    where
      by_type : (b : Bool) → eqb t 3 ≡ b → Listed s at t l
      by_type true e = let same : t ≡ 3 = eqb-true t 3 e in rw same (listed_bytes l (rw same at d))
      by_type false e = listed_list t l e d

-- a parameter that is an array
pub record Arrayed (s : List ℕ) (at : ℕ) (a : Argument) : Type 0 where
  pub type : ℕ
  pub items_in : Items
  pub is : a ≡ array type items_in
  pub typed_by : Stands (number 1 25) s (at + 1) type
  pub list_in : Listed s (at + 1 + 1) type items_in

pub arrayed : {s : List ℕ} {at : ℕ} {q : Param} → Stands param s at q → q.type ≡ 157 → Arrayed s at q.argument
unfolding ruled
arrayed {s} {at} {q} d e =
    let w = is_array q.type q.argument (argument_stands d) e in
    let t = (array_of q.argument).0 in
    let first_byte = stands_first (column_type 25) items w.1 in
    record {
      type = t;
      items_in = (array_of q.argument).1;
      is = w.0;
      typed_by = stands_ruled is_column WireType first_byte;
      list_in = listed t (array_of q.argument).1 (stands_at_lem (ap (λ (x : ℕ). at + 1 + x) (length-number 1 25 t)) (stands_second (column_type 25) items w.1));
    }

pub element_place : {s : List ℕ} (at p t : ℕ) (l : Items) → Listed s p t l → (e : ℕ) → element_at at t l e ≡ at + 1 + 1 + width_for t + total (value 27 28 t) (take e (values_in l))
unfolding element_at param argument both into ruled number
element_place at p t l d e = rw (length-append, length-num_bytes, length-append, length-num_bytes, d.cut e) (omega arith)

pub width_small : (t : ℕ) → min (width_for t) 8 ≡ width_for t
width_small t = by_type (eqb t 3)
  where
    by_type : (b : Bool) → min (pick b 4 2) 8 ≡ pick b 4 2
    by_type true = refl
    by_type false = refl
