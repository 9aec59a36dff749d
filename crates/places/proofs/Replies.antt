-- An accepted response: its table count and its tables stand where specs/Places.antt says.
use Prim.Native.Nat.{ℕ, ◌+◌}
use mathlib.Core.Path.{◌≡◌, sym, ap, subst}
use mathlib.Core.Bool.{Bool}
use mathlib.Core.List.{List}
use lib.ListN.{length, take, replicate, length-append}
use native.Mathlib.Omega.{arith}
use Rattle.format.specs.Result.{ok}
use Rattle.format.specs.Number.{Bytes}
use Rattle.format.specs.Format.{Format, number, into, both, each}
use Rattle.format.specs.Message.{first, list, most_items, Table, table, Response, head, response, Content, Message, content_of, the_response, response_layout, read_message}
use Rattle.places.specs.Stands.{Stands}
use Rattle.places.specs.Places.{tables_of, table_at}
use Rattle.places.specs.Entries.{entry}
use Rattle.places.proofs.Stands.{stands_at_lem, stands_into, stands_first, stands_second}
use Rattle.places.proofs.Lists.{total, stands_entry}
use Rattle.places.proofs.Layouts.{length-list, list_count, list_values}
use Rattle.places.proofs.Contents.{length-message, content_stands, content_response}

-- a response is its head and its tables
abbrev pub tabled : Format (List Table)
tabled = list 2 most_items 40 first table

-- how many bytes its head has
abbrev pub head_size : Bool → Response → ℕ
head_size timed p = length ((head timed).bytes p.head)

module _ (timed : Bool) where
  module _ {s : List ℕ} {at : ℕ} {p : Response} (stands : Stands (response timed) s at p) where
    pub head_stands : Stands (head timed) s at p.head
    unfolding response
    head_stands = stands_first (head timed) (λ h. tabled) (stands_into _ _ stands)

    pub tabled_stands : Stands tabled s (at + head_size timed p) p.tables
    unfolding response
    tabled_stands = stands_second (head timed) (λ h. tabled) (stands_into _ _ stands)

  length-response : (p : Response) → length ((response timed).bytes p) ≡ head_size timed p + (2 + total table p.tables)
  unfolding response into both
  length-response p = simp (length-append, length-list)

  -- a table's place, as a sum
  length-content : (v : ℕ) (c : Content) → length ((content_of (response_layout timed) v).bytes c) ≡ length ((response timed).bytes (the_response c))
  unfolding into
  length-content v c = ap (λ (f : Format Content). length (f.bytes c)) (content_response timed v)

  pub table_place : (r : Message) (t : ℕ) → table_at timed r t ≡ 5 + head_size timed (the_response r.content) + 2 + total table (take t (tables_of r))
  unfolding table_at
  table_place r t = rw (length-message (response_layout timed), length-content, length-response _) (omega arith)

  module _ (m : List ℕ) (b : Bytes m) (r : Message) (accepted : read_message (response_layout timed) m ≡ ok r) where
    pub response_stands : Stands (response timed) m 5 (the_response r.content)
    response_stands = stands_into _ _ (subst (λ (f : Format Content). Stands f m 5 r.content) (content_response timed r.version) (content_stands (response_layout timed) m b r accepted))

    pub table_count_stands : Stands (number 2 40) m (5 + head_size timed (the_response r.content)) (length (tables_of r))
    table_count_stands = list_count 2 most_items 40 first table (tabled_stands response_stands)

    pub tables_stand : Stands (each first 0 (replicate (length (tables_of r)) table)) m (5 + head_size timed (the_response r.content) + 2) (tables_of r)
    tables_stand = list_values 2 most_items 40 first table (tabled_stands response_stands)

    -- table t stands at its place
    pub table_stands : (t : ℕ) {tab : Table} → entry (tables_of r) t ≡ ok tab → Stands table m (table_at timed r t) tab
    table_stands t e = stands_at_lem (sym (table_place r t)) (stands_entry first 0 (length (tables_of r)) table (tables_of r) t (tables_stand) e)
