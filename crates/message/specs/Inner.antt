-- What stands in the rooms of a table, and before a message's version. proofs/Rooms.antt and Whole.antt prove that these are what the wire's
-- definition has there; only the contracts of the functions that read them cite them.
use Rattle.std.specs.Prelude.{ℕ, ◌+◌, ◌||◌, List, length, leb, ltb, eqb}
use Rattle.format.specs.declared.Fault.TheVariants.{Short, Negative, Limit, Extra}
use Rattle.format.specs.Result.{Res, ok, no, bind, pick}
use Rattle.format.specs.Number.{half}
use Rattle.format.specs.Format.{Format, number}
use Rattle.format.specs.Message.{Metadata, metadata, Table, in_metadata, in_table, most_columns, most_message}

-- what stands in the rooms of a table, shut
unfoldable pub described : Format Metadata
described = in_metadata most_columns

unfoldable pub contents : Format Table
contents = in_table metadata

-- the length of a message, which must be that of what follows
unfoldable pub measured : List ℕ → Res (ℕ × ℕ)
measured m = bind ((number 4 1).read m 0) (λ p.
    pick (eqb p.0 0 || leb (half 4) p.0) (no Negative 0)
    (pick (ltb most_message p.0) (no Limit 0)
    (pick (ltb (length m) (4 + p.0)) (no Short 0)
    (pick (ltb (4 + p.0) (length m)) (no Extra (4 + p.0)) (ok p)))))
