-- The rows of a table, by the entries of its planes.
use Rattle.std.proofs.Common.{◌≡◌, ℕ, ◌<◌, List, [], length, get_or}
use Rattle.axe_algebra.proofs.ListEntries.{listed_length, listed_at}
use Rattle.axe_field.specs.Order.{Order}
use Rattle.axe_row.specs.Planes.{entries_of_digits}
use Rattle.axe_row.specs.PlaneTables.{rows_of_tables}

-- there are as many rows as entries
pub length-rows_of_tables : (o : Order) (c l q : List (List ℕ)) → length (rows_of_tables o c l q) ≡ length c
unfolding rows_of_tables
length-rows_of_tables o c l q = listed_length (length c) (λ x. entries_of_digits o (get_or c x []) (get_or l x []) (get_or q x []))

-- row x has the digits of the entries at x
pub get_or-rows_of_tables : (o : Order) (c l q : List (List ℕ)) (x : ℕ) → x < length c →
    get_or (rows_of_tables o c l q) x [] ≡ entries_of_digits o (get_or c x []) (get_or l x []) (get_or q x [])
unfolding rows_of_tables
get_or-rows_of_tables o c l q x below =
    listed_at (length c) (λ y. entries_of_digits o (get_or c y []) (get_or l y []) (get_or q y [])) x [] below
