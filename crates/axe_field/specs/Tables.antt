-- What a value of `Field` holds: the numbers of its order; and the tables of its operations.
use Rattle.std.specs.Prelude.{ℕ, ◌==◌, List, map, cond}
use Rattle.std.specs.List.{range_with_len}
use Rattle.axe_field.specs.Order.{Order, Two, Three, Four, Five, Seven, Eight, Nine, order_number, prime_of, degree_of}
use Rattle.axe_field.specs.Arithmetic.{field_add, field_neg, field_mul, field_inv}
use Rattle.axe_field.specs.Planes.{matrix_of_multiplication}
use Rattle.axe_field.specs.declared.Field.TheInside.{Inside}
use Rattle.axe_field.specs.declared.tables.Tables.{Tables}

-- the values of an operation on the numbers below nine
abbrev pub table_of : (ℕ → ℕ) → List ℕ
table_of f = map f (range_with_len 0 9)

-- the tables of the operations of a field
unfoldable pub tables_of : Order → Tables
tables_of o = record {
  sums = map (λ a. table_of (field_add o a)) (range_with_len 0 9);
  negatives = table_of (field_neg o);
  products = map (λ a. table_of (field_mul o a)) (range_with_len 0 9);
  inverses = table_of (field_inv o);
  matrices = map (matrix_of_multiplication o) (range_with_len 0 9);
}

-- the order with the number q, where there is one
abbrev pub order_with : ℕ → Order
order_with q =
    cond (q == 2) Two (cond (q == 3) Three (cond (q == 4) Four
    (cond (q == 5) Five (cond (q == 7) Seven (cond (q == 8) Eight Nine)))))

-- the fields of the value for an order
abbrev pub inside_of : Order → Inside
inside_of o = record { order = order_number o; prime = prime_of o; degree = degree_of o }
