-- What stands in the tables of a field.
use Rattle.std.proofs.Common.{◌≡◌, ℕ, ◌<◌, ◌≤◌, List, [], ap, ◌∙◌, arith, get_or, map}
use Rattle.std.specs.List.{range_with_len}
use Rattle.std.proofs.lemmas.List.FromFn.{get_or-map-range_with_len}
use Rattle.axe_field.specs.Order.{Order, order_number, IsElement}
use Rattle.axe_field.specs.Arithmetic.{field_add, field_neg, field_mul, field_inv}
use Rattle.axe_field.specs.Planes.{matrix_of_multiplication}
use Rattle.axe_field.specs.Tables.{table_of, tables_of, order_with, inside_of}
use Rattle.axe_field.specs.declared.Field.TheInside.{Inside}
use Rattle.axe_field.specs.declared.tables.Tables.{Tables}
use Rattle.axe_field.proofs.Orders.{order_number-at_most}

pub table_of-at : (f : ℕ → ℕ) (a : ℕ) → a < 9 → get_or (table_of f) a 0 ≡ f a
table_of-at f a h = get_or-map-range_with_len f 0 9 a a 0 h (omega arith)

pub rows-at : (f : ℕ → List ℕ) (a : ℕ) → a < 9 → get_or (map f (range_with_len 0 9)) a [] ≡ f a
rows-at f a h = get_or-map-range_with_len f 0 9 a a [] h (omega arith)

pub sums-at : (o : Order) (a b : ℕ) → IsElement o a → IsElement o b →
    get_or (get_or (tables_of o).sums a []) b 0 ≡ field_add o a b
unfolding tables_of
sums-at o a b ha hb =
    let most : order_number o ≤ 9 = order_number-at_most o in
    ap (λ row. get_or row b 0) (rows-at (λ c. table_of (field_add o c)) a (omega arith))
    ∙ table_of-at (field_add o a) b (omega arith)

pub products-at : (o : Order) (a b : ℕ) → IsElement o a → IsElement o b →
    get_or (get_or (tables_of o).products a []) b 0 ≡ field_mul o a b
unfolding tables_of
products-at o a b ha hb =
    let most : order_number o ≤ 9 = order_number-at_most o in
    ap (λ row. get_or row b 0) (rows-at (λ c. table_of (field_mul o c)) a (omega arith))
    ∙ table_of-at (field_mul o a) b (omega arith)

pub negatives-at : (o : Order) (a : ℕ) → IsElement o a → get_or (tables_of o).negatives a 0 ≡ field_neg o a
unfolding tables_of
negatives-at o a ha =
    let most : order_number o ≤ 9 = order_number-at_most o in
    table_of-at (field_neg o) a (omega arith)

pub matrices-at : (o : Order) (a : ℕ) → IsElement o a →
    get_or (tables_of o).matrices a [] ≡ matrix_of_multiplication o a
unfolding tables_of
matrices-at o a ha =
    let most : order_number o ≤ 9 = order_number-at_most o in
    get_or-map-range_with_len (matrix_of_multiplication o) 0 9 a a [] (omega arith) (omega arith)

pub inverses-at : (o : Order) (a : ℕ) → IsElement o a → get_or (tables_of o).inverses a 0 ≡ field_inv o a
unfolding tables_of
inverses-at o a ha =
    let most : order_number o ≤ 9 = order_number-at_most o in
    table_of-at (field_inv o) a (omega arith)

-- the fields of a value that keeps its invariant
pub inside-is : (a : Inside) (o : Order) → a ≡ inside_of (order_with a.order) → order_with a.order ≡ o → a ≡ inside_of o
inside-is a o e view = e ∙ ap inside_of view

-- the entry of a table of sums or products at indices that are the elements
pub entry_along : (t s : List (List ℕ)) (i a j b v : ℕ) → t ≡ s → i ≡ a → j ≡ b → get_or (get_or s a []) b 0 ≡ v →
    get_or (get_or t i []) j 0 ≡ v
entry_along t s i a j b v et ei ej e =
    ap (λ x. get_or (get_or x i []) j 0) et ∙ ap (λ k. get_or (get_or s k []) j 0) ei
    ∙ ap (λ k. get_or (get_or s a []) k 0) ej ∙ e

-- the value of a table of negatives or inverses
pub value_along : (t s : List ℕ) (i a v : ℕ) → t ≡ s → i ≡ a → get_or s a 0 ≡ v → get_or t i 0 ≡ v
value_along t s i a v et ei e = ap (λ x. get_or x i 0) et ∙ ap (λ k. get_or s k 0) ei ∙ e

-- the matrix of the multiplication by an element
pub matrix_along : (t s : Tables) (i a : ℕ) (v : List (List ℕ)) → t ≡ s → i ≡ a → get_or s.matrices a [] ≡ v →
    get_or t.matrices i [] ≡ v
matrix_along t s i a v et ei e = ap (λ (x : Tables). get_or x.matrices i []) et ∙ ap (λ k. get_or s.matrices k []) ei ∙ e
