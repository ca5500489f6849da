-- Rows cleared by no rows stay as they are; how many rows there are of some rows, and of cleared ones.
use Rattle.std.specs.Prelude.{◌≡◌, ℕ, ◌+◌, ◌<◌, ◌≤◌, List, [], length, get_or}
use Rattle.std.proofs.lemmas.List.{ext_get_or}
use Rattle.axe_algebra.specs.Bridge.{field_of, element}
use Rattle.axe_algebra.specs.ListArithmetic.{number_sum, product_entry}
use Rattle.axe_algebra.specs.Lists.{entry, listed, table, IsMatrixOver}
use Rattle.axe_algebra.specs.NumberField.{NumberField}
use Rattle.axe_algebra.proofs.ElementNumbers.{zero-below, element_zero, element_mul, same_number, entry-below}
use Rattle.axe_algebra.proofs.FieldLaws as Laws
use Rattle.axe_algebra.proofs.ListEntries.{listed_length, listed_at, table_length, table_row, row_over}
use Rattle.axe_field.specs.Arithmetic.{field_neg}
use Rattle.axe_field.specs.NumberFields.{number_field}
use Rattle.axe_field.specs.Order.{Order}
use Rattle.axe_field.proofs.Orders.{one_is_element}
use Rattle.axe_matrix.specs.Products.{rows_with_product}
use Rattle.axe_reduction.specs.Augmented.{AugmentedValue, IsAugmented, entries_at_columns, some_rows}
use Rattle.axe_reduction.specs.Reductions.{cleared}
use mathlib.Core.Path.{sym, ◌∙◌, ap}
use native.Mathlib.Omega.{arith}

pub mul-zero : (K : NumberField) (a : ℕ) → a < K.order → K.mul a 0 ≡ 0
mul-zero K a small =
    same_number K (K.mul a 0) 0 (K.mul-below a 0 small (zero-below K)) (zero-below K)
    (element_mul K a 0 small (zero-below K) ∙ ap ((field_of K).mul (element K a)) (element_zero K)
    ∙ Laws.mul-zero (field_of K) (element K a) ∙ sym (element_zero K))

no_terms : (K : NumberField) (a b : List (List ℕ)) (i j n : ℕ) → n ≡ 0 → product_entry K a b n i j ≡ 0
unfolding product_entry number_sum
no_terms K a b i j n none = ap (λ k. product_entry K a b k i j) none

-- a product with an empty factor adds nothing
pub nothing_added : (K : NumberField) (columns : ℕ) (d : List (List ℕ)) (c : ℕ) (a b : List (List ℕ)) →
    IsMatrixOver K columns d → c < K.order → length b ≡ 0 → rows_with_product K columns d c a b ≡ d
unfolding rows_with_product
nothing_added K columns d c a b over small none =
    let f : ℕ → ℕ → ℕ = λ i j. K.add (entry d i j) (K.mul c (product_entry K a b (length b) i j)) in
    ext_get_or [] (table (length d) columns f) d (table_length (length d) columns f) (λ i below.
    let inside : i < length d = omega (arith, table_length (length d) columns f) in
    table_row (length d) columns f i inside
    ∙ ext_get_or 0 (listed columns (f i)) (get_or d i [])
    (listed_length columns (f i) ∙ sym (row_over K columns d i over inside).length_is)
    (λ j within. let column : j < columns = omega (arith, listed_length columns (f i)) in
    listed_at columns (f i) j 0 column
    ∙ ap (λ x. K.add (entry d i j) (K.mul c x)) (no_terms K a b i j (length b) none)
    ∙ ap (K.add (entry d i j)) (mul-zero K c small)
    ∙ K.add-zero (entry d i j) (entry-below K (get_or d i []) j (row_over K columns d i over inside).elements)))

pub minus_one-below : (o : Order) → field_neg o 1 < (number_field o).order
unfolding number_field
minus_one-below o = (number_field o).neg-below 1 (one_is_element o)

pub cleared_of_none : (pivots : List ℕ) (a b : AugmentedValue) → IsAugmented b → length a.rows ≡ 0 →
    b ≡ cleared pivots a b
cleared_of_none pivots a b h none =
    ap (λ rows. record b { rows = rows })
    (sym (nothing_added (number_field b.order) b.cols b.rows (field_neg b.order 1) (entries_at_columns b pivots).rows a.rows
    h.over (minus_one-below b.order) none))

pub length-cleared : (pivots : List ℕ) (a b : AugmentedValue) → length (cleared pivots a b).rows ≡ length b.rows
unfolding rows_with_product
length-cleared pivots a b = table_length (length b.rows) b.cols _

pub length-some_rows : (a : AugmentedValue) (start count : ℕ) → length (some_rows a start count).rows ≡ count
length-some_rows a start count = listed_length count _

-- the same of values that are some rows, and cleared ones
pub length-some : (a b : AugmentedValue) (start count : ℕ) → b ≡ some_rows a start count → length b.rows ≡ count
length-some a b start count is = ap (λ (x : AugmentedValue). length x.rows) is ∙ length-some_rows a start count

pub length-some_cleared : (pivots : List ℕ) (reduced a b rest : AugmentedValue) (start count : ℕ) →
    b ≡ some_rows a start count → rest ≡ cleared pivots reduced b → length rest.rows ≡ count
length-some_cleared pivots reduced a b rest start count some is =
    ap (λ (x : AugmentedValue). length x.rows) is ∙ length-cleared pivots reduced b ∙ length-some a b start count some

-- the rows that two reductions give, of the first rows and of the others, cleared, have room: the reduced ones and the rest
pub both_fit : (most half others reduced rest further_reduced further_rest : ℕ) (pivots : List ℕ) (by a first second cleared_rows : AugmentedValue) →
    half + others ≤ most → first ≡ some_rows a 0 half → second ≡ some_rows a half others → cleared_rows ≡ cleared pivots by second →
    reduced + rest ≡ length first.rows → further_reduced + further_rest ≡ length cleared_rows.rows →
    (reduced + further_reduced ≤ most) × (rest + further_rest ≤ most)
both_fit most half others reduced rest further_reduced further_rest pivots by a first second cleared_rows fit first_is second_is cleared_is count further_count =
    let halves : length first.rows ≡ half = length-some a first 0 half first_is in
    let remaining : length cleared_rows.rows ≡ others = length-some_cleared pivots by a second cleared_rows half others second_is cleared_is in
    (omega (arith, fit, halves, remaining, count, further_count), omega (arith, fit, halves, remaining, count, further_count))
