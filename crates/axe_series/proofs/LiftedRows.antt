-- Lifted rows: those of the whole module are the rows themselves, and those of the two parts of a section are the first
-- rows and those after them.
use Rattle.std.specs.Prelude.{◌≡◌, ℕ, ◌+◌, ◌-◌, ◌<◌, ◌≤◌, List, [], length, take, drop, get_or}
use Rattle.std.proofs.lemmas.List.{ext_get_or, get_or-take, get_or-drop, take_all, length-take-le, length-drop}
use Rattle.axe_algebra.specs.NumberField.{NumberField}
use Rattle.axe_algebra.specs.Field.{Field}
use Rattle.axe_algebra.specs.Vectors.{multiply}
use Rattle.axe_algebra.specs.Bridge.{field_of, matrix_of}
use Rattle.axe_algebra.specs.Lists.{entry, listed, table, IsMatrixOver}
use Rattle.axe_algebra.specs.ListArithmetic.{product, combination, identity}
use Rattle.axe_algebra.proofs.ListEntries.{listed_length, listed_at, table_length, table_row, row_over, matrix_shape, same_matrix}
use Rattle.axe_algebra.proofs.ListProducts.{matrix_of_product, product_over, product_length, matrix_of_identity, identity_over, identity_length}
use Rattle.axe_algebra.proofs.ProductLaws.{multiply_identity}
use Rattle.axe_field.specs.NumberFields.{number_field}
use Rattle.axe_matrix.specs.Matrices.{MatrixValue, IsMatrix, AreSplit, matrix_block}
use Rattle.axe_matrix.proofs.ProductLaws.{length-product, get_or-product}
use Rattle.axe_spin.specs.Modules.{ModuleValue}
use Rattle.axe_norton.proofs.TruthLaws.{rows_over_field}
use Rattle.axe_series.specs.Sections.{SectionValue, whole_section, lifted_rows}
use mathlib.Core.Path.{refl, sym, ◌∙◌, ap, subst}
use native.Mathlib.Omega.{arith}

-- a matrix times the identity
product_with_identity : (K : NumberField) (n : ℕ) (a : List (List ℕ)) → IsMatrixOver K n a → product K n a (identity n) ≡ a
product_with_identity K n a over =
    same_matrix K n (product K n a (identity n)) a (product_length K n a (identity n))
    (product_over K n a (identity n) as_many (identity_over K n)) over
    (matrix_of_product K n a (identity n) as_many (identity_over K n)
    ∙ ap (λ m. multiply F m (matrix_of K a) (matrix_of K (identity n))) (identity_length K n)
    ∙ ap (multiply F n (matrix_of K a)) (matrix_of_identity K n)
    ∙ multiply_identity F (length a) n (matrix_of K a) (matrix_shape K n a over))
  where
    F : Field
    F = field_of K

    as_many : IsMatrixOver K (length (identity n)) a
    as_many = subst (λ m. IsMatrixOver K m a) (sym (identity_length K n)) over

-- rows that the whole module's unit vectors lift
pub lifted_by_units : (m : ModuleValue) (t : MatrixValue) → t.cols ≡ m.dim → IsMatrix t → lifted_rows (whole_section m) t ≡ t
lifted_by_units m t columns formed = λ i. record { order = t.order; cols = sym columns i; rows = same i }
  where
    same : product (number_field t.order) m.dim t.rows (identity m.dim) ≡ t.rows
    same = product_with_identity (number_field t.order) m.dim t.rows
        (rows_over_field t.order m.dim t refl columns formed)

-- a block of whole rows is some of the rows
block_of_rows : (m : MatrixValue) (start count : ℕ) → IsMatrix m → start + count ≤ length m.rows →
    matrix_block m start count 0 m.cols ≡ record m { rows = take count (drop start m.rows) }
block_of_rows m start count formed within = λ i. record { order = m.order; cols = m.cols; rows = same i }
  where
    row : (i : ℕ) → i < count →
        listed m.cols (λ j. entry m.rows (start + i) (0 + j)) ≡ get_or m.rows (start + i) []
    row i below =
        ext_get_or 0 (listed m.cols (λ j. entry m.rows (start + i) (0 + j))) (get_or m.rows (start + i) [])
        (listed_length m.cols (λ j. entry m.rows (start + i) (0 + j))
        ∙ sym (row_over (number_field m.order) m.cols m.rows (start + i)
        (rows_over_field m.order m.cols m refl refl formed) (omega arith)).length_is)
        (λ j inside.
        let same : 0 + j ≡ j = omega arith in
        listed_at m.cols (λ j. entry m.rows (start + i) (0 + j)) j 0
        (omega (arith, listed_length m.cols (λ j. entry m.rows (start + i) (0 + j))))
        ∙ ap (λ n. get_or (get_or m.rows (start + i) []) n 0) same)

    whole : List (List ℕ)
    whole = table count m.cols (λ i j. entry m.rows (start + i) (0 + j))

    count_is : length whole ≡ count
    count_is = table_length count m.cols (λ i j. entry m.rows (start + i) (0 + j))

    same : whole ≡ take count (drop start m.rows)
    same =
        ext_get_or [] whole (take count (drop start m.rows))
        (count_is ∙ sym (length-take-le count (drop start m.rows) (omega (arith, length-drop start m.rows))))
        (λ i within.
        let below : i < count = omega (arith, count_is) in
        table_row count m.cols (λ i j. entry m.rows (start + i) (0 + j)) i below ∙ row i below
        ∙ sym (get_or-take count (drop start m.rows) i [] below ∙ get_or-drop start m.rows i []))

-- the rows of the two parts
pub record AreBlocks (lifted first after : MatrixValue) (at size : ℕ) : Type 0 where
  pub first_rows : first ≡ matrix_block lifted 0 at 0 lifted.cols
  pub rows_after : after ≡ matrix_block lifted at size 0 lifted.cols
  pub first_count : length first.rows ≡ at
  pub count_after : length after.rows ≡ size

pub split_in_blocks : (lifted first after : MatrixValue) (at size : ℕ) → IsMatrix lifted →
    AreSplit lifted at first after → at + size ≡ length lifted.rows → AreBlocks lifted first after at size
split_in_blocks lifted first after at size formed split all = record {
  first_rows = split.first_rows ∙ sym (block_of_rows lifted 0 at formed (omega (arith, all)));
  rows_after = split.rows_after
      ∙ (λ i. record {
        order = lifted.order;
        cols = lifted.cols;
        rows = sym (take_all size (drop at lifted.rows) (omega (arith, left))) i;
      })
      ∙ sym (block_of_rows lifted at size formed (omega (arith, all)));
  first_count = ap (λ (m : MatrixValue). length m.rows) split.first_rows
      ∙ length-take-le at lifted.rows (omega (arith, all));
  count_after = ap (λ (m : MatrixValue). length m.rows) split.rows_after ∙ left;
}
  where
    left : length (drop at lifted.rows) ≡ size
    left = omega (arith, length-drop at lifted.rows, all)

-- some rows of a product are the product of these rows
product_of_first : (K : NumberField) (n count : ℕ) (a b : List (List ℕ)) → count ≤ length a →
    product K n (take count a) b ≡ take count (product K n a b)
product_of_first K n count a b within =
    ext_get_or [] (product K n (take count a) b) (take count (product K n a b))
    (length-product K n (take count a) b ∙ length-take-le count a within
    ∙ sym (length-take-le count (product K n a b) (omega (arith, length-product K n a b))))
    (λ i inside.
    let below : i < count = omega (arith, length-product K n (take count a) b, length-take-le count a within) in
    get_or-product K n (take count a) b i (omega (arith, below, length-take-le count a within))
    ∙ ap (λ (v : List ℕ). combination K n v b) (get_or-take count a i [] below)
    ∙ sym (get_or-take count (product K n a b) i [] below ∙ get_or-product K n a b i (omega arith)))

product_of_others : (K : NumberField) (n count : ℕ) (a b : List (List ℕ)) →
    product K n (drop count a) b ≡ drop count (product K n a b)
product_of_others K n count a b =
    ext_get_or [] (product K n (drop count a) b) (drop count (product K n a b))
    (length-product K n (drop count a) b ∙ length-drop count a
    ∙ sym (length-drop count (product K n a b) ∙ ap (λ m. m - count) (length-product K n a b)))
    (λ i inside.
    let below : i < length a - count = omega (arith, inside, length-product K n (drop count a) b, length-drop count a) in
    get_or-product K n (drop count a) b i (omega (arith, below, length-drop count a))
    ∙ ap (λ (v : List ℕ). combination K n v b) (get_or-drop count a i [])
    ∙ sym (get_or-drop count (product K n a b) i [] ∙ get_or-product K n a b (count + i) (omega (arith, below))))

-- the parts of a matrix, lifted, are the parts of the lifted rows
pub parts_are_lifted : (section : SectionValue) (extended first after : MatrixValue) (at : ℕ) → at ≤ length extended.rows →
    AreSplit extended at first after →
    AreSplit (lifted_rows section extended) at (lifted_rows section first) (lifted_rows section after)
parts_are_lifted section extended first after at within split = record {
  first_rows = ap (lifted_rows section) split.first_rows ∙ (λ i. record {
    order = extended.order;
    cols = section.rows.cols;
    rows = product_of_first (number_field extended.order) section.rows.cols at extended.rows section.rows.rows within i;
  });
  rows_after = ap (lifted_rows section) split.rows_after ∙ (λ i. record {
    order = extended.order;
    cols = section.rows.cols;
    rows = product_of_others (number_field extended.order) section.rows.cols at extended.rows section.rows.rows i;
  });
}
