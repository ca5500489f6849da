-- Products added to matrices beside one another.
use Rattle.std.proofs.Common.{◌≡◌, ℕ, ◌+◌, ◌<◌, List, length, sym, ap, ap₂, ◌∙◌, subst, arith}
use Rattle.axe_algebra.specs.ListArithmetic.{number_sum, product_entry}
use Rattle.axe_algebra.specs.Lists.{entry}
use Rattle.axe_algebra.specs.NumberField.{NumberField}
use Rattle.axe_algebra.proofs.ElementNumbers.{number_sum_same}
use Rattle.axe_algebra.proofs.ListEntries.{table_length, table_entry}
use Rattle.axe_field.specs.NumberFields.{number_field}
use Rattle.axe_matrix.specs.Matrices.{MatrixValue, IsMatrix}
use Rattle.axe_matrix.specs.Products.{rows_with_product, matrix_with_product}
use Rattle.axe_reduction.specs.Augmented.{AugmentedValue, AreBeside, AreAlike, rows_beside, augmented, with_product}
use Rattle.axe_reduction.proofs.BesideLaws.{HaveLength, length-rows_beside, left-entry, right-entry, long-table, is_beside}

-- ---- products

product_length : (K : NumberField) (n : ℕ) (d : List (List ℕ)) (c : ℕ) (f b : List (List ℕ)) → length (rows_with_product K n d c f b) ≡ length d
unfolding rows_with_product
product_length K n d c f b = table_length (length d) n _

product_long : (K : NumberField) (n : ℕ) (d : List (List ℕ)) (c : ℕ) (f b : List (List ℕ)) → HaveLength n (rows_with_product K n d c f b)
unfolding rows_with_product
product_long K n d c f b = long-table (length d) n _

product_at : (K : NumberField) (n : ℕ) (d : List (List ℕ)) (c : ℕ) (f b : List (List ℕ)) (i j : ℕ) → i < length d → j < n →
    entry (rows_with_product K n d c f b) i j ≡ K.add (entry d i j) (K.mul c (product_entry K f b (length b) i j))
unfolding rows_with_product
product_at K n d c f b i j below within = table_entry (length d) n (λ i j. K.add (entry d i j) (K.mul c (product_entry K f b (length b) i j))) i j below within

-- an entry of a product by the columns of one of the two sides
side_entry : (K : NumberField) (f x all : List (List ℕ)) (i j k : ℕ) → length all ≡ length x → ((t : ℕ) → t < length x → entry x t j ≡ entry all t k) →
    product_entry K f x (length x) i j ≡ product_entry K f all (length all) i k
unfolding product_entry
side_entry K f x all i j k count same =
    number_sum_same K (length x) (λ t. K.mul (entry f i t) (entry x t j)) (λ t. K.mul (entry f i t) (entry all t k)) (λ t below. ap (K.mul (entry f i t)) (same t below))
    ∙ ap (number_sum K (λ t. K.mul (entry f i t) (entry all t k))) (sym count)

product_beside : (K : NumberField) (m n : ℕ) (a b : List (List ℕ)) (c : ℕ) (f x y : List (List ℕ)) → HaveLength m a → HaveLength n b → length b ≡ length a →
    HaveLength m x →
    length y ≡ length x → rows_beside (rows_with_product K m a c f x) (rows_with_product K n b c f y) ≡ rows_with_product K (m + n) (rows_beside a b) c f (rows_beside x y)
product_beside K m n a b c f x y long_a long_b same long_x same_xy =
    let ab = rows_beside a b in
    let xy = rows_beside x y in
    let count : length ab ≡ length a = length-rows_beside a b in
    let inner : length xy ≡ length x = length-rows_beside x y in
    let left = product_length K m a c f x in
    let right = product_length K n b c f y in
    is_beside m n (rows_with_product K m a c f x) (rows_with_product K n b c f y) (rows_with_product K (m + n) ab c f xy)
    (product_long K m a c f x) (product_long K n b c f y) (right ∙ same ∙ sym left) (product_length K (m + n) ab c f xy ∙ count ∙ sym left)
    (product_long K (m + n) ab c f xy)
    (λ i j below within.
    let inside : i < length a = omega (arith, left) in
    product_at K m a c f x i j inside within
    ∙ ap₂ (λ s t. K.add s (K.mul c t)) (sym (left-entry m a b i j long_a inside within))
    (side_entry K f x xy i j j inner (λ t in_x. sym (left-entry m x y t j long_x in_x within)))
    ∙ sym (product_at K (m + n) ab c f xy i j (omega (arith, count)) (omega arith)))
    (λ i j below within.
    let inside : i < length a = omega (arith, left) in
    product_at K n b c f y i j (omega arith) within
    ∙ ap₂ (λ s t. K.add s (K.mul c t)) (sym (right-entry m a b i j long_a inside))
    (side_entry K f y xy i j (m + j) (inner ∙ sym same_xy) (λ t in_y. sym (right-entry m x y t j long_x (omega arith))))
    ∙ sym (product_at K (m + n) ab c f xy i (m + j) (omega (arith, count)) (omega arith)))

-- products added to both matrices
pub products_are_sum : (a b x y left right factors : MatrixValue) (v w : AugmentedValue) (c : ℕ) → augmented a b ≡ v → AreBeside a b → augmented x y ≡ w → AreBeside x y →
    AreAlike v w → left ≡ matrix_with_product a c factors x → right ≡ matrix_with_product b c factors y → augmented left right ≡ with_product v c factors w
products_are_sum a b x y left right factors v w c view_is h other_is other alike left_is right_is =
    let K = number_field a.order in
    let columns : x.cols ≡ a.cols = ap (λ (z : AugmentedValue). z.left) other_is ∙ alike.left ∙ sym (ap (λ (z : AugmentedValue). z.left) view_is) in
    let long_x : HaveLength a.cols x.rows = subst (λ k. HaveLength k x.rows) columns other.left.row_lengths in
    ap₂ augmented left_is right_is
    ∙ ap (λ q. record { order = a.order; left = a.cols; cols = a.cols + b.cols; rows = rows_beside (rows_with_product K a.cols a.rows c factors.rows x.rows) (rows_with_product (number_field q) b.cols b.rows c factors.rows y.rows) }) h.field
    ∙ ap (λ (z : List (List ℕ)). record { order = a.order; left = a.cols; cols = a.cols + b.cols; rows = z })
    (product_beside K a.cols b.cols a.rows b.rows c factors.rows x.rows y.rows h.left.row_lengths h.right.row_lengths h.as_many long_x other.as_many)
    ∙ ap₂ (λ (s t : AugmentedValue). with_product s c factors t) view_is other_is

pub products-AreBeside : (a b x y left right factors : MatrixValue) (c : ℕ) → AreBeside a b → left ≡ matrix_with_product a c factors x →
    right ≡ matrix_with_product b c factors y → IsMatrix left → IsMatrix right → AreBeside left right
products-AreBeside a b x y left right factors c h left_is right_is left_fine right_fine = record {
  field = ap (λ (m : MatrixValue). m.order) right_is ∙ h.field ∙ sym (ap (λ (m : MatrixValue). m.order) left_is);
  as_many =
      ap (λ (m : MatrixValue). length m.rows) right_is ∙ product_length (number_field b.order) b.cols b.rows c factors.rows y.rows ∙ h.as_many
      ∙ sym (ap (λ (m : MatrixValue). length m.rows) left_is ∙ product_length (number_field a.order) a.cols a.rows c factors.rows x.rows);
  left = left_fine;
  right = right_fine;
}
