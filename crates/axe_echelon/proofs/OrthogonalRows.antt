-- The vector of a column that is orthogonal to a space, as its entries are set one by one.
use Rattle.std.specs.Prelude.{◌≡◌, ◌≢◌, ℕ, suc, ◌+◌, ◌-◌, ◌<◌, ◌≤◌, List, [], length, get_or, set, reverse}
use Rattle.std.proofs.Common.{add-one}
use Rattle.std.proofs.lemmas.List.{length-reverse, length-set, get_or-set_other, get_or-set_same}
use Rattle.axe_algebra.specs.NumberField.{NumberField}
use Rattle.axe_algebra.specs.Field.{Field}
use Rattle.axe_algebra.specs.Vectors.{Vector, HasRowsOfLength, unit_vector, sum, dot}
use Rattle.axe_algebra.specs.Bridge.{field_of, element, vector_of, matrix_of}
use Rattle.axe_algebra.specs.Lists.{unit_row, entry, IsVectorOver, IsMatrixOver}
use Rattle.axe_algebra.specs.SpansOfLists.{IsPivot}
use Rattle.axe_algebra.specs.Reduced
use Rattle.axe_algebra.proofs.ElementNumbers.{element_neg, element_one, element_zero, entry-below}
use Rattle.axe_algebra.proofs.ListEntries.{listed_length, row_over, rows_length, vector_length}
use Rattle.axe_algebra.proofs.ListProducts.{element_sum_of_products}
use Rattle.axe_algebra.proofs.ListVectors.{vector_of_unit_row}
use Rattle.axe_algebra.proofs.ProductLaws.{dot-at, unit_at, unit_off}
use Rattle.axe_field.specs.Order.{Order, IsElement}
use Rattle.axe_field.specs.Arithmetic.{field_neg}
use Rattle.axe_field.specs.NumberFields.{number_field, gf}
use Rattle.axe_field.proofs.NumberFields.{number_field-neg}
use Rattle.axe_lane.specs.Entries.{IsFirstNonzero}
use Rattle.axe_row.specs.Rows.{RowValue, IsRow}
use Rattle.axe_row.specs.Operations.{dot_product}
use Rattle.axe_matrix.specs.Matrices.{MatrixValue, IsMatrix}
use Rattle.axe_echelon.specs.Echelons.{EchelonValue, IsEchelon, IsReducedMatrix}
use Rattle.axe_echelon.specs.Mirrored.{mirrored, mirrored_row}
use Rattle.axe_echelon.specs.Orthogonal.{IsPivotOfRow, IsOrthogonalVector}
use Rattle.axe_echelon.proofs.EliminationLaws.{zero_entry}
use Rattle.axe_echelon.proofs.InverseLaws.{matrix_over}
use Rattle.axe_echelon.proofs.OrthogonalLaws.{IsOrthogonalUnit, IsOrthogonalFrom, IsOrthogonalUpTo, orthogonal_start, orthogonal_more, orthogonal_all, ArePlacesBefore, basis_start, basis_more, basis_same, basis_rest, basis_all}
use Rattle.axe_echelon.proofs.MirroredLaws.{mirrored-unit}
use Rattle.axe_echelon.proofs.MirroredLists.{reverse-set, vector_of_reverse, is_row_mirrored}
use Rattle.axe_echelon.proofs.StepLaws.{over_of_row, below_of_element}
use mathlib.Core.Path.{refl, sym, ◌∙◌, ap, subst}
use native.Mathlib.Omega.{arith}
use native.Mathlib.Decide.{dec_lt}

-- the dot product of two lists is that of their vectors
pub vector_of_dot : (K : NumberField) (n : ℕ) (a b : List ℕ) → IsVectorOver K n a → IsVectorOver K n b →
    element K (dot_product K a b) ≡ dot (field_of K) n (vector_of K a) (vector_of K b)
unfolding dot_product
vector_of_dot K n a b over_a over_b =
    element_sum_of_products K (length a) (λ j. get_or a j 0) (λ j. get_or b j 0) (λ t below. entry-below K a t over_a.elements)
    (λ t below. entry-below K b t over_b.elements)
    ∙ ap (λ k. sum (field_of K) k (λ t. (field_of K).mul (vector_of K a t) (vector_of K b t))) over_a.length_is
    ∙ sym (dot-at (field_of K) n (vector_of K a) (vector_of K b))

-- a list leads where its first entry other than 0 is
pub leads_at_first : (K : NumberField) (n : ℕ) (entries : List ℕ) (p : ℕ) → IsVectorOver K n entries → IsFirstNonzero entries p →
    Reduced.LeadsAt (field_of K) (vector_of K entries) p
leads_at_first K n entries p over first = record {
  nonzero = λ zero. first.nonzero (zero_entry K n entries p over zero);
  before = λ i ahead. ap (element K) (first.zeros_before i ahead) ∙ element_zero K;
}

-- a vector over the field of a space, with as many entries as that has columns, that fits P
pub record IsVectorWith (e : EchelonValue) (v : RowValue) (P : Vector (gf e.order) → Type 0) : Type 0 where
  pub field : v.order ≡ e.order
  pub over : IsVectorOver (number_field e.order) e.cols v.entries
  pub fits : P (vector_of (number_field e.order) v.entries)

-- it is orthogonal to the rows from row i on
abbrev pub IsVectorFrom : EchelonValue → ℕ → ℕ → RowValue → Type 0
IsVectorFrom e column i v =
    IsVectorWith e v (IsOrthogonalFrom (gf e.order) e.cols (length e.rows) (matrix_of (number_field e.order) e.rows) column i)

-- it has its entries at the first i pivots of the reduced basis
abbrev pub IsVectorUpTo : EchelonValue → MatrixValue → ℕ → ℕ → RowValue → Type 0
IsVectorUpTo e m column i v = IsVectorWith e v (λ x. (reduced : IsReducedMatrix e m) →
    IsOrthogonalUpTo (gf e.order) (length e.rows) (matrix_of (number_field e.order) e.rows) (length m.rows)
    (matrix_of (number_field e.order) m.rows) reduced.basis.pivots column i x)

module _ (e : EchelonValue) (h : IsEchelon e) (column : ℕ) (inside : column < e.cols) where
  abbrev K : NumberField
  K = number_field e.order

  abbrev F : Field
  F = gf e.order

  unit_with : (v : RowValue) (P : Vector F → Type 0) → v ≡ record { order = e.order; entries = unit_row e.cols column } → IsRow v →
      ((x : Vector F) → x ≡ unit_vector F column → P x) → IsVectorWith e v P
  unit_with v P is is_row fits = record {
    field = field;
    over = over_of_row e.order e.cols v field is_row (ap (λ (r : RowValue). length r.entries) is ∙ listed_length e.cols _);
    fits = fits (vector_of K v.entries) (ap (λ (r : RowValue). vector_of K r.entries) is ∙ vector_of_unit_row K e.cols column inside);
  }
    where
      field : v.order ≡ e.order
      field = ap (λ (r : RowValue). r.order) is

  -- one entry is set to the negative of a number
  set_with : (P Q : Vector F → Type 0) (v next : RowValue) (p a c : ℕ) (q : Order) → IsVectorWith e v P → p < e.cols → q ≡ e.order →
      a < K.order → c ≡ field_neg q a → next ≡ record { order = v.order; entries = set v.entries p c } → IsRow next →
      ((y : Vector F) → y p ≡ F.neg (element K a) → ((j : ℕ) → j ≢ p → y j ≡ vector_of K v.entries j) → Q y) → IsVectorWith e next Q
  set_with P Q v next p a c q given place same_field below c_is is is_row fits = record {
    field = field;
    over = over_of_row e.order e.cols next field is_row
        (ap (λ (r : RowValue). length r.entries) is ∙ length-set v.entries p c ∙ given.over.length_is);
    fits = fits (vector_of K next.entries)
        (ap (element K) (ap (λ (r : RowValue). get_or r.entries p 0) is
        ∙ get_or-set_same v.entries p c 0 (omega (arith, place, given.over.length_is))
        ∙ c_is ∙ ap (λ o. field_neg o a) same_field ∙ sym (number_field-neg e.order a)) ∙ element_neg K a below)
        (λ j other. ap (element K) (ap (λ (r : RowValue). get_or r.entries j 0) is ∙ get_or-set_other v.entries p j c 0 other));
  }
    where
      field : next.order ≡ e.order
      field = ap (λ (r : RowValue). r.order) is ∙ given.field

  vector_of_unit : (v : RowValue) → ¬ (IsPivot K e.rows column) →
      IsVectorWith e v (IsOrthogonalUnit F e.cols (length e.rows) (matrix_of K e.rows) column) → IsOrthogonalVector e column v
  vector_of_unit v none given = record {
    field = given.field;
    over = given.over;
    orthogonal = given.fits.within;
    one = given.fits.free column none ∙ unit_at F column;
    zeros = λ j free other. given.fits.free j free ∙ unit_off F column j (λ same. other (sym same));
  }

  -- ---- by the rows of the echelon form

  pub by_rows_start : (i : ℕ) (v : RowValue) → length e.rows ≤ i → v ≡ record { order = e.order; entries = unit_row e.cols column } → IsRow v →
      IsVectorFrom e column i v
  by_rows_start i v all is is_row = unit_with v _ is is_row
      (λ x same. orthogonal_start F e.cols (length e.rows) (matrix_of K e.rows) column i x all same)

  pub by_rows_more : (i rest p product c : ℕ) (row v next : RowValue) (q : Order) → ¬ (IsPivot K e.rows column) → IsVectorFrom e column rest v →
      rest ≡ suc i → i < length e.rows → IsPivotOfRow e i p → p < e.cols → row ≡ record { order = e.order; entries = get_or e.rows i [] } →
      product ≡ dot_product (number_field row.order) row.entries v.entries → IsElement row.order product → q ≡ e.order → c ≡ field_neg q product →
      next ≡ record { order = v.order; entries = set v.entries p c } → IsRow next → IsVectorFrom e column i next
  by_rows_more i rest p product c row v next q none from left below pivot place row_is product_is is_element same_field c_is is is_row =
      set_with _ _ v next p product c q from place same_field
      (subst (λ o. product < (number_field o).order) (ap (λ (r : RowValue). r.order) row_is) (below_of_element row.order product is_element)) c_is is is_row
      (λ y at others. orthogonal_more F e.cols (length e.rows) (matrix_of K e.rows) column i p (vector_of K v.entries) y
      (subst (λ k. IsOrthogonalFrom F e.cols (length e.rows) (matrix_of K e.rows) column k (vector_of K v.entries)) left from.fits) below place
      (λ same. none (subst (IsPivot K e.rows) same pivot.is_pivot))
      (leads_at_first K e.cols (get_or e.rows i []) p (row_over K e.cols e.rows i h.over below) pivot.first)
      (ap (element K) pivot.one ∙ element_one K)
      (λ t later ahead. ap (element K) (pivot.cleared t later ahead) ∙ element_zero K)
      (at ∙ ap F.neg dot_is) others)
    where
      dot_is : element K product ≡ dot F e.cols (matrix_of K e.rows i) (vector_of K v.entries)
      dot_is =
          ap (element K) (product_is ∙ ap (λ (r : RowValue). dot_product (number_field r.order) r.entries v.entries) row_is)
          ∙ vector_of_dot K e.cols (get_or e.rows i []) v.entries (row_over K e.cols e.rows i h.over below) from.over

  pub by_rows_all : (i : ℕ) (v : RowValue) → ¬ (IsPivot K e.rows column) → IsVectorFrom e column i v → i ≡ 0 → IsOrthogonalVector e column v
  by_rows_all i v none from done = vector_of_unit v none (record {
    field = from.field;
    over = from.over;
    fits = orthogonal_all F e.cols (length e.rows) (matrix_of K e.rows) column (vector_of K v.entries)
        (subst (λ k. IsOrthogonalFrom F e.cols (length e.rows) (matrix_of K e.rows) column k (vector_of K v.entries)) done from.fits)
        (vector_length K e.cols v.entries from.over.length_is);
  })

  -- ---- by the reduced basis

  module _ (m : MatrixValue) (well_formed : IsMatrix m) (reduced : IsReducedMatrix e m) (none : ¬ (IsPivot K e.rows column)) where
    rows : HasRowsOfLength F e.cols (matrix_of K e.rows)
    rows = rows_length K e.cols e.rows h.over

    over : IsMatrixOver K e.cols m.rows
    over = subst (λ o. IsMatrixOver (number_field o) e.cols m.rows) reduced.field
        (subst (λ n. IsMatrixOver (number_field m.order) n m.rows) reduced.columns (matrix_over m well_formed))

    -- the vector stands in the opposite order: at first it is the unit vector of the mirrored place
    pub by_basis_start : (v : RowValue) → v ≡ record { order = e.order; entries = unit_row e.cols (e.cols - 1 - column) } → IsRow v →
        IsVectorUpTo e m column 0 (mirrored_row v)
    by_basis_start v is is_row = record {
      field = field;
      over = over_of_row e.order e.cols (mirrored_row v) field (is_row_mirrored v is_row) (length-reverse v.entries ∙ long);
      fits = λ basis. basis_start F e.cols (length e.rows) (matrix_of K e.rows) column (length m.rows) (matrix_of K m.rows) basis.basis rows none
          (vector_of K (reverse v.entries))
          (vector_of_reverse K e.cols v.entries long
          ∙ ap (λ (r : RowValue). mirrored F e.cols (vector_of K r.entries)) is
          ∙ ap (mirrored F e.cols) (vector_of_unit_row K e.cols (e.cols - 1 - column) (omega (arith, inside)))
          ∙ mirrored-unit F e.cols column inside);
    }
      where
        field : v.order ≡ e.order
        field = ap (λ (r : RowValue). r.order) is

        long : length v.entries ≡ e.cols
        long = ap (λ (r : RowValue). length r.entries) is ∙ listed_length e.cols _

    -- the entry at one more pivot, which is set at the mirrored place
    pub by_basis_more : (i p number c : ℕ) (v next : RowValue) (q : Order) → IsVectorUpTo e m column i (mirrored_row v) → i < length m.rows →
        ((basis : IsReducedMatrix e m) → basis.basis.pivots i ≡ p) → p < e.cols → number ≡ entry m.rows i column → q ≡ e.order → c ≡ field_neg q number →
        next ≡ record { order = v.order; entries = set v.entries (e.cols - 1 - p) c } → IsRow next → IsVectorUpTo e m column (i + 1) (mirrored_row next)
    by_basis_more i p number c v next q up_to below pivot place at_column same_field c_is is is_row =
        set_with _ _ (mirrored_row v) (mirrored_row next) p number c q up_to place same_field
        (subst (λ a. a < K.order) (sym at_column) (entry-below K (get_or m.rows i []) column row_over_field.elements)) c_is mirrored_is
        (is_row_mirrored next is_row)
        (λ y at others basis.
        subst (λ k. IsOrthogonalUpTo F (length e.rows) (matrix_of K e.rows) (length m.rows) (matrix_of K m.rows) basis.basis.pivots column k y) (sym (add-one i))
        (basis_more F e.cols (length e.rows) (matrix_of K e.rows) column (length m.rows) (matrix_of K m.rows) basis.basis rows none i
        (vector_of K (reverse v.entries)) y (up_to.fits basis) below (ap y (pivot basis) ∙ at ∙ ap F.neg (ap (element K) at_column))
        (λ j other. others j (λ same. other (same ∙ sym (pivot basis))))))
      where
        row_over_field : IsVectorOver K e.cols (get_or m.rows i [])
        row_over_field = row_over K e.cols m.rows i over below

        mirrored_is : mirrored_row next ≡ record { order = v.order; entries = set (reverse v.entries) p c }
        mirrored_is = ap mirrored_row is
            ∙ ap (λ (l : List ℕ). record { order = v.order; entries = l })
            (reverse-set v.entries e.cols p c (sym (length-reverse v.entries) ∙ up_to.over.length_is) place)

    pub by_basis_same : (i number : ℕ) (v : RowValue) → IsVectorUpTo e m column i v → i < length m.rows → number ≡ entry m.rows i column → number ≡ 0 →
        IsVectorUpTo e m column (i + 1) v
    by_basis_same i number v up_to below at_column none_there = record {
      field = up_to.field;
      over = up_to.over;
      fits = λ basis.
          subst (λ k. IsOrthogonalUpTo F (length e.rows) (matrix_of K e.rows) (length m.rows) (matrix_of K m.rows) basis.basis.pivots column k (vector_of K v.entries))
          (sym (add-one i))
          (basis_same F e.cols (length e.rows) (matrix_of K e.rows) column (length m.rows) (matrix_of K m.rows) basis.basis rows none i (vector_of K v.entries)
          (up_to.fits basis) below
          (ap (element K) (sym at_column ∙ none_there) ∙ element_zero K));
    }

    -- either of the two
    pub by_basis_entry : (i p number : ℕ) (v next : RowValue) → IsVectorUpTo e m column i (mirrored_row v) → i < length m.rows →
        ((basis : IsReducedMatrix e m) → basis.basis.pivots i ≡ p) → p < e.cols → number ≡ entry m.rows i column →
        (number ≢ 0 → next ≡ record { order = v.order; entries = set v.entries (e.cols - 1 - p) (field_neg v.order number) }) →
        (number ≡ 0 → next ≡ v) → IsRow next → IsVectorUpTo e m column (i + 1) (mirrored_row next)
    by_basis_entry i p number v next up_to below pivot place at_column is_set is_same is_row = at (dec_lt 0 number)
      where
        at : Dec (0 < number) → IsVectorUpTo e m column (i + 1) (mirrored_row next)
        at (yes positive) = by_basis_more i p number (field_neg v.order number) v next v.order up_to below pivot place at_column up_to.field refl
            (is_set (omega arith)) is_row
        at (no none_there) =
            let zero : number ≡ 0 = omega arith in
            subst (λ (r : RowValue). IsVectorUpTo e m column (i + 1) (mirrored_row r)) (sym (is_same zero))
            (by_basis_same i number (mirrored_row v) up_to below at_column zero)

    -- the rows with later pivots are 0 at the column
    pub by_basis_all : (i : ℕ) (v : RowValue) → IsVectorUpTo e m column i v → ArePlacesBefore (length m.rows) reduced.basis.pivots column i →
        IsOrthogonalVector e column v
    by_basis_all i v up_to places = vector_of_unit v none (record {
      field = up_to.field;
      over = up_to.over;
      fits = basis_all F e.cols (length e.rows) (matrix_of K e.rows) column (length m.rows) (matrix_of K m.rows) reduced.basis rows none (vector_of K v.entries) inside
          (basis_rest F e.cols (length e.rows) (matrix_of K e.rows) column (length m.rows) (matrix_of K m.rows) reduced.basis rows none i (vector_of K v.entries)
          (up_to.fits reduced) places)
          (vector_length K e.cols v.entries up_to.over.length_is);
    })
