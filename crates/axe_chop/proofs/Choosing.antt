-- Rows that are chosen by numbers: unit vectors by their columns, and rows of a matrix by their places.
use Rattle.std.proofs.Common.{◌≡◌, ℕ, ◌<◌, ◌≤◌, List, [], length, map, get_or, Bool, true, false, cond, eqb, refl, sym, ap, subst, ◌∙◌, arith}
use Rattle.std.specs.List.{All}
use Rattle.std.proofs.lemmas.List.{length-map, get_or-map, ext_get_or}
use Rattle.std.proofs.lemmas.List.FromFn.{fill_by_all}
use Rattle.axe_algebra.specs.NumberField.{NumberField}
use Rattle.axe_algebra.specs.Lists.{IsVectorOver, IsMatrixOver, unit_row}
use Rattle.axe_algebra.specs.ListArithmetic.{identity, combination, product}
use Rattle.axe_algebra.proofs.ListEntries.{listed_at, listed_over}
use Rattle.axe_algebra.proofs.ListProducts.{identity_length, identity_over}
use Rattle.axe_algebra.proofs.PointSpans.{combination_with_unit}
use Rattle.axe_field.specs.Order.{Order}
use Rattle.axe_field.specs.NumberFields.{number_field}
use Rattle.axe_matrix.specs.Limits.{most_rows, most_columns}
use Rattle.axe_matrix.specs.Matrices.{MatrixValue, IsMatrix, identity_matrix, matrix_product, rows_at}
use Rattle.axe_matrix.proofs.PartialMatrices.{IsPartialMatrix, IsPartialMatrix-all}
use Rattle.axe_matrix.proofs.ProductLaws.{length-product, get_or-product}
use Rattle.axe_echelon.proofs.InverseLaws.{matrix_over}
use Rattle.axe_echelon.proofs.SomeMatrix.{matrix_of_rows_over}
use Rattle.axe_chop.specs.Vectors.{matrix_of_unit_vectors}

-- ---- one after the other

-- a matrix has the first i rows of the whole
abbrev pub AreFirstRows : MatrixValue → ℕ → MatrixValue → Type 0
AreFirstRows whole i m = IsPartialMatrix whole.order whole.cols (λ t. get_or whole.rows t []) i m

-- all of them
pub first_rows_all : (whole : MatrixValue) (i : ℕ) (m : MatrixValue) → AreFirstRows whole i m → i ≡ length whole.rows → m ≡ whole
first_rows_all whole i m so_far all =
    IsPartialMatrix-all _ _ _ _ _ _ so_far all
    ∙ (λ k. record {
      order = whole.order;
      cols = whole.cols;
      rows = sym (fill_by_all (λ t. get_or whole.rows t []) whole.rows (length whole.rows) [] refl (λ t below. refl)) k;
    })

-- among the rows that a list of numbers makes
pub made_of_number : (f : ℕ → List ℕ) (numbers : List ℕ) (i : ℕ) → i < length numbers →
    f (get_or numbers i 0) ≡ get_or (map f numbers) i []
made_of_number f numbers i below = sym (get_or-map f numbers i 0 [] below)

pub made_count : (f : ℕ → List ℕ) (numbers : List ℕ) → length (map f numbers) ≡ length numbers
made_count f numbers = length-map numbers f

-- ---- unit vectors

-- a unit vector is a vector
pub unit_row_over : (K : NumberField) (n i : ℕ) → IsVectorOver K n (unit_row n i)
unit_row_over K n i = listed_over K n (λ j. cond (eqb i j) 1 0) (λ j below. bit (eqb i j))
  where
    bit : (b : Bool) → cond b 1 0 < K.order
    bit true = K.one-below
    bit false = let above : 1 < K.order = K.one-below in omega arith

-- those of some columns are the rows of a matrix
pub units_are_matrix : (o : Order) (n : ℕ) (columns : List ℕ) → 1 ≤ n → n ≤ most_columns → length columns ≤ most_rows →
    IsMatrix (matrix_of_unit_vectors o n columns)
units_are_matrix o n columns some fits few =
    matrix_of_rows_over o n (map (unit_row n) columns) some fits (omega (arith, count, few))
    (λ i d below.
    subst (IsVectorOver (number_field o) n) (sym (get_or-map (unit_row n) columns i 0 d (omega (arith, below, count))))
    (unit_row_over (number_field o) n (get_or columns i 0)))
  where
    count : length (map (unit_row n) columns) ≡ length columns
    count = length-map columns (unit_row n)

-- all of them are the rows of one
pub identity_is_matrix : (o : Order) (n : ℕ) → 1 ≤ n → n ≤ most_columns → IsMatrix (identity_matrix o n)
identity_is_matrix o n some fits =
    matrix_of_rows_over o n (identity n) some fits (omega (arith, identity_length (number_field o) n, fits))
    (identity_over (number_field o) n)

-- ---- rows that are chosen

-- two functions that agree at the numbers make the same rows of them
same_rows : (f g : ℕ → List ℕ) (numbers : List ℕ) →
    ((i : ℕ) → i < length numbers → f (get_or numbers i 0) ≡ g (get_or numbers i 0)) → map f numbers ≡ map g numbers
same_rows f g numbers same =
    ext_get_or [] (map f numbers) (map g numbers) (length-map numbers f ∙ sym (length-map numbers g))
    (λ i inside.
    let below : i < length numbers = omega (arith, inside, length-map numbers f) in
    get_or-map f numbers i 0 [] below ∙ same i below ∙ sym (get_or-map g numbers i 0 [] below))

-- among all unit vectors
pub chosen_of_identity : (o : Order) (n : ℕ) (places : List ℕ) → All (λ place. place < n) places →
    matrix_of_unit_vectors o n places ≡ rows_at places (identity_matrix o n)
unfolding identity
chosen_of_identity o n places within = λ k. record { order = o; cols = n; rows = same k }
  where
    same : map (unit_row n) places ≡ map (λ place. get_or (identity n) place []) places
    same = same_rows (unit_row n) (λ place. get_or (identity n) place []) places
        (λ i below. sym (listed_at n (unit_row n) (get_or places i 0) [] (within i 0 below)))

-- places among all unit vectors are columns
pub within_identity : (o : Order) (n : ℕ) (m : MatrixValue) (places : List ℕ) → m ≡ identity_matrix o n →
    All (λ place. place < length m.rows) places → All (λ place. place < n) places
within_identity o n m places is within =
    subst (λ k. All (λ place. place < k) places) (ap (λ (x : MatrixValue). length x.rows) is ∙ identity_length (number_field o) n) within

-- among the unit vectors of some columns
pub within_units : (o : Order) (n : ℕ) (columns : List ℕ) (m : MatrixValue) (places : List ℕ) → m ≡ matrix_of_unit_vectors o n columns →
    All (λ place. place < length m.rows) places → All (λ place. place < length columns) places
within_units o n columns m places is within =
    subst (λ k. All (λ place. place < k) places) (ap (λ (x : MatrixValue). length x.rows) is ∙ length-map columns (unit_row n)) within

pub chosen_of_units : (o : Order) (n : ℕ) (columns places chosen : List ℕ) → All (λ place. place < length columns) places →
    chosen ≡ map (λ place. get_or columns place 0) places →
    matrix_of_unit_vectors o n chosen ≡ rows_at places (matrix_of_unit_vectors o n columns)
chosen_of_units o n columns places chosen within is = λ k. record { order = o; cols = n; rows = same k }
  where
    same : map (unit_row n) chosen ≡ map (λ place. get_or (map (unit_row n) columns) place []) places
    same =
        ap (map (unit_row n)) is
        ∙ ext_get_or [] (map (unit_row n) (map (λ place. get_or columns place 0) places))
        (map (λ place. get_or (map (unit_row n) columns) place []) places)
        (length-map (map (λ place. get_or columns place 0) places) (unit_row n) ∙ length-map places (λ place. get_or columns place 0)
        ∙ sym (length-map places (λ place. get_or (map (unit_row n) columns) place [])))
        (λ i inside.
        let count : length (map (unit_row n) (map (λ place. get_or columns place 0) places)) ≡ length places =
        length-map (map (λ place. get_or columns place 0) places) (unit_row n) ∙ length-map places (λ place. get_or columns place 0) in
        let below : i < length places = omega (arith, inside, count) in
        get_or-map (unit_row n) (map (λ place. get_or columns place 0) places) i 0 []
        (omega (arith, below, length-map places (λ place. get_or columns place 0)))
        ∙ ap (unit_row n) (get_or-map (λ place. get_or columns place 0) places i 0 0 below)
        ∙ sym (get_or-map (unit_row n) columns (get_or places i 0) 0 [] (within i 0 below))
        ∙ sym (get_or-map (λ place. get_or (map (unit_row n) columns) place []) places i 0 [] below))

-- they are columns where the columns are
pub chosen_within : (n : ℕ) (columns places chosen : List ℕ) → All (λ column. column < n) columns →
    All (λ place. place < length columns) places → chosen ≡ map (λ place. get_or columns place 0) places →
    All (λ column. column < n) chosen
chosen_within n columns places chosen columns_within within is =
    subst (All (λ column. column < n)) (sym is)
    (λ i d inside.
    let below : i < length places = omega (arith, inside, length-map places (λ place. get_or columns place 0)) in
    subst (λ column. column < n) (sym (get_or-map (λ place. get_or columns place 0) places i 0 d below))
    (columns_within (get_or places i 0) 0 (within i 0 below)))

pub chosen_count : (columns places chosen : List ℕ) → chosen ≡ map (λ place. get_or columns place 0) places →
    length chosen ≡ length places
chosen_count columns places chosen is = ap length is ∙ length-map places (λ place. get_or columns place 0)

-- the rows at some places are what the unit vectors of these lift to
pub chosen_by_units : (o : Order) (m : MatrixValue) (columns : List ℕ) → m.order ≡ o → IsMatrix m →
    All (λ column. column < length m.rows) columns →
    rows_at columns m ≡ matrix_product (matrix_of_unit_vectors o (length m.rows) columns) m
chosen_by_units o m columns field formed within = λ k. record { order = field k; cols = m.cols; rows = same k }
  where
    K : NumberField
    K = number_field o

    over : IsMatrixOver K m.cols m.rows
    over = subst (λ p. IsMatrixOver (number_field p) m.cols m.rows) field (matrix_over m formed)

    units : List (List ℕ)
    units = map (unit_row (length m.rows)) columns

    count : length (product K m.cols units m.rows) ≡ length columns
    count = length-product K m.cols units m.rows ∙ length-map columns (unit_row (length m.rows))

    same : map (λ place. get_or m.rows place []) columns ≡ product K m.cols units m.rows
    same =
        ext_get_or [] (map (λ place. get_or m.rows place []) columns) (product K m.cols units m.rows)
        (length-map columns (λ place. get_or m.rows place []) ∙ sym count)
        (λ i inside.
        let below : i < length columns = omega (arith, inside, length-map columns (λ place. get_or m.rows place [])) in
        get_or-map (λ place. get_or m.rows place []) columns i 0 [] below
        ∙ sym (combination_with_unit K m.cols (get_or columns i 0) m.rows over (within i 0 below))
        ∙ ap (λ (v : List ℕ). combination K m.cols v m.rows) (sym (get_or-map (unit_row (length m.rows)) columns i 0 [] below))
        ∙ sym (get_or-product K m.cols units m.rows i (omega (arith, below, length-map columns (unit_row (length m.rows))))))
