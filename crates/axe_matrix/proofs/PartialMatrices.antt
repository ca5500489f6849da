-- Matrices that are made row by row.
use Rattle.std.proofs.Common.{◌≡◌, ℕ, ◌+◌, List, [], ◌∷◌, ◌++◌, length, sym, ap, ◌∙◌, refl, arith}
use Rattle.std.proofs.lemmas.List.FromFn.{length-map-range_with_len, map-range_with_len_more}
use Rattle.axe_algebra.specs.Lists.{listed}
use Rattle.axe_field.specs.Order.{Order}
use Rattle.axe_matrix.specs.Matrices.{MatrixValue, IsMatrix}
use Rattle.axe_matrix.proofs.MatrixLaws.{same_matrix}

-- the rows f 0 to f (n - 1)
unfoldable pub first_rows : (ℕ → List ℕ) → ℕ → List (List ℕ)
first_rows f n = listed n f

pub first_rows-none : (f : ℕ → List ℕ) → first_rows f 0 ≡ []
unfolding first_rows
first_rows-none f = refl

pub first_rows-more : (f : ℕ → List ℕ) (n : ℕ) → first_rows f (n + 1) ≡ first_rows f n ++ f n ∷ []
unfolding first_rows
first_rows-more f n = map-range_with_len_more f 0 n n (omega arith)

pub length-first_rows : (f : ℕ → List ℕ) (n : ℕ) → length (first_rows f n) ≡ n
unfolding first_rows
length-first_rows f n = length-map-range_with_len f 0 n

-- a matrix of so many columns that has the rows f 0 to f (n - 1)
pub record IsPartialMatrix (order : Order) (cols : ℕ) (f : ℕ → List ℕ) (n : ℕ) (m : MatrixValue) : Type 0 where
  pub field : m.order ≡ order
  pub columns : m.cols ≡ cols
  pub rows : m.rows ≡ first_rows f n
  pub count : length m.rows ≡ n
  pub well_formed : IsMatrix m

-- without rows
pub IsPartialMatrix-none : (order order' : Order) (cols cols' : ℕ) (f : ℕ → List ℕ) (m : MatrixValue) → m ≡ record { order = order'; cols = cols'; rows = [] } → IsMatrix m → order' ≡ order → cols' ≡ cols → IsPartialMatrix order cols f 0 m
IsPartialMatrix-none order order' cols cols' f m e h field columns = record {
  field = ap (λ (x : MatrixValue). x.order) e ∙ field;
  columns = ap (λ (x : MatrixValue). x.cols) e ∙ columns;
  rows = ap (λ (x : MatrixValue). x.rows) e ∙ sym (first_rows-none f);
  count = ap (λ (x : MatrixValue). length x.rows) e;
  well_formed = h;
}

-- with one more row
pub IsPartialMatrix-more : (order : Order) (cols : ℕ) (f : ℕ → List ℕ) (n : ℕ) (m next : MatrixValue) (row : List ℕ) → IsPartialMatrix order cols f n m → next ≡ record m { rows = m.rows ++ row ∷ [] } → IsMatrix next → row ≡ f n → IsPartialMatrix order cols f (n + 1) next
IsPartialMatrix-more order cols f n m next row h e well_formed is =
    let rows : next.rows ≡ first_rows f (n + 1) =
    ap (λ (x : MatrixValue). x.rows) e ∙ ap (λ (rs : List (List ℕ)). rs ++ row ∷ []) h.rows ∙ ap (λ (r : List ℕ). first_rows f n ++ r ∷ []) is ∙ sym (first_rows-more f n) in
    record {
      field = ap (λ (x : MatrixValue). x.order) e ∙ h.field;
      columns = ap (λ (x : MatrixValue). x.cols) e ∙ h.columns;
      rows = rows;
      count = ap (λ (rs : List (List ℕ)). length rs) rows ∙ length-first_rows f (n + 1);
      well_formed = well_formed;
    }

-- with all its rows
pub IsPartialMatrix-all : (order : Order) (cols : ℕ) (f : ℕ → List ℕ) (n count : ℕ) (m : MatrixValue) → IsPartialMatrix order cols f n m → n ≡ count → m ≡ record { order = order; cols = cols; rows = listed count f }
unfolding first_rows
IsPartialMatrix-all order cols f n count m h all =
    same_matrix m (record { order = order; cols = cols; rows = listed count f }) h.field h.columns (h.rows ∙ ap (λ k. listed k f) all)
