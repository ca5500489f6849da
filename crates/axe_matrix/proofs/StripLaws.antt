-- Strips of a matrix that are read row by row, and transposes that are made column by column of these.
use Rattle.std.proofs.Common.{◌≡◌, ℕ, ◌+◌, ◌<◌, List, [], ◌∷◌, ◌++◌, length, get_or, refl, sym, ap, subst, ◌∙◌, arith, length-append, below_more}
use Rattle.std.specs.List.{All}
use Rattle.std.proofs.lemmas.List.{get_or_append_left}
use Rattle.std.proofs.lemmas.List.Elements.{All-from_get_or}
use Rattle.std.proofs.Math.Seq.{get_or-append_seam}
use Rattle.axe_algebra.specs.Lists.{entry, listed}
use Rattle.axe_algebra.specs.ListArithmetic.{transpose}
use Rattle.axe_algebra.proofs.ListEntries.{listed_length, listed_at}
use Rattle.axe_field.specs.Order.{Order, IsElement}
use Rattle.axe_matrix.specs.Matrices.{MatrixValue, IsMatrix, column_of}
use Rattle.axe_matrix.specs.Strips.{IsStrip, first_columns}
use Rattle.axe_matrix.proofs.MatrixLaws.{same_matrix, entry-IsElement}
use Rattle.axe_matrix.proofs.VectorLaws.{is_listed}
use Rattle.axe_matrix.proofs.PartialMatrices.{first_rows, IsPartialMatrix, IsPartialMatrix-more, IsPartialMatrix-all}

-- no line yet
pub IsStrip-none : (m : MatrixValue) (start width : ℕ) (lines : List (List ℕ)) → lines ≡ [] → IsStrip m start width 0 lines
IsStrip-none m start width lines e = record { count = ap (λ (x : List (List ℕ)). length x) e; entries = λ i j below _. absurd (omega arith) }

-- one more line
pub IsStrip-more : (m : MatrixValue) (start width n : ℕ) (lines next : List (List ℕ)) (line : List ℕ) → IsStrip m start width n lines →
    next ≡ lines ++ line ∷ [] → ((j : ℕ) → j < width → get_or line j 0 ≡ entry m.rows n (start + j)) → IsStrip m start width (n + 1) next
IsStrip-more m start width n lines next line h e same = record {
  count = ap (λ (x : List (List ℕ)). length x) e ∙ length-append lines (line ∷ []) ∙ ap (λ k. k + 1) h.count;
  entries = λ i j row column.
      ap (λ (x : List (List ℕ)). entry x i j) e
      ∙ below_more (λ k. entry (lines ++ line ∷ []) k j ≡ entry m.rows k (start + j)) n
      (λ k earlier. ap (λ (r : List ℕ). get_or r j 0) (get_or_append_left lines (line ∷ []) [] k (omega (arith, earlier, h.count))) ∙ h.entries k j earlier column)
      (ap (λ k. entry (lines ++ line ∷ []) k j) (sym h.count) ∙ ap (λ (r : List ℕ). get_or r j 0) (get_or-append_seam lines line [] []) ∙ same j column)
      i row;
}

-- column start + k of the matrix stands at place k of the lines of all rows
pub IsStrip-column : (m : MatrixValue) (start width k : ℕ) (lines read : List (List ℕ)) (column entries : List ℕ) → IsStrip m start width (length m.rows) lines → k < width →
    read ≡ lines → column ≡ listed (length read) (λ i. entry read i k) → entries ≡ column → entries ≡ (column_of m (start + k)).entries
IsStrip-column m start width k lines read column entries h below reads taken is =
    is ∙ taken ∙ ap (λ (x : List (List ℕ)). listed (length x) (λ i. entry x i k)) reads
    ∙ is_listed (length m.rows) (λ i. entry m.rows i (start + k)) (listed (length lines) (λ i. entry lines i k)) (listed_length (length lines) (λ i. entry lines i k) ∙ h.count)
    (λ i row. listed_at (length lines) (λ i. entry lines i k) i 0 (omega (arith, row, h.count)) ∙ h.entries i k row below)

-- the entries of a column are elements
pub column-elements : (o : Order) (column : List ℕ) (m : MatrixValue) (j : ℕ) → o ≡ m.order → column ≡ (column_of m j).entries → IsMatrix m → All (IsElement o) column
column-elements o column m j field is h =
    rw (field, is) (All-from_get_or (IsElement m.order) (column_of m j).entries 0 (λ i below.
    let inside : i < length m.rows = omega (arith, below, listed_length (length m.rows) (λ i. entry m.rows i j)) in
    rw (listed_at (length m.rows) (λ i. entry m.rows i j) i 0 inside) (entry-IsElement m i j h)))

-- the rows of a matrix are the first n columns of another
abbrev pub IsColumnsMatrix : ℕ → MatrixValue → MatrixValue → Type 0
IsColumnsMatrix n a m = IsPartialMatrix a.order (length a.rows) (λ j. (column_of a j).entries) n m

pub IsColumnsMatrix-from : (n k : ℕ) (a m : MatrixValue) → m ≡ first_columns a k → IsMatrix m → k ≡ n → IsColumnsMatrix n a m
unfolding first_rows transpose
IsColumnsMatrix-from n k a m e h same = record {
  field = ap (λ (x : MatrixValue). x.order) e;
  columns = ap (λ (x : MatrixValue). x.cols) e;
  rows = ap (λ (x : MatrixValue). x.rows) e ∙ ap (λ i. listed i (λ j. (column_of a j).entries)) same;
  count = ap (λ (x : MatrixValue). length x.rows) e ∙ listed_length k (λ j. (column_of a j).entries) ∙ same;
  well_formed = h;
}

-- one more column
pub IsColumnsMatrix-more : (start n : ℕ) (a m next : MatrixValue) (row : List ℕ) → IsColumnsMatrix (start + n) a m → next ≡ record m { rows = m.rows ++ row ∷ [] } →
    IsMatrix next → row ≡ (column_of a (start + n)).entries → IsColumnsMatrix (start + (n + 1)) a next
IsColumnsMatrix-more start n a m next row h e well_formed is =
    subst (λ (k : ℕ). IsColumnsMatrix k a next) (omega arith) (IsPartialMatrix-more _ _ (λ j. (column_of a j).entries) (start + n) m next row h e well_formed is)

pub IsColumnsMatrix-all : (n k : ℕ) (a m : MatrixValue) → IsColumnsMatrix n a m → n ≡ k → m ≡ first_columns a k
unfolding transpose
IsColumnsMatrix-all n k a m h all = IsPartialMatrix-all _ _ _ n k m h all

-- no column
pub first_columns-none : (a : MatrixValue) (order : Order) (rows : ℕ) (m : MatrixValue) → m ≡ record { order = order; cols = rows; rows = [] } →
    order ≡ a.order → rows ≡ length a.rows → m ≡ first_columns a 0
unfolding transpose
first_columns-none a order rows m e field count = e ∙ same_matrix _ (first_columns a 0) field count refl
