-- A matrix whose rows are rewritten one after another.
use Rattle.std.proofs.Common.{◌≡◌, ◌≢◌, ℕ, ◌+◌, ◌<◌, ◌≤◌, List, [], length, get_or, set, refl, sym, ap, ◌∙◌, arith, get_or-set_other, get_or-set_same, below_more}
use Rattle.std.proofs.lemmas.List.{ext_get_or, length-set}
use Rattle.axe_algebra.specs.Lists.{listed}
use Rattle.axe_algebra.proofs.ListEntries.{listed_length, listed_at}
use Rattle.axe_matrix.specs.Matrices.{MatrixValue, IsMatrix}
use Rattle.axe_matrix.proofs.MatrixLaws.{same_matrix}

-- a matrix whose rows below n are f 0 to f (n - 1), and whose other rows are those of a
pub record IsRewrittenBelow (n : ℕ) (a : MatrixValue) (f : ℕ → List ℕ) (m : MatrixValue) : Type 0 where
  pub field : m.order ≡ a.order
  pub columns : m.cols ≡ a.cols
  pub count : length m.rows ≡ length a.rows
  pub rewritten : (i : ℕ) → i < n → get_or m.rows i [] ≡ f i
  pub kept : (i : ℕ) → n ≤ i → get_or m.rows i [] ≡ get_or a.rows i []
  pub well_formed : IsMatrix m

-- nothing is rewritten yet
pub IsRewrittenBelow-none : (a : MatrixValue) (f : ℕ → List ℕ) → IsMatrix a → IsRewrittenBelow 0 a f a
IsRewrittenBelow-none a f h = record {
  field = refl;
  columns = refl;
  count = refl;
  rewritten = λ i below. absurd (omega arith);
  kept = λ i _. refl;
  well_formed = h;
}

-- one more row
pub IsRewrittenBelow-more : (n : ℕ) (a : MatrixValue) (f : ℕ → List ℕ) (m next : MatrixValue) (row : List ℕ) → IsRewrittenBelow n a f m →
    n < length a.rows → row ≡ f n → next ≡ record m { rows = set m.rows n row } → IsMatrix next → IsRewrittenBelow (n + 1) a f next
IsRewrittenBelow-more n a f m next row h below row_is e well_formed = record {
  field = ap (λ (x : MatrixValue). x.order) e ∙ h.field;
  columns = ap (λ (x : MatrixValue). x.cols) e ∙ h.columns;
  count = ap (λ (x : MatrixValue). length x.rows) e ∙ length-set m.rows n row ∙ h.count;
  rewritten = below_more _ _
      (λ i lower. let other : i ≢ n = omega arith in
      ap (λ (x : MatrixValue). get_or x.rows i []) e ∙ get_or-set_other m.rows n i row [] other ∙ h.rewritten i lower)
      (ap (λ (x : MatrixValue). get_or x.rows n []) e ∙ get_or-set_same m.rows n row [] (omega (arith, h.count)) ∙ row_is);
  kept = λ i above. let other : i ≢ n = omega arith in
      ap (λ (x : MatrixValue). get_or x.rows i []) e ∙ get_or-set_other m.rows n i row [] other ∙ h.kept i (omega arith);
  well_formed = well_formed;
}

-- every row
pub IsRewrittenBelow-all : (n : ℕ) (a : MatrixValue) (f : ℕ → List ℕ) (m : MatrixValue) → IsRewrittenBelow n a f m → length a.rows ≤ n →
    m ≡ record { order = a.order; cols = a.cols; rows = listed (length a.rows) f }
IsRewrittenBelow-all n a f m h all =
    same_matrix m (record { order = a.order; cols = a.cols; rows = listed (length a.rows) f }) h.field h.columns
    (ext_get_or [] m.rows (listed (length a.rows) f) (h.count ∙ sym (listed_length (length a.rows) f))
    (λ i below. let inside : i < length a.rows = omega (arith, h.count) in h.rewritten i (omega arith) ∙ sym (listed_at (length a.rows) f i [] inside)))
