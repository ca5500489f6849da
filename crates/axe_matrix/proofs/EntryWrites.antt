-- Matrices some entries of which are replaced, part by part.
use Rattle.std.proofs.Common.{◌≡◌, ◌≢◌, ◌⊎◌, ℕ, ◌+◌, ◌<◌, ◌≤◌, List, [], length, get_or, set, refl, sym, ap, ◌∙◌, arith, inl, inr, get_or-set_other, get_or-set_same}
use Rattle.std.proofs.lemmas.Bool.{cases_eq}
use Rattle.std.proofs.lemmas.List.{length-set}
use native.Mathlib.Decide.{dec_lt}
use Rattle.axe_algebra.specs.Lists.{entry}
use Rattle.axe_matrix.specs.Matrices.{MatrixValue}
use Rattle.axe_matrix.specs.Transposes.{HasEntries}

-- no row yet
pub HasEntries-no_row : (f : ℕ → ℕ → ℕ) (top left right : ℕ) (m : MatrixValue) → HasEntries f top top left right m m
HasEntries-no_row f top left right m = record {
  order = refl;
  cols = refl;
  count = refl;
  written = λ i j _ _ from before _ _. absurd (omega (arith, from, before));
  kept = λ i j _ _ _. refl;
}

-- no column yet
pub HasEntries-no_column : (f : ℕ → ℕ → ℕ) (top bottom left : ℕ) (m : MatrixValue) → HasEntries f top bottom left left m m
HasEntries-no_column f top bottom left m = record {
  order = refl;
  cols = refl;
  count = refl;
  written = λ i j _ _ _ _ from before. absurd (omega (arith, from, before));
  kept = λ i j _ _ _. refl;
}

-- entries that are there already
pub HasEntries-same : (f : ℕ → ℕ → ℕ) (top bottom left right : ℕ) (m : MatrixValue) →
    ((i j : ℕ) → i < length m.rows → j < m.cols → top ≤ i → i < bottom → left ≤ j → j < right → entry m.rows i j ≡ f i j) →
    HasEntries f top bottom left right m m
HasEntries-same f top bottom left right m is = record {
  order = refl;
  cols = refl;
  count = refl;
  written = is;
  kept = λ i j _ _ _. refl;
}

-- the same entries by another name
pub HasEntries-as : (f g : ℕ → ℕ → ℕ) (top bottom left right : ℕ) (a m : MatrixValue) → HasEntries f top bottom left right a m →
    ((i j : ℕ) → i < length a.rows → j < a.cols → top ≤ i → i < bottom → left ≤ j → j < right → f i j ≡ g i j) →
    HasEntries g top bottom left right a m
HasEntries-as f g top bottom left right a m h is = record {
  order = h.order;
  cols = h.cols;
  count = h.count;
  written = λ i j row column t b l r. h.written i j row column t b l r ∙ is i j row column t b l r;
  kept = h.kept;
}

-- one row more
pub HasEntries-row : (f : ℕ → ℕ → ℕ) (top n left right : ℕ) (a m next : MatrixValue) (row : List ℕ) → HasEntries f top n left right a m →
    top ≤ n → n < length a.rows → next ≡ record m { rows = set m.rows n row } →
    ((j : ℕ) → j < a.cols → left ≤ j → j < right → get_or row j 0 ≡ f n j) →
    ((j : ℕ) → j < a.cols → (left ≤ j → j < right → ⊥) → get_or row j 0 ≡ entry m.rows n j) →
    HasEntries f top (n + 1) left right a next
HasEntries-row f top n left right a m next row h begun below e inside outside = record {
  order = ap (λ (x : MatrixValue). x.order) e ∙ h.order;
  cols = ap (λ (x : MatrixValue). x.cols) e ∙ h.cols;
  count = ap (λ (x : MatrixValue). length x.rows) e ∙ length-set m.rows n row ∙ h.count;
  written = λ i j in_rows in_columns t b l r. elim (cases_eq i n) [
    | inl same ↦ here i j same ∙ inside j in_columns l r ∙ ap (λ k. f k j) (sym same)
    | inr other ↦ there i j other ∙ h.written i j in_rows in_columns t (omega (arith, b, other)) l r
  ];
  kept = λ i j in_rows in_columns out. elim (cases_eq i n) [
    | inl same ↦
        here i j same ∙ outside j in_columns (λ l r. out (omega (arith, same, begun)) (omega (arith, same)) l r)
        ∙ ap (λ k. entry m.rows k j) (sym same)
        ∙ h.kept i j in_rows in_columns (λ t b l r. omega (arith, b, same))
    | inr other ↦ there i j other ∙ h.kept i j in_rows in_columns (λ t b l r. out t (omega (arith, b)) l r)
  ];
}
  where
    here : (i j : ℕ) → i ≡ n → entry next.rows i j ≡ get_or row j 0
    here i j same =
        ap (λ (x : MatrixValue). entry x.rows i j) e ∙ ap (λ k. entry (set m.rows n row) k j) same
        ∙ ap (λ (r : List ℕ). get_or r j 0) (get_or-set_same m.rows n row [] (omega (arith, below, h.count)))

    there : (i j : ℕ) → i ≢ n → entry next.rows i j ≡ entry m.rows i j
    there i j other =
        ap (λ (x : MatrixValue). entry x.rows i j) e ∙ ap (λ (r : List ℕ). get_or r j 0) (get_or-set_other m.rows n i row [] other)

-- more columns
pub HasEntries-columns : (f : ℕ → ℕ → ℕ) (top bottom left middle right : ℕ) (a m next : MatrixValue) → HasEntries f top bottom left middle a m →
    HasEntries f top bottom middle right m next → left ≤ middle → middle ≤ right → HasEntries f top bottom left right a next
HasEntries-columns f top bottom left middle right a m next h g begun more = record {
  order = g.order ∙ h.order;
  cols = g.cols ∙ h.cols;
  count = g.count ∙ h.count;
  written = λ i j row column t b l r. elim (dec_lt j middle) [
    | yes before ↦
        g.kept i j (omega (arith, row, h.count)) (omega (arith, column, h.cols)) (λ _ _ from _. omega (arith, from, before))
        ∙ h.written i j row column t b l before
    | no past ↦ g.written i j (omega (arith, row, h.count)) (omega (arith, column, h.cols)) t b (omega (arith, past)) r
  ];
  kept = λ i j row column out.
      g.kept i j (omega (arith, row, h.count)) (omega (arith, column, h.cols)) (λ t b l r. out t b (omega (arith, l, begun)) r)
      ∙ h.kept i j row column (λ t b l r. out t b l (omega (arith, r, more)));
}

-- more rows
pub HasEntries-rows : (f : ℕ → ℕ → ℕ) (top middle bottom left right : ℕ) (a m next : MatrixValue) → HasEntries f top middle left right a m →
    HasEntries f middle bottom left right m next → top ≤ middle → middle ≤ bottom → HasEntries f top bottom left right a next
HasEntries-rows f top middle bottom left right a m next h g begun more = record {
  order = g.order ∙ h.order;
  cols = g.cols ∙ h.cols;
  count = g.count ∙ h.count;
  written = λ i j row column t b l r. elim (dec_lt i middle) [
    | yes before ↦
        g.kept i j (omega (arith, row, h.count)) (omega (arith, column, h.cols)) (λ from _ _ _. omega (arith, from, before))
        ∙ h.written i j row column t before l r
    | no past ↦ g.written i j (omega (arith, row, h.count)) (omega (arith, column, h.cols)) (omega (arith, past)) b l r
  ];
  kept = λ i j row column out.
      g.kept i j (omega (arith, row, h.count)) (omega (arith, column, h.cols)) (λ t b l r. out (omega (arith, t, begun)) b l r)
      ∙ h.kept i j row column (λ t b l r. out t (omega (arith, b, more)) l r);
}

-- rows beyond the last one don't matter
pub HasEntries-bottom : (f : ℕ → ℕ → ℕ) (top n bottom left right : ℕ) (a m : MatrixValue) → HasEntries f top n left right a m →
    (n ≡ bottom) ⊎ ((length a.rows ≤ n) × (n ≤ bottom)) → HasEntries f top bottom left right a m
HasEntries-bottom f top n bottom left right a m h ended = record {
  order = h.order;
  cols = h.cols;
  count = h.count;
  written = λ i j row column t b l r. h.written i j row column t (elim ended [
    | inl same ↦ omega (arith, b, same)
    | inr all ↦ omega (arith, row, all.0)
  ]) l r;
  kept = λ i j row column out. h.kept i j row column (λ t b l r. out t (elim ended [
    | inl same ↦ omega (arith, b, same)
    | inr all ↦ omega (arith, b, all.1)
  ]) l r);
}

-- columns beyond the last one don't matter
pub HasEntries-right : (f : ℕ → ℕ → ℕ) (top bottom left n : ℕ) (a m : MatrixValue) → HasEntries f top bottom left n a m → a.cols ≤ n →
    HasEntries f top bottom left a.cols a m
HasEntries-right f top bottom left n a m h all = record {
  order = h.order;
  cols = h.cols;
  count = h.count;
  written = λ i j row column t b l r. h.written i j row column t b l (omega (arith, r, all));
  kept = λ i j row column out. h.kept i j row column (λ t b l r. out t b l column);
}

-- nor rows beyond the last one where all are written
pub HasEntries-all_rows : (f : ℕ → ℕ → ℕ) (top n left right : ℕ) (a m : MatrixValue) → HasEntries f top n left right a m → length a.rows ≤ n →
    HasEntries f top (length a.rows) left right a m
HasEntries-all_rows f top n left right a m h all = record {
  order = h.order;
  cols = h.cols;
  count = h.count;
  written = λ i j row column t b l r. h.written i j row column t (omega (arith, b, all)) l r;
  kept = λ i j row column out. h.kept i j row column (λ t b l r. out t row l r);
}
