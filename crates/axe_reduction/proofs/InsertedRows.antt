-- A reduction of rows and one further row, over a field of numbers.
use Rattle.std.proofs.Common.{◌≡◌, ◌≢◌, ℕ, zero, suc, ◌<◌, List, [], ◌∷◌, ◌++◌, length, get_or, refl, sym, ap, subst, ◌∙◌, arith}
use Rattle.std.specs.List.{All}
use Rattle.std.proofs.lemmas.List.{ext_get_or, append-nil}
use Rattle.axe_algebra.specs.Bridge.{field_of, element, vector_of, matrix_of}
use Rattle.axe_algebra.specs.Field.{Field}
use Rattle.axe_algebra.specs.Lists.{listed, IsVectorOver, IsMatrixOver}
use Rattle.axe_algebra.specs.NumberField.{NumberField}
use Rattle.axe_algebra.specs.SpansOfLists.{HaveSameSpan}
use Rattle.axe_algebra.specs.Vectors.{Vector, Matrix, subtract, scale, times}
use Rattle.axe_algebra.proofs.ElementNumbers.{element_zero}
use Rattle.axe_algebra.proofs.FieldLaws.{neg-sum_of_two, zero-add}
use Rattle.axe_algebra.proofs.ListEntries.{listed_at, listed_length, table_over, same_vector, row_over, matrix_entry-below}
use Rattle.axe_algebra.proofs.ListProducts.{product_entry-below}
use Rattle.axe_algebra.proofs.ListVectors.{same_span_refl}
use Rattle.axe_algebra.proofs.ProductLaws.{times_more, times_none}
use Rattle.axe_algebra.proofs.Reducing.{combination_zero_at}
use Rattle.axe_matrix.specs.Products.{rows_with_product}
use Rattle.axe_reduction.specs.Forms.{AreReducedRows, AreReduced, less_rows}
use Rattle.axe_reduction.proofs.ClearLaws.{nothing_added}
use Rattle.axe_reduction.proofs.ClearedLaws.{at_pivots, at_pivots_over, cleared_rows, cleared_length, matrix_of_cleared}
use Rattle.axe_reduction.proofs.JoinedLaws.{less_zero}
use Rattle.axe_reduction.proofs.JoinedRows.{append_stacked, join_are_reduced}
use Rattle.axe_reduction.proofs.RowReduction.{multiples, same_span_of_multiples, multiple_is_reduced}
use mathlib.Core.Path.{fun_ext}

-- ---- one row after another

module _ (F : Field) where
  -- with none of the rows
  pub less_none : (p : ℕ → ℕ) (w : Matrix F) (x : Vector F) → x ≡ less_rows F 0 p w x
  less_none p w x = fun_ext λ j. sym (less_zero F 0 p w x j (ap (λ (v : Vector F). v j) (times_none F (λ t. x (p t)) w)))

  -- with one more: where row t is reduced at its pivot and the rows before it are 0 there, what is left of x has the
  -- entry of x there
  pub less_more : (k t : ℕ) (p : ℕ → ℕ) (w : Matrix F) (x y : Vector F) → AreReducedRows F k w p → t < k → y ≡ less_rows F t p w x →
      subtract F y (scale F (y (p t)) (w t)) ≡ less_rows F (suc t) p w x
  less_more k t p w x y reduced below is = fun_ext λ j.
      ap (λ c. F.add (y j) (F.neg (F.mul c (w t j)))) same
      ∙ ap (λ (v : Vector F). F.add (v j) (F.neg (F.mul (x (p t)) (w t j)))) is
      ∙ F.add_assoc (x j) (F.neg (part j)) (F.neg (F.mul (x (p t)) (w t j)))
      ∙ ap (F.add (x j)) (sym (neg-sum_of_two F (part j) (F.mul (x (p t)) (w t j)))
      ∙ ap (λ (v : Vector F). F.neg (v j)) (sym (times_more F t (λ t. x (p t)) w)))
    where
      part : Vector F
      part = times F t (λ t. x (p t)) w

      same : y (p t) ≡ x (p t)
      same = ap (λ (v : Vector F). v (p t)) is
          ∙ less_zero F t p w x (p t) (combination_zero_at F t w (λ t. x (p t)) (p t) (λ s before.
          let inside : s < k = omega arith in let other : s ≢ t = omega arith in
          reduced.zero s t inside below other))

  -- less the multiples of one row
  pub less_one : (p : ℕ → ℕ) (w : Matrix F) (x : Vector F) → subtract F x (scale F (x (p 0)) (w 0)) ≡ less_rows F 1 p w x
  less_one p w x = fun_ext λ j.
      ap (λ y. F.add (x j) (F.neg y))
      (sym (ap (λ (v : Vector F). v j) (times_more F 0 (λ t. x (p t)) w)
      ∙ ap (λ (v : Vector F). F.add (v j) (F.mul (x (p 0)) (w 0 j))) (times_none F (λ t. x (p t)) w)
      ∙ zero-add F (F.mul (x (p 0)) (w 0 j))))

module _ (K : NumberField) where
  abbrev F : Field
  F = field_of K

  -- ---- cleared rows

  cleared_over : (columns c : ℕ) (pivots : List ℕ) (reduced rows : List (List ℕ)) → c < K.order → length pivots ≡ length reduced →
      IsMatrixOver K columns reduced → IsMatrixOver K columns rows → IsMatrixOver K columns (cleared_rows K columns c pivots reduced rows)
  unfolding rows_with_product
  cleared_over columns c pivots reduced rows small count over_reduced over_rows =
      table_over K (length rows) columns _ (λ i j below inside.
      K.add-below _ _ (matrix_entry-below K columns rows i j over_rows)
      (K.mul-below c _ small
      (product_entry-below K (length reduced) columns (at_pivots K pivots rows) reduced i j
      (subst (λ n. IsMatrixOver K n (at_pivots K pivots rows)) count (at_pivots_over K columns pivots rows over_rows)) over_reduced)))

  -- lists that have their vectors are them
  pub cleared_are : (columns c : ℕ) (pivots : List ℕ) (reduced rows found : List (List ℕ)) → c < K.order → element K c ≡ F.neg F.one →
      length pivots ≡ length reduced → IsMatrixOver K columns reduced → IsMatrixOver K columns rows → IsMatrixOver K columns found →
      length found ≡ length rows →
      ((i : ℕ) → i < length rows → matrix_of K found i
      ≡ less_rows F (length reduced) (λ t. get_or pivots t 0) (matrix_of K reduced) (matrix_of K rows i)) →
      cleared_rows K columns c pivots reduced rows ≡ found
  cleared_are columns c pivots reduced rows found small minus_one count over_reduced over_rows over_found same_count same =
      let cleared : List (List ℕ) = cleared_rows K columns c pivots reduced rows in
      let as_many : length cleared ≡ length rows = cleared_length K columns c pivots reduced rows in
      let over : IsMatrixOver K columns cleared = cleared_over columns c pivots reduced rows small count over_reduced over_rows in
      ext_get_or [] cleared found (as_many ∙ sym same_count) (λ i below.
      same_vector K columns (get_or cleared i []) (get_or found i []) (row_over K columns cleared i over below)
      (row_over K columns found i over_found (omega (arith, as_many)))
      (ap (λ (m : Matrix F). m i) (matrix_of_cleared K columns c pivots reduced rows small minus_one count over_reduced over_rows)
      ∙ sym (same i (omega (arith, as_many)))))

  pub single_over : (columns : ℕ) (x : List ℕ) → IsVectorOver K columns x → IsMatrixOver K columns (x ∷ [])
  single_over columns x over zero d below = over
  single_over columns x over (suc i) d below = absurd (let wrong : ⊥ = omega (arith, below) in wrong)

  -- a single row
  at_single : (P : ℕ → Type 0) (x : List ℕ) → P 0 → (i : ℕ) → i < length (x ∷ []) → P i
  at_single P x h zero below = h
  at_single P x h (suc i) below = absurd (let wrong : ⊥ = omega (arith, below) in wrong)

  -- ---- reductions of a single row

  -- of no rows
  pub no_rows_reduced : (left columns : ℕ) → AreReduced K left columns [] [] [] []
  no_rows_reduced left columns = record {
    over = λ i d below. absurd (let wrong : ⊥ = omega (arith, below) in wrong);
    count = refl;
    pivot_count = refl;
    pivots_left = λ i d below. absurd (let wrong : ⊥ = omega (arith, below) in wrong);
    are_reduced = record {
      one = λ t below. absurd (let wrong : ⊥ = omega (arith, below) in wrong);
      before = λ t i below first. absurd (let wrong : ⊥ = omega (arith, below) in wrong);
      zero = λ s t s-below t-below other. absurd (let wrong : ⊥ = omega (arith, s-below) in wrong);
    };
    rest_zero = λ i j below. absurd (let wrong : ⊥ = omega (arith, below) in wrong);
    same = same_span_refl K [];
  }

  -- of a row that is 0 left of the bar
  rest_of_one : (left columns : ℕ) (y : List ℕ) → ((j : ℕ) → j < left → get_or y j 0 ≡ 0) → AreReduced K left columns (y ∷ []) [] [] (y ∷ [])
  rest_of_one left columns y zeros = record {
    over = λ i d below. absurd (let wrong : ⊥ = omega (arith, below) in wrong);
    count = refl;
    pivot_count = refl;
    pivots_left = λ i d below. absurd (let wrong : ⊥ = omega (arith, below) in wrong);
    are_reduced = record {
      one = λ t below. absurd (let wrong : ⊥ = omega (arith, below) in wrong);
      before = λ t i below first. absurd (let wrong : ⊥ = omega (arith, below) in wrong);
      zero = λ s t s-below t-below other. absurd (let wrong : ⊥ = omega (arith, s-below) in wrong);
    };
    rest_zero = λ i j below. at_single (λ i. j < left → matrix_of K (y ∷ []) i j ≡ F.zero) y
        (λ inside. ap (element K) (zeros j inside) ∙ element_zero K) i below;
    same = same_span_refl K (y ∷ []);
  }

  -- of a row whose first entry other than 0 is at q, left of the bar
  pub reduced_one : (left columns q s : ℕ) (y w : List ℕ) → left < columns → IsVectorOver K columns y → IsVectorOver K columns w → q < left →
      get_or y q 0 < K.order → s < K.order → K.mul (get_or y q 0) s ≡ 1 → ((j : ℕ) → j < q → get_or y j 0 ≡ 0) →
      ((j : ℕ) → j < columns → get_or w j 0 ≡ K.mul s (get_or y j 0)) → AreReduced K left columns (y ∷ []) (q ∷ []) (w ∷ []) []
  reduced_one left columns q s y w wide over_y over_w inside small s-small inverse before entries = record {
    over = single_over columns w over_w;
    count = refl;
    pivot_count = refl;
    pivots_left = at_left;
    are_reduced = subst (λ rows. AreReducedRows F 1 (matrix_of K rows) (λ t. get_or (q ∷ []) t 0)) is
        (multiple_is_reduced K columns (y ∷ []) s q (single_over columns y over_y) s-small refl (omega arith) inverse before);
    rest_zero = λ i j below ahead. absurd (let wrong : ⊥ = omega (arith, below) in wrong);
    same = subst (λ rows. HaveSameSpan K (y ∷ []) rows) is
        (same_span_of_multiples K columns (y ∷ []) s (get_or y q 0) (single_over columns y over_y) s-small small inverse);
  }
    where
      at_left : All (λ pivot. pivot < left) (q ∷ [])
      at_left zero d below = inside
      at_left (suc i) d below = absurd (let wrong : ⊥ = omega (arith, below) in wrong)

      is : multiples K columns (y ∷ []) s ≡ w ∷ []
      is = ap (λ (row : List ℕ). row ∷ []) (ext_get_or 0 (listed columns (λ j. K.mul s (get_or y j 0))) w
          (listed_length columns (λ j. K.mul s (get_or y j 0)) ∙ sym over_w.length_is) (λ j below.
          let column : j < columns = omega (arith, listed_length columns (λ j. K.mul s (get_or y j 0))) in
          listed_at columns (λ j. K.mul s (get_or y j 0)) j 0 column ∙ sym (entries j column)))

  -- ---- one row more

  -- a row that, cleared, is 0 left of the bar goes to the rest
  pub more_rest : (left columns c : ℕ) (u : List (List ℕ)) (x y : List ℕ) (p : List ℕ) (v z : List (List ℕ)) → c < K.order →
      element K c ≡ F.neg F.one → AreReduced K left columns u p v z → IsVectorOver K columns x → IsVectorOver K columns y →
      vector_of K y ≡ less_rows F (length v) (λ t. get_or p t 0) (matrix_of K v) (vector_of K x) →
      ((j : ℕ) → j < left → get_or y j 0 ≡ 0) → AreReduced K left columns (u ++ x ∷ []) p v (z ++ y ∷ [])
  more_rest left columns c u x y p v z small minus_one h over_x over_y is zeros =
      subst (λ q. AreReduced K left columns (u ++ x ∷ []) q v (z ++ y ∷ [])) (append-nil p)
      (subst (λ rows. AreReduced K left columns (u ++ x ∷ []) (p ++ []) rows (z ++ y ∷ [])) unchanged
      (join_are_reduced K left columns c (u ++ x ∷ []) u (x ∷ []) p [] v z [] (y ∷ []) small minus_one (single_over columns x over_x)
      (append_stacked K u (x ∷ [])) h
      (subst (λ rows. AreReduced K left columns rows [] [] (y ∷ [])) (sym cleared) (rest_of_one left columns y zeros))
      (subst (IsMatrixOver K columns) (sym unchanged) h.over)))
    where
      cleared : cleared_rows K columns c p v (x ∷ []) ≡ y ∷ []
      cleared = cleared_are columns c p v (x ∷ []) (y ∷ []) small minus_one h.pivot_count h.over (single_over columns x over_x)
          (single_over columns y over_y) refl
          (at_single (λ i. matrix_of K (y ∷ []) i ≡ less_rows F (length v) (λ t. get_or p t 0) (matrix_of K v) (matrix_of K (x ∷ []) i)) x is)

      unchanged : cleared_rows K columns c [] [] v ++ [] ≡ v
      unchanged = append-nil (cleared_rows K columns c [] [] v) ∙ nothing_added K columns v c (at_pivots K [] v) [] h.over small refl

  -- a row that, cleared, has a pivot q: made 1 there it is reduced, and the reduced rows before it are cleared at q
  pub more_reduced : (left columns c q : ℕ) (u : List (List ℕ)) (x y w : List ℕ) (p : List ℕ) (v z v' : List (List ℕ)) → c < K.order →
      element K c ≡ F.neg F.one → AreReduced K left columns u p v z → IsVectorOver K columns x → IsVectorOver K columns y →
      vector_of K y ≡ less_rows F (length v) (λ t. get_or p t 0) (matrix_of K v) (vector_of K x) →
      AreReduced K left columns (y ∷ []) (q ∷ []) (w ∷ []) [] → IsMatrixOver K columns (v' ++ w ∷ []) → IsMatrixOver K columns v' →
      length v' ≡ length v →
      ((i : ℕ) → i < length v → matrix_of K v' i ≡ subtract F (matrix_of K v i) (scale F (matrix_of K v i q) (vector_of K w))) →
      AreReduced K left columns (u ++ x ∷ []) (p ++ q ∷ []) (v' ++ w ∷ []) z
  more_reduced left columns c q u x y w p v z v' small minus_one h over_x over_y is single over over_v' count same =
      subst (λ rows. AreReduced K left columns (u ++ x ∷ []) (p ++ q ∷ []) (v' ++ w ∷ []) rows) (append-nil z)
      (subst (λ rows. AreReduced K left columns (u ++ x ∷ []) (p ++ q ∷ []) (rows ++ w ∷ []) (z ++ [])) before
      (join_are_reduced K left columns c (u ++ x ∷ []) u (x ∷ []) p (q ∷ []) v z (w ∷ []) [] small minus_one (single_over columns x over_x)
      (append_stacked K u (x ∷ [])) h
      (subst (λ rows. AreReduced K left columns rows (q ∷ []) (w ∷ []) []) (sym cleared) single)
      (subst (λ rows. IsMatrixOver K columns (rows ++ w ∷ [])) (sym before) over)))
    where
      cleared : cleared_rows K columns c p v (x ∷ []) ≡ y ∷ []
      cleared = cleared_are columns c p v (x ∷ []) (y ∷ []) small minus_one h.pivot_count h.over (single_over columns x over_x)
          (single_over columns y over_y) refl
          (at_single (λ i. matrix_of K (y ∷ []) i ≡ less_rows F (length v) (λ t. get_or p t 0) (matrix_of K v) (matrix_of K (x ∷ []) i)) x is)

      before : cleared_rows K columns c (q ∷ []) (w ∷ []) v ≡ v'
      before = cleared_are columns c (q ∷ []) (w ∷ []) v v' small minus_one refl single.over h.over over_v' count
          (λ i below. same i below ∙ less_one F (λ t. get_or (q ∷ []) t 0) (matrix_of K (w ∷ [])) (matrix_of K v i))
