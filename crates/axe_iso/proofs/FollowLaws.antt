-- Rows of a basis that are followed as a form's matrices tell, as lists: the first row, one image more, the next row, and the end.
use Rattle.std.specs.Prelude.{Option, Some, None, is_some, MatchOption}
use Rattle.std.proofs.Common.{◌≡◌, ◌≢◌, ℕ, ◌+◌, ◌<◌, ◌≤◌, ◌↔◌, inl, inr, Bool, true, false, IsTrue, List, [], ◌∷◌, ◌++◌, length, get_or, refl, sym, ap, subst, ◌∙◌, arith}
use Rattle.std.specs.List.{All}
use Rattle.std.proofs.lemmas.Bool.{false≢true}
use Rattle.std.proofs.lemmas.List.{get_or_append_left, length_push}
use Rattle.axe_algebra.specs.NumberField.{NumberField}
use Rattle.axe_algebra.specs.Field.{Field}
use Rattle.axe_algebra.specs.Vectors.{HasShape, times}
use Rattle.axe_algebra.specs.Modules.{Module, image}
use Rattle.axe_algebra.specs.Modules
use Rattle.axe_algebra.specs.Bridge.{field_of, vector_of, matrix_of, module_of, element}
use Rattle.axe_algebra.specs.Lists.{entry, listed, AreElements, IsVectorOver, IsMatrixOver, IsSquareOver}
use Rattle.axe_algebra.specs.ListArithmetic.{combination, combination_entry}
use Rattle.axe_algebra.specs.Spans
use Rattle.axe_algebra.specs.SpansOfLists.{IsIndependent}
use Rattle.axe_algebra.proofs.ElementNumbers.{element_zero, same_number, zero-below, entry-below, number_sum-below, number_sum_same}
use Rattle.axe_algebra.proofs.ListEntries.{listed_length, listed_at, row_over, rows_length, same_vector, matrix_shape, vector_of_listed, listed_over, matrix_entry-below}
use Rattle.axe_algebra.proofs.ListModules.{module_shape, generator_over, vector_of_image, image_over}
use Rattle.axe_algebra.proofs.ListProducts.{element_sum_of_products}
use Rattle.axe_algebra.proofs.ListSpans.{appended_before, appended_last}
use Rattle.axe_algebra.proofs.ProductLaws.{times-at, times_length}
use Rattle.axe_echelon.specs.Echelons.{EchelonValue, IsSpanOfRows}
use Rattle.axe_echelon.proofs.InverseLaws.{matrix_over}
use Rattle.axe_field.specs.NumberFields.{number_field, gf}
use Rattle.axe_row.specs.Rows.{RowValue, part_of}
use Rattle.axe_row.proofs.RowLaws.{same_row}
use Rattle.axe_matrix.specs.Matrices.{MatrixValue, IsMatrix, row_of, vector_product}
use Rattle.axe_spin.specs.Modules.{ModuleValue, IsModule, generator_of}
use Rattle.axe_spin.specs.Spun.{image_of_row}
use Rattle.axe_iso.specs.Matches.{HasStandardMatrices}
use Rattle.axe_lane.specs.Entries.{AreZerosFrom}
use Rattle.axe_iso.specs.Following.{IsNextRow, IsKnownImage, IsOtherImage, FollowsImage, AreOfUnitVector, AreFollowedUpTo, AreFormMatrices, IsFollowedBasis, IsBasisWithMatrices}
use Rattle.axe_iso.proofs.Followed.{followed_first, followed_next, followed_known, followed_no_more, followed_row_is_there, no_standard_matrices, followed_all, followed_independent, followed_matrices, followed_basis}
use mathlib.Core.Path.{ap₂, fun_ext}

-- ---- the combination of rows with the first of some coefficients

module _ (K : NumberField) (p : ℕ) (v : List ℕ) (b : List (List ℕ)) (elements : AreElements K v) (over : IsMatrixOver K p b) where
  vector_of_first_combination : vector_of K (combination K p v b) ≡ times (field_of K) (length b) (vector_of K v) (matrix_of K b)
  unfolding combination combination_entry
  vector_of_first_combination =
      vector_of_listed K p (combination_entry K v b (length b)) _
      (times_length (field_of K) (length b) p (vector_of K v) (matrix_of K b) (rows_length K p b over))
      (λ j inside.
      element_sum_of_products K (length b) (λ t. get_or v t 0) (λ t. entry b t j) (λ t below. entry-below K v t elements)
      (λ t below. matrix_entry-below K p b t j over)
      ∙ sym (times-at (field_of K) (length b) (vector_of K v) (matrix_of K b) j))

  first_combination_over : IsVectorOver K p (combination K p v b)
  unfolding combination combination_entry
  first_combination_over =
      listed_over K p (combination_entry K v b (length b)) (λ j inside.
      number_sum-below K (length b) (λ t. K.mul (get_or v t 0) (entry b t j))
      (λ t below. K.mul-below (get_or v t 0) (entry b t j) (entry-below K v t elements) (matrix_entry-below K p b t j over)))

-- ---- an image that was compared

combination_of_first : (K : NumberField) (p : ℕ) (v w : List ℕ) (b : List (List ℕ)) → ((t : ℕ) → t < length b → get_or w t 0 ≡ get_or v t 0) →
    combination K p w b ≡ combination K p v b
unfolding combination combination_entry
combination_of_first K p v w b same =
    ap (listed p) (fun_ext λ j. number_sum_same K (length b) (λ t. K.mul (get_or w t 0) (entry b t j)) (λ t. K.mul (get_or v t 0) (entry b t j))
    (λ t below. ap (λ x. K.mul x (entry b t j)) (same t below)))

pub none_past : (o : Option ℕ) (P : Type 0) (Q : ℕ → Type 0) → false ≡ is_some o → MatchOption o P Q → P
none_past (Some index) P Q e h = absurd (false≢true e)
none_past None P Q e h = h

pub first_length : (coefficients first : RowValue) (rows : List (List ℕ)) (count : ℕ) → count ≡ length rows → first ≡ part_of coefficients 0 count →
    length first.entries ≡ length rows
first_length coefficients first rows count count_is first_is =
    ap (λ (v : RowValue). length v.entries) first_is ∙ listed_length count (λ j. get_or coefficients.entries (0 + j) 0) ∙ count_is

-- the product of the first coefficients and the rows is the combination of the rows with the coefficients
module _ (coefficients first image_row product : RowValue) (basis : MatrixValue) (count : ℕ) (count_is : count ≡ length basis.rows)
    (first_is : first ≡ part_of coefficients 0 count) (product_is : product ≡ vector_product first basis) where
  product_entries : product.entries ≡ combination (number_field basis.order) basis.cols coefficients.entries basis.rows
  product_entries =
      ap (λ (v : RowValue). v.entries) product_is
      ∙ combination_of_first (number_field basis.order) basis.cols coefficients.entries first.entries basis.rows (λ t below.
      ap (λ (v : RowValue). get_or v.entries t 0) first_is
      ∙ listed_at count (λ j. get_or coefficients.entries (0 + j) 0) t 0 (omega (arith, below, count_is))
      ∙ ap (λ n. get_or coefficients.entries n 0) (let same : 0 + t ≡ t = omega arith in same))

  pub compared : image_row.order ≡ basis.order → AreZerosFrom coefficients.entries (length basis.rows) → (same : Bool) → (IsTrue same ↔ (image_row ≡ product)) →
      FollowsImage coefficients.entries image_row.entries basis basis same
  compared field within true tells = inr (record { within = within; combines = ap (λ (v : RowValue). v.entries) (tells.0 refl) ∙ product_entries; kept = refl })
  compared field within false tells = record {
    within = within;
    differs = λ e.
        false≢true (tells.1 (same_row image_row product (field ∙ ap (λ (v : RowValue). v.order) (sym product_is)) (e ∙ sym product_entries)));
  }

module _ (m matrices : ModuleValue) (is_module : IsModule m) (form : AreFormMatrices m matrices) where
  abbrev K : NumberField
  K = number_field m.order

  abbrev F : Field
  F = gf m.order

  abbrev M : Module F
  M = module_of K m.dim m.generators

  abbrev A : Module F
  A = module_of K matrices.dim matrices.generators

  pub own : AreOfUnitVector F A
  own = subst (λ o. AreOfUnitVector (gf o) (module_of (number_field o) matrices.dim matrices.generators)) form.field form.own

  pub squares : All (IsSquareOver K matrices.dim) matrices.generators
  squares = subst (λ o. All (IsSquareOver (number_field o) matrices.dim) matrices.generators) form.field form.well_formed.over.square

  A_is_module : Modules.HasSquareMatrices F A
  A_is_module = module_shape K matrices.dim matrices.generators squares

  over_rows : (v : List ℕ) (basis : MatrixValue) (r i : ℕ) → IsFollowedBasis m matrices v basis r i → IsMatrixOver K m.dim basis.rows
  over_rows v basis r i is =
      subst (λ o. IsMatrixOver (number_field o) m.dim basis.rows) is.field
      (subst (λ n. IsMatrixOver (number_field basis.order) n basis.rows) is.columns (matrix_over basis is.well_formed))

  -- ---- the first row

  pub first_followed : (v : List ℕ) (basis : MatrixValue) → basis ≡ record { order = m.order; cols = m.dim; rows = v ∷ [] } → IsMatrix basis →
      IsFollowedBasis m matrices v basis 0 0
  first_followed v basis is well = record {
    field = ap (λ (x : MatrixValue). x.order) is;
    columns = ap (λ (x : MatrixValue). x.cols) is;
    well_formed = well;
    first = ap (λ (x : MatrixValue). get_or x.rows 0 []) is;
    followed = subst (λ (x : MatrixValue). AreFollowedUpTo F M A (length x.rows) (matrix_of K x.rows) 0 0) (sym is)
        (followed_first F M A (matrix_of K (v ∷ [])) form.well_formed.over.positive);
  }

  -- a row whose images are taken is there
  pub row_is_followed : (v : List ℕ) (basis : MatrixValue) (r i : ℕ) → IsFollowedBasis m matrices v basis r i → r < m.dim → r < length basis.rows
  row_is_followed v basis r i is inside =
      followed_row_is_there F M A own (length basis.rows) (matrix_of K basis.rows) r i is.followed (omega (arith, inside, form.dimension))

  -- ---- one image more

  module _ (v : List ℕ) (basis : MatrixValue) (r i : ℕ) (is : IsFollowedBasis m matrices v basis r i) (inside : r < m.dim)
      (below : i < length m.generators) where
    there : r < length basis.rows
    there = row_is_followed v basis r i is inside

    abbrev told : List ℕ
    told = get_or (get_or matrices.generators i []) r []

    abbrev own_image : List ℕ
    own_image = image_of_row m basis.rows r i

    over : IsMatrixOver K m.dim basis.rows
    over = over_rows v basis r i is

    row_is_over : IsVectorOver K m.dim (get_or basis.rows r [])
    row_is_over = row_over K m.dim basis.rows r over there

    square : IsSquareOver K matrices.dim (get_or matrices.generators i [])
    square = generator_over K matrices.dim matrices.generators i squares (omega (arith, below, form.count))

    told_over : IsVectorOver K matrices.dim told
    told_over = row_over K matrices.dim (get_or matrices.generators i []) r square.matrix (omega (arith, there, is.followed.no_more, square.length_is))

    image_is : vector_of K own_image ≡ image F M (matrix_of K basis.rows r) i
    image_is = vector_of_image K m.dim m.generators (get_or basis.rows r []) i is_module.over.square below row_is_over

    own_image_over : IsVectorOver K m.dim own_image
    own_image_over = image_over K m.dim m.generators (get_or basis.rows r []) i is_module.over.square below row_is_over

    over_field : combination (number_field basis.order) basis.cols told basis.rows ≡ combination K m.dim told basis.rows
    over_field = ap (λ o. combination (number_field o) basis.cols told basis.rows) is.field ∙ ap (λ n. combination K n told basis.rows) is.columns

    combination_is : vector_of K (combination K m.dim told basis.rows) ≡ times F (length basis.rows) (vector_of K told) (matrix_of K basis.rows)
    combination_is = vector_of_first_combination K m.dim told basis.rows told_over.elements over

    zeros : AreZerosFrom told (length basis.rows) → (t : ℕ) → length basis.rows ≤ t → element K (get_or told t 0) ≡ F.zero
    zeros within t from = ap (element K) (within t from) ∙ element_zero K

    next_followed : (new : MatrixValue) → IsMatrix new → IsNextRow told own_image basis new → IsFollowedBasis m matrices v new r (i + 1)
    next_followed new well next =
        subst (λ (x : MatrixValue). IsFollowedBasis m matrices v x r (i + 1)) (sym next.appended) (record {
          field = is.field;
          columns = is.columns;
          well_formed = subst IsMatrix next.appended well;
          first = get_or_append_left basis.rows (own_image ∷ []) [] 0 is.followed.some ∙ is.first;
          followed = subst (λ k. AreFollowedUpTo F M A k (matrix_of K (basis.rows ++ own_image ∷ [])) r (i + 1)) longer
              (followed_next F M A own form.count (length basis.rows) (matrix_of K basis.rows) r i is.followed there below next.index next.past
              (omega (arith, next.within, told_over.length_is)) nonzero (matrix_of K (basis.rows ++ own_image ∷ []))
              (λ t small. appended_before K basis.rows own_image t small) (appended_last K basis.rows own_image ∙ image_is));
        })
      where
        longer : length basis.rows + 1 ≡ length (basis.rows ++ own_image ∷ [])
        longer = omega (arith, length_push basis.rows own_image)

        nonzero : element K (get_or told next.index 0) ≢ F.zero
        nonzero e = next.nonzero (same_number K (get_or told next.index 0) 0 (entry-below K told next.index told_over.elements) (zero-below K) (e ∙ sym (element_zero K)))

    known_followed : (new : MatrixValue) → IsKnownImage told own_image basis new → IsFollowedBasis m matrices v new r (i + 1)
    known_followed new known =
        subst (λ (x : MatrixValue). IsFollowedBasis m matrices v x r (i + 1)) (sym known.kept) (record {
          field = is.field;
          columns = is.columns;
          well_formed = is.well_formed;
          first = is.first;
          followed = followed_known F M A own form.count (length basis.rows) (matrix_of K basis.rows) r i is.followed there below (zeros known.within)
              (sym image_is ∙ ap (vector_of K) (known.combines ∙ over_field) ∙ combination_is);
        })

    not_followed : IsOtherImage told own_image basis → ¬ (HasStandardMatrices m v matrices)
    not_followed other =
        no_standard_matrices F M A (matrix_of K basis.rows) (vector_of K v) (ap (vector_of K) is.first)
        (followed_no_more F M A own form.count (length basis.rows) (matrix_of K basis.rows) r i is.followed there below (zeros other.within) (λ e.
        other.differs (same_vector K m.dim own_image (combination K m.dim told basis.rows) own_image_over
        (first_combination_over K m.dim told basis.rows told_over.elements over) (image_is ∙ e ∙ sym combination_is) ∙ sym over_field)))

    -- the image and its coefficients, as calls give them
    module _ (generator matrix : MatrixValue) (row coefficients image_row : RowValue) (generator_is : generator ≡ generator_of m i)
        (row_is : row ≡ row_of basis r) (image_row_is : image_row ≡ vector_product row generator) (matrix_is : matrix ≡ generator_of matrices i)
        (coefficients_are : coefficients ≡ row_of matrix r) (new : MatrixValue) (follows : Bool)
        (h : FollowsImage coefficients.entries image_row.entries basis new follows) where
      entries_are : image_row.entries ≡ own_image
      entries_are =
          ap (λ (x : RowValue). x.entries) image_row_is
          ∙ ap₂ (λ (x : RowValue) (g : MatrixValue). combination (number_field g.order) g.cols x.entries g.rows) row_is generator_is

      coefficients_told : coefficients.entries ≡ told
      coefficients_told = ap (λ (x : RowValue). x.entries) coefficients_are ∙ ap (λ (g : MatrixValue). get_or g.rows r []) matrix_is

      as_told : (answer : Bool) → follows ≡ answer → FollowsImage told own_image basis new answer
      as_told answer e =
          subst (λ (c : List ℕ). FollowsImage c own_image basis new answer) coefficients_told
          (subst (λ (w : List ℕ). FollowsImage coefficients.entries w basis new answer) entries_are
          (subst (FollowsImage coefficients.entries image_row.entries basis new) e h))

      pub image_followed : follows ≡ true → IsMatrix new → IsFollowedBasis m matrices v new r (i + 1)
      image_followed true_so well = at (as_told true true_so)
        where
          at : FollowsImage told own_image basis new true → IsFollowedBasis m matrices v new r (i + 1)
          at (inl next) = next_followed new well next
          at (inr known) = known_followed new known

      pub image_not_followed : follows ≡ false → ¬ (HasStandardMatrices m v matrices)
      image_not_followed false_so = not_followed (as_told false false_so)

  -- ---- the end

  module _ (v : RowValue) (basis : MatrixValue) (r : ℕ) (all : m.dim ≤ r) (is : IsFollowedBasis m matrices v.entries basis r 0) (span : EchelonValue)
      (is_span : IsSpanOfRows basis span) where
    all_too : matrices.dim ≤ r
    all_too = omega (arith, all, form.dimension)

    count_is : length basis.rows ≡ matrices.dim
    count_is = followed_all F M A own form.count A_is_module (length basis.rows) r (matrix_of K basis.rows) all_too is.followed

    first_is : matrix_of K basis.rows 0 ≡ vector_of K v.entries
    first_is = ap (vector_of K) is.first

    pub basis_not_followed : length span.rows ≢ m.dim → ¬ (HasStandardMatrices m v.entries matrices)
    basis_not_followed fewer has = fewer (ap length (is_span.all independent) ∙ count_is ∙ form.dimension)
      where
        independent : IsIndependent (number_field basis.order) basis.rows
        independent = subst (λ o. IsIndependent (number_field o) basis.rows) (sym is.field)
            (followed_independent F M A own form.count A_is_module (length basis.rows) r (matrix_of K basis.rows) all_too is.followed (vector_of K v.entries) first_is has)

    pub basis_followed : length span.rows ≡ m.dim → IsBasisWithMatrices m v matrices basis
    basis_followed full = record {
      standard = record {
        field = is.field;
        columns = is.columns;
        standard = followed_basis F M A own form.count A_is_module (length basis.rows) r (matrix_of K basis.rows) all_too is.followed form.dimension
            (module_shape K m.dim m.generators is_module.over.square).square shape independent (vector_of K v.entries) first_is;
      };
      matches = followed_matrices F M A own form.count A_is_module (length basis.rows) r (matrix_of K basis.rows) all_too is.followed form.dimension
          (module_shape K m.dim m.generators is_module.over.square).square shape independent (vector_of K v.entries) first_is;
      well_formed = is.well_formed;
    }
      where
        same_rows : span.rows ≡ basis.rows
        same_rows = is_span.as_many (full ∙ sym (count_is ∙ form.dimension))

        rows_independent : IsIndependent K basis.rows
        rows_independent =
            subst (λ (rows : List (List ℕ)). IsIndependent K rows) same_rows
            (subst (λ o. IsIndependent (number_field o) span.rows) (is_span.field ∙ is.field) is_span.well_formed.independent)

        independent : Spans.IsIndependent F matrices.dim (matrix_of K basis.rows)
        independent = subst (λ k. Spans.IsIndependent F k (matrix_of K basis.rows)) count_is rows_independent

        shape : HasShape F matrices.dim matrices.dim (matrix_of K basis.rows)
        shape =
            subst (λ k. HasShape F k matrices.dim (matrix_of K basis.rows)) count_is
            (subst (λ n. HasShape F (length basis.rows) n (matrix_of K basis.rows)) (sym form.dimension)
            (matrix_shape K m.dim basis.rows (over_rows v.entries basis r 0 is)))
