-- Rows that are being spun: one image more, the next row, and the end.
use Rattle.std.specs.Prelude.{◌≡◌, ℕ, suc, ◌+◌, ◌<◌, ◌≤◌, ◌⊎◌, List, [], ◌∷◌, ◌++◌, length, take, get_or, Bool, true, false, cond, eqb, if◌then◌else◌}
use Rattle.std.proofs.Common.{add-one}
use Rattle.std.proofs.lemmas.Bool.{eq-eqb, ne_eqb}
use Rattle.std.proofs.lemmas.List.{get_or_append_left, get_or_push, length_push, take-append-le, take_all}
use Rattle.std.proofs.lemmas.List.Elements.{All-push}
use Rattle.axe_algebra.specs.Lists.{IsVectorOver, IsMatrixOver}
use Rattle.axe_algebra.specs.ListArithmetic.{combination}
use Rattle.axe_algebra.specs.NumberField.{NumberField}
use Rattle.axe_algebra.specs.Bridge.{field_of, matrix_of}
use Rattle.axe_algebra.specs.SpansOfLists.{IsIndependent, IsSpanned, HaveSameSpan}
use Rattle.axe_algebra.specs.Standard.{Precedes}
use Rattle.axe_algebra.proofs.ListEntries.{row_over}
use Rattle.axe_algebra.proofs.ListProducts.{combination_over}
use Rattle.axe_algebra.proofs.ListSpans.{appended_spans, appended_row_spanned, appended_independent, independent_rows_are_few, no_rows_independent}
use Rattle.axe_algebra.proofs.ListVectors.{spanned_within, same_span_refl, same_span_sym, same_span_trans, same_span_by_rows}
use Rattle.axe_algebra.proofs.Exchange.{exchange}
use Rattle.axe_algebra.proofs.PairOrder.{not_both_precede, never_precedes_itself, nothing_precedes_start, precedes_next, precedes_later, precedes_or_is, precedes_in_row, precedes_before_row, preceding_or_past, row_of_preceding, precedes_at, not_preceding_at}
use Rattle.axe_field.specs.Order.{Order}
use Rattle.axe_field.specs.NumberFields.{number_field}
use Rattle.axe_matrix.specs.Matrices.{MatrixValue, IsMatrix}
use Rattle.axe_matrix.specs.Limits.{most_rows}
use Rattle.axe_echelon.specs.Echelons.{EchelonValue, IsEchelon}
use Rattle.axe_echelon.specs.Subspaces.{SpansOneMore}
use Rattle.axe_echelon.proofs.EliminationLaws.{room_of_rank, full_echelon_spans}
use Rattle.axe_echelon.proofs.FormLaws.{below_or_at}
use Rattle.axe_echelon.proofs.InverseLaws.{matrix_over, spanned_of_not_new}
use Rattle.axe_spin.specs.Modules.{ModuleValue, IsModule}
use Rattle.axe_spin.specs.Spun.{IsSpanOf, with_row, IsOffered, image_of_row, IsReached, AreSpinning, AreSpun, IsSpunMatrix, IsSpinningUpTo, SpinsOn}
use mathlib.Core.Logic.{inl, inr}
use mathlib.Core.Path.{refl, sym, ◌∙◌, ap, ap₂, subst}
use native.Mathlib.Omega.{arith}
use native.Mathlib.Decide.{ℕ_discrete}

-- a function changed at one place
with_value : (ℕ → ℕ) → ℕ → ℕ → ℕ → ℕ
with_value f n x t = cond (eqb t n) x (f t)

with_value_at : (f : ℕ → ℕ) (n x t : ℕ) → t ≡ n → with_value f n x t ≡ x
unfolding with_value
with_value_at f n x t same = ap (λ b. cond b x (f t)) (eq-eqb t n same)

with_value_before : (f : ℕ → ℕ) (n x t : ℕ) → t < n → with_value f n x t ≡ f t
unfolding with_value
with_value_before f n x t below = ap (λ b. cond b x (f t)) (ne_eqb t n (λ e. omega arith))

module _ (m : ModuleValue) where
  -- the rows are as many more, and the images of the old ones stay
  pub image_of_old : (rows : List (List ℕ)) (row : List ℕ) (r i : ℕ) → r < length rows → image_of_row m (rows ++ row ∷ []) r i ≡ image_of_row m rows r i
  image_of_old rows row r i below =
      ap (λ (x : List ℕ). combination (number_field m.order) m.dim x (get_or m.generators i [])) (get_or_append_left rows (row ∷ []) [] r below)

  -- an image is a vector over the field
  pub image_over : (rows : List (List ℕ)) (r i : ℕ) → IsModule m → IsMatrixOver (number_field m.order) m.dim rows → r < length rows → i < length m.generators →
      IsVectorOver (number_field m.order) m.dim (image_of_row m rows r i)
  image_over rows r i h over below inside =
      let square = h.over.square i [] inside in
      combination_over (number_field m.order) m.dim (get_or rows r []) (get_or m.generators i [])
      (subst (λ n. IsVectorOver (number_field m.order) n (get_or rows r [])) (sym square.length_is) (row_over (number_field m.order) m.dim rows r over below))
      square.matrix

  -- an image that is reached stays so with one more row
  reached_more : (start : ℕ) (rows : List (List ℕ)) (row : List ℕ) (sources numbers : ℕ → ℕ) (source number r i : ℕ) → r < length rows →
      IsReached m start rows sources numbers r i →
      IsReached m start (rows ++ row ∷ []) (with_value sources (length rows) source) (with_value numbers (length rows) number) r i
  reached_more start rows row sources numbers source number r i below h = record {
    size = h.size;
    within = omega (arith, h.within, length_push rows row);
    spanned = subst (λ (x : List (List ℕ)). IsSpanned (number_field m.order) x (image_of_row m (rows ++ row ∷ []) r i))
        (sym (take-append-le h.size rows (row ∷ []) h.within))
        (subst (IsSpanned (number_field m.order) (take h.size rows)) (sym (image_of_old rows row r i below)) h.spanned);
    before = λ t from inside. not_preceding_at r i _ _ (sources t) (numbers t)
        (with_value_before sources (length rows) source t (omega (arith, inside, h.within)))
        (with_value_before numbers (length rows) number t (omega (arith, inside, h.within))) (h.before t from inside);
  }

  -- an image of the whole span is reached where all rows have pairs before it
  reached_by_all : (start : ℕ) (rows : List (List ℕ)) (sources numbers : ℕ → ℕ) (source number : ℕ) →
      IsSpanned (number_field m.order) rows (image_of_row m rows source number) →
      ((t : ℕ) → start ≤ t → t < length rows → Precedes (sources t) (numbers t) source number) →
      IsReached m start rows sources numbers source number
  reached_by_all start rows sources numbers source number spanned before = record {
    size = length rows;
    within = omega arith;
    spanned = subst (λ (x : List (List ℕ)). IsSpanned (number_field m.order) x (image_of_row m rows source number))
        (sym (take_all (length rows) rows (omega arith))) spanned;
    before = λ t from inside. not_both_precede (sources t) (numbers t) source number (before t from inside);
  }

  -- an image that was appended is reached
  reached_by_new : (start : ℕ) (rows : List (List ℕ)) (sources numbers : ℕ → ℕ) (source number : ℕ) → source < length rows →
      ((t : ℕ) → start ≤ t → t < length rows → Precedes (sources t) (numbers t) source number) →
      IsReached m start (rows ++ image_of_row m rows source number ∷ []) (with_value sources (length rows) source)
      (with_value numbers (length rows) number) source number
  reached_by_new start rows sources numbers source number below before = record {
    size = length rows + 1;
    within = omega (arith, length_push rows row);
    spanned = subst (λ (x : List (List ℕ)). IsSpanned (number_field m.order) x (image_of_row m (rows ++ row ∷ []) source number))
        (sym (take_all (length rows + 1) (rows ++ row ∷ []) (omega (arith, length_push rows row))))
        (subst (IsSpanned (number_field m.order) (rows ++ row ∷ [])) (sym (image_of_old rows row source number below))
        (appended_row_spanned (number_field m.order) rows row));
    before = λ t from inside. at t from inside (ℕ_discrete t (length rows));
  }
    where
      row : List ℕ
      row = image_of_row m rows source number

      at : (t : ℕ) → start ≤ t → t < length rows + 1 → Dec (t ≡ length rows) →
          ¬ (Precedes source number (with_value sources (length rows) source t) (with_value numbers (length rows) number t))
      at t from inside (yes same) = not_preceding_at source number _ _ source number
          (with_value_at sources (length rows) source t same) (with_value_at numbers (length rows) number t same)
          (never_precedes_itself source number)
      at t from inside (no other) = not_preceding_at source number _ _ (sources t) (numbers t)
          (with_value_before sources (length rows) source t (omega (arith, other, inside)))
          (with_value_before numbers (length rows) number t (omega (arith, other, inside)))
          (not_both_precede (sources t) (numbers t) source number (before t from (omega (arith, other, inside))))

  -- rows that are being spun, with the image of one of them appended
  spinning_more : (first rows : List (List ℕ)) (sources numbers : ℕ → ℕ) (source number : ℕ) → IsModule m → AreSpinning m first rows sources numbers →
      source < length rows → number < length m.generators →
      ((t : ℕ) → length first ≤ t → t < length rows → Precedes (sources t) (numbers t) source number) →
      ¬ (IsSpanned (number_field m.order) rows (image_of_row m rows source number)) →
      AreSpinning m first (rows ++ image_of_row m rows source number ∷ []) (with_value sources (length rows) source) (with_value numbers (length rows) number)
  spinning_more first rows sources numbers source number module_is h below inside before outside = record {
    over = All-push (IsVectorOver (number_field m.order) m.dim) rows row h.over over_row;
    independent = appended_independent (number_field m.order) m.dim rows row h.over over_row.length_is h.independent outside;
    grown = omega (arith, length_push rows row, h.grown);
    begins = λ t small. get_or_append_left rows (row ∷ []) [] t (omega (arith, small, h.grown)) ∙ h.begins t small;
    earlier = λ t from small. earlier t from (omega (arith, small, length_push rows row)) (ℕ_discrete t (length rows));
    number-below = λ t from small. number-below t from (omega (arith, small, length_push rows row)) (ℕ_discrete t (length rows));
    ascending = λ s t from less small. ascending s t from less (omega (arith, small, length_push rows row)) (ℕ_discrete t (length rows));
    equals = λ t from small. equals t from (omega (arith, small, length_push rows row)) (ℕ_discrete t (length rows));
  }
    where
      row : List ℕ
      row = image_of_row m rows source number

      over_row : IsVectorOver (number_field m.order) m.dim row
      over_row = image_over rows source number module_is h.over below inside

      new_sources : ℕ → ℕ
      new_sources = with_value sources (length rows) source

      new_numbers : ℕ → ℕ
      new_numbers = with_value numbers (length rows) number

      source_old : (t : ℕ) → t < length rows → new_sources t ≡ sources t
      source_old t small = with_value_before sources (length rows) source t small

      number_old : (t : ℕ) → t < length rows → new_numbers t ≡ numbers t
      number_old t small = with_value_before numbers (length rows) number t small

      source_new : (t : ℕ) → t ≡ length rows → new_sources t ≡ source
      source_new t same = with_value_at sources (length rows) source t same

      number_new : (t : ℕ) → t ≡ length rows → new_numbers t ≡ number
      number_new t same = with_value_at numbers (length rows) number t same

      earlier : (t : ℕ) → length first ≤ t → t < length rows + 1 → Dec (t ≡ length rows) → new_sources t < t
      earlier t from small (yes same) = omega (arith, source_new t same, below, same)
      earlier t from small (no other) =
          let less : t < length rows = omega (arith, small, other) in
          omega (arith, source_old t less, h.earlier t from less)

      number-below : (t : ℕ) → length first ≤ t → t < length rows + 1 → Dec (t ≡ length rows) → new_numbers t < length m.generators
      number-below t from small (yes same) = omega (arith, number_new t same, inside)
      number-below t from small (no other) =
          let less : t < length rows = omega (arith, small, other) in
          omega (arith, number_old t less, h.number-below t from less)

      ascending : (s t : ℕ) → length first ≤ s → s < t → t < length rows + 1 → Dec (t ≡ length rows) →
          Precedes (new_sources s) (new_numbers s) (new_sources t) (new_numbers t)
      ascending s t from less small (yes same) =
          let old : s < length rows = omega (arith, less, same) in
          precedes_at _ _ _ _ (sources s) (numbers s) source number (source_old s old) (number_old s old) (source_new t same) (number_new t same)
          (before s from old)
      ascending s t from less small (no other) =
          let old : t < length rows = omega (arith, small, other) in
          let older : s < length rows = omega (arith, less, old) in
          precedes_at _ _ _ _ (sources s) (numbers s) (sources t) (numbers t) (source_old s older) (number_old s older) (source_old t old) (number_old t old)
          (h.ascending s t from less old)

      image_at : (r i r' i' : ℕ) → r ≡ r' → i ≡ i' → r' < length rows → image_of_row m (rows ++ row ∷ []) r i ≡ image_of_row m rows r' i'
      image_at r i r' i' p q small = ap₂ (image_of_row m (rows ++ row ∷ [])) p q ∙ image_of_old rows row r' i' small

      equals : (t : ℕ) → length first ≤ t → t < length rows + 1 → Dec (t ≡ length rows) →
          get_or (rows ++ row ∷ []) t [] ≡ image_of_row m (rows ++ row ∷ []) (new_sources t) (new_numbers t)
      equals t from small (yes same) =
          get_or_push rows row [] t (sym same)
          ∙ sym (image_at (new_sources t) (new_numbers t) source number (source_new t same) (number_new t same) below)
      equals t from small (no other) =
          let less : t < length rows = omega (arith, small, other) in
          get_or_append_left rows (row ∷ []) [] t less ∙ h.equals t from less
          ∙ sym (image_at (new_sources t) (new_numbers t) (sources t) (numbers t) (source_old t less) (number_old t less)
          (omega (arith, h.earlier t from less, less)))

  -- one pair more: its image is in the span, or appended
  taken_spanned : (first rows : List (List ℕ)) (source number : ℕ) → IsSpanned (number_field m.order) rows (image_of_row m rows source number) →
      IsSpinningUpTo m first rows source number → IsSpinningUpTo m first rows source (suc number)
  taken_spanned first rows source number spanned h = record {
    sources = h.sources;
    numbers = h.numbers;
    spinning = h.spinning;
    before = λ t from small. precedes_later _ _ source number (h.before t from small);
    reached = λ r i below inside earlier. at r i below inside (precedes_or_is r i source number earlier);
  }
    where
      at : (r i : ℕ) → r < length rows → i < length m.generators → Precedes r i source number ⊎ ((r ≡ source) × (i ≡ number)) →
          IsReached m (length first) rows h.sources h.numbers r i
      at r i below inside (inl e) = h.reached r i below inside e
      at r i below inside (inr e) =
          subst (λ x. IsReached m (length first) rows h.sources h.numbers x i) (sym e.0)
          (subst (λ x. IsReached m (length first) rows h.sources h.numbers source x) (sym e.1)
          (reached_by_all (length first) rows h.sources h.numbers source number spanned h.before))

  taken_new : (first rows : List (List ℕ)) (source number : ℕ) → IsModule m → source < length rows → number < length m.generators →
      ¬ (IsSpanned (number_field m.order) rows (image_of_row m rows source number)) →
      IsSpinningUpTo m first rows source number → IsSpinningUpTo m first (rows ++ image_of_row m rows source number ∷ []) source (suc number)
  taken_new first rows source number module_is below inside outside h = record {
    sources = new_sources;
    numbers = new_numbers;
    spinning = spinning_more first rows h.sources h.numbers source number module_is h.spinning below inside h.before outside;
    before = λ t from small. before t from (omega (arith, small, length_push rows (image_of_row m rows source number))) (ℕ_discrete t (length rows));
    reached = λ r i small within earlier. reached r i within (precedes_or_is r i source number earlier);
  }
    where
      new_sources : ℕ → ℕ
      new_sources = with_value h.sources (length rows) source

      new_numbers : ℕ → ℕ
      new_numbers = with_value h.numbers (length rows) number

      before : (t : ℕ) → length first ≤ t → t < length rows + 1 → Dec (t ≡ length rows) → Precedes (new_sources t) (new_numbers t) source (suc number)
      before t from small (yes same) =
          precedes_at _ _ source (suc number) source number source (suc number) (with_value_at h.sources (length rows) source t same)
          (with_value_at h.numbers (length rows) number t same) refl refl (precedes_next source number)
      before t from small (no other) =
          let less : t < length rows = omega (arith, small, other) in
          precedes_at _ _ source (suc number) (h.sources t) (h.numbers t) source (suc number) (with_value_before h.sources (length rows) source t less)
          (with_value_before h.numbers (length rows) number t less) refl refl (precedes_later _ _ source number (h.before t from less))

      reached : (r i : ℕ) → i < length m.generators → Precedes r i source number ⊎ ((r ≡ source) × (i ≡ number)) →
          IsReached m (length first) (rows ++ image_of_row m rows source number ∷ []) new_sources new_numbers r i
      reached r i within (inl e) =
          let small : r < length rows = row_of_preceding r i source number (length rows) e below in
          reached_more (length first) rows (image_of_row m rows source number) h.sources h.numbers source number r i small (h.reached r i small within e)
      reached r i within (inr e) =
          subst (λ x. IsReached m (length first) (rows ++ image_of_row m rows source number ∷ []) new_sources new_numbers x i) (sym e.0)
          (subst (λ x. IsReached m (length first) (rows ++ image_of_row m rows source number ∷ []) new_sources new_numbers source x) (sym e.1)
          (reached_by_new (length first) rows h.sources h.numbers source number below h.before))

  -- from the last generator of a row to the next row
  taken_row : (first rows : List (List ℕ)) (source count : ℕ) → length m.generators ≤ count →
      IsSpinningUpTo m first rows source count → IsSpinningUpTo m first rows (source + 1) 0
  taken_row first rows source count all h = record {
    sources = h.sources;
    numbers = h.numbers;
    spinning = h.spinning;
    before = λ t from small. precedes_in_row _ _ source count (h.before t from small);
    reached = λ r i below inside earlier. h.reached r i below inside (precedes_before_row r i source count earlier (omega (arith, inside, all)));
  }

  -- before the first pair, and after the last
  taken_none : (first : List (List ℕ)) → IsMatrixOver (number_field m.order) m.dim first → IsIndependent (number_field m.order) first →
      IsSpinningUpTo m first first 0 0
  taken_none first over independent = record {
    sources = λ t. 0;
    numbers = λ t. 0;
    spinning = record {
      over = over;
      independent = independent;
      grown = omega arith;
      begins = λ t small. refl;
      earlier = λ t from small. absurd (omega (arith, from, small));
      number-below = λ t from small. absurd (omega (arith, from, small));
      ascending = λ s t from less small. absurd (omega (arith, from, less, small));
      equals = λ t from small. absurd (omega (arith, from, small));
    };
    before = λ t from small. absurd (omega (arith, from, small));
    reached = λ r i below inside earlier. absurd (nothing_precedes_start r i earlier);
  }

  taken_all : (first rows : List (List ℕ)) (source : ℕ) → length rows ≤ source → IsSpinningUpTo m first rows source 0 → AreSpun m first rows
  taken_all first rows source all h = record {
    sources = h.sources;
    numbers = h.numbers;
    spinning = h.spinning;
    reached = λ r i below inside. h.reached r i below inside (inl (omega (arith, below, all)));
  }

  -- where the rows span all of their images, none is new in the rest of a row
  taken_rest : (first rows : List (List ℕ)) (source number : ℕ) →
      ((r i : ℕ) → r < length rows → i < length m.generators → IsSpanned (number_field m.order) rows (image_of_row m rows r i)) →
      IsSpinningUpTo m first rows source number → IsSpinningUpTo m first rows (source + 1) 0
  taken_rest first rows source number spanned h = record {
    sources = h.sources;
    numbers = h.numbers;
    spinning = h.spinning;
    before = λ t from small. precedes_in_row _ _ source number (h.before t from small);
    reached = λ r i below inside earlier. at r i below inside (preceding_or_past r i source number);
  }
    where
      at : (r i : ℕ) → r < length rows → i < length m.generators →
          Precedes r i source number ⊎ ((a b : ℕ) → Precedes a b source number → Precedes a b r i) →
          IsReached m (length first) rows h.sources h.numbers r i
      at r i below inside (inl earlier) = h.reached r i below inside earlier
      at r i below inside (inr past) =
          reached_by_all (length first) rows h.sources h.numbers r i (spanned r i below inside)
          (λ t from small. past (h.sources t) (h.numbers t) (h.before t from small))

-- the space of zero is the span of no rows
pub span_of_none : (m : ModuleValue) (span : EchelonValue) (rows : MatrixValue) (field other : Order) (cols width : ℕ) →
    span ≡ record { order = field; cols = cols; rows = [] } → rows ≡ record { order = other; cols = width; rows = [] } →
    field ≡ m.order → other ≡ m.order → cols ≡ m.dim → width ≡ m.dim → IsSpanOf span rows
span_of_none m span rows field other cols width span_is rows_is field_is other_is cols_is width_is = record {
  field = ap (λ (e : EchelonValue). e.order) span_is ∙ field_is ∙ sym (ap (λ (x : MatrixValue). x.order) rows_is ∙ other_is);
  columns = ap (λ (e : EchelonValue). e.cols) span_is ∙ cols_is ∙ sym (ap (λ (x : MatrixValue). x.cols) rows_is ∙ width_is);
  independent = subst (IsIndependent K) (sym no_rows) (no_rows_independent K);
  same = subst (HaveSameSpan K rows.rows) (no_rows ∙ sym (ap (λ (e : EchelonValue). e.rows) span_is)) (same_span_refl K rows.rows);
}
  where
    K : NumberField
    K = number_field rows.order

    no_rows : rows.rows ≡ []
    no_rows = ap (λ (x : MatrixValue). x.rows) rows_is

-- a row is in the span of the matrix's rows exactly where it is in the subspace
spanned_by_rows : (span : EchelonValue) (rows : MatrixValue) (row : List ℕ) → IsSpanOf span rows →
    IsSpanned (number_field span.order) span.rows row → IsSpanned (number_field rows.order) rows.rows row
spanned_by_rows span rows row is spanned =
    spanned_within (number_field rows.order) span.rows rows.rows row (same_span_sym (number_field rows.order) rows.rows span.rows is.same)
    (subst (λ o. IsSpanned (number_field o) span.rows row) is.field spanned)

spanned_by_span : (span : EchelonValue) (rows : MatrixValue) (row : List ℕ) → IsSpanOf span rows →
    IsSpanned (number_field rows.order) rows.rows row → IsSpanned (number_field span.order) span.rows row
spanned_by_span span rows row is spanned =
    subst (λ o. IsSpanned (number_field o) span.rows row) (sym is.field)
    (spanned_within (number_field rows.order) rows.rows span.rows row is.same spanned)

-- with a row outside their span the rows of a matrix stay independent
independent_with_new : (span : EchelonValue) (rows : MatrixValue) (row : List ℕ) → IsMatrix rows → IsSpanOf span rows → length row ≡ rows.cols →
    ¬ (IsSpanned (number_field span.order) span.rows row) → IsIndependent (number_field rows.order) (rows.rows ++ row ∷ [])
independent_with_new span rows row h is long outside =
    appended_independent (number_field rows.order) rows.cols rows.rows row (matrix_over rows h) long is.independent
    (λ spanned. outside (spanned_by_span span rows row is spanned))

-- a row that is new leaves room for one more
pub room_of_new : (span new : EchelonValue) (rows : MatrixValue) (row : List ℕ) (b : Bool) → IsSpanOf span rows → IsEchelon new →
    SpansOneMore b span row new → b ≡ true → length rows.rows < most_rows
room_of_new span new rows row b is h inserted taken = omega (arith, no_more, count, room_of_rank new h, h.columns_fit)
  where
    no_more : length rows.rows ≤ length span.rows
    no_more = exchange (field_of (number_field rows.order)) (length rows.rows) (matrix_of (number_field rows.order) rows.rows) (length span.rows)
        (matrix_of (number_field rows.order) span.rows) is.independent is.same.forth

    count : length new.rows ≡ suc (length span.rows)
    count = subst (λ (x : Bool). length new.rows ≡ (if x then suc (length span.rows) else length span.rows)) taken inserted.count

-- with one row more on both sides lists of rows have one span
pub same_span_with_row : (K : NumberField) (rows others : List (List ℕ)) (row : List ℕ) → HaveSameSpan K rows others →
    HaveSameSpan K (rows ++ row ∷ []) (others ++ row ∷ [])
same_span_with_row K rows others row same =
    same_span_by_rows K (rows ++ row ∷ []) (others ++ row ∷ []) (within rows others same)
    (within others rows (same_span_sym K rows others same))
  where
    within : (a b : List (List ℕ)) → HaveSameSpan K a b → (t : ℕ) → t < length (a ++ row ∷ []) → IsSpanned K (b ++ row ∷ []) (get_or (a ++ row ∷ []) t [])
    within a b one t below =
        below_or_at (λ t. IsSpanned K (b ++ row ∷ []) (get_or (a ++ row ∷ []) t [])) (length a)
        (λ t before. subst (IsSpanned K (b ++ row ∷ [])) (sym (get_or_append_left a (row ∷ []) [] t before))
        (appended_spans K b row (get_or a t []) (one.forth t before)))
        (subst (IsSpanned K (b ++ row ∷ [])) (sym (get_or_push a row [] (length a) refl)) (appended_row_spanned K b row))
        t (omega (arith, below, length_push a row))

-- the subspace with a new row is the span of the matrix with this row
pub span_of_new : (span new : EchelonValue) (old rows : MatrixValue) (row : List ℕ) (b : Bool) → IsMatrix old → IsSpanOf span old →
    SpansOneMore b span row new → length row ≡ old.cols → (b ≡ true → ¬ (IsSpanned (number_field span.order) span.rows row)) → b ≡ true →
    rows ≡ with_row old row → IsSpanOf new rows
span_of_new span new old rows row b h is inserted long outside taken appended =
    subst (IsSpanOf new) (sym appended) (record {
      field = inserted.field ∙ is.field;
      columns = inserted.columns ∙ is.columns;
      independent = independent_with_new span old row h is long (outside taken);
      same = same_span_trans K (old.rows ++ row ∷ []) (span.rows ++ row ∷ []) new.rows (same_span_with_row K old.rows span.rows row is.same)
          (subst (λ o. HaveSameSpan (number_field o) (span.rows ++ row ∷ []) new.rows) is.field
          (subst (λ (x : Bool). HaveSameSpan (number_field span.order) (if x then span.rows ++ row ∷ [] else span.rows) new.rows) taken inserted.same));
    })
  where
    K : NumberField
    K = number_field old.order

-- the subspace without a new row is the span of the same rows
pub span_of_old : (span new : EchelonValue) (rows : MatrixValue) (row : List ℕ) (b : Bool) → IsSpanOf span rows → SpansOneMore b span row new →
    b ≡ false → IsSpanOf new rows
span_of_old span new rows row b is inserted not_taken = record {
  field = inserted.field ∙ is.field;
  columns = inserted.columns ∙ is.columns;
  independent = is.independent;
  same = same_span_trans (number_field rows.order) rows.rows span.rows new.rows is.same
      (subst (λ o. HaveSameSpan (number_field o) span.rows new.rows) is.field
      (subst (λ (x : Bool). HaveSameSpan (number_field span.order) (if x then span.rows ++ row ∷ [] else span.rows) new.rows) not_taken inserted.same));
}

-- what was offered
pub offered_new : (span : EchelonValue) (old new : MatrixValue) (row : List ℕ) (b : Bool) → IsSpanOf span old →
    (b ≡ true → ¬ (IsSpanned (number_field span.order) span.rows row)) → b ≡ true → new ≡ with_row old row → IsOffered old row new
offered_new span old new row b is outside taken appended = inr ((λ spanned. outside taken (spanned_by_span span old row is spanned)), appended)

pub offered_old : (span : EchelonValue) (rows : MatrixValue) (row : List ℕ) (b : Bool) → IsMatrix rows → IsSpanOf span rows →
    length row ≡ rows.cols → (¬ (IsSpanned (number_field span.order) span.rows row) → b ≡ true) → b ≡ false → IsOffered rows row rows
offered_old span rows row b h is long exactly not_taken =
    inl (
      spanned_of_not_new (record { order = rows.order; cols = rows.cols; rows = rows.rows }) row b
          (record { some_column = h.some_column; columns_fit = h.columns_fit; over = matrix_over rows h; independent = is.independent }) long
          (λ outside. exactly (λ spanned. outside (spanned_by_rows span rows row is spanned))) not_taken,
      refl,
    )

-- rows that were offered, of one module
module _ (m : ModuleValue) where
  -- spinning leads nowhere, or on and on
  pub spins_nowhere : (rows : MatrixValue) (r i : ℕ) → SpinsOn m rows rows r i r i
  spins_nowhere rows r i = record { field = refl; columns = refl; grown = omega arith; taken = λ first h. h }

  pub spins_on : (old mid new : MatrixValue) (r i s j t k : ℕ) → SpinsOn m old mid r i s j → SpinsOn m mid new s j t k → SpinsOn m old new r i t k
  spins_on old mid new r i s j t k h g = record {
    field = g.field ∙ h.field;
    columns = g.columns ∙ h.columns;
    grown = omega (arith, h.grown, g.grown);
    taken = λ first x. g.taken first (h.taken first x);
  }

  -- by one offered image
  pub spins_to_next : (old new : MatrixValue) (image : List ℕ) (source number : ℕ) → IsModule m → old.order ≡ m.order → old.cols ≡ m.dim →
      source < length old.rows → number < length m.generators → image ≡ image_of_row m old.rows source number → IsOffered old image new →
      SpinsOn m old new source number source (number + 1)
  spins_to_next old new image source number module_is field fits below inside is (inl (spanned, same)) = record {
    field = ap (λ (x : MatrixValue). x.order) same;
    columns = ap (λ (x : MatrixValue). x.cols) same;
    grown = omega (arith, ap (λ (x : MatrixValue). length x.rows) same);
    taken = λ first h.
        subst (λ k. IsSpinningUpTo m first new.rows source k) (sym (add-one number))
        (subst (λ (x : MatrixValue). IsSpinningUpTo m first x.rows source (suc number)) (sym same)
        (taken_spanned m first old.rows source number
        (subst (λ o. IsSpanned (number_field o) old.rows (image_of_row m old.rows source number)) field
        (subst (IsSpanned (number_field old.order) old.rows) is spanned)) h));
  }
  spins_to_next old new image source number module_is field fits below inside is (inr (outside, appended)) = record {
    field = ap (λ (x : MatrixValue). x.order) appended;
    columns = ap (λ (x : MatrixValue). x.cols) appended;
    grown = omega (arith, ap (λ (x : MatrixValue). length x.rows) appended, length_push old.rows image);
    taken = λ first h.
        subst (λ k. IsSpinningUpTo m first new.rows source k) (sym (add-one number))
        (subst (λ (x : List (List ℕ)). IsSpinningUpTo m first x source (suc number))
        (sym (ap (λ (x : MatrixValue). x.rows) appended ∙ ap (λ (x : List ℕ). old.rows ++ x ∷ []) is))
        (taken_new m first old.rows source number module_is below inside
        (λ spanned. outside (subst (IsSpanned (number_field old.order) old.rows) (sym is)
        (subst (λ o. IsSpanned (number_field o) old.rows (image_of_row m old.rows source number)) (sym field) spanned))) h));
  }

  -- from a row to the next
  pub spins_to_row : (rows : MatrixValue) (source count : ℕ) → length m.generators ≤ count → SpinsOn m rows rows source count (source + 1) 0
  spins_to_row rows source count all = record {
    field = refl;
    columns = refl;
    grown = omega arith;
    taken = λ first h. taken_row m first rows.rows source count all h;
  }

  -- where the rows span everything, no image is new
  pub spins_to_row_of_full : (span : EchelonValue) (rows : MatrixValue) (source number : ℕ) → IsModule m → IsEchelon span → IsSpanOf span rows →
      rows.order ≡ m.order → rows.cols ≡ m.dim → length span.rows ≡ m.dim → SpinsOn m rows rows source number (source + 1) 0
  spins_to_row_of_full span rows source number module_is h is field fits full = record {
    field = refl;
    columns = refl;
    grown = omega arith;
    taken = λ first spinning. taken_rest m first rows.rows source number (spanned spinning.spinning.over) spinning;
  }
    where
      columns : span.cols ≡ m.dim
      columns = is.columns ∙ fits

      spanned : IsMatrixOver (number_field m.order) m.dim rows.rows → (r i : ℕ) → r < length rows.rows → i < length m.generators →
          IsSpanned (number_field m.order) rows.rows (image_of_row m rows.rows r i)
      spanned over r i below inside =
          let long = (image_over m rows.rows r i module_is over below inside).length_is in
          subst (λ o. IsSpanned (number_field o) rows.rows (image_of_row m rows.rows r i)) field
          (spanned_by_rows span rows (image_of_row m rows.rows r i) is
          (full_echelon_spans span (image_of_row m rows.rows r i) h (full ∙ sym columns) (long ∙ sym columns)))

  -- what leads on from the first pair begins with independent rows
  begun : (span : EchelonValue) (old new : MatrixValue) (source : ℕ) → IsSpanOf span old → IsMatrix old → old.order ≡ m.order →
      old.cols ≡ m.dim → SpinsOn m old new 0 0 source 0 → IsSpinningUpTo m old.rows new.rows source 0
  begun span old new source is old_is field fits spins = spins.taken old.rows (taken_none m old.rows over independent)
    where
      over : IsMatrixOver (number_field m.order) m.dim old.rows
      over = subst (λ n. IsMatrixOver (number_field m.order) n old.rows) fits
          (subst (λ o. IsMatrixOver (number_field o) old.cols old.rows) field (matrix_over old old_is))

      independent : IsIndependent (number_field m.order) old.rows
      independent = subst (λ o. IsIndependent (number_field o) old.rows) field is.independent

  -- at the end, where all rows were taken
  pub spun_of_taken : (span : EchelonValue) (old new : MatrixValue) (source : ℕ) → IsSpanOf span old → IsMatrix old → old.order ≡ m.order →
      old.cols ≡ m.dim → SpinsOn m old new 0 0 source 0 → length new.rows ≤ source → IsSpunMatrix m old new
  spun_of_taken span old new source is old_is field fits spins all = record {
    field = spins.field;
    columns = spins.columns;
    spun = taken_all m old.rows new.rows source all (begun span old new source is old_is field fits spins);
  }

  -- as many as there are columns are all, since independent rows are no more
  pub spun_of_columns : (span : EchelonValue) (old new : MatrixValue) (source : ℕ) → IsSpanOf span old → IsMatrix old → old.order ≡ m.order →
      old.cols ≡ m.dim → SpinsOn m old new 0 0 source 0 → span.cols ≤ source → IsSpunMatrix m old new
  spun_of_columns span old new source is old_is field fits spins all =
      let spinning = (begun span old new source is old_is field fits spins).spinning in
      spun_of_taken span old new source is old_is field fits spins
      (omega (arith, independent_rows_are_few (number_field m.order) m.dim new.rows spinning.over spinning.independent, is.columns, fits, all))
