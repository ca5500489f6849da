-- The rows that were inserted into an echelon form: they span the space of its rows, have its representatives, pivots and
-- reduced basis, and give coordinates.
use Rattle.std.specs.Prelude.{◌≡◌, ℕ, suc, ◌+◌, ◌<◌, ◌↔◌, List, [], ◌∷◌, ◌++◌, map, length, get_or, Option, Some, None, MatchOption}
use Rattle.std.proofs.lemmas.List.{length-map, map-append, length-append, get_or_append_left, get_or-append-add}
use Rattle.std.proofs.lemmas.List.Elements.{All-push}
use Rattle.axe_algebra.specs.NumberField.{NumberField}
use Rattle.axe_algebra.specs.Field.{Field}
use Rattle.axe_algebra.specs.Vectors.{Vector, add_vectors, times, scale}
use Rattle.axe_algebra.specs.Spans.{SameSpan}
use Rattle.axe_algebra.specs.Bridge.{element, vector_of, matrix_of}
use Rattle.axe_algebra.specs.Lists.{listed, IsVectorOver}
use Rattle.axe_algebra.specs.SpansOfLists.{HaveSameSpan, IsIndependent, IsSpanned, IsPivot, IsRepresentative}
use Rattle.axe_algebra.proofs.Spanning.{span_within}
use Rattle.axe_algebra.proofs.ReducedBases.{pivot_of_same_span, reduced_of_same_span}
use Rattle.axe_algebra.proofs.ListSpans.{appended_length, appended_before, appended_last, appended_independent}
use Rattle.axe_algebra.proofs.ListVectors.{spanned_within, same_span_sym}
use Rattle.axe_field.specs.Arithmetic.{field_neg}
use Rattle.axe_field.specs.NumberFields.{number_field, gf}
use Rattle.axe_row.specs.Operations.{IsZeroVector}
use Rattle.axe_row.specs.Rows.{RowValue}
use Rattle.axe_matrix.specs.Matrices.{MatrixValue}
use Rattle.axe_echelon.specs.Echelons.{EchelonValue, IsEchelon, IsReducedMatrix, AreCoordinates}
use Rattle.axe_echelon.specs.Forms.{IsCombined}
use Rattle.axe_echelon.specs.Steps.{inserted_rows, multiplier_rows, scalars, echelon_of, IsStep, HasSteps, IsSolved, AreSolvedCoordinates}
use Rattle.axe_echelon.specs.Subspaces.{IsCleared, IsScaledRest}
use Rattle.axe_echelon.specs.declared.Step.{Step}
use Rattle.axe_echelon.specs.declared.subspace.ScaledRow.{ScaledRow}
use Rattle.axe_echelon.proofs.EliminationLaws.{Cancels, coordinates_of_cancels, cleared_represents, vector_of_zero_row}
use Rattle.axe_echelon.proofs.FormLaws.{combined_none, combined_spans, combined_more}
use Rattle.axe_echelon.proofs.StepLaws.{below_of_element, length-inserted, inserted_are_over, echelon_of_steps}
use Rattle.axe_echelon.proofs.SubspaceLaws.{zero_if_spanned, scaled_vector}
use mathlib.Core.Path.{sym, ◌∙◌, ap, ap₂, subst}
use native.Mathlib.Omega.{arith}

module _ (space : EchelonValue) (steps : List Step) (has : HasSteps space steps) where
  abbrev K : NumberField
  K = number_field space.order

  abbrev F : Field
  F = gf space.order

  as_many : length (inserted_rows steps) ≡ length space.rows
  as_many = length-inserted steps ∙ has.count

  pub same_span : HaveSameSpan K space.rows (inserted_rows steps)
  same_span = subst (λ k. SameSpan F (length space.rows) (matrix_of K space.rows) k (matrix_of K (inserted_rows steps))) (sym as_many)
      (combined_spans F (length space.rows) (matrix_of K (inserted_rows steps)) (matrix_of K space.rows) (matrix_of K (multiplier_rows steps))
      (vector_of K (scalars steps)) has.combined has.well_formed.independent)

  -- what holds of the space holds of the rows that were inserted
  pub rank_of_space : (e : EchelonValue) → echelon_of space steps ≡ e → length space.rows ≡ length e.rows
  rank_of_space e view = sym as_many ∙ ap (λ (x : EchelonValue). length x.rows) view

  pub spanned_by_inserted : (v : List ℕ) → IsSpanned K space.rows v → IsSpanned K (inserted_rows steps) v
  spanned_by_inserted v spanned = spanned_within K space.rows (inserted_rows steps) v same_span spanned

  pub spanned_by_space : (v : List ℕ) → IsSpanned K (inserted_rows steps) v → IsSpanned K space.rows v
  spanned_by_space v spanned = spanned_within K (inserted_rows steps) space.rows v (same_span_sym K space.rows (inserted_rows steps) same_span) spanned

  pub pivots_of_space : (j : ℕ) → IsPivot K space.rows j ↔ IsPivot K (inserted_rows steps) j
  pivots_of_space j = (
    pivot_of_same_span F (length space.rows) (matrix_of K space.rows) (length (inserted_rows steps)) (matrix_of K (inserted_rows steps)) j same_span.forth,
    pivot_of_same_span F (length (inserted_rows steps)) (matrix_of K (inserted_rows steps)) (length space.rows) (matrix_of K space.rows) j same_span.back,
  )

  pub represents_by_inserted : (x y : List ℕ) → IsRepresentative K space.rows x y → IsRepresentative K (inserted_rows steps) x y
  represents_by_inserted x y represents = record {
    in_coset = span_within F (length space.rows) (matrix_of K space.rows) (length (inserted_rows steps)) (matrix_of K (inserted_rows steps)) _ same_span.forth
        represents.in_coset;
    at_pivots = λ j pivot. represents.at_pivots j ((pivots_of_space j).1 pivot);
  }

  pub reduced_by_inserted : (m : MatrixValue) → IsReducedMatrix space m → IsReducedMatrix (echelon_of space steps) m
  reduced_by_inserted m reduced = record {
    field = reduced.field;
    columns = reduced.columns;
    basis = reduced_of_same_span F (length space.rows) (matrix_of K space.rows) (length (inserted_rows steps)) (matrix_of K (inserted_rows steps))
        (length m.rows) (matrix_of K m.rows) same_span reduced.basis;
  }

  -- ---- the coordinates of a row, by what is left of it
  module _ (first row multipliers : RowValue) (cleared : IsCleared space first row multipliers) (over : IsVectorOver K space.cols first.entries) where
    cancels_if_solved : (coefficients : RowValue) → IsZeroVector row.entries → IsSolved space steps multipliers coefficients →
        Cancels (echelon_of space steps) first coefficients
    cancels_if_solved coefficients zeros solved = record {
      over = over;
      coefficients_field = solved.field;
      coefficients_over = solved.over;
      vanishes = ap (add_vectors F (vector_of K first.entries))
          (ap (λ k. times F k (vector_of K coefficients.entries) (matrix_of K (inserted_rows steps))) as_many ∙ sym solved.same)
          ∙ sym cleared.offset ∙ vector_of_zero_row K row.entries zeros;
    }

    pub coordinates_of_row : (solved : RowValue) (found : Option RowValue) →
        MatchOption found (¬ (IsZeroVector row.entries)) (AreSolvedCoordinates space steps row multipliers solved) →
        MatchOption found (¬ (IsSpanned K (inserted_rows steps) first.entries)) (AreCoordinates (echelon_of space steps) first.entries)
    coordinates_of_row solved None something = λ spanned. something
        (zero_if_spanned space has.well_formed first row (cleared_represents space first row multipliers cleared) cleared.row_field cleared.row_over
        (spanned_by_space first.entries spanned))
    coordinates_of_row solved (Some coordinates) are =
        coordinates_of_cancels (echelon_of space steps) (echelon_of_steps space steps has) first solved
        (cancels_if_solved solved are.nothing_left are.solution) coordinates
        (are.negated
        ∙ (λ i. record { order = solved.order; entries = listed (sym (length-inserted steps) i) (λ j. field_neg solved.order (get_or solved.entries j 0)) }))

-- ---- no steps, and one more

pub steps_none : (space : EchelonValue) (steps : List Step) → steps ≡ [] → space.rows ≡ [] → IsEchelon space → HasSteps space steps
steps_none space steps none no_rows h = record {
  well_formed = h;
  count = ap (λ (l : List Step). length l) none ∙ sym (ap (λ (l : List (List ℕ)). length l) no_rows);
  each = λ i step below. absurd (omega (arith, below, ap (λ (l : List Step). length l) none));
  independent = record {
    only_zero = λ d vanishes t below. absurd (omega (arith, below, length-inserted steps, ap (λ (l : List Step). length l) none));
  };
  combined = subst (λ k. IsCombined (gf space.order) k (matrix_of (number_field space.order) (inserted_rows steps))
      (matrix_of (number_field space.order) space.rows) (matrix_of (number_field space.order) (multiplier_rows steps))
      (vector_of (number_field space.order) (scalars steps)))
      (sym (ap (λ (l : List (List ℕ)). length l) no_rows)) (combined_none (gf space.order) _ _ _ _);
}

-- one more step, for a row of which something is left
module _ (space : EchelonValue) (steps : List Step) (has : HasSteps space steps) (first row multipliers : RowValue)
    (cleared : IsCleared space first row multipliers) (over : IsVectorOver (number_field space.order) space.cols first.entries)
    (outside : ¬ (IsSpanned (number_field space.order) space.rows first.entries)) (scaled : ScaledRow) (of_rest : IsScaledRest row scaled) where
  abbrev N : NumberField
  N = number_field space.order

  abbrev G : Field
  G = gf space.order

  abbrev pub step : Step
  step = record { inserted = first; scalar = scaled.scalar; multipliers = multipliers }

  abbrev pub after : EchelonValue
  after = record { order = space.order; cols = space.cols; rows = space.rows ++ scaled.row.row.entries ∷ [] }

  row_before : (f : Step → List ℕ) (t : ℕ) → t < length space.rows → matrix_of N (map f (steps ++ step ∷ [])) t ≡ matrix_of N (map f steps) t
  row_before f t below =
      ap (λ (rows : List (List ℕ)). matrix_of N rows t) (map-append f steps (step ∷ []))
      ∙ appended_before N (map f steps) (f step) t (omega (arith, below, has.count, length-map steps f))

  row_last : (f : Step → List ℕ) → matrix_of N (map f (steps ++ step ∷ [])) (length space.rows) ≡ vector_of N (f step)
  row_last f =
      ap₂ (λ (rows : List (List ℕ)) (k : ℕ). matrix_of N rows k) (map-append f steps (step ∷ []))
      (let same : length space.rows ≡ length (map f steps) = omega (arith, has.count, length-map steps f) in same)
      ∙ appended_last N (map f steps) (f step)

  scalar_before : (t : ℕ) → t < length space.rows → get_or (scalars (steps ++ step ∷ [])) t 0 ≡ get_or (scalars steps) t 0
  scalar_before t below =
      ap (λ (l : List ℕ). get_or l t 0) (map-append (λ (s : Step). s.scalar) steps (step ∷ []))
      ∙ get_or_append_left (scalars steps) (scaled.scalar ∷ []) 0 t (omega (arith, below, has.count, length-map steps (λ (s : Step). s.scalar)))

  scalar_last : get_or (scalars (steps ++ step ∷ [])) (length space.rows) 0 ≡ scaled.scalar
  scalar_last =
      ap₂ (λ (l : List ℕ) (k : ℕ). get_or l k 0) (map-append (λ (s : Step). s.scalar) steps (step ∷ []))
      (let same : length space.rows ≡ length (scalars steps) + 0 = omega (arith, has.count, length-map steps (λ (s : Step). s.scalar)) in same)
      ∙ get_or-append-add (scalars steps) (scaled.scalar ∷ []) 0 0

  combined_after : IsCombined G (suc (length space.rows)) (matrix_of N (inserted_rows (steps ++ step ∷ []))) (matrix_of N after.rows)
      (matrix_of N (multiplier_rows (steps ++ step ∷ []))) (vector_of N (scalars (steps ++ step ∷ [])))
  combined_after = combined_more G (length space.rows) (matrix_of N (inserted_rows steps)) (matrix_of N space.rows) (matrix_of N (multiplier_rows steps))
      (vector_of N (scalars steps)) has.combined (matrix_of N (inserted_rows (steps ++ step ∷ []))) (matrix_of N after.rows)
      (matrix_of N (multiplier_rows (steps ++ step ∷ []))) (vector_of N (scalars (steps ++ step ∷ [])))
      (row_before (λ (s : Step). s.inserted.entries)) (appended_before N space.rows scaled.row.row.entries) (row_before (λ (s : Step). s.multipliers.entries))
      (λ t below. ap (element N) (scalar_before t below))
      (appended_last N space.rows scaled.row.row.entries
      ∙ scaled_vector space has.well_formed first row (cleared_represents space first row multipliers cleared) cleared.row_field cleared.row_over scaled of_rest
      ∙ ap₂ (λ (c : G.Element) (x : Vector G). scale G c x) (ap (element N) (sym scalar_last))
      (cleared.offset
      ∙ ap₂ (λ (x d : Vector G). add_vectors G x (times G (length space.rows) d (matrix_of N space.rows)))
      (sym (row_last (λ (s : Step). s.inserted.entries))) (sym (row_last (λ (s : Step). s.multipliers.entries)))))
      (λ j past. ap (λ (x : Vector G). x j) (row_last (λ (s : Step). s.multipliers.entries)) ∙ cleared.few j past)

  steps_after : IsEchelon after → HasSteps after (steps ++ step ∷ [])
  steps_after h = record {
    well_formed = h;
    count = length-append steps (step ∷ []) ∙ ap (λ k. k + 1) has.count ∙ sym (length-append space.rows (scaled.row.row.entries ∷ []));
    each = All-push (IsStep space.order space.cols) steps step has.each (record {
      multipliers_field = cleared.multipliers_field;
      inserted_over = over;
      multipliers_over = cleared.multipliers_over;
      scalar_below = subst (λ q. scaled.scalar < (number_field q).order) cleared.row_field (below_of_element row.order scaled.scalar of_rest.element);
    });
    independent = subst (IsIndependent N) (sym (map-append (λ (s : Step). s.inserted.entries) steps (step ∷ [])))
        (appended_independent N space.cols (inserted_rows steps) first.entries (inserted_are_over space.order space.cols steps has.each) over.length_is has.independent
        (λ spanned. outside (spanned_by_space space steps has first.entries spanned)));
    combined = subst (λ k. IsCombined G k (matrix_of N (inserted_rows (steps ++ step ∷ []))) (matrix_of N after.rows)
        (matrix_of N (multiplier_rows (steps ++ step ∷ []))) (vector_of N (scalars (steps ++ step ∷ []))))
        (sym (appended_length N space.rows scaled.row.row.entries)) combined_after;
  }

  pub steps_more : (next : EchelonValue) (pushed : List Step) → next ≡ after → IsEchelon next → pushed ≡ steps ++ step ∷ [] → HasSteps next pushed
  steps_more next pushed next_is h pushed_is =
      subst (λ (l : List Step). HasSteps next l) (sym pushed_is)
      (subst (λ (x : EchelonValue). HasSteps x (steps ++ step ∷ [])) (sym next_is) (steps_after (subst IsEchelon next_is h)))

  pub inserted_more : (next e : EchelonValue) (pushed : List Step) → next ≡ after → pushed ≡ steps ++ step ∷ [] → echelon_of space steps ≡ e →
      echelon_of next pushed ≡ record { order = e.order; cols = e.cols; rows = e.rows ++ first.entries ∷ [] }
  inserted_more next e pushed next_is pushed_is view =
      ap₂ echelon_of next_is pushed_is
      ∙ ap (λ (rows : List (List ℕ)). record { order = space.order; cols = space.cols; rows = rows })
      (map-append (λ (s : Step). s.inserted.entries) steps (step ∷ []))
      ∙ ap (λ (x : EchelonValue). record { order = x.order; cols = x.cols; rows = x.rows ++ first.entries ∷ [] }) view
