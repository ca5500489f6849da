-- Subspaces: what is left of a vector at their pivots, the row that it gives, and what one more row spans.
use Rattle.std.specs.Prelude.{◌≡◌, ℕ, ◌<◌, List, [], ◌∷◌, ◌++◌, length, get_or, true, false}
use Rattle.std.proofs.lemmas.List.{get_or_append_left}
use Rattle.axe_algebra.specs.NumberField.{NumberField}
use Rattle.axe_algebra.specs.Field.{Field}
use Rattle.axe_algebra.specs.Vectors.{Vector, add_vectors, subtract, scale}
use Rattle.axe_algebra.specs.Bridge.{element, vector_of, matrix_of}
use Rattle.axe_algebra.specs.Lists.{IsVectorOver}
use Rattle.axe_algebra.specs.SpansOfLists.{IsSpanned, IsRepresentative, HaveSameSpan}
use Rattle.axe_algebra.specs.Spans.{InSpan, SpanWithin}
use Rattle.axe_algebra.proofs.FieldLaws.{zero-add, neg-add, neg-zero, neg-neg, neg-sum_of_two, one-mul, mul-zero}
use Rattle.axe_algebra.proofs.Spanning.{span_same, span_add, span_subtract, span_scale, span_within}
use Rattle.axe_algebra.proofs.ReducedBases.{zero_at_pivots_is_zero}
use Rattle.axe_algebra.proofs.ElementNumbers.{element_mul, element_one, element_zero, entry-below}
use Rattle.axe_algebra.proofs.ListEntries.{rows_length}
use Rattle.axe_algebra.proofs.ListSpans.{appended_length, appended_before, appended_last, appended_spans, appended_row_spanned, row_spanned}
use Rattle.axe_algebra.proofs.ListVectors.{vector_of_scaled, same_span_refl}
use Rattle.axe_field.specs.Arithmetic.{field_mul}
use Rattle.axe_field.specs.NumberFields.{number_field, gf}
use Rattle.axe_field.proofs.NumberFields.{number_field-mul}
use Rattle.axe_row.specs.Rows.{RowValue}
use Rattle.axe_row.specs.Operations.{multiple, IsZeroVector}
use Rattle.axe_row.proofs.OperationLaws.{get_or-multiple, length-multiple}
use Rattle.axe_echelon.specs.Echelons.{EchelonValue, IsEchelon}
use Rattle.axe_echelon.specs.Subspaces.{IsNextRow, IsScaledRest, SpansOneMore}
use Rattle.axe_echelon.specs.declared.subspace.ScaledRow.{ScaledRow}
use Rattle.axe_echelon.proofs.EliminationLaws.{vector_of_zero_row, zero_row_of_vector}
use Rattle.axe_echelon.proofs.FormLaws.{below_or_at}
use Rattle.axe_echelon.proofs.StepLaws.{over_of_row, below_of_element}
use mathlib.Core.Path.{refl, sym, ◌∙◌, ap, subst, fun_ext}
use native.Mathlib.Omega.{arith}

-- a less the difference of a and b is b
less_difference : (F : Field) (a b : F.Element) → F.add a (F.neg (F.add a (F.neg b))) ≡ b
less_difference F a b =
    ap (F.add a) (neg-sum_of_two F a (F.neg b) ∙ ap (F.add (F.neg a)) (neg-neg F b))
    ∙ sym (F.add_assoc a (F.neg a) b) ∙ ap (λ (c : F.Element). F.add c b) (F.add-neg a) ∙ zero-add F b

module _ (e : EchelonValue) (h : IsEchelon e) (first row : RowValue) (represents : IsRepresentative (number_field e.order) e.rows first.entries row.entries)
    (field : row.order ≡ e.order) (over : IsVectorOver (number_field e.order) e.cols row.entries) where
  abbrev K : NumberField
  K = number_field e.order

  abbrev F : Field
  F = gf e.order

  -- the vector is in the span exactly where its representative is zero
  pub spanned_if_zero : IsZeroVector row.entries → IsSpanned K e.rows first.entries
  spanned_if_zero zeros =
      span_same F (length e.rows) (matrix_of K e.rows) (vector_of K first.entries) (subtract F (vector_of K first.entries) (vector_of K row.entries))
      (fun_ext λ j. sym (ap (λ (x : Vector F). F.add (vector_of K first.entries j) (F.neg (x j))) (vector_of_zero_row K row.entries zeros)
      ∙ ap (F.add (vector_of K first.entries j)) (neg-zero F) ∙ F.add-zero (vector_of K first.entries j)))
      represents.in_coset

  pub zero_if_spanned : IsSpanned K e.rows first.entries → IsZeroVector row.entries
  zero_if_spanned spanned = zero_row_of_vector K e.cols row.entries over
      (zero_at_pivots_is_zero F e.cols (length e.rows) (matrix_of K e.rows) (vector_of K row.entries) (rows_length K e.cols e.rows h.over)
      (span_same F (length e.rows) (matrix_of K e.rows) (vector_of K row.entries)
      (subtract F (vector_of K first.entries) (subtract F (vector_of K first.entries) (vector_of K row.entries)))
      (fun_ext λ j. sym (less_difference F (vector_of K first.entries j) (vector_of K row.entries j)))
      (span_subtract F (length e.rows) (matrix_of K e.rows) (vector_of K first.entries) (subtract F (vector_of K first.entries) (vector_of K row.entries))
      spanned represents.in_coset))
      represents.at_pivots)

  -- a row with its multiples spans, beside the rows, what the vector does
  same_with : (scaled : List ℕ) (scalar number : F.Element) → vector_of K scaled ≡ scale F scalar (vector_of K row.entries) → F.mul number scalar ≡ F.one →
      HaveSameSpan K (e.rows ++ first.entries ∷ []) (e.rows ++ scaled ∷ [])
  same_with scaled scalar number scaled_is inverse = record {
    forth = λ t below. below_or_at (λ t. InSpan F (length after) (matrix_of K after) (matrix_of K before t)) (length e.rows)
        (λ t inside. span_same F (length after) (matrix_of K after) _ _ (appended_before K e.rows first.entries t inside) (within scaled t inside))
        (span_same F (length after) (matrix_of K after) _ _ (appended_last K e.rows first.entries) first_in)
        t (omega (arith, below, appended_length K e.rows first.entries));
    back = λ t below. below_or_at (λ t. InSpan F (length before) (matrix_of K before) (matrix_of K after t)) (length e.rows)
        (λ t inside. span_same F (length before) (matrix_of K before) _ _ (appended_before K e.rows scaled t inside) (within first.entries t inside))
        (span_same F (length before) (matrix_of K before) _ _ (appended_last K e.rows scaled) scaled_in)
        t (omega (arith, below, appended_length K e.rows scaled));
  }
    where
      before : List (List ℕ)
      before = e.rows ++ first.entries ∷ []

      after : List (List ℕ)
      after = e.rows ++ scaled ∷ []

      within : (u : List ℕ) → SpanWithin F (length e.rows) (matrix_of K e.rows) (length (e.rows ++ u ∷ [])) (matrix_of K (e.rows ++ u ∷ []))
      within u t inside = appended_spans K e.rows u (get_or e.rows t []) (row_spanned K e.rows t inside)

      coset_in : (u : List ℕ) → InSpan F (length (e.rows ++ u ∷ [])) (matrix_of K (e.rows ++ u ∷ [])) (subtract F (vector_of K first.entries) (vector_of K row.entries))
      coset_in u = span_within F (length e.rows) (matrix_of K e.rows) (length (e.rows ++ u ∷ [])) (matrix_of K (e.rows ++ u ∷ []))
          (subtract F (vector_of K first.entries) (vector_of K row.entries)) (within u) represents.in_coset

      row_in : InSpan F (length after) (matrix_of K after) (vector_of K row.entries)
      row_in = span_same F (length after) (matrix_of K after) (vector_of K row.entries) (scale F number (vector_of K scaled))
          (fun_ext λ j. sym (ap (λ (x : Vector F). F.mul number (x j)) scaled_is ∙ sym (F.mul_assoc number scalar (vector_of K row.entries j))
          ∙ ap (λ (c : F.Element). F.mul c (vector_of K row.entries j)) inverse ∙ one-mul F (vector_of K row.entries j)))
          (span_scale F (length after) (matrix_of K after) number (vector_of K scaled) (appended_row_spanned K e.rows scaled))

      first_in : InSpan F (length after) (matrix_of K after) (vector_of K first.entries)
      first_in = span_same F (length after) (matrix_of K after) (vector_of K first.entries)
          (add_vectors F (subtract F (vector_of K first.entries) (vector_of K row.entries)) (vector_of K row.entries))
          (fun_ext λ j. sym (F.add_assoc (vector_of K first.entries j) (F.neg (vector_of K row.entries j)) (vector_of K row.entries j)
          ∙ ap (F.add (vector_of K first.entries j)) (neg-add F (vector_of K row.entries j)) ∙ F.add-zero (vector_of K first.entries j)))
          (span_add F (length after) (matrix_of K after) (subtract F (vector_of K first.entries) (vector_of K row.entries)) (vector_of K row.entries)
          (coset_in scaled) row_in)

      scaled_in : InSpan F (length before) (matrix_of K before) (vector_of K scaled)
      scaled_in = span_same F (length before) (matrix_of K before) (vector_of K scaled)
          (scale F scalar (subtract F (vector_of K first.entries) (subtract F (vector_of K first.entries) (vector_of K row.entries))))
          (scaled_is ∙ (fun_ext λ j. ap (F.mul scalar) (sym (less_difference F (vector_of K first.entries j) (vector_of K row.entries j)))))
          (span_scale F (length before) (matrix_of K before) scalar (subtract F (vector_of K first.entries) (subtract F (vector_of K first.entries) (vector_of K row.entries)))
          (span_subtract F (length before) (matrix_of K before) (vector_of K first.entries) (subtract F (vector_of K first.entries) (vector_of K row.entries))
          (appended_row_spanned K e.rows first.entries) (coset_in first.entries)))

  -- the row that a new vector gives: its representative, scaled
  module _ (scaled : ScaledRow) (of_rest : IsScaledRest row scaled) where
    abbrev pivot : ℕ
    pivot = scaled.row.pivot

    abbrev number : ℕ
    number = get_or row.entries pivot 0

    below : scaled.scalar < K.order
    below = subst (λ o. scaled.scalar < (number_field o).order) field (below_of_element row.order scaled.scalar of_rest.element)

    product : K.mul number scaled.scalar ≡ 1
    product = number_field-mul e.order number scaled.scalar ∙ ap (λ o. field_mul o number scaled.scalar) (sym field) ∙ of_rest.inverse

    scaled_field : scaled.row.row.order ≡ e.order
    scaled_field = ap (λ (r : RowValue). r.order) of_rest.row ∙ field

    scaled_over : IsVectorOver K e.cols scaled.row.row.entries
    scaled_over = over_of_row e.order e.cols scaled.row.row scaled_field of_rest.row_well_formed
        (ap (λ (r : RowValue). length r.entries) of_rest.row ∙ length-multiple (number_field row.order) scaled.scalar row.entries ∙ over.length_is)

    scaled_entry : (j : ℕ) → j < length row.entries → get_or scaled.row.row.entries j 0 ≡ K.mul scaled.scalar (get_or row.entries j 0)
    scaled_entry j within =
        ap (λ (r : RowValue). get_or r.entries j 0) of_rest.row ∙ ap (λ o. get_or (multiple (number_field o) scaled.scalar row.entries) j 0) field
        ∙ get_or-multiple K scaled.scalar row.entries j within

    pub scaled_vector : vector_of K scaled.row.row.entries ≡ scale F (element K scaled.scalar) (vector_of K row.entries)
    scaled_vector = vector_of_scaled K e.cols scaled.scalar row.entries scaled.row.row.entries over scaled_over below
        (λ j within. scaled_entry j (omega (arith, within, over.length_is)))

    pub next_row_of : IsNextRow e scaled.row
    next_row_of = record {
      each = record { row_field = scaled_field; row_over = scaled_over };
      place = omega (arith, of_rest.leads.within, over.length_is);
      one = ap (element K) (scaled_entry pivot of_rest.leads.within ∙ K.mul_comm scaled.scalar number below (entry-below K row.entries pivot over.elements) ∙ product)
          ∙ element_one K;
      before = λ i ahead. ap (λ (x : Vector F). x i) scaled_vector
          ∙ ap (F.mul (element K scaled.scalar)) (ap (element K) (of_rest.leads.zeros_before i ahead) ∙ element_zero K) ∙ mul-zero F (element K scaled.scalar);
      at_pivots = λ j is_pivot. ap (λ (x : Vector F). x j) scaled_vector ∙ ap (F.mul (element K scaled.scalar)) (represents.at_pivots j is_pivot)
          ∙ mul-zero F (element K scaled.scalar);
    }

    pub outside_of_rest : ¬ (IsSpanned K e.rows first.entries)
    outside_of_rest spanned = of_rest.leads.nonzero (zero_if_spanned spanned pivot 0 of_rest.leads.within)

    -- the space with that row has the span of the space with the vector
    pub spans_one_more : (next : EchelonValue) → next ≡ record { order = e.order; cols = e.cols; rows = e.rows ++ scaled.row.row.entries ∷ [] } →
        SpansOneMore true e first.entries next
    spans_one_more next is = subst (SpansOneMore true e first.entries) (sym is) (record {
      field = refl;
      columns = refl;
      same = same_with scaled.row.row.entries (element K scaled.scalar) (element K number) scaled_vector
          (sym (element_mul K number scaled.scalar (entry-below K row.entries pivot over.elements) below) ∙ ap (element K) product ∙ element_one K);
      count = appended_length K e.rows scaled.row.row.entries;
      begins = λ t below. get_or_append_left e.rows (scaled.row.row.entries ∷ []) [] t below;
    })

pub spans_no_more : (e : EchelonValue) (v : List ℕ) → SpansOneMore false e v e
spans_no_more e v = record { field = refl; columns = refl; same = same_span_refl (number_field e.order) e.rows; count = refl; begins = λ t below. refl }
