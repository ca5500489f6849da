-- What a span is closed under, and spans within spans.
use Rattle.std.specs.Prelude.{◌≡◌, ℕ, ◌<◌}
use Rattle.axe_algebra.specs.Field.{Field}
use Rattle.axe_algebra.specs.Vectors.{Vector, Matrix, HasLength, HasRowsOfLength, zero_vector, unit_vector, add_vectors, subtract, scale, times, multiply}
use Rattle.axe_algebra.specs.Spans.{InSpan, IsIndependent, SpanWithin, SameSpan}
use Rattle.axe_algebra.proofs.FieldLaws.{same_of_difference, difference_of_same}
use Rattle.axe_algebra.proofs.ProductLaws.{times_same, times_unit, times_zero, times-add_vectors, times-subtract, times-scale, times_times, times_length}
use mathlib.Core.Path.{refl, sym, ◌∙◌, ap, ap₂, fun_ext}
use native.Mathlib.Decide.{dec_lt}

module _ (F : Field) where
  pub span_row : (k : ℕ) (v : Matrix F) (t : ℕ) → t < k → InSpan F k v (v t)
  span_row k v t below = record { coefficients = unit_vector F t; combines = sym (times_unit F k t v below) }

  pub span_zero : (k : ℕ) (v : Matrix F) → InSpan F k v (zero_vector F)
  span_zero k v = record { coefficients = zero_vector F; combines = sym (times_zero F k v) }

  -- a vector equal to one of the span
  pub span_same : (k : ℕ) (v : Matrix F) (x y : Vector F) → x ≡ y → InSpan F k v y → InSpan F k v x
  span_same k v x y same in_span = record { coefficients = in_span.coefficients; combines = same ∙ in_span.combines }

  pub span_add : (k : ℕ) (v : Matrix F) (x y : Vector F) → InSpan F k v x → InSpan F k v y → InSpan F k v (add_vectors F x y)
  span_add k v x y a b = record {
    coefficients = add_vectors F a.coefficients b.coefficients;
    combines = ap₂ (add_vectors F) a.combines b.combines ∙ sym (times-add_vectors F k a.coefficients b.coefficients v);
  }

  pub span_subtract : (k : ℕ) (v : Matrix F) (x y : Vector F) → InSpan F k v x → InSpan F k v y → InSpan F k v (subtract F x y)
  span_subtract k v x y a b = record {
    coefficients = subtract F a.coefficients b.coefficients;
    combines = ap₂ (subtract F) a.combines b.combines ∙ sym (times-subtract F k a.coefficients b.coefficients v);
  }

  pub span_scale : (k : ℕ) (v : Matrix F) (c : F.Element) (x : Vector F) → InSpan F k v x → InSpan F k v (scale F c x)
  span_scale k v c x a = record {
    coefficients = scale F c a.coefficients;
    combines = ap (scale F c) a.combines ∙ sym (times-scale F k c a.coefficients v);
  }

  -- the rows of coefficients of the rows of w in the span of v, zero from m on
  rows_of : (m : ℕ) (w : Matrix F) (k : ℕ) (v : Matrix F) → SpanWithin F m w k v → (t : ℕ) → Dec (t < m) → Vector F
  rows_of m w k v within t (yes below) = (within t below).coefficients
  rows_of m w k v within t (no past) = zero_vector F

  pub coefficient_rows : (m : ℕ) (w : Matrix F) (k : ℕ) (v : Matrix F) → SpanWithin F m w k v → Matrix F
  coefficient_rows m w k v within t = rows_of m w k v within t (dec_lt t m)

  pub coefficient_rows_combine : (m : ℕ) (w : Matrix F) (k : ℕ) (v : Matrix F) (within : SpanWithin F m w k v) (t : ℕ) → t < m →
      w t ≡ times F k (coefficient_rows m w k v within t) v
  unfolding coefficient_rows rows_of
  coefficient_rows_combine m w k v within t below = cases (dec_lt t m)
    where
      cases : (d : Dec (t < m)) → w t ≡ times F k (rows_of m w k v within t d) v
      cases (yes inside) = (within t inside).combines
      cases (no past) = absurd (past below)

  -- combinations of vectors of the span
  pub span_times : (k : ℕ) (v : Matrix F) (m : ℕ) (c : Vector F) (w : Matrix F) → SpanWithin F m w k v → InSpan F k v (times F m c w)
  span_times k v m c w within = record {
    coefficients = times F m c (coefficient_rows m w k v within);
    combines =
        times_same F m c c w (multiply F k (coefficient_rows m w k v within) v) (λ t below. refl) (coefficient_rows_combine m w k v within)
        ∙ sym (times_times F k m c (coefficient_rows m w k v within) v);
  }

  pub span_within : (k : ℕ) (v : Matrix F) (m : ℕ) (w : Matrix F) (x : Vector F) → SpanWithin F k v m w → InSpan F k v x → InSpan F m w x
  span_within k v m w x within in_span =
      span_same m w x (times F k in_span.coefficients v) in_span.combines (span_times m w k in_span.coefficients v within)

  pub within_trans : (k : ℕ) (v : Matrix F) (m : ℕ) (w : Matrix F) (n : ℕ) (u : Matrix F) →
      SpanWithin F k v m w → SpanWithin F m w n u → SpanWithin F k v n u
  within_trans k v m w n u first second t below = span_within m w n u (v t) second (first t below)

  pub same_refl : (k : ℕ) (v : Matrix F) → SameSpan F k v k v
  same_refl k v = record { forth = span_row k v; back = span_row k v }

  pub same_sym : (k : ℕ) (v : Matrix F) (m : ℕ) (w : Matrix F) → SameSpan F k v m w → SameSpan F m w k v
  same_sym k v m w same = record { forth = same.back; back = same.forth }

  pub same_trans : (k : ℕ) (v : Matrix F) (m : ℕ) (w : Matrix F) (n : ℕ) (u : Matrix F) →
      SameSpan F k v m w → SameSpan F m w n u → SameSpan F k v n u
  same_trans k v m w n u first second = record {
    forth = within_trans k v m w n u first.forth second.forth;
    back = within_trans n u m w k v second.back first.back;
  }

  pub span_length : (n k : ℕ) (v : Matrix F) (x : Vector F) → HasRowsOfLength F n v → InSpan F k v x → HasLength F n x
  span_length n k v x rows in_span j past =
      ap (λ (y : Vector F). y j) in_span.combines ∙ times_length F k n in_span.coefficients v rows j past

  -- the coefficients over independent rows are unique
  pub unique_coefficients : (k : ℕ) (v : Matrix F) (c d : Vector F) → IsIndependent F k v → times F k c v ≡ times F k d v →
      (t : ℕ) → t < k → c t ≡ d t
  unique_coefficients k v c d independent same t below =
      same_of_difference F (c t) (d t) (independent.only_zero (subtract F c d)
      (times-subtract F k c d v ∙ fun_ext λ j. difference_of_same F (times F k c v j) (times F k d v j) (ap (λ (x : Vector F). x j) same))
      t below)
