-- The value of a word keeps invariant sets, and maps an invariant span onto itself where it has no null vector in it.
use Rattle.std.specs.Prelude.{◌≡◌, ◌≢◌, ℕ, ◌<◌, ◌≤◌, ◌⊎◌, List, [], ◌∷◌}
use Rattle.axe_algebra.specs.Field.{Field}
use Rattle.axe_algebra.specs.Vectors.{Vector, Matrix, HasLength, HasRowsOfLength, HasShape, zero_vector, add_vectors, add_matrices, scale, times, multiply}
use Rattle.axe_algebra.specs.Spans.{InSpan, SpanWithin, IsIndependent, SameSpan, IsNullVector, IsInvertible}
use Rattle.axe_algebra.specs.Modules.{Module, HasSquareMatrices, AreGenerators, path_product, IsInvariant, IsInvariantSet}
use Rattle.axe_algebra.specs.Words.{Word, IsWordOf, word_value}
use Rattle.axe_algebra.specs.NortonTheorems.{HasNoNullVectorIn}
use Rattle.axe_algebra.proofs.ProductLaws.{times_same, times_times, times_zero, times_zero_rows, times_identity, times-add_matrices, times-scaled_rows, multiply_is_matrix, unit_is_matrix}
use Rattle.axe_algebra.proofs.FieldLaws.{mul-zero}
use Rattle.axe_algebra.proofs.Spanning.{span_same, span_row, span_times, span_within}
use Rattle.axe_algebra.proofs.Exchange.{cut, cut_length, times_cut, basis_of}
use Rattle.axe_algebra.proofs.SquareMatrices.{null_vector_or_inverse}
use Rattle.axe_algebra.proofs.Cutting.{coefficient_matrix}
use Rattle.axe_algebra.proofs.Generated.{invariant_set_has_products, invariant_span_is_set}
use mathlib.Core.Logic.{inl, inr}
use mathlib.Core.Path.{refl, sym, ◌∙◌, ap, ap₂, subst, fun_ext}
use native.Mathlib.Omega.{arith}
use native.Mathlib.Decide.{dec_lt}

-- a multiple of one matrix plus another of its shape
pub term_is_matrix : (F : Field) (m n : ℕ) (c : F.Element) (a b : Matrix F) → HasShape F m n a → HasShape F m n b →
    HasShape F m n (add_matrices F (λ i. scale F c (a i)) b)
term_is_matrix F m n c a b first rest = record {
  rows = λ i j past. ap₂ (λ x y. F.add (F.mul c x) y) (first.rows i j past) (rest.rows i j past) ∙ zeros;
  columns = λ i j past. ap₂ (λ x y. F.add (F.mul c x) y) (first.columns i j past) (rest.columns i j past) ∙ zeros;
}
  where
    zeros : F.add (F.mul c F.zero) F.zero ≡ F.zero
    zeros = F.add-zero (F.mul c F.zero) ∙ mul-zero F c

module _ (F : Field) (M : Module F) where
  -- the product of generators is a square matrix of the dimension
  pub path_product_is_matrix : HasSquareMatrices F M → (path : List ℕ) → AreGenerators F M path → HasShape F M.dimension M.dimension (path_product F M path)
  unfolding path_product
  path_product_is_matrix is [] all = unit_is_matrix F M.dimension
  path_product_is_matrix is (i ∷ path) all =
      multiply_is_matrix F M.dimension M.dimension M.dimension (M.generator i) (path_product F M path) (is.square i all.0)
      (path_product_is_matrix is path all.1)

  -- and so is the value of a word
  pub word_value_is_matrix : HasSquareMatrices F M → (word : Word F) → IsWordOf F M word → HasShape F M.dimension M.dimension (word_value F M word)
  unfolding word_value
  word_value_is_matrix is [] all = record { rows = λ i j past. refl; columns = λ i j past. refl }
  word_value_is_matrix is (term ∷ word) all =
      term_is_matrix F M.dimension M.dimension term.0 (path_product F M term.1) (word_value F M word)
      (path_product_is_matrix is term.1 all.0) (word_value_is_matrix is word all.1)

  -- x times the value of a word, term by term
  pub times-no_terms : (x : Vector F) → times F M.dimension x (word_value F M []) ≡ zero_vector F
  unfolding word_value
  times-no_terms x = times_zero_rows F M.dimension x (λ i j. F.zero) (λ t below. refl)

  pub times-term : (x : Vector F) (c : F.Element) (path : List ℕ) (word : Word F) →
      times F M.dimension x (word_value F M ((c, path) ∷ word)) ≡
      add_vectors F (scale F c (times F M.dimension x (path_product F M path))) (times F M.dimension x (word_value F M word))
  unfolding word_value
  times-term x c path word =
      times-add_matrices F M.dimension x (λ i. scale F c (path_product F M path i)) (word_value F M word)
      ∙ ap (λ (y : Vector F). add_vectors F y (times F M.dimension x (word_value F M word)))
      (times-scaled_rows F M.dimension c x (path_product F M path))

  -- an invariant set with x has x times the value of a word
  pub invariant_set_has_word_images : HasSquareMatrices F M → (P : Vector F → Type 0) → IsInvariantSet F M P → (word : Word F) → IsWordOf F M word →
      (x : Vector F) → HasLength F M.dimension x → P x → P (times F M.dimension x (word_value F M word))
  invariant_set_has_word_images is P invariant [] all x length holds = subst P (sym (times-no_terms x)) invariant.zero
  invariant_set_has_word_images is P invariant (term ∷ word) all x length holds =
      subst P (sym (times-term x term.0 term.1 word))
      (invariant.sums (scale F term.0 (times F M.dimension x (path_product F M term.1))) (times F M.dimension x (word_value F M word))
      (invariant.multiples term.0 (times F M.dimension x (path_product F M term.1))
      (invariant_set_has_products F M is P invariant term.1 all.0 x length holds))
      (invariant_set_has_word_images is P invariant word all.1 x length holds))

  -- the value of a word keeps an invariant span
  pub word_value_keeps : HasSquareMatrices F M → (word : Word F) → IsWordOf F M word → (k : ℕ) (v : Matrix F) → HasRowsOfLength F M.dimension v →
      IsInvariant F M k v → (x : Vector F) → HasLength F M.dimension x → InSpan F k v x → InSpan F k v (times F M.dimension x (word_value F M word))
  word_value_keeps is word all k v rows invariant =
      invariant_set_has_word_images is (InSpan F k v) (invariant_span_is_set F M k v invariant) word all

-- a matrix with n rows maps the span of k rows of v onto itself: each vector of the span is the image of one
pub record IsOnto (F : Field) (n k : ℕ) (v x : Matrix F) (y : Vector F) : Type 0 where
  pub vector : Vector F
  pub in_span : InSpan F k v vector
  pub maps : times F n vector x ≡ y

-- a nonzero null vector of x in the span of k rows of v
pub record HasNullVectorIn (F : Field) (n k : ℕ) (v x : Matrix F) : Type 0 where
  pub vector : Vector F
  pub in_span : InSpan F k v vector
  pub nonzero : vector ≢ zero_vector F
  pub vanishes : times F n vector x ≡ zero_vector F

module _ (F : Field) (n : ℕ) where
  module _ (r : ℕ) (b x a : Matrix F) (combine : (t : ℕ) → t < r → times F n (b t) x ≡ times F r (a t) b) where
    -- the coefficients of the image of a combination of the rows b with b x = a b
    image_coefficients : (c : Vector F) → times F n (times F r c b) x ≡ times F r (times F r c a) b
    image_coefficients c =
        times_times F n r c b x
        ∙ times_same F r c c (multiply F n b x) (multiply F r a b) (λ t below. refl) combine
        ∙ sym (times_times F r r c a b)

    null_vector_in : IsIndependent F r b → (c : Vector F) → c ≢ zero_vector F → IsNullVector F r a c → HasNullVectorIn F n r b x
    null_vector_in independent c nonzero null = record {
      vector = times F r c b;
      in_span = record { coefficients = c; combines = refl };
      nonzero = λ e. nonzero (fun_ext λ t. at e t (dec_lt t r));
      vanishes = image_coefficients c ∙ ap (λ (d : Vector F). times F r d b) null.vanishes ∙ times_zero F r b;
    }
      where
        at : times F r c b ≡ zero_vector F → (t : ℕ) → Dec (t < r) → c t ≡ F.zero
        at e t (yes below) = independent.only_zero c e t below
        at e t (no past) = null.length t (omega arith)

    onto_by_inverse : IsInvertible F r a → (y : Vector F) → InSpan F r b y → IsOnto F n r b x y
    onto_by_inverse invertible y within = record {
      vector = times F r (times F r d invertible.inverse) b;
      in_span = record { coefficients = times F r d invertible.inverse; combines = refl };
      maps =
          image_coefficients (times F r d invertible.inverse)
          ∙ ap (λ (c : Vector F). times F r c b)
          (times_times F r r d invertible.inverse a ∙ ap (times F r d) invertible.inverts.left
          ∙ times_identity F r d (cut_length F r within.coefficients))
          ∙ times_cut F r within.coefficients b ∙ sym within.combines;
    }
      where
        d : Vector F
        d = cut F r within.coefficients

  -- where x keeps the span of k rows of v, it has a nonzero null vector in it or maps it onto itself
  pub null_vector_or_onto : (k : ℕ) (v x : Matrix F) → HasRowsOfLength F n v → SpanWithin F k (λ t. times F n (v t) x) k v →
      HasNullVectorIn F n k v x ⊎ ((y : Vector F) → InSpan F k v y → IsOnto F n k v x y)
  null_vector_or_onto k v x rows keeps = by_basis (basis_of F n k v rows)
    where
      by_basis : (r : ℕ) × (w : Matrix F) × HasRowsOfLength F n w × IsIndependent F r w × SameSpan F k v r w × (r ≤ k) →
          HasNullVectorIn F n k v x ⊎ ((y : Vector F) → InSpan F k v y → IsOnto F n k v x y)
      by_basis (r, b, lengths, independent, same, at_most) = by_matrix (coefficient_matrix F r (λ t. times F n (b t) x) r b within)
        where
          within : SpanWithin F r (λ t. times F n (b t) x) r b
          within t below =
              let c = (same.back t below).coefficients in
              span_within F k v r b (times F n (b t) x) same.forth
              (span_same F k v (times F n (b t) x) (times F k c (λ s. times F n (v s) x))
              (ap (λ (y : Vector F). times F n y x) (same.back t below).combines ∙ times_times F n k c v x)
              (span_times F k v k c (λ s. times F n (v s) x) keeps))

          in_v : (y : Vector F) → InSpan F r b y → InSpan F k v y
          in_v y = span_within F r b k v y same.back

          by_matrix : (a : Matrix F) × HasShape F r r a × ((t : ℕ) → t < r → times F n (b t) x ≡ times F r (a t) b) →
              HasNullVectorIn F n k v x ⊎ ((y : Vector F) → InSpan F k v y → IsOnto F n k v x y)
          by_matrix (a, shape, combine) = by_null (null_vector_or_inverse F r a shape)
            where
              by_null : ((c : Vector F) × (c ≢ zero_vector F) × IsNullVector F r a c) ⊎ IsInvertible F r a →
                  HasNullVectorIn F n k v x ⊎ ((y : Vector F) → InSpan F k v y → IsOnto F n k v x y)
              by_null (inl (c, nonzero, null)) =
                  let found = null_vector_in r b x a combine independent c nonzero null in
                  inl (record { vector = found.vector; in_span = in_v found.vector found.in_span; nonzero = found.nonzero; vanishes = found.vanishes })
              by_null (inr invertible) = inr λ y within_v.
                  let found = onto_by_inverse r b x a combine invertible y (span_within F k v r b y same.forth within_v) in
                  record { vector = found.vector; in_span = in_v found.vector found.in_span; maps = found.maps }

module _ (F : Field) (M : Module F) where
  -- the value of a word maps invariant rows into their span
  pub word_value_within : HasSquareMatrices F M → (word : Word F) → IsWordOf F M word → (k : ℕ) (v : Matrix F) → HasRowsOfLength F M.dimension v →
      IsInvariant F M k v → SpanWithin F k (λ t. times F M.dimension (v t) (word_value F M word)) k v
  word_value_within is word all k v rows invariant t below =
      word_value_keeps F M is word all k v rows invariant (v t) (rows t) (span_row F k v t below)

  -- where it has no nonzero null vector in an invariant span, it maps that span onto itself
  pub word_value_maps_onto : HasSquareMatrices F M → (word : Word F) → IsWordOf F M word → (k : ℕ) (v : Matrix F) → HasRowsOfLength F M.dimension v →
      IsInvariant F M k v → HasNoNullVectorIn F M.dimension k v (word_value F M word) →
      (y : Vector F) → InSpan F k v y → (x : Vector F) × InSpan F k v x × (times F M.dimension x (word_value F M word) ≡ y)
  word_value_maps_onto is word all k v rows invariant none y within =
      by_null (null_vector_or_onto F M.dimension k v (word_value F M word) rows (word_value_within is word all k v rows invariant))
    where
      by_null : HasNullVectorIn F M.dimension k v (word_value F M word)
          ⊎ ((y : Vector F) → InSpan F k v y → IsOnto F M.dimension k v (word_value F M word) y) →
          (x : Vector F) × InSpan F k v x × (times F M.dimension x (word_value F M word) ≡ y)
      by_null (inl found) = absurd (found.nonzero (none found.vector found.in_span found.vanishes))
      by_null (inr onto) = let found = onto y within in (found.vector, found.in_span, found.maps)
