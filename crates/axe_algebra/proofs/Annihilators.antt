-- Annihilators: of an invariant span they are invariant under the transposes.
use Rattle.std.specs.Prelude.{◌≡◌, ◌≢◌, ℕ, zero, suc, ◌<◌, ◌≤◌, ◌⊎◌}
use Rattle.axe_algebra.specs.Field.{Field}
use Rattle.axe_algebra.specs.Vectors.{Vector, Matrix, HasLength, HasRowsOfLength, HasShape, zero_vector, unit_vector, add_vectors, scale, transposed, times, dot}
use Rattle.axe_algebra.specs.Spans.{InSpan, IsIndependent, IsDependent, SameSpan, SpansZero, SpansAll}
use Rattle.axe_algebra.specs.Reduced.{LeadsAt}
use Rattle.axe_algebra.specs.Modules.{Module, HasSquareMatrices, image, transposed_module, IsInvariant, IsInvariantSet}
use Rattle.axe_algebra.specs.Irreducible.{InAnnihilator}
use Rattle.axe_algebra.specs.NortonTheorems.{SpansAnnihilator}
use Rattle.axe_algebra.proofs.FieldLaws.{mul-zero, mul_left_comm}
use Rattle.axe_algebra.proofs.Sums.{sum_same, sum_zeros, sum-add, mul-sum}
use Rattle.axe_algebra.proofs.ProductLaws.{dot-at, dot_comm, dot_times, times-at, times_length, times_zero_rows, times_unit, unit_length, transposed_is_matrix}
use Rattle.axe_algebra.proofs.Elimination.{eliminate, is_zero_or_leads}
use Rattle.axe_algebra.proofs.Exchange.{cut, cut_length, times_cut, cut_below, basis_of, square_rows_span}
use Rattle.axe_algebra.proofs.Cutting.{cut_matrix, cut_is_matrix, cut_matrix_row}
use Rattle.axe_algebra.proofs.Spaces.{IsSpace, space_has_span, independent_at_most}
use Rattle.axe_algebra.proofs.Spanning.{span_row, span_within}
use mathlib.Core.Logic.{inl, inr}
use mathlib.Core.Path.{refl, sym, ◌∙◌, ap, ap₂, subst}
use native.Mathlib.Omega.{arith}
use native.Mathlib.Decide.{dec_lt, ℕ_discrete}

module _ (F : Field) (n : ℕ) where
  -- v times a sum, a multiple and zero, transposed
  pub dot-add : (v x y : Vector F) → dot F n v (add_vectors F x y) ≡ F.add (dot F n v x) (dot F n v y)
  unfolding dot
  dot-add v x y =
      sum_same F n _ (λ t. F.add (F.mul (v t) (x t)) (F.mul (v t) (y t))) (λ t below. F.mul-add (v t) (x t) (y t))
      ∙ sum-add F n (λ t. F.mul (v t) (x t)) (λ t. F.mul (v t) (y t))

  pub dot-scale : (v : Vector F) (c : F.Element) (x : Vector F) → dot F n v (scale F c x) ≡ F.mul c (dot F n v x)
  unfolding dot
  dot-scale v c x =
      sum_same F n _ (λ t. F.mul c (F.mul (v t) (x t))) (λ t below. mul_left_comm F (v t) c (x t))
      ∙ sym (mul-sum F c n (λ t. F.mul (v t) (x t)))

  pub dot-zero : (v : Vector F) → dot F n v (zero_vector F) ≡ F.zero
  unfolding dot
  dot-zero v = sum_zeros F n _ (λ t below. mul-zero F (v t))

  -- v times the unit vector of j, transposed, is entry j of v
  pub dot-unit : (v : Vector F) (j : ℕ) → j < n → dot F n v (unit_vector F j) ≡ v j
  unfolding dot
  dot-unit v j below =
      dot_comm F n v (unit_vector F j) ∙ sym (times-at F n (unit_vector F j) (λ t s. v t) 0)
      ∙ ap (λ (x : Vector F). x 0) (times_unit F n j (λ t s. v t) below)

  -- the vectors orthogonal to w are a space, and so are those that w is orthogonal to
  pub orthogonal_is_space : (v : Vector F) → IsSpace F (λ x. dot F n v x ≡ F.zero)
  orthogonal_is_space v = record {
    zero = dot-zero v;
    sums = λ x y p q. dot-add v x y ∙ ap₂ F.add p q ∙ F.add-zero F.zero;
    multiples = λ c x p. dot-scale v c x ∙ ap (F.mul c) p ∙ mul-zero F c;
  }

  -- a vector of the annihilator is orthogonal to the whole span
  pub annihilator_of_span : (k : ℕ) (v : Matrix F) (w : Vector F) → InAnnihilator F n k v w → (x : Vector F) → InSpan F k v x → dot F n x w ≡ F.zero
  annihilator_of_span k v w within x in_span =
      dot_comm F n x w
      ∙ space_has_span F (λ y. dot F n w y ≡ F.zero) (orthogonal_is_space w) k v (λ t below. dot_comm F n w (v t) ∙ within.orthogonal t below) x in_span

  -- the annihilator is a space
  pub annihilator_is_space : (k : ℕ) (v : Matrix F) → IsSpace F (InAnnihilator F n k v)
  annihilator_is_space k v = record {
    zero = record { length = λ j past. refl; orthogonal = λ t below. dot-zero (v t) };
    sums = λ x y p q. record {
      length = λ j past. ap₂ F.add (p.length j past) (q.length j past) ∙ F.add-zero F.zero;
      orthogonal = λ t below. (orthogonal_is_space (v t)).sums x y (p.orthogonal t below) (q.orthogonal t below);
    };
    multiples = λ c x p. record {
      length = λ j past. ap (F.mul c) (p.length j past) ∙ mul-zero F c;
      orthogonal = λ t below. (orthogonal_is_space (v t)).multiples c x (p.orthogonal t below);
    };
  }

  -- the annihilator depends on the span alone
  pub annihilator_within : (k : ℕ) (v : Matrix F) (m : ℕ) (w : Matrix F) → ((t : ℕ) → t < k → InSpan F m w (v t)) → (x : Vector F) →
      InAnnihilator F n m w x → InAnnihilator F n k v x
  annihilator_within k v m w within x p = record {
    length = p.length;
    orthogonal = λ t below. annihilator_of_span m w x p (v t) (within t below);
  }

  -- all rows are zero, or one of them has an entry other than 0
  pub zero_rows_or_entry : (k : ℕ) (v : Matrix F) → HasRowsOfLength F n v →
      SpansZero F k v ⊎ ((t : ℕ) × (t < k) × (j : ℕ) × (j < n) × (v t j ≢ F.zero))
  zero_rows_or_entry zero v rows = inl λ t below. absurd (omega arith)
  zero_rows_or_entry (suc k) v rows = by_last (zero_rows_or_entry k v rows) (is_zero_or_leads F n (v k) (rows k))
    where
      by_last : SpansZero F k v ⊎ ((t : ℕ) × (t < k) × (j : ℕ) × (j < n) × (v t j ≢ F.zero)) →
          (v k ≡ zero_vector F) ⊎ ((j : ℕ) × (j < n) × LeadsAt F (v k) j) →
          SpansZero F (suc k) v ⊎ ((t : ℕ) × (t < suc k) × (j : ℕ) × (j < n) × (v t j ≢ F.zero))
      by_last (inr (t, below, j, inside, entry)) _ = inr (t, omega arith, j, inside, entry)
      by_last (inl zeros) (inr (j, inside, leads)) = inr (k, omega arith, j, inside, leads.nonzero)
      by_last (inl zeros) (inl last) = inl λ t below. at t below (ℕ_discrete t k)
        where
          at : (t : ℕ) → t < suc k → Dec (t ≡ k) → v t ≡ zero_vector F
          at t below (yes e) = ap v e ∙ last
          at t below (no other) = zeros t (omega arith)

  -- the annihilator of a nonzero space is proper
  pub annihilator_of_nonzero_is_proper : (k : ℕ) (v : Matrix F) → HasRowsOfLength F n v → ¬ (SpansZero F k v) →
      (x : Vector F) × HasLength F n x × ¬ (InAnnihilator F n k v x)
  annihilator_of_nonzero_is_proper k v rows nonzero = by_entry (zero_rows_or_entry k v rows)
    where
      by_entry : SpansZero F k v ⊎ ((t : ℕ) × (t < k) × (j : ℕ) × (j < n) × (v t j ≢ F.zero)) →
          (x : Vector F) × HasLength F n x × ¬ (InAnnihilator F n k v x)
      by_entry (inl zeros) = absurd (nonzero zeros)
      by_entry (inr (t, below, j, inside, entry)) =
          (unit_vector F j, unit_length F n j inside, λ within. entry (sym (dot-unit (v t) j inside) ∙ within.orthogonal t below))

  -- fewer independent rows than their length have a nonzero vector orthogonal to all of them
  orthogonal_to_few : (r : ℕ) (b : Matrix F) → r < n → (w : Vector F) × (w ≢ zero_vector F) × InAnnihilator F n r b w
  orthogonal_to_few r b few = by_elimination (eliminate F r n (transposed F c) (transposed_is_matrix F r n c shape).columns)
    where
      c : Matrix F
      c = cut_matrix F r n b

      shape : HasShape F r n c
      shape = cut_is_matrix F r n b

      by_elimination : IsDependent F n (transposed F c) ⊎ (IsIndependent F n (transposed F c) × (n ≤ r)) →
          (w : Vector F) × (w ≢ zero_vector F) × InAnnihilator F n r b w
      by_elimination (inr (independent, many)) = absurd (omega arith)
      by_elimination (inl d) = (w, λ e. d.nonzero (sym (cut_below F n d.coefficients d.place d.place-below) ∙ ap (λ (x : Vector F). x d.place) e), within)
        where
          w : Vector F
          w = cut F n d.coefficients

          orthogonal : (t : ℕ) → t < r → dot F n (b t) w ≡ F.zero
          orthogonal t below =
              dot_comm F n (b t) w ∙ dot-at F n w (b t)
              ∙ sum_same F n _ (λ s. F.mul (w s) (c t s)) (λ s inside. ap (F.mul (w s)) (sym (ap (λ (x : Vector F). x s) (cut_matrix_row F r n b t below) ∙ cut_below F n (b t) s inside)))
              ∙ sym (times-at F n w (transposed F c) t)
              ∙ ap (λ (x : Vector F). x t) (times_cut F n d.coefficients (transposed F c) ∙ d.vanishes)

          within : InAnnihilator F n r b w
          within = record { length = cut_length F n d.coefficients; orthogonal = orthogonal }

  -- the annihilator of a proper space is not zero
  pub annihilator_of_proper_is_nonzero : (k : ℕ) (v : Matrix F) → HasRowsOfLength F n v → ¬ (SpansAll F n k v) →
      (w : Vector F) × (w ≢ zero_vector F) × InAnnihilator F n k v w
  annihilator_of_proper_is_nonzero k v rows proper = by_basis (basis_of F n k v rows)
    where
      by_basis : (r : ℕ) × (b : Matrix F) × HasRowsOfLength F n b × IsIndependent F r b × SameSpan F k v r b × (r ≤ k) →
          (w : Vector F) × (w ≢ zero_vector F) × InAnnihilator F n k v w
      by_basis (r, b, lengths, independent, same, at_most) = by_size (dec_lt r n)
        where
          all : r ≡ n → SpansAll F n k v
          all e x length =
              span_within F r b k v x same.back
              (subst (λ m. InSpan F m b x) (sym e) (square_rows_span F n b lengths (subst (λ m. IsIndependent F m b) e independent) x length))

          by_size : Dec (r < n) → (w : Vector F) × (w ≢ zero_vector F) × InAnnihilator F n k v w
          by_size (yes few) =
              let found = orthogonal_to_few r b few in
              (found.0, found.1, annihilator_within k v r b same.forth found.0 found.2)
          by_size (no many) = let within = independent_at_most F n r b lengths independent in absurd (proper (all (omega arith)))

  -- rows that span the annihilator of a nonzero span are proper
  pub annihilator_rows_are_proper : (k : ℕ) (v : Matrix F) → HasRowsOfLength F n v → ¬ (SpansZero F k v) → (r : ℕ) (w : Matrix F) →
      SpansAnnihilator F n k v r w → ¬ (SpansAll F n r w)
  annihilator_rows_are_proper k v rows nonzero r w spans all =
      let outside = annihilator_of_nonzero_is_proper k v rows nonzero in
      outside.2 (spans.forth outside.0 (all outside.0 outside.1))

  -- rows that span the annihilator of a proper span are not all zero
  pub annihilator_rows_are_nonzero : (k : ℕ) (v : Matrix F) → HasRowsOfLength F n v → ¬ (SpansAll F n k v) → (r : ℕ) (w : Matrix F) →
      SpansAnnihilator F n k v r w → ¬ (SpansZero F r w)
  annihilator_rows_are_nonzero k v rows proper r w spans zeros =
      let inside = annihilator_of_proper_is_nonzero k v rows proper in
      let within = spans.back inside.0 inside.2 in
      inside.1 (within.combines ∙ times_zero_rows F r within.coefficients w zeros)

-- a w with w x^T = 0 is orthogonal to every v x
pub null_of_transpose_is_orthogonal : (F : Field) (m n : ℕ) (x : Matrix F) (w : Vector F) → times F n w (transposed F x) ≡ zero_vector F →
    (v : Vector F) → dot F n (times F m v x) w ≡ F.zero
null_of_transpose_is_orthogonal F m n x w vanishes v = dot_times F m n v x w ∙ ap (dot F m v) vanishes ∙ dot-zero F m v

module _ (F : Field) (M : Module F) where
  -- the annihilator of an invariant span is invariant under the transposes
  pub annihilator_is_invariant : HasSquareMatrices F M → (k : ℕ) (v : Matrix F) → IsInvariant F M k v →
      IsInvariantSet F (transposed_module F M) (InAnnihilator F M.dimension k v)
  annihilator_is_invariant is k v invariant = record {
    zero = space.zero;
    sums = space.sums;
    multiples = space.multiples;
    images = λ w i within below. record {
      length = times_length F M.dimension M.dimension w (transposed F (M.generator i))
          (transposed_is_matrix F M.dimension M.dimension (M.generator i) (is.square i below)).columns;
      orthogonal = λ t inside.
          sym (dot_times F M.dimension M.dimension (v t) (M.generator i) w)
          ∙ annihilator_of_span F M.dimension k v w within (image F M (v t) i) (invariant.images t i inside below);
    };
  }
    where
      space : IsSpace F (InAnnihilator F M.dimension k v)
      space = annihilator_is_space F M.dimension k v

  -- rows that span the annihilator of an invariant span have an invariant span under the transposes
  pub annihilator_rows_are_invariant : HasSquareMatrices F M → (k : ℕ) (v : Matrix F) → IsInvariant F M k v → (r : ℕ) (w : Matrix F) →
      SpansAnnihilator F M.dimension k v r w → IsInvariant F (transposed_module F M) r w
  annihilator_rows_are_invariant is k v invariant r w spans = record {
    images = λ t i inside below. spans.back (image F (transposed_module F M) (w t) i)
        ((annihilator_is_invariant is k v invariant).images (w t) i (spans.forth (w t) (span_row F r w t inside)) below);
  }
