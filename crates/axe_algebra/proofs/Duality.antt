-- Modules and their transposes: annihilators, and what irreducible modules have.
use Rattle.std.specs.Prelude.{◌≡◌, ◌≢◌, ℕ, zero, suc, ◌<◌, ◌≤◌, ◌⊎◌}
use Rattle.axe_algebra.specs.Field.{Field}
use Rattle.axe_algebra.specs.Vectors.{Vector, Matrix, HasLength, HasRowsOfLength, zero_vector, unit_matrix}
use Rattle.axe_algebra.specs.Spans.{InSpan, IsIndependent, SameSpan, SpansZero, SpansAll}
use Rattle.axe_algebra.specs.Modules.{Module, HasSquareMatrices, transposed_module, IsInvariant, InGenerated, SpansGenerated, VectorGeneratesAll}
use Rattle.axe_algebra.specs.Irreducible.{IsIrreducible}
use Rattle.axe_algebra.specs.NortonTheorems.{SpansAnnihilator}
use Rattle.axe_algebra.specs.Standard.{IsStandardBasis}
use Rattle.axe_algebra.proofs.ProductLaws.{unit_is_matrix}
use Rattle.axe_algebra.proofs.Spanning.{span_same, span_within, span_row}
use Rattle.axe_algebra.proofs.Exchange.{basis_of, exchange, square_rows_span}
use Rattle.axe_algebra.proofs.Generated.{row_in_generated, generated_is_invariant, spans_generated}
use Rattle.axe_algebra.proofs.Annihilators.{zero_rows_or_entry, annihilator_rows_are_proper, annihilator_rows_are_nonzero, annihilator_rows_are_invariant}
use Rattle.axe_algebra.proofs.NullSpaces.{annihilator_basis}
use Rattle.axe_algebra.proofs.NortonCriterion.{transposed_is_module}
use Rattle.axe_algebra.proofs.StandardBases.{standard_basis_is_invariant}
use Rattle.axe_algebra.proofs.StandardExistence.{standard_basis_exists}
use Rattle.axe_algebra.proofs.Spaces.{independent_at_most}
use Rattle.axe_algebra.proofs.Isomorphisms.{unit_rows_independent}
use mathlib.Core.Logic.{inl, inr}
use mathlib.Core.Path.{sym, ◌∙◌, ap, subst}
use native.Mathlib.Omega.{arith}
use native.Mathlib.Decide.{ℕ_discrete}

-- whether rows span everything is decidable
pub spans_all_or_not : (F : Field) (n k : ℕ) (v : Matrix F) → HasRowsOfLength F n v → Dec (SpansAll F n k v)
spans_all_or_not F n k v rows = by_basis (basis_of F n k v rows)
  where
    by_basis : (r : ℕ) × (w : Matrix F) × HasRowsOfLength F n w × IsIndependent F r w × SameSpan F k v r w × (r ≤ k) → Dec (SpansAll F n k v)
    by_basis (r, w, lengths, independent, same, within) = by_size (ℕ_discrete r n)
      where
        by_size : Dec (r ≡ n) → Dec (SpansAll F n k v)
        by_size (yes e) = yes λ x length.
            span_within F r w k v x same.back
            (subst (λ m. InSpan F m w x) (sym e) (square_rows_span F n w lengths (subst (λ m. IsIndependent F m w) e independent) x length))
        by_size (no other) = no λ all.
            let many = exchange F n (unit_matrix F n) r w (unit_rows_independent F n)
            (λ t below. span_within F k v r w (unit_matrix F n t) same.forth (all (unit_matrix F n t) ((unit_is_matrix F n).columns t))) in
            let few = independent_at_most F n r w lengths independent in
            other (omega arith)

module _ (F : Field) (M : Module F) (is : HasSquareMatrices F M) where
  -- a nonzero proper invariant span of the transposes gives one of the module: rows that span its annihilator
  pub annihilator_of_transposed_span : (k : ℕ) (w : Matrix F) → IsInvariant F (transposed_module F M) k w →
      (r : ℕ) (v : Matrix F) → SpansAnnihilator F M.dimension k w r v → IsInvariant F M r v
  annihilator_of_transposed_span k w invariant = annihilator_rows_are_invariant F (transposed_module F M) (transposed_is_module F M is) k w invariant

  -- the transposes of an irreducible module are an irreducible module
  pub transposed_is_irreducible : IsIrreducible F M → IsIrreducible F (transposed_module F M)
  transposed_is_irreducible irreducible = record { spans = spans }
    where
      spans : (k : ℕ) (w : Matrix F) → HasRowsOfLength F M.dimension w → IsInvariant F (transposed_module F M) k w →
          SpansZero F k w ⊎ SpansAll F M.dimension k w
      spans k w rows invariant = by_entry (zero_rows_or_entry F M.dimension k w rows) (spans_all_or_not F M.dimension k w rows)
        where
          by_entry : SpansZero F k w ⊎ ((t : ℕ) × (t < k) × (j : ℕ) × (j < M.dimension) × (w t j ≢ F.zero)) → Dec (SpansAll F M.dimension k w) →
              SpansZero F k w ⊎ SpansAll F M.dimension k w
          by_entry (inl zeros) _ = inl zeros
          by_entry (inr entry) (yes all) = inr all
          by_entry (inr (t, below, j, inside, entry)) (no proper) = absurd (by_annihilator (annihilator_basis F M.dimension k w rows))
            where
              by_annihilator : (r : ℕ) × (v : Matrix F) × HasRowsOfLength F M.dimension v × SpansAnnihilator F M.dimension k w r v → ⊥
              by_annihilator (r, v, lengths, both) = contradict (irreducible.spans r v lengths (annihilator_of_transposed_span k w invariant r v both))
                where
                  contradict : SpansZero F r v ⊎ SpansAll F M.dimension r v → ⊥
                  contradict (inl zeros) = annihilator_rows_are_nonzero F M.dimension k w rows proper r v both zeros
                  contradict (inr all) =
                      annihilator_rows_are_proper F M.dimension k w rows (λ zeros. entry (ap (λ (x : Vector F). x j) (zeros t below))) r v both all

  -- the rows of a standard basis are in the space that its vector generates
  pub standard_row_in_generated : (v : Vector F) → HasLength F M.dimension v → (m : ℕ) (b : Matrix F) → IsStandardBasis F M v m b →
      (t : ℕ) → t < m → InGenerated F M 1 (λ s. v) (b t)
  standard_row_in_generated v length m b S t below = up_to (suc t) t (omega arith) below
    where
      up_to : (bound t : ℕ) → t < bound → t < m → InGenerated F M 1 (λ s. v) (b t)
      up_to zero t small below = absurd (omega arith)
      up_to (suc bound) t small below = by_place (ℕ_discrete t 0) (λ s. up_to bound s)
        where
          by_place : Dec (t ≡ 0) → ((s : ℕ) → s < bound → s < m → InGenerated F M 1 (λ s. v) (b s)) → InGenerated F M 1 (λ s. v) (b t)
          by_place (yes e) _ = subst (InGenerated F M 1 (λ s. v)) (sym (ap b e ∙ S.first)) (row_in_generated F M 1 (λ s. v) (λ s. length) 0 (omega arith))
          by_place (no other) earlier =
              let before = S.earlier t (omega arith) below in
              subst (InGenerated F M 1 (λ s. v)) (sym (S.equals t (omega arith) below))
              ((generated_is_invariant F M is 1 (λ s. v)).images (b (S.rows t)) (S.generators t)
              (earlier (S.rows t) (omega arith) (omega arith)) (S.generator-below t (omega arith) below))

  -- a standard basis spans the space that its vector generates
  pub standard_basis_spans_generated : (v : Vector F) → HasLength F M.dimension v → (m : ℕ) (b : Matrix F) → IsStandardBasis F M v m b →
      SpansGenerated F M 1 (λ s. v) m b
  standard_basis_spans_generated v length m b S =
      spans_generated F M is 1 (λ s. v) (λ s. length) m b (standard_basis_is_invariant F M v m b S)
      (λ t below. span_same F m b v (b 0) (sym S.first) (span_row F m b 0 S.nonempty))
      (standard_row_in_generated v length m b S)

  -- each nonzero vector of an irreducible module generates everything
  pub nonzero_vector_generates : IsIrreducible F M → (v : Vector F) → HasLength F M.dimension v → v ≢ zero_vector F → VectorGeneratesAll F M v
  nonzero_vector_generates irreducible v length nonzero = by_basis (standard_basis_exists F M v is length nonzero)
    where
      by_basis : (m : ℕ) × (b : Matrix F) × HasRowsOfLength F M.dimension b × IsStandardBasis F M v m b → VectorGeneratesAll F M v
      by_basis (m, b, lengths, S) = by_span (irreducible.spans m b lengths (standard_basis_is_invariant F M v m b S))
        where
          by_span : SpansZero F m b ⊎ SpansAll F M.dimension m b → VectorGeneratesAll F M v
          by_span (inl zeros) = absurd (nonzero (sym S.first ∙ zeros 0 S.nonempty))
          by_span (inr all) = λ x long. (standard_basis_spans_generated v length m b S).forth x (all x long)
