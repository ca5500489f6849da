-- Whether a polynomial fits a square matrix: decidable, and told by any basis of the null space.
use Rattle.std.specs.Prelude.{◌≡◌, ◌↔◌, ℕ, suc, ◌≤◌, length}
use Rattle.axe_algebra.specs.NumberField.{NumberField}
use Rattle.axe_algebra.specs.Field.{Field}
use Rattle.axe_algebra.specs.Vectors.{Vector, Matrix, HasRowsOfLength, HasShape}
use Rattle.axe_algebra.specs.Spans.{IsIndependent, SameSpan, IsNullVector}
use Rattle.axe_algebra.specs.Bridge.{field_of, vector_of, matrix_of}
use Rattle.axe_algebra.specs.Lists.{IsSquareOver}
use Rattle.axe_algebra.specs.NortonTheorems.{SpansNullSpace}
use Rattle.axe_algebra.proofs.Spanning.{span_row, span_within}
use Rattle.axe_algebra.proofs.Exchange.{exchange, basis_of}
use Rattle.axe_algebra.proofs.NullSpaces.{null_space_basis}
use Rattle.axe_algebra.proofs.ReducedBases.{reduced_independent}
use Rattle.axe_algebra.proofs.ListEntries.{rows_length, square_shape}
use Rattle.axe_polynomial_algebra.specs.PolynomialValues
use Rattle.axe_polynomial_algebra.specs.PolynomialValues.{polynomial_value}
use Rattle.axe_polynomial_algebra.specs.PolynomialsOfLists.{degree_of}
use Rattle.axe_polynomial_algebra.specs.PolynomialListTheorems.{FitsIsDecidable, FitsExactlyByNullity}
use Rattle.axe_polynomial_algebra.proofs.ValueLaws.{value_is_matrix}
use mathlib.Core.Path.{sym, ◌∙◌, ap, subst}
use native.Mathlib.Omega.{arith}
use native.Mathlib.Decide.{ℕ_discrete}

module _ (F : Field) (n : ℕ) where
  -- independent rows that span the null space of a matrix are equally many
  pub nullity_is_unique : (a : Matrix F) (r : ℕ) (b : Matrix F) (s : ℕ) (c : Matrix F) →
      SpansNullSpace F n a r b → IsIndependent F r b → SpansNullSpace F n a s c → IsIndependent F s c → r ≡ s
  nullity_is_unique a r b s c of_b independent_b of_c independent_c = omega (arith, at_most, at_least)
    where
      at_most : r ≤ s
      at_most =
          exchange F r b s c independent_b (λ t below. of_c.back (b t) (of_b.forth (b t) (span_row F r b t below)))

      at_least : s ≤ r
      at_least =
          exchange F s c r b independent_c (λ t below. of_b.back (c t) (of_c.forth (c t) (span_row F s c t below)))

  -- so a polynomial fits where their number is its degree, and only there
  pub fits_by_basis : (x : Matrix F) (d : ℕ) (p : Vector F) (r : ℕ) (b : Matrix F) →
      SpansNullSpace F n (polynomial_value F n (suc d) p x) r b → IsIndependent F r b →
      PolynomialValues.Fits F n x d p ↔ (r ≡ d)
  fits_by_basis x d p r b spans independent = (
    (λ fits.
        nullity_is_unique (polynomial_value F n (suc d) p x) r b d fits.basis spans independent fits.spans
        fits.independent),
    (λ same. record {
      basis = b;
      spans = subst (λ k. SpansNullSpace F n (polynomial_value F n (suc d) p x) k b) same spans;
      independent = subst (λ k. IsIndependent F k b) same independent;
    }),
  )

  -- whether it fits is decidable
  pub fits_or_not : (x : Matrix F) (d : ℕ) (p : Vector F) → HasShape F n n x → Dec (PolynomialValues.Fits F n x d p)
  fits_or_not x d p shape = by_rows (null_space_basis F n n a (value_is_matrix F n x shape (suc d) p).columns)
    where
      a : Matrix F
      a = polynomial_value F n (suc d) p x

      by_rows : (r : ℕ) × (b : Matrix F) × SpansNullSpace F n a r b → Dec (PolynomialValues.Fits F n x d p)
      by_rows (r, b, spans) = by_basis (basis_of F n r b spans.lengths)
        where
          by_basis : (s : ℕ) × (c : Matrix F) × HasRowsOfLength F n c × IsIndependent F s c ×
              SameSpan F r b s c × (s ≤ r) → Dec (PolynomialValues.Fits F n x d p)
          by_basis (s, c, lengths, independent, same, bound) = by_size (ℕ_discrete s d)
            where
              of_c : SpansNullSpace F n a s c
              of_c = record {
                lengths = lengths;
                forth = λ y within. spans.forth y (span_within F s c r b y same.back within);
                back = λ y null. span_within F r b s c y same.forth (spans.back y null);
              }

              by_size : Dec (s ≡ d) → Dec (PolynomialValues.Fits F n x d p)
              by_size (yes e) = yes ((fits_by_basis x d p s c of_c independent).1 e)
              by_size (no other) = no λ fits. other ((fits_by_basis x d p s c of_c independent).0 fits)

module _ (K : NumberField) where
  abbrev F : Field
  F = field_of K

  pub fits_is_decidable : FitsIsDecidable K
  fits_is_decidable n x p square =
      fits_or_not F (length x) (matrix_of K x) (degree_of p) (vector_of K p)
      (square_shape K (length x) x (subst (λ m. IsSquareOver K m x) (sym square.length_is) square))

  -- p fits x exactly where the basis of the null space of p(x) has as many rows as the degree of p
  pub fits_exactly : FitsExactlyByNullity K
  fits_exactly x p value basis over is over_basis is_basis =
      fits_by_basis F (length x) (matrix_of K x) (degree_of p) (vector_of K p) (length basis) (matrix_of K basis)
      (subst (λ (a : Matrix F). SpansNullSpace F (length x) a (length basis) (matrix_of K basis)) same (record {
        lengths = rows_length K (length x) basis over_basis;
        forth = λ y within. subst (NullAt y) is.square.length_is (is_basis.forth y within);
        back = λ y null. is_basis.back y (subst (NullAt y) (sym is.square.length_is) null);
      }))
      (reduced_independent F (length basis) (matrix_of K basis) (length basis) (matrix_of K basis) is_basis.reduced)
    where
      NullAt : Vector F → ℕ → Type 0
      NullAt y k = IsNullVector F k (matrix_of K value) y

      coefficients : length p ≡ suc (degree_of p)
      coefficients = omega (arith, over.positive)

      same : matrix_of K value ≡ polynomial_value F (length x) (suc (degree_of p)) (vector_of K p) (matrix_of K x)
      same = is.equals ∙ ap (λ m. polynomial_value F (length x) m (vector_of K p) (matrix_of K x)) coefficients
