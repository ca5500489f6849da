-- Minimal polynomials: there is one, only one, and it divides exactly what annihilates the vector.
use Rattle.std.specs.Prelude.{◌≡◌, ◌≢◌, ℕ, zero, suc, ◌<◌, ◌≤◌, ◌+◌}
use Rattle.axe_algebra.specs.Field.{Field}
use Rattle.axe_algebra.specs.Vectors.{Vector, Matrix, HasLength, HasShape, zero_vector, add_vectors, times}
use Rattle.axe_algebra.specs.Spans.{InSpan, IsIndependent}
use Rattle.axe_algebra.proofs.FieldLaws.{zero-add, one-mul}
use Rattle.axe_algebra.proofs.ProductLaws.{times_zero, times_longer, times-add_vectors, times_more, times_none}
use Rattle.axe_algebra.proofs.NullSpaces.{last_vector}
use Rattle.axe_polynomial_algebra.specs.Polynomials.{IsMonic, convolution, Divides}
use Rattle.axe_polynomial_algebra.specs.PolynomialValues.{polynomial_value, power_rows, Annihilates}
use Rattle.axe_polynomial_algebra.specs.PolynomialValues.{IsMinimalPolynomial}
use Rattle.axe_polynomial_algebra.specs.PolynomialTheorems.{DivisionWithRemainder}
use Rattle.axe_polynomial_algebra.specs.PolynomialValueTheorems.{MinimalPolynomialExists, MinimalPolynomialIsUnique}
use Rattle.axe_polynomial_algebra.specs.PolynomialValueTheorems.{MinimalPolynomialDivides}
use Rattle.axe_polynomial_algebra.specs.PolynomialValueTheorems.{CombinationGivesMinimalPolynomial}
use Rattle.axe_polynomial_algebra.proofs.ConvolutionLaws.{convolution_length}
use Rattle.axe_polynomial_algebra.proofs.Dividing.{divide}
use Rattle.axe_polynomial_algebra.proofs.ValuePowers.{power_rows_zero, power_rows_length}
use Rattle.axe_polynomial_algebra.proofs.ValueLaws.{times-value, rows_of_product}
use Rattle.axe_polynomial_algebra.proofs.MinimalRows.{relation_of_negated, IsMonicRelation, independent_of_least}
use Rattle.axe_polynomial_algebra.proofs.MinimalRows.{least_of_independent}
use Rattle.axe_polynomial_algebra.proofs.MinimalRows.{relation_of_combination, relation_is_unique, first_combination}
use mathlib.Core.Path.{sym, ◌∙◌, ap, subst, fun_ext}
use native.Mathlib.Omega.{arith}
use native.Mathlib.Decide.{dec_lt}

module _ (F : Field) (n : ℕ) (x : Matrix F) (v : Vector F) where
  -- a monic polynomial that annihilates v is a monic relation of the rows v, v x, v x^2, .., and the other way round
  pub relation_of_annihilating : (d : ℕ) (f : Vector F) → IsMonic F d f → Annihilates F n x v (suc d) f →
      IsMonicRelation F (power_rows F n x v) d f
  relation_of_annihilating d f monic annihilates =
      record { monic = monic; vanishes = sym (times-value F n x (suc d) f v) ∙ annihilates }

  pub annihilates_of_relation : (d : ℕ) (f : Vector F) → IsMonicRelation F (power_rows F n x v) d f →
      Annihilates F n x v (suc d) f
  annihilates_of_relation d f relation = times-value F n x (suc d) f v ∙ relation.vanishes

  -- a monic polynomial of degree d that annihilates v is the minimal one where the first d rows are independent
  pub minimal_of_independent : (d : ℕ) (f : Vector F) → IsIndependent F d (power_rows F n x v) → IsMonic F d f →
      Annihilates F n x v (suc d) f → IsMinimalPolynomial F n x v d f
  minimal_of_independent d f independent monic annihilates = record {
    monic = monic;
    annihilates = annihilates;
    least = λ e g of_g vanishes.
        least_of_independent F (power_rows F n x v) d independent e g (relation_of_annihilating e g of_g vanishes);
  }

  -- and so where v x^d is the combination c of the d independent rows before it, x^d less the sum of the c[t] x^t is
  pub minimal_of_combination : (d : ℕ) (c : Vector F) → IsIndependent F d (power_rows F n x v) →
      power_rows F n x v d ≡ times F d c (power_rows F n x v) → IsMinimalPolynomial F n x v d (last_vector F d c)
  minimal_of_combination d c independent combines =
      let relation = relation_of_combination F (power_rows F n x v) d c combines in
      minimal_of_independent d (last_vector F d c) independent relation.monic
      (annihilates_of_relation d (last_vector F d c) relation)

  -- below the degree of the minimal polynomial the rows are independent
  pub minimal_rows_are_independent : (d : ℕ) (f : Vector F) → IsMinimalPolynomial F n x v d f →
      IsIndependent F d (power_rows F n x v)
  minimal_rows_are_independent d f minimal = independent_of_least F (power_rows F n x v) d λ e g relation.
      minimal.least e g relation.monic (annihilates_of_relation e g relation)

  minimal_relation : (d : ℕ) (f : Vector F) → IsMinimalPolynomial F n x v d f →
      IsMonicRelation F (power_rows F n x v) d f
  minimal_relation d f minimal = relation_of_annihilating d f minimal.monic minimal.annihilates

  pub unique_minimal : (d e : ℕ) (f g : Vector F) → IsMinimalPolynomial F n x v d f → IsMinimalPolynomial F n x v e g →
      (d ≡ e) × (f ≡ g)
  unique_minimal d e f g of_f of_g =
      let at_most = of_f.least e g of_g.monic of_g.annihilates in
      let at_least = of_g.least d f of_f.monic of_f.annihilates in
      same (omega arith)
    where
      same : d ≡ e → (d ≡ e) × (f ≡ g)
      same one = (
        one,
        relation_is_unique F (power_rows F n x v) d f g (minimal_rows_are_independent d f of_f)
            (minimal_relation d f of_f)
            (subst (λ k. IsMonicRelation F (power_rows F n x v) k g) (sym one) (minimal_relation e g of_g)),
      )

  -- a nonzero vector's has positive degree
  pub minimal_degree_is_positive : HasLength F n v → v ≢ zero_vector F → (d : ℕ) (f : Vector F) →
      IsMinimalPolynomial F n x v d f → 0 < d
  minimal_degree_is_positive length nonzero zero f minimal =
      absurd (nonzero (sym (power_rows_zero F n x v length) ∙ (fun_ext λ j.
      sym (one-mul F (power_rows F n x v 0 j)) ∙ ap (λ y. F.mul y (power_rows F n x v 0 j)) (sym minimal.monic.leads)
      ∙ sym (zero-add F (F.mul (f 0) (power_rows F n x v 0 j))))
      ∙ ap (λ (y : Vector F). add_vectors F y (λ j. F.mul (f 0) (power_rows F n x v 0 j)))
      (sym (times_none F f (power_rows F n x v)))
      ∙ sym (times_more F 0 f (power_rows F n x v)) ∙ (minimal_relation 0 f minimal).vanishes))
  minimal_degree_is_positive length nonzero (suc d) f minimal = omega arith

  module _ (shape : HasShape F n n x) where
    -- there is a minimal polynomial, of degree n at most
    pub minimal_within : (d : ℕ) × (d ≤ n) × (f : Vector F) × IsMinimalPolynomial F n x v d f
    minimal_within = found (first_combination F (power_rows F n x v) n (power_rows_length F n x shape v))
      where
        rows : Matrix F
        rows = power_rows F n x v

        found : (d : ℕ) × (d ≤ n) × IsIndependent F d rows × InSpan F d rows (rows d) →
            (d : ℕ) × (d ≤ n) × (f : Vector F) × IsMinimalPolynomial F n x v d f
        found (d, bound, independent, within) = (
          d,
          bound,
          last_vector F d within.coefficients,
          minimal_of_combination d within.coefficients independent within.combines,
        )

    -- the product of f and a polynomial annihilates what f annihilates
    pub annihilates_multiple : (a b : ℕ) (f g : Vector F) → HasLength F a f → HasLength F b g →
        Annihilates F n x v a f → times F (a + b) (convolution F f g) (power_rows F n x v) ≡ zero_vector F
    annihilates_multiple a b f g of_f of_g annihilates =
        rows_of_product F n x shape a b f g v of_f of_g
        ∙ ap (λ (y : Vector F). times F n y (polynomial_value F n b g x)) (sym (times-value F n x a f v) ∙ annihilates)
        ∙ times_zero F n (polynomial_value F n b g x)

    -- it divides exactly the polynomials that annihilate the vector
    pub annihilates_when_divided : (d : ℕ) (f : Vector F) (m : ℕ) (g : Vector F) → IsMinimalPolynomial F n x v d f →
        HasLength F m g → Divides F f g → Annihilates F n x v m g
    annihilates_when_divided d f m g minimal length divides =
        times-value F n x m g v
        ∙ sym (times_longer F m many g rows (omega arith) (λ t from inside. length t from))
        ∙ ap (λ (c : Vector F). times F many c rows) divides.equals
        ∙ times_longer F (suc d + divides.size) many product rows (omega arith)
        (λ t from inside. of_product t (omega arith))
        ∙ annihilates_multiple (suc d) divides.size f divides.quotient minimal.monic.length divides.length
        minimal.annihilates
      where
        rows : Matrix F
        rows = power_rows F n x v

        product : Vector F
        product = convolution F f divides.quotient

        -- so many coefficients have g and the product
        many : ℕ
        many = m + (suc d + divides.size)

        of_product : HasLength F (d + divides.size) product
        of_product = convolution_length F d divides.size f divides.quotient minimal.monic.length divides.length

    pub divides_annihilating : (d : ℕ) (f : Vector F) (m : ℕ) (g : Vector F) → IsMinimalPolynomial F n x v d f →
        HasLength F m g → Annihilates F n x v m g → Divides F f g
    divides_annihilating d f m g minimal length annihilates = by_division (divide F d m f g minimal.monic length)
      where
        by_division : DivisionWithRemainder F d m f g → Divides F f g
        by_division found = record {
          quotient = found.quotient;
          size = m;
          length = found.length;
          equals =
              found.division.equals ∙ ap (add_vectors F product) (fun_ext λ t. none t (dec_lt t d))
              ∙ fun_ext λ t. F.add-zero (product t);
        }
          where
            product : Vector F
            product = convolution F f found.quotient

            rows : Matrix F
            rows = power_rows F n x v

            -- so many coefficients have g, the product and the remainder
            many : ℕ
            many = suc d + m

            of_remainder : times F d found.remainder rows ≡ zero_vector F
            of_remainder =
                sym
                (times_longer F d many found.remainder rows (omega arith)
                (λ t from inside. found.division.small t from))
                ∙ (fun_ext λ j. sym (zero-add F (times F many found.remainder rows j)))
                ∙ ap (λ (y : Vector F). add_vectors F y (times F many found.remainder rows))
                (sym
                (annihilates_multiple (suc d) m f found.quotient minimal.monic.length found.length minimal.annihilates))
                ∙ sym (times-add_vectors F many product found.remainder rows)
                ∙ ap (λ (c : Vector F). times F many c rows) (sym found.division.equals)
                ∙ times_longer F m many g rows (omega arith) (λ t from inside. length t from)
                ∙ sym (times-value F n x m g v) ∙ annihilates

            none : (t : ℕ) → Dec (t < d) → found.remainder t ≡ F.zero
            none t (yes below) =
                (minimal_rows_are_independent d f minimal).only_zero found.remainder of_remainder t below
            none t (no past) = found.division.small t (omega arith)

module _ (F : Field) where
  pub minimal_polynomial_exists : MinimalPolynomialExists F
  minimal_polynomial_exists n x v shape length = let found = minimal_within F n x v shape in (found.0, found.2, found.3)

  pub minimal_polynomial_is_unique : MinimalPolynomialIsUnique F
  minimal_polynomial_is_unique n x v d e f g shape length = unique_minimal F n x v d e f g

  pub minimal_polynomial_divides : MinimalPolynomialDivides F
  minimal_polynomial_divides n x v d f m g shape length minimal of_g = (
    annihilates_when_divided F n x v shape d f m g minimal of_g,
    divides_annihilating F n x v shape d f m g minimal of_g,
  )

  pub combination_gives_minimal_polynomial : CombinationGivesMinimalPolynomial F
  combination_gives_minimal_polynomial n x v d c f independent combines monic negated =
      minimal_of_independent F n x v d f independent monic
      (annihilates_of_relation F n x v d f (relation_of_negated F (power_rows F n x v) d c f monic negated combines))
