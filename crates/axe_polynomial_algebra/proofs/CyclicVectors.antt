-- Cyclic vectors: where the minimal polynomial g of v under x has as many degrees as x has rows, the rows v, v x, .. are
-- a basis. So for g = f k the rows v f(x), v x f(x), .. below the degree of k are a basis of what f(x) maps onto, which
-- is the null space of k(x).
use Rattle.std.specs.Prelude.{◌≡◌, ℕ, suc, ◌+◌, ◌<◌}
use Rattle.axe_algebra.specs.Field.{Field}
use Rattle.axe_algebra.specs.Vectors.{Vector, Matrix, HasLength, HasShape, zero_vector, add_vectors, times, multiply}
use Rattle.axe_algebra.specs.Vectors.{unit_vector}
use Rattle.axe_algebra.specs.Spans.{InSpan, IsIndependent, SameSpan, SpansAll, IsNullVector}
use Rattle.axe_algebra.proofs.FieldLaws.{zero-add}
use Rattle.axe_algebra.proofs.ProductLaws.{times_times, times_longer, times_length, times_unit, times-add_vectors}
use Rattle.axe_algebra.proofs.ProductLaws.{times_zero_coefficients, unit_length}
use Rattle.axe_algebra.proofs.Spanning.{span_length, span_same}
use Rattle.axe_algebra.proofs.Exchange.{square_rows_span, cut, cut_below, cut_length, times_cut}
use Rattle.axe_polynomial_algebra.specs.Polynomials.{IsMonic, convolution, Divides}
use Rattle.axe_polynomial_algebra.specs.PolynomialValues.{polynomial_value, power_rows, IsMinimalPolynomial, Fits}
use Rattle.axe_polynomial_algebra.specs.PolynomialTheorems.{DivisionWithRemainder, MonicCofactor}
use Rattle.axe_polynomial_algebra.specs.PolynomialValueTheorems.{CyclicDivisorFits, CyclicRowsSpanValue}
use Rattle.axe_polynomial_algebra.proofs.ConvolutionLaws.{convolution_comm, convolution_length}
use Rattle.axe_polynomial_algebra.proofs.Dividing.{divide, small_multiple_is_zero, plus_zero}
use Rattle.axe_polynomial_algebra.proofs.Cofactors.{cofactor_is_monic}
use Rattle.axe_polynomial_algebra.proofs.ValuePowers.{power_rows_length}
use Rattle.axe_polynomial_algebra.proofs.ValueLaws.{times-value, value_is_matrix, rows_of_product}
use Rattle.axe_polynomial_algebra.proofs.MinimalPolynomials.{minimal_rows_are_independent, annihilates_multiple}
use mathlib.Core.Path.{refl, sym, ◌∙◌, ap, ap₂, subst, fun_ext}
use native.Mathlib.Omega.{arith}
use native.Mathlib.Decide.{dec_lt}

module _ (F : Field) (n : ℕ) (x : Matrix F) (v g : Vector F) (shape : HasShape F n n x)
    (minimal : IsMinimalPolynomial F n x v n g) where
  -- the rows v, v x, v x^2 and so on
  abbrev power : Matrix F
  power = power_rows F n x v

  -- f(x), for f of degree d
  abbrev value : ℕ → Vector F → Matrix F
  value d f = polynomial_value F n (suc d) f x

  -- the rows v f(x), v x f(x) and so on
  abbrev image_rows : ℕ → Vector F → Matrix F
  image_rows d f = multiply F n power (value d f)

  cyclic_rows_are_independent : IsIndependent F n power
  cyclic_rows_are_independent = minimal_rows_are_independent F n x v n g minimal

  -- the first n of them span everything
  cyclic_rows_span : SpansAll F n n power
  cyclic_rows_span = square_rows_span F n power (power_rows_length F n x shape v) cyclic_rows_are_independent

  combination_length : (m : ℕ) (c : Vector F) → HasLength F n (times F m c power)
  combination_length m c = times_length F m n c power (power_rows_length F n x shape v)

  -- so each vector is v q(x) for some q with n coefficients
  polynomial_of : (y : Vector F) → HasLength F n y → (q : Vector F) × HasLength F n q × (y ≡ times F n q power)
  polynomial_of y length = by_span (cyclic_rows_span y length)
    where
      by_span : InSpan F n power y → (q : Vector F) × HasLength F n q × (y ≡ times F n q power)
      by_span within = (
        cut F n within.coefficients,
        cut_length F n within.coefficients,
        within.combines ∙ sym (times_cut F n within.coefficients power),
      )

  -- and g annihilates it, for g q annihilates v
  annihilates_all : (y : Vector F) → HasLength F n y → times F n y (value n g) ≡ zero_vector F
  annihilates_all y length = by_polynomial (polynomial_of y length)
    where
      by_polynomial : (q : Vector F) × HasLength F n q × (y ≡ times F n q power) →
          times F n y (value n g) ≡ zero_vector F
      by_polynomial (q, of_q, equals) =
          ap (λ (z : Vector F). times F n z (value n g)) equals
          ∙ sym (rows_of_product F n x shape n (suc n) q g v of_q minimal.monic.length)
          ∙ (let e : n + suc n ≡ suc n + n = omega arith in ap (λ k. times F k (convolution F q g) power) e)
          ∙ ap (λ (c : Vector F). times F (suc n + n) c power) (convolution_comm F q g)
          ∙ annihilates_multiple F n x v shape (suc n) n g q minimal.monic.length of_q minimal.annihilates

  -- each vector is z k(x) and a combination of the first b rows, for k of degree b: divide by k
  record DividedVector (b : ℕ) (k w : Vector F) : Type 0 where
    image : Vector F
    image_length : HasLength F n image
    remainder : Vector F
    equals : w ≡ add_vectors F (times F n image (value b k)) (times F b remainder power)

  divide_vector : (b : ℕ) (k : Vector F) → IsMonic F b k → (w : Vector F) → HasLength F n w → DividedVector b k w
  divide_vector b k of_k w length = by_polynomial (polynomial_of w length)
    where
      by_polynomial : (q : Vector F) × HasLength F n q × (w ≡ times F n q power) → DividedVector b k w
      by_polynomial (q, of_q, equals) = by_division (divide F b n k q of_k of_q)
        where
          -- so many coefficients have q, the product and the remainder
          many : ℕ
          many = n + suc b

          by_division : DivisionWithRemainder F b n k q → DividedVector b k w
          by_division found = record {
            image = times F n found.quotient power;
            image_length = combination_length n found.quotient;
            remainder = found.remainder;
            equals =
                equals ∙ sym (times_longer F n many q power (omega arith) (λ t from inside. of_q t from))
                ∙ ap (λ (c : Vector F). times F many c power)
                (found.division.equals
                ∙ ap (λ (c : Vector F). add_vectors F c found.remainder) (convolution_comm F k found.quotient))
                ∙ times-add_vectors F many (convolution F found.quotient k) found.remainder power
                ∙ ap₂ (add_vectors F)
                (rows_of_product F n x shape n (suc b) found.quotient k v found.length of_k.length)
                (times_longer F b many found.remainder power (omega arith)
                (λ t from inside. found.division.small t from));
          }

  -- (y f(x)) k(x) = 0 for g = f k
  product_vanishes : (a b : ℕ) (f k : Vector F) → IsMonic F a f → IsMonic F b k → a + b ≡ n → g ≡ convolution F f k →
      (y : Vector F) → HasLength F n y → times F n (times F n y (value a f)) (value b k) ≡ zero_vector F
  product_vanishes a b f k of_f of_k sum product y length =
      ap (λ (z : Vector F). times F n z (value b k)) (times-value F n x (suc a) f y)
      ∙ sym (rows_of_product F n x shape (suc a) (suc b) f k y of_f.length of_k.length)
      ∙ ap (λ (c : Vector F). times F (suc a + suc b) c (power_rows F n x y)) (sym product)
      ∙ times_longer F (suc n) (suc a + suc b) g (power_rows F n x y) (omega arith)
      (λ t from inside. minimal.monic.length t from)
      ∙ sym (times-value F n x (suc n) g y) ∙ annihilates_all y length

  -- for g = f k: the rows v f(x), v x f(x) and so on, as many as the degree of k
  module _ (a b : ℕ) (f k : Vector F) (of_f : IsMonic F a f) (of_k : IsMonic F b k) (sum : a + b ≡ n)
      (product : g ≡ convolution F f k) where
    -- they are independent: a relation gives a multiple of f with n coefficients that annihilates v
    image_rows_are_independent : IsIndependent F b (image_rows a f)
    image_rows_are_independent = record {
      only_zero = λ c vanishes t below.
          sym (cut_below F b c t below)
          ∙ ap (λ (y : Vector F). y t)
          (small_multiple_is_zero F a b f (cut F b c) of_f (cut_length F b c)
          (λ j past. no_coefficients c vanishes j (dec_lt j n)));
    }
      where
        of_multiple : (c : Vector F) → HasLength F n (convolution F f (cut F b c))
        of_multiple c =
            subst (λ m. HasLength F m (convolution F f (cut F b c))) sum
            (convolution_length F a b f (cut F b c) of_f.length (cut_length F b c))

        relation : (c : Vector F) → times F b c (image_rows a f) ≡ zero_vector F →
            times F n (convolution F f (cut F b c)) power ≡ zero_vector F
        relation c vanishes =
            sym (times_longer F n (b + suc a) (convolution F f (cut F b c)) power (omega arith)
            (λ t from inside. of_multiple c t from))
            ∙ ap (λ (y : Vector F). times F (b + suc a) y power) (convolution_comm F f (cut F b c))
            ∙ rows_of_product F n x shape b (suc a) (cut F b c) f v (cut_length F b c) of_f.length
            ∙ ap (λ (y : Vector F). times F n y (value a f)) (times_cut F b c power)
            ∙ times_times F n b c power (value a f) ∙ vanishes

        no_coefficients : (c : Vector F) → times F b c (image_rows a f) ≡ zero_vector F → (j : ℕ) → Dec (j < n) →
            convolution F f (cut F b c) j ≡ F.zero
        no_coefficients c vanishes j (yes below) =
            cyclic_rows_are_independent.only_zero (convolution F f (cut F b c)) (relation c vanishes) j below
        no_coefficients c vanishes j (no past) = of_multiple c j (omega arith)

    -- they span each w f(x): the remainder of w by k gives the combination
    image_is_spanned : (w : Vector F) → HasLength F n w → InSpan F b (image_rows a f) (times F n w (value a f))
    image_is_spanned w length = record {
      coefficients = divided.remainder;
      combines =
          ap (λ (y : Vector F). times F n y (value a f)) divided.equals
          ∙ times-add_vectors F n (times F n divided.image (value b k)) (times F b divided.remainder power) (value a f)
          ∙ ap (λ (y : Vector F). add_vectors F y (times F n (times F b divided.remainder power) (value a f)))
          (product_vanishes b a k f of_k of_f (omega arith) (product ∙ convolution_comm F f k) divided.image
          divided.image_length)
          ∙ (fun_ext λ j. zero-add F (times F n (times F b divided.remainder power) (value a f) j))
          ∙ times_times F n b divided.remainder power (value a f);
    }
      where
        divided : DividedVector b k w
        divided = divide_vector b k of_k w length

    -- and they are null vectors of k(x)
    image_is_null : (y : Vector F) → InSpan F b (image_rows a f) y → IsNullVector F n (value b k) y
    image_is_null y within = record {
      length = span_length F n b (image_rows a f) y
          (λ i. times_length F n n (power i) (value a f) (value_is_matrix F n x shape (suc a) f).columns) within;
      vanishes =
          ap (λ (z : Vector F). times F n z (value b k))
          (within.combines ∙ sym (times_times F n b within.coefficients power (value a f)))
          ∙ product_vanishes a b f k of_f of_k sum product (times F b within.coefficients power)
          (combination_length b within.coefficients);
    }

  -- so for a monic divisor p of g the rows v h(x), v x h(x), .., with its cofactor h, are a basis of the null space of p(x)
  module _ (d : ℕ) (p : Vector F) (of_p : IsMonic F d p) (divides : Divides F p g) where
    cofactor : MonicCofactor F d n p g
    cofactor = cofactor_is_monic F d n p g of_p minimal.monic divides

    abbrev h : Vector F
    h = cofactor.quotient

    abbrev e : ℕ
    e = cofactor.degree

    swapped_degrees : e + d ≡ n
    swapped_degrees = omega (arith, cofactor.sum)

    swapped_product : g ≡ convolution F h p
    swapped_product = cofactor.equals ∙ convolution_comm F p h

    -- a null vector of p(x) is z h(x) and a combination of the first e rows, which p(x) takes to zero: it has no terms
    null_is_spanned : (y : Vector F) → IsNullVector F n (value d p) y → InSpan F d (image_rows e h) y
    null_is_spanned y null =
        span_same F d (image_rows e h) y image
        (divided.equals
        ∙ ap (add_vectors F image) (times_zero_coefficients F e divided.remainder power no_terms) ∙ plus_zero F image)
        (image_is_spanned e d h p cofactor.monic of_p swapped_degrees swapped_product divided.image divided.image_length)
      where
        divided : DividedVector e h y
        divided = divide_vector e h cofactor.monic y null.length

        image : Vector F
        image = times F n divided.image (value e h)

        rest : Vector F
        rest = times F e divided.remainder power

        relation : times F e divided.remainder (image_rows d p) ≡ zero_vector F
        relation =
            sym (times_times F n e divided.remainder power (value d p))
            ∙ (fun_ext λ j. sym (zero-add F (times F n rest (value d p) j)))
            ∙ ap (λ (z : Vector F). add_vectors F z (times F n rest (value d p)))
            (sym
            (product_vanishes e d h p cofactor.monic of_p swapped_degrees swapped_product divided.image
            divided.image_length))
            ∙ sym (times-add_vectors F n image rest (value d p))
            ∙ ap (λ (z : Vector F). times F n z (value d p)) (sym divided.equals) ∙ null.vanishes

        no_terms : (t : ℕ) → t < e → divided.remainder t ≡ F.zero
        no_terms =
            (image_rows_are_independent d e p h of_p cofactor.monic cofactor.sum cofactor.equals).only_zero
            divided.remainder relation

    pub divisor_fits : Fits F n x d p
    divisor_fits = record {
      basis = image_rows e h;
      spans = record {
        lengths = λ i. times_length F n n (power i) (value e h) (value_is_matrix F n x shape (suc e) h).columns;
        forth = image_is_null e d h p cofactor.monic of_p swapped_degrees swapped_product;
        back = null_is_spanned;
      };
      independent = image_rows_are_independent e d h p cofactor.monic of_p swapped_degrees swapped_product;
    }

    -- and the rows v p(x), v x p(x), .. span what the rows of p(x) span: row k of p(x) is the unit vector of k times p(x)
    pub rows_span_value : (r : ℕ) → r + d ≡ n → SameSpan F r (image_rows d p) n (value d p)
    rows_span_value r degrees = subst (λ m. SameSpan F m (image_rows d p) n (value d p)) same_size (record {
      forth = λ t below. record { coefficients = power t; combines = refl };
      back = λ k below.
          span_same F e (image_rows d p) (value d p k) (times F n (unit_vector F k) (value d p))
          (sym (times_unit F n k (value d p) below))
          (image_is_spanned d e p h of_p cofactor.monic cofactor.sum cofactor.equals (unit_vector F k)
          (unit_length F n k below));
    })
      where
        same_size : e ≡ r
        same_size = omega (arith, cofactor.sum)

module _ (F : Field) where
  pub cyclic_divisor_fits : CyclicDivisorFits F
  cyclic_divisor_fits n x v g d p shape length minimal of_p divides =
      divisor_fits F n x v g shape minimal d p of_p divides

  pub cyclic_rows_span_value : CyclicRowsSpanValue F
  cyclic_rows_span_value n x v g d p r shape length minimal of_p divides =
      rows_span_value F n x v g shape minimal d p of_p divides r
