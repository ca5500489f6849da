-- Combinations by their first term, and the combination that the coefficients of a product of polynomials make.
use Rattle.std.specs.Prelude.{◌≡◌, ℕ, zero, suc, ◌+◌}
use Rattle.axe_algebra.specs.Field.{Field}
use Rattle.axe_algebra.specs.Vectors.{Vector, Matrix, HasLength, add_vectors, scale, times}
use Rattle.axe_algebra.proofs.ProductLaws.{times-at, times_same, times_zero, times_none, times-scale, times-add_vectors}
use Rattle.axe_algebra.proofs.ProductLaws.{times_longer}
use Rattle.axe_polynomial_algebra.specs.Polynomials.{convolution}
use Rattle.axe_polynomial_algebra.proofs.ConvolutionLaws.{sum_first, product_first, product_later, product_of_zero}
use mathlib.Core.Path.{refl, sym, ◌∙◌, ap, ap₂, fun_ext}
use native.Mathlib.Omega.{arith}

module _ (F : Field) where
  open F use {Element, zero as 𝟘, add as ◌⊕◌, mul as ◌⊗◌}

  infixl 60 ◌⊕◌
  infixl 70 ◌⊗◌
  -- a combination by its first term
  pub times_first : (n : ℕ) (c : Vector F) (a : Matrix F) →
      times F (suc n) c a ≡ add_vectors F (scale F (c 0) (a 0)) (times F n (λ t. c (suc t)) (λ t. a (suc t)))
  times_first n c a = fun_ext λ j.
      times-at F (suc n) c a j ∙ sum_first F n (λ t. c t ⊗ a t j)
      ∙ ap (λ y. c 0 ⊗ a 0 j ⊕ y) (sym (times-at F n (λ t. c (suc t)) (λ t. a (suc t)) j))

  -- the combination with the coefficients of f g: combine with those of g from each place on, and then with those of f
  pub times_product : (a b : ℕ) (f g : Vector F) (rows : Matrix F) → HasLength F a f → HasLength F b g →
      times F (a + b) (convolution F f g) rows ≡ times F a f (λ i. times F b g (λ j. rows (i + j)))
  times_product zero b f g rows of_f of_g =
      ap (λ (c : Vector F). times F (0 + b) c rows) (product_of_zero F f g of_f) ∙ times_zero F (0 + b) rows
      ∙ sym (times_none F f (λ i. times F b g (λ j. rows (i + j))))
  times_product (suc a) b f g rows of_f of_g =
      (let e : suc a + b ≡ suc (a + b) = omega arith in ap (λ k. times F k (convolution F f g) rows) e)
      ∙ times_first (a + b) (convolution F f g) rows
      ∙ ap₂ (add_vectors F) first later
      ∙ regroup
      ∙ ap₂ (add_vectors F) whole
      (times_product a b tail g (λ k. rows (suc k)) (λ t past. of_f (suc t) (omega arith)) of_g ∙ shifted)
      ∙ sym (times_first a f (λ i. times F b g (λ j. rows (i + j))))
    where
      tail : Vector F
      tail = λ t. f (suc t)

      later_g : Vector F
      later_g = λ t. g (suc t)

      later_rows : Matrix F
      later_rows = λ t. rows (suc t)

      -- what the tails of g and of f g combine to
      of_g_later : Vector F
      of_g_later = times F (a + b) later_g later_rows

      of_product_later : Vector F
      of_product_later = times F (a + b) (convolution F tail g) later_rows

      first : scale F (convolution F f g 0) (rows 0) ≡ scale F (f 0) (scale F (g 0) (rows 0))
      first = fun_ext λ j. ap (λ y. y ⊗ rows 0 j) (product_first F f g) ∙ F.mul_assoc (f 0) (g 0) (rows 0 j)

      later : times F (a + b) (λ t. convolution F f g (suc t)) later_rows ≡
          add_vectors F (scale F (f 0) of_g_later) of_product_later
      later =
          ap (λ (c : Vector F). times F (a + b) c later_rows) (fun_ext λ t. product_later F f g t)
          ∙ times-add_vectors F (a + b) (scale F (f 0) later_g) (convolution F tail g) later_rows
          ∙ ap (λ (y : Vector F). add_vectors F y of_product_later) (times-scale F (a + b) (f 0) later_g later_rows)

      regroup : add_vectors F (scale F (f 0) (scale F (g 0) (rows 0)))
          (add_vectors F (scale F (f 0) of_g_later) of_product_later) ≡
          add_vectors F (scale F (f 0) (add_vectors F (scale F (g 0) (rows 0)) of_g_later)) of_product_later
      regroup = fun_ext λ j.
          sym (F.add_assoc (f 0 ⊗ (g 0 ⊗ rows 0 j)) (f 0 ⊗ of_g_later j) (of_product_later j))
          ∙ ap (λ y. y ⊕ of_product_later j) (sym (F.mul-add (f 0) (g 0 ⊗ rows 0 j) (of_g_later j)))

      whole : scale F (f 0) (add_vectors F (scale F (g 0) (rows 0)) of_g_later) ≡
          scale F (f 0) (times F b g (λ j. rows (0 + j)))
      whole =
          ap (scale F (f 0)) (sym (times_first (a + b) g rows)
          ∙ times_longer F b (suc (a + b)) g rows (omega arith) (λ t from below. of_g t from)
          ∙ times_same F b g g rows (λ j. rows (0 + j)) (λ t below. refl)
          (λ t below. let e : t ≡ 0 + t = omega arith in ap rows e))

      shifted : times F a tail (λ i. times F b g (λ j. rows (suc (i + j)))) ≡
          times F a (λ t. f (suc t)) (λ t. times F b g (λ j. rows (suc t + j)))
      shifted = times_same F a tail tail _ (λ t. times F b g (λ j. rows (suc t + j))) (λ t below. refl)
          (λ t below. times_same F b g g _ (λ j. rows (suc t + j)) (λ j inside. refl)
          (λ j inside. let e : suc (t + j) ≡ suc t + j = omega arith in ap rows e))
