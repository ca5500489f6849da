-- Rows in a sequence: the first that is a combination of those before it, as a monic polynomial of least degree.
use Rattle.std.specs.Prelude.{◌≡◌, ◌≢◌, ℕ, zero, suc, ◌<◌, ◌≤◌, ◌⊎◌, ◌+◌}
use Rattle.axe_algebra.specs.Field.{Field}
use Rattle.axe_algebra.specs.Vectors.{Vector, Matrix, HasLength, HasRowsOfLength, zero_vector, add_vectors, scale}
use Rattle.axe_algebra.specs.Vectors.{subtract, times}
use Rattle.axe_algebra.specs.Spans.{InSpan, IsIndependent}
use Rattle.axe_algebra.proofs.FieldLaws.{zero-add, neg-add, one-mul, mul-zero, inv-mul, same_of_difference}
use Rattle.axe_algebra.proofs.FieldLaws.{difference_of_same}
use Rattle.axe_algebra.proofs.ProductLaws.{times_zero, times_more, times_longer, times-scale, times-subtract}
use Rattle.axe_algebra.proofs.ProductLaws.{times_same}
use Rattle.axe_algebra.proofs.Exchange.{cut, cut_below, cut_length, times_cut, with_row, with_row_before, with_row_at}
use Rattle.axe_algebra.proofs.Exchange.{spanned_or_independent}
use Rattle.axe_algebra.proofs.NullSpaces.{last_vector, last_vector_at, last_vector_is_null}
use Rattle.axe_algebra.proofs.Spaces.{independent_at_most}
use Rattle.axe_polynomial_algebra.specs.Polynomials.{IsMonic}
use Rattle.axe_polynomial_algebra.proofs.Cofactors.{zero_or_degree}
use mathlib.Core.Logic.{inl, inr}
use mathlib.Core.Path.{refl, sym, ◌∙◌, ap, ap₂, fun_ext}
use native.Mathlib.Omega.{arith}
use native.Mathlib.Decide.{ℕ_discrete, dec_lt}

module _ (F : Field) where
  open F use {Element, zero as 𝟘, one as 𝟙}

  -- a monic polynomial of degree d, with which the rows combine to zero
  pub record IsMonicRelation (rows : Matrix F) (d : ℕ) (f : Vector F) : Type 0 where
    pub monic : IsMonic F d f
    pub vanishes : times F (suc d) f rows ≡ zero_vector F

  module _ (rows : Matrix F) where
    -- a monic relation of degree below m
    record RelationBelow (m : ℕ) : Type 0 where
      pub degree : ℕ
      pub degree-below : degree < m
      pub polynomial : Vector F
      pub relation : IsMonicRelation rows degree polynomial

    -- the first m entries of c are zero
    abbrev AreZero : ℕ → Vector F → Type 0
    AreZero m c = (t : ℕ) → t < m → c t ≡ 𝟘

    -- a combination that is zero gives a monic one of degree below the number of rows, or its coefficients are zero
    relation_or_zeros : (m : ℕ) (c : Vector F) → times F m c rows ≡ zero_vector F → RelationBelow m ⊎ AreZero m c
    relation_or_zeros m c vanishes = cases (zero_or_degree F m f (cut_length F m c))
      where
        f : Vector F
        f = cut F m c

        cases : (f ≡ zero_vector F) ⊎ ((e : ℕ) × (f e ≢ 𝟘) × HasLength F (suc e) f) → RelationBelow m ⊎ AreZero m c
        cases (inl none) = inr λ t below. sym (cut_below F m c t below) ∙ ap (λ (y : Vector F). y t) none
        cases (inr (e, nonzero, length)) =
            inl (record { degree = e; degree-below = below; polynomial = g; relation = relation })
          where
            below : e < m
            below = by_place (dec_lt e m)
              where
                by_place : Dec (e < m) → e < m
                by_place (yes inside) = inside
                by_place (no past) = absurd (nonzero (cut_length F m c e (omega arith)))

            g : Vector F
            g = scale F (F.inv (f e)) f

            relation : IsMonicRelation rows e g
            relation = record {
              monic = record {
                leads = inv-mul F (f e) nonzero;
                length = λ j past. ap (F.mul (F.inv (f e))) (length j past) ∙ mul-zero F (F.inv (f e));
              };
              vanishes =
                  times-scale F (suc e) (F.inv (f e)) f rows
                  ∙ ap (scale F (F.inv (f e)))
                  (sym (times_longer F (suc e) m f rows (omega (arith, below)) (λ t from inside. length t from))
                  ∙ times_cut F m c rows ∙ vanishes)
                  ∙ fun_ext λ j. mul-zero F (F.inv (f e));
            }

    -- where each monic relation has degree d at least, the first d rows are independent
    pub independent_of_least : (d : ℕ) → ((e : ℕ) (g : Vector F) → IsMonicRelation rows e g → d ≤ e) →
        IsIndependent F d rows
    independent_of_least d least = record { only_zero = λ c vanishes. zeros c (relation_or_zeros d c vanishes) }
      where
        zeros : (c : Vector F) → RelationBelow d ⊎ AreZero d c → AreZero d c
        zeros c (inr all) = all
        zeros c (inl found) =
            let at_least : d ≤ found.degree = least found.degree found.polynomial found.relation in
            absurd (omega (arith, found.degree-below))

    -- where the first d rows are independent, each monic relation has degree d at least
    pub least_of_independent : (d : ℕ) → IsIndependent F d rows → (e : ℕ) (g : Vector F) → IsMonicRelation rows e g →
        d ≤ e
    least_of_independent d independent e g relation = by_degree (dec_lt e d)
      where
        by_degree : Dec (e < d) → d ≤ e
        by_degree (no other) = omega arith
        by_degree (yes below) =
            absurd (F.one-not-zero (sym relation.monic.leads ∙ independent.only_zero g
            (times_longer F (suc e) d g rows (omega arith) (λ t from inside. relation.monic.length t from)
            ∙ relation.vanishes) e below))

    -- a row that is a combination of those before it gives a monic relation
    pub relation_of_combination : (d : ℕ) (c : Vector F) → rows d ≡ times F d c rows →
        IsMonicRelation rows d (last_vector F d c)
    relation_of_combination d c combines =
        let null = last_vector_is_null F d rows c combines in
        record { monic = record { leads = last_vector_at F d c; length = null.length }; vanishes = null.vanishes }

    -- and so does one whose coefficients are taken away
    pub relation_of_negated : (d : ℕ) (c f : Vector F) → IsMonic F d f → ((t : ℕ) → t < d → f t ≡ F.neg (c t)) →
        rows d ≡ times F d c rows → IsMonicRelation rows d f
    relation_of_negated d c f monic negated combines = record { monic = monic; vanishes = vanishes }
      where
        minus : Vector F
        minus = subtract F (zero_vector F) c

        vanishes : times F (suc d) f rows ≡ zero_vector F
        vanishes =
            times_more F d f rows
            ∙ ap (λ (y : Vector F). add_vectors F y (scale F (f d) (rows d)))
            (times_same F d f minus rows rows (λ t below. negated t below ∙ sym (zero-add F (F.neg (c t))))
            (λ t below. refl)
            ∙ times-subtract F d (zero_vector F) c rows ∙ ap₂ (subtract F) (times_zero F d rows) (sym combines))
            ∙ fun_ext λ j.
            ap₂ F.add (zero-add F (F.neg (rows d j))) (ap (λ a. F.mul a (rows d j)) monic.leads ∙ one-mul F (rows d j))
            ∙ neg-add F (rows d j)

    -- two monic relations of the degree d, where the first d rows are independent, are the same
    pub relation_is_unique : (d : ℕ) (f g : Vector F) → IsIndependent F d rows → IsMonicRelation rows d f →
        IsMonicRelation rows d g → f ≡ g
    relation_is_unique d f g independent of_f of_g =
        fun_ext λ t. same_of_difference F (f t) (g t) (zeros t (dec_lt t d))
      where
        past : (t : ℕ) → d ≤ t → F.add (f t) (F.neg (g t)) ≡ 𝟘
        past t from = by_place (ℕ_discrete t d)
          where
            by_place : Dec (t ≡ d) → F.add (f t) (F.neg (g t)) ≡ 𝟘
            by_place (yes e) =
                difference_of_same F (f t) (g t) (ap f e ∙ of_f.monic.leads ∙ sym of_g.monic.leads ∙ ap g (sym e))
            by_place (no other) =
                difference_of_same F (f t) (g t)
                (of_f.monic.length t (omega arith) ∙ sym (of_g.monic.length t (omega arith)))

        vanishes : times F d (subtract F f g) rows ≡ zero_vector F
        vanishes =
            sym (times_longer F d (suc d) (subtract F f g) rows (omega arith) (λ t from inside. past t from))
            ∙ times-subtract F (suc d) f g rows ∙ ap₂ (subtract F) of_f.vanishes of_g.vanishes
            ∙ fun_ext λ j. F.add-neg 𝟘

        zeros : (t : ℕ) → Dec (t < d) → F.add (f t) (F.neg (g t)) ≡ 𝟘
        zeros t (yes below) = independent.only_zero (subtract F f g) vanishes t below
        zeros t (no from) = past t (omega arith)

    -- among rows of length n there is one that is a combination of those before it, which are independent
    pub first_combination : (n : ℕ) → HasRowsOfLength F n rows →
        (d : ℕ) × (d ≤ n) × IsIndependent F d rows × InSpan F d rows (rows d)
    first_combination n lengths =
        from (suc n) 0 (omega arith) (record { only_zero = λ c vanishes t below. absurd (omega arith) })
      where
        Found : Type 0
        Found = (d : ℕ) × (d ≤ n) × IsIndependent F d rows × InSpan F d rows (rows d)

        from : (steps k : ℕ) → steps + k ≡ suc n → IsIndependent F k rows → Found
        from zero k sum independent =
            let few : k ≤ n = independent_at_most F n k rows lengths independent in
            absurd (omega arith)
        from (suc steps) k sum independent =
            by_next (from steps (suc k) (omega arith))
            (spanned_or_independent F n k rows (rows k) lengths (lengths k) independent)
          where
            by_next : (IsIndependent F (suc k) rows → Found) →
                InSpan F k rows (rows k) ⊎ IsIndependent F (suc k) (with_row F k rows (rows k)) → Found
            by_next go_on (inl within) = (k, independent_at_most F n k rows lengths independent, independent, within)
            by_next go_on (inr more) = go_on (record {
              only_zero =
                  λ c vanishes. more.only_zero c
                  (times_same F (suc k) c c (with_row F k rows (rows k)) rows (λ t below. refl)
                  (λ t below. same t (ℕ_discrete t k) below) ∙ vanishes);
            })
              where
                same : (t : ℕ) → Dec (t ≡ k) → t < suc k → with_row F k rows (rows k) t ≡ rows t
                same t (yes e) below =
                    ap (with_row F k rows (rows k)) e ∙ with_row_at F k rows (rows k) ∙ ap rows (sym e)
                same t (no other) below = with_row_before F k rows (rows k) t (omega arith)
