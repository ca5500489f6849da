-- Irreducible polynomials, found number by number; irreducible divisors, found among them.
use Rattle.std.specs.Prelude.{◌≡◌, ℕ, ◌+◌, ◌*◌, ◌^◌, ◌<◌, ◌≤◌, ◌⊎◌, List, [], ◌∷◌, ◌++◌, length, get_or, take}
use Rattle.std.specs.List.{Contains}
use Rattle.std.proofs.Common.{inl, inr}
use Rattle.std.proofs.lemmas.List.{take_more, take_all, length-take-le, get_or-take, get_or_default}
use Rattle.std.proofs.lemmas.List.Elements.{Contains-push_cases, Contains-append_left, Contains-push}
use Rattle.axe_algebra.specs.NumberField.{NumberField}
use Rattle.axe_polynomial_algebra.specs.PolynomialsOfLists.{degree_of, polynomial_number, Divides, ListsByNumber}
use Rattle.axe_polynomial_algebra.specs.PolynomialsOfLists.{IsIrreduciblePolynomial, IsIrreducibleOfDegree}
use Rattle.axe_polynomial_algebra.specs.PolynomialsOfLists.{IsFactorOfDegree}
use Rattle.axe_polynomial_algebra.specs.PolynomialsOfLists.{AreFactorsOfDegree}
use Rattle.axe_polynomial_algebra.proofs.PolynomialNumbers.{numbers_by_degree}
use Rattle.axe_polynomial_algebra.proofs.ListByNumber.{lists_none, lists_same, lists_together, lists_push}
use Rattle.axe_poly.specs.Numbering.{polynomial_with_number, IsIrreducibleBelow, IsIrreducibleUpTo}
use Rattle.axe_poly.specs.Numbering.{AreIrreduciblesBelow, AreIrreduciblesUpTo}
use Rattle.axe_poly.specs.Tables.{IsFactorAmong}
use Rattle.axe_poly.proofs.NumberLaws.{number_of_monic, monic_by_number}
use mathlib.Core.Path.{sym, ◌∙◌, ap, subst}
use native.Mathlib.Omega.{arith}
use native.Mathlib.Decide.{dec_lt}

module _ (K : NumberField) where
  abbrev q : ℕ
  q = K.order

  -- none has a number below q^n
  pub none_below : (n bound : ℕ) → bound ≤ q ^ n → AreIrreduciblesBelow K n bound []
  none_below n bound small = lists_none q (IsIrreducibleBelow K n bound) λ p is.
      absurd (omega
      (arith, small, is.small, (number_of_monic K n p is.irreducible.irreducible.over is.irreducible.degree_is).0))

  -- irreducible ones with a number are the polynomial with this number
  same_polynomial : (n x : ℕ) (p : List ℕ) → IsIrreducibleOfDegree K n p → polynomial_number q p ≡ x →
      p ≡ polynomial_with_number q n x
  same_polynomial n x p is e = monic_by_number K n p is.irreducible.over is.degree_is
      ∙ ap (polynomial_with_number q n) e

  -- the next polynomial is irreducible
  pub one_more : (n x : ℕ) (f : List ℕ) (list : List (List ℕ)) → f ≡ polynomial_with_number q n x →
      polynomial_number q f ≡ x → IsIrreducibleOfDegree K n f →
      AreIrreduciblesBelow K n x list → AreIrreduciblesBelow K n (x + 1) (list ++ f ∷ [])
  one_more n x f list is number irreducible h =
      lists_push q (IsIrreducibleBelow K n x) (IsIrreducibleBelow K n (x + 1)) list f
      (λ p below. record { irreducible = below.irreducible; small = omega (arith, below.small) })
      (record { irreducible = irreducible; small = omega (arith, number) })
      (λ p below. cases p below (dec_lt (polynomial_number q p) x))
      (λ p below. omega (arith, below.small, number)) h
    where
      cases : (p : List ℕ) → IsIrreducibleBelow K n (x + 1) p → Dec (polynomial_number q p < x) →
          IsIrreducibleBelow K n x p ⊎ (p ≡ f)
      cases p below (yes small) = inl (record { irreducible = below.irreducible; small = small })
      cases p below (no last) =
          inr (same_polynomial n x p below.irreducible
          (let e : polynomial_number q p ≡ x = omega (arith, below.small, last) in e) ∙ sym is)

  -- the next polynomial is not
  pub not_one_more : (n x : ℕ) (f : List ℕ) (list : List (List ℕ)) → f ≡ polynomial_with_number q n x →
      ¬ (IsIrreduciblePolynomial K f) →
      AreIrreduciblesBelow K n x list → AreIrreduciblesBelow K n (x + 1) list
  not_one_more n x f list is reducible h =
      lists_same q (IsIrreducibleBelow K n x) (IsIrreducibleBelow K n (x + 1)) list
      (λ p below. record { irreducible = below.irreducible; small = omega (arith, below.small) })
      (λ p below. cases p below (dec_lt (polynomial_number q p) x)) h
    where
      cases : (p : List ℕ) → IsIrreducibleBelow K n (x + 1) p → Dec (polynomial_number q p < x) →
          IsIrreducibleBelow K n x p
      cases p below (yes small) = record { irreducible = below.irreducible; small = small }
      cases p below (no last) =
          let same : p ≡ f = same_polynomial n x p below.irreducible
          (let e : polynomial_number q p ≡ x = omega (arith, below.small, last) in e) ∙ sym is in
          absurd (reducible (subst (IsIrreduciblePolynomial K) same below.irreducible.irreducible))

  -- no irreducible polynomial has degree 0
  pub none_of_degree_0 : AreIrreduciblesUpTo K 0 []
  none_of_degree_0 = lists_none q (IsIrreducibleUpTo K 0) λ p is. absurd
      (omega (arith, is.bound, is.irreducible.over.positive))

  -- those of the next degree, after those up to a degree
  pub one_more_degree : (s : ℕ) (list more : List (List ℕ)) → AreIrreduciblesUpTo K s list →
      AreIrreduciblesBelow K (s + 1) (2 * q ^ (s + 1)) more →
      AreIrreduciblesUpTo K (s + 1) (list ++ more)
  one_more_degree s list more h g =
      lists_together q (IsIrreducibleUpTo K s) (IsIrreducibleBelow K (s + 1) (2 * q ^ (s + 1)))
      (IsIrreducibleUpTo K (s + 1)) list more
      (λ p is. record { irreducible = is.irreducible; bound = omega (arith, is.bound) })
      (λ p is. record { irreducible = is.irreducible.irreducible; bound = omega (arith, is.irreducible.degree_is) })
      (λ p is. cases p is (dec_lt s (degree_of p)))
      (λ p r is of. numbers_by_degree K p r is.irreducible.over of.irreducible.irreducible.over
      (omega (arith, is.bound, of.irreducible.degree_is)))
      h g
    where
      cases : (p : List ℕ) → IsIrreducibleUpTo K (s + 1) p → Dec (s < degree_of p) →
          IsIrreducibleUpTo K s p ⊎ IsIrreducibleBelow K (s + 1) (2 * q ^ (s + 1)) p
      cases p is (yes above) =
          let degree : degree_of p ≡ s + 1 = omega (arith, is.bound, above) in
          inr (record {
            irreducible = record { irreducible = is.irreducible; degree_is = degree };
            small =
                (number_of_monic K (s + 1) p is.irreducible.over degree).1;
          })
      cases p is (no not_above) = inl (record { irreducible = is.irreducible; bound = omega arith })

  -- ---- irreducible divisors
  module _ (f : List ℕ) (d s : ℕ) (table : List (List ℕ)) (found : AreIrreduciblesUpTo K s table) where
    -- the irreducible divisors of degree d among the first polynomials of the table
    abbrev IsAmong : ℕ → List ℕ → Type 0
    IsAmong index p = IsFactorAmong K f d table index p

    pub none_among : ListsByNumber q (IsAmong 0) []
    none_among = lists_none q (IsAmong 0) λ p is. absurd (omega (arith, is.1.1))

    more_of_table : (index : ℕ) → index < length table →
        take (index + 1) table ≡ take index table ++ get_or table index [] ∷ []
    more_of_table index inside = take_more table index [] inside

    cases_of_more : (index : ℕ) → index < length table → (p : List ℕ) → Contains (take (index + 1) table) p →
        Contains (take index table) p ⊎ (get_or table index [] ≡ p)
    cases_of_more index inside p has =
        Contains-push_cases (take index table) (get_or table index []) p
        (subst (λ (xs : List (List ℕ)). Contains xs p) (more_of_table index inside) has)

    kept_in_more : (index : ℕ) → index < length table → (p : List ℕ) → Contains (take index table) p →
        Contains (take (index + 1) table) p
    kept_in_more index inside p has =
        subst (λ (xs : List (List ℕ)). Contains xs p) (sym (more_of_table index inside))
        (Contains-append_left (take index table) (get_or table index [] ∷ []) p has)

    pub one_more_factor : (index : ℕ) (kept : List (List ℕ)) → index < length table →
        degree_of (get_or table index []) ≡ d → Divides K (get_or table index []) f →
        ListsByNumber q (IsAmong index) kept → ListsByNumber q (IsAmong (index + 1))
        (kept ++ get_or table index [] ∷ [])
    one_more_factor index kept inside degree divides h =
        lists_push q (IsAmong index) (IsAmong (index + 1)) kept (get_or table index [])
        (λ p is. (is.0, kept_in_more index inside p is.1)) (
          record { irreducible = (found.each index [] inside).irreducible; divides = divides; degree_is = degree },
          subst (λ (xs : List (List ℕ)). Contains xs (get_or table index [])) (sym (more_of_table index inside))
              (Contains-push (take index table) (get_or table index [])),
        )
        (λ p is. cases p is (cases_of_more index inside p is.1))
        (λ p is. below p is.1) h
      where
        cases : (p : List ℕ) → IsAmong (index + 1) p → Contains (take index table) p ⊎ (get_or table index [] ≡ p) →
            IsAmong index p ⊎ (p ≡ get_or table index [])
        cases p is (inl before) = inl (is.0, before)
        cases p is (inr last) = inr (sym last)

        below : (p : List ℕ) → Contains (take index table) p →
            polynomial_number q p < polynomial_number q (get_or table index [])
        below p (k, within, at) =
            let before : k < index = omega (arith, within, length-take-le index table (omega (arith, inside))) in
            let same : get_or table k p ≡ p = sym (get_or-take index table k p before) ∙ at in
            subst (λ (x : List ℕ). polynomial_number q x < polynomial_number q (get_or table index [])) same
            (subst (λ (y : List ℕ). polynomial_number q (get_or table k p) < polynomial_number q y)
            (get_or_default table index p [] inside)
            (found.ascending k index p before inside))

    pub no_more_factor : (index : ℕ) (kept : List (List ℕ)) → index < length table →
        ¬ (IsFactorOfDegree K f d (get_or table index [])) →
        ListsByNumber q (IsAmong index) kept → ListsByNumber q (IsAmong (index + 1)) kept
    no_more_factor index kept inside none h =
        lists_same q (IsAmong index) (IsAmong (index + 1)) kept
        (λ p is. (is.0, kept_in_more index inside p is.1))
        (λ p is. cases p is (cases_of_more index inside p is.1)) h
      where
        cases : (p : List ℕ) → IsAmong (index + 1) p → Contains (take index table) p ⊎ (get_or table index [] ≡ p) →
            IsAmong index p
        cases p is (inl before) = (is.0, before)
        cases p is (inr last) = absurd (none (subst (IsFactorOfDegree K f d) (sym last) is.0))

    pub all_factors : (index : ℕ) (kept : List (List ℕ)) → length table ≤ index → d ≤ s →
        ListsByNumber q (IsAmong index) kept → AreFactorsOfDegree K f d kept
    all_factors index kept past bound h =
        lists_same q (IsAmong index) (IsFactorOfDegree K f d) kept (λ p is. is.0)
        (λ p is. (
          is,
          subst (λ (xs : List (List ℕ)). Contains xs p) (sym (take_all index table past))
              (found.all p (record { irreducible = is.irreducible; bound = omega (arith, is.degree_is, bound) })),
        )) h
