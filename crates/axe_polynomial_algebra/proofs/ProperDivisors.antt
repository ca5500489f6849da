-- Monic polynomials as lists: whether one divides, has a proper divisor, or is irreducible is decidable.
use Rattle.std.specs.Prelude.{◌≡◌, ℕ, zero, suc, ◌^◌, ◌<◌, ◌≤◌, List, [], ◌∷◌, length, get_or}
use Rattle.std.proofs.lemmas.List.Elements.{All-nil, All-cons, All-head, All-tail}
use Rattle.axe_algebra.specs.NumberField.{NumberField}
use Rattle.axe_algebra.specs.Field.{Field}
use Rattle.axe_algebra.specs.Vectors.{Vector}
use Rattle.axe_algebra.specs.Bridge.{ElementOf, field_of, vector_of}
use Rattle.axe_algebra.specs.Lists.{AreElements, IsVectorOver, entries_of}
use Rattle.axe_algebra.proofs.ListEntries.{listed_at, vector_length, vector_of_entries, entries_over}
use Rattle.axe_polynomial_algebra.specs.Polynomials
use Rattle.axe_polynomial_algebra.specs.PolynomialsOfLists.{degree_of, IsMonicOver, Divides, IsIrreduciblePolynomial}
use Rattle.axe_polynomial_algebra.specs.PolynomialListTheorems.{ListDividesIsDecidable, IrreducibleIsDecidable}
use Rattle.axe_polynomial_algebra.proofs.Dividing.{divides_or_not}
use Rattle.axe_polynomial_algebra.proofs.Cofactors.{irreducible_without_divisors}
use Rattle.axe_polynomial_algebra.proofs.ListCongruences.{monic_of_list}
use Rattle.axe_polynomial_algebra.proofs.PolynomialNumbers.{monic_by_number, monic_by_number-over}
use Rattle.axe_polynomial_algebra.proofs.PolynomialNumbers.{monic_by_number-degree, is_by_number}
use mathlib.Core.Path.{refl, sym, ◌∙◌, ap, subst}
use native.Mathlib.Omega.{arith}
use native.Mathlib.Decide.{ℕ_discrete, dec_le, dec_lt, map_dec}

-- whether some number below n has a decidable P
pub some_below : (P : ℕ → Type 0) → ((t : ℕ) → Dec (P t)) → (n : ℕ) → Dec ((t : ℕ) × (t < n) × P t)
some_below P each zero = no none
  where
    none : ¬ ((t : ℕ) × (t < zero) × P t)
    none (t, below, holds) = omega arith
some_below P each (suc n) = cases (some_below P each n) (each n)
  where
    cases : Dec ((t : ℕ) × (t < n) × P t) → Dec (P n) → Dec ((t : ℕ) × (t < suc n) × P t)
    cases (yes (t, below, holds)) _ = yes (t, omega arith, holds)
    cases (no none) (yes here) = yes (n, omega arith, here)
    cases (no none) (no out) = no found
      where
        at : (t : ℕ) → t < suc n → P t → ¬ (t ≡ n) → ⊥
        at t below holds other = none (t, omega arith, holds)

        found : ¬ ((t : ℕ) × (t < suc n) × P t)
        found (t, below, holds) = at t below holds (λ e. out (subst P e holds))

-- g is a monic divisor of p of degree at least 1 that has a smaller degree than p
pub record ProperDivisor (K : NumberField) (p : List ℕ) : Type 0 where
  pub divisor : List ℕ
  pub over : IsMonicOver K divisor
  pub below : degree_of divisor < degree_of p
  pub divides : Divides K divisor p

-- the list of a monic polynomial
pub record ListOfMonic (K : NumberField) (m : ℕ) (a : Vector (field_of K)) : Type 0 where
  pub list : List ℕ
  pub over : IsMonicOver K list
  pub degree_is : degree_of list ≡ m
  pub vector_is : vector_of K list ≡ a

module _ (K : NumberField) where
  abbrev F : Field
  F = field_of K

  pub list_of_monic : (m : ℕ) (a : Vector F) → 0 < m → Polynomials.IsMonic F m a → ListOfMonic K m a
  list_of_monic m a positive monic = record {
    list = entries;
    over = record {
      elements = is.elements;
      positive = omega (arith, is.length_is);
      leads =
          (let e : degree_of entries ≡ m = omega (arith, is.length_is) in ap (λ i. get_or entries i 0) e)
          ∙ listed_at (suc m) (λ j. (a j).0) m 0 (omega arith) ∙ ap (λ (x : ElementOf K). x.0) monic.leads;
    };
    degree_is = omega (arith, is.length_is);
    vector_is = vector_of_entries K (suc m) a monic.length;
  }
    where
      entries : List ℕ
      entries = entries_of K (suc m) a

      is : IsVectorOver K (suc m) entries
      is = entries_over K (suc m) a

  pub divides_list_or_not : ListDividesIsDecidable K
  divides_list_or_not p f over =
      divides_or_not F (degree_of p) (length f) (vector_of K p) (vector_of K f) (monic_of_list K p over)
      (vector_length K (length f) f refl)

  -- ---- proper divisors

  divides_of_degree : List ℕ → ℕ → Type 0
  divides_of_degree p m = (g : List ℕ) × IsMonicOver K g × (degree_of g ≡ m) × Divides K g p

  of_degree_or_none : (p : List ℕ) (m : ℕ) → 0 < m → Dec (divides_of_degree p m)
  unfolding divides_of_degree
  of_degree_or_none p m positive =
      map_dec forth back (some_below (λ low. Divides K (monic_by_number K.order m low) p)
      (λ low. divides_list_or_not (monic_by_number K.order m low) p (monic_by_number-over K m low positive))
      (K.order ^ m))
    where
      forth : (low : ℕ) × (low < K.order ^ m) × Divides K (monic_by_number K.order m low) p →
          (g : List ℕ) × IsMonicOver K g × (degree_of g ≡ m) × Divides K g p
      forth (low, small, divides) =
          let over = monic_by_number-over K m low positive in
          (monic_by_number K.order m low, over, monic_by_number-degree K m low, divides)

      back : (g : List ℕ) × IsMonicOver K g × (degree_of g ≡ m) × Divides K g p →
          (low : ℕ) × (low < K.order ^ m) × Divides K (monic_by_number K.order m low) p
      back (g, over, degree_is, divides) = from (is_by_number K g over)
        where
          from : (low : ℕ) × (low < K.order ^ degree_of g) × (g ≡ monic_by_number K.order (degree_of g) low) →
              (low : ℕ) × (low < K.order ^ m) × Divides K (monic_by_number K.order m low) p
          from (low, small, is) = (
            low,
            subst (λ n. low < K.order ^ n) degree_is small,
            subst (λ (f : List ℕ). Divides K f p) (is ∙ ap (λ n. monic_by_number K.order n low) degree_is) divides,
          )

  proper_of_degree : (p : List ℕ) (m : ℕ) → Dec ((0 < m) × divides_of_degree p m)
  proper_of_degree p m = by_degree (dec_lt 0 m)
    where
      by_degree : Dec (0 < m) → Dec ((0 < m) × divides_of_degree p m)
      by_degree (no out) = no λ found. out found.0
      by_degree (yes positive) = map_dec (λ found. (positive, found)) (λ found. found.1)
          (of_degree_or_none p m positive)

  pub proper_divisor_or_none : (p : List ℕ) → Dec (ProperDivisor K p)
  unfolding divides_of_degree
  proper_divisor_or_none p =
      map_dec forth back (some_below (λ m. (0 < m) × divides_of_degree p m) (proper_of_degree p) (degree_of p))
    where
      forth : (m : ℕ) × (m < degree_of p) ×
          ((0 < m) × ((g : List ℕ) × IsMonicOver K g × (degree_of g ≡ m) × Divides K g p)) → ProperDivisor K p
      forth (m, small, (positive, (g, over, degree_is, divides))) =
          record { divisor = g; over = over; below = omega arith; divides = divides }

      back : ProperDivisor K p →
          (m : ℕ) × (m < degree_of p) × ((0 < m) × ((g : List ℕ) × IsMonicOver K g × (degree_of g ≡ m) × Divides K g p))
      back proper = (
        degree_of proper.divisor,
        proper.below,
        (omega (arith, proper.over.positive), (proper.divisor, proper.over, refl, proper.divides)),
      )

  -- ---- irreducible

  pub irreducible_without_proper : (p : List ℕ) → IsMonicOver K p → ¬ (ProperDivisor K p) → IsIrreduciblePolynomial K p
  irreducible_without_proper p over none = record {
    over = over;
    irreducible =
        (irreducible_without_divisors F (degree_of p) (vector_of K p) (omega (arith, over.positive))
        (monic_of_list K p over)).1
        (λ m a above below monic divides.
        let l = list_of_monic m a above monic in
        none (record {
          divisor = l.list;
          over = l.over;
          below = omega (arith, l.degree_is);
          divides = subst (λ (b : Vector F). Polynomials.Divides F b (vector_of K p)) (sym l.vector_is) divides;
        }));
  }

  pub irreducible_has_no_proper : (p : List ℕ) → IsIrreduciblePolynomial K p → ¬ (ProperDivisor K p)
  irreducible_has_no_proper p is proper =
      (irreducible_without_divisors F (degree_of p) (vector_of K p) (omega (arith, is.over.positive))
      (monic_of_list K p is.over)).0 is.irreducible
      (degree_of proper.divisor) (vector_of K proper.divisor) (omega (arith, proper.over.positive)) proper.below
      (monic_of_list K proper.divisor proper.over) proper.divides

  elements_or_not : (entries : List ℕ) → Dec (AreElements K entries)
  elements_or_not [] = yes (All-nil (λ (n : ℕ). n < K.order))
  elements_or_not (x ∷ rest) = cases (dec_lt x K.order) (elements_or_not rest)
    where
      cases : Dec (x < K.order) → Dec (AreElements K rest) → Dec (AreElements K (x ∷ rest))
      cases (yes below) (yes others) = yes (All-cons (λ (n : ℕ). n < K.order) x rest below others)
      cases (no out) _ = no λ all. out (All-head (λ (n : ℕ). n < K.order) x rest all)
      cases (yes _) (no out) = no λ all. out (All-tail (λ (n : ℕ). n < K.order) x rest all)

  pub monic_or_not : (f : List ℕ) → Dec (IsMonicOver K f)
  monic_or_not f = cases (elements_or_not f) (dec_le 2 (length f)) (ℕ_discrete (get_or f (degree_of f) 0) 1)
    where
      cases : Dec (AreElements K f) → Dec (2 ≤ length f) → Dec (get_or f (degree_of f) 0 ≡ 1) → Dec (IsMonicOver K f)
      cases (yes elements) (yes positive) (yes leads) = yes
          (record { elements = elements; positive = positive; leads = leads })
      cases (no out) _ _ = no λ over. out over.elements
      cases (yes _) (no out) _ = no λ over. out over.positive
      cases (yes _) (yes _) (no out) = no λ over. out over.leads

  pub irreducible_or_not : IrreducibleIsDecidable K
  irreducible_or_not p = cases (monic_or_not p) (proper_divisor_or_none p)
    where
      cases : Dec (IsMonicOver K p) → Dec (ProperDivisor K p) → Dec (IsIrreduciblePolynomial K p)
      cases (no out) _ = no λ is. out is.over
      cases (yes over) (yes proper) = no λ is. irreducible_has_no_proper p is proper
      cases (yes over) (no none) = yes (irreducible_without_proper p over none)
