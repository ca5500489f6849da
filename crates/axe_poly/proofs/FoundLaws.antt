-- The irreducible polynomials of the next degree, as they are found and put into a table.
use Rattle.std.specs.Prelude.{◌≡◌, ℕ, suc, ◌+◌, ◌-◌, ◌*◌, ◌^◌, ◌<◌, ◌≤◌, List, [], ◌∷◌, ◌++◌, length, get_or}
use Rattle.std.specs.List.{All}
use Rattle.std.proofs.lemmas.List.{map-append, get_or-map, length-map}
use Rattle.std.proofs.lemmas.List.Elements.{All-nil, All-push, All-append}
use Rattle.axe_algebra.specs.NumberField.{NumberField}
use Rattle.axe_algebra.proofs.ElementNumbers.{zero-below}
use Rattle.axe_field.specs.NumberFields.{number_field}
use Rattle.axe_field.specs.Order.{Order, order_number}
use Rattle.axe_field.proofs.NumberFields.{number_field-order}
use Rattle.axe_row.specs.Rows.{RowValue}
use Rattle.axe_polynomial_algebra.specs.PolynomialsOfLists.{degree_of, IsMonicOver, polynomial_number}
use Rattle.axe_polynomial_algebra.specs.PolynomialsOfLists.{IsIrreduciblePolynomial}
use Rattle.axe_poly.specs.Numbering.{polynomial_with_number, AreIrreduciblesBelow, AreIrreduciblesUpTo}
use Rattle.axe_poly.specs.Polys.{PolyValue, poly_with, coefficients_of}
use Rattle.axe_poly.specs.Limits.{greatest_degree}
use Rattle.axe_poly.specs.Tables.{IrreduciblesValue, AreFoundBelow, AreTabled, table_of}
use Rattle.axe_poly.proofs.NumberLaws.{polynomial_is_monic, polynomial_degree, number_of_polynomial}
use Rattle.axe_poly.proofs.IrreducibleLists.{none_below, one_more, not_one_more, one_more_degree}
use mathlib.Core.Path.{sym, ◌∙◌, ap, ap₂, subst}
use native.Mathlib.Nat.{pow-suc, mul-add}
use native.Mathlib.Omega.{arith}

module _ (t : IrreduciblesValue) where
  abbrev K : NumberField
  K = number_field t.order

  same_order : K.order ≡ order_number t.order
  same_order = number_field-order t.order

  -- the candidate is the polynomial with the number
  pub candidate_is : (number : ℕ) (before after : RowValue) (f : List ℕ) → before.order ≡ t.order →
      length before.entries ≡ t.degree + 2 →
      after ≡ record {
        order = before.order;
        entries = polynomial_with_number (order_number before.order)
            (length before.entries - 1) number;
      } →
      f ≡ after.entries → f ≡ polynomial_with_number K.order (t.degree + 1) number
  candidate_is number before after f field long is listed =
      listed ∙ ap (λ (r : RowValue). r.entries) is
      ∙ ap₂ (λ q n. polynomial_with_number q n number) (ap order_number field ∙ sym same_order)
      (let e : length before.entries - 1 ≡ t.degree + 1 = omega (arith, long) in e)

  module _ (number : ℕ) (f : List ℕ) (is : f ≡ polynomial_with_number K.order (t.degree + 1) number)
      (above : order_number t.order ^ (t.degree + 1) ≤ number)
      (below : number < 2 * order_number t.order ^ (t.degree + 1)) where
    from : K.order ^ (t.degree + 1) ≤ number
    from = subst (λ q. q ^ (t.degree + 1) ≤ number) (sym same_order) above

    to : number < 2 * K.order ^ (t.degree + 1)
    to = subst (λ q. number < 2 * q ^ (t.degree + 1)) (sym same_order) below

    pub candidate_monic : IsMonicOver K f
    candidate_monic = subst (IsMonicOver K) (sym is) (polynomial_is_monic K (t.degree + 1) number (omega arith) from to)

    pub candidate_degree : degree_of f ≡ t.degree + 1
    candidate_degree = ap degree_of is ∙ polynomial_degree K (t.degree + 1) number

    candidate_number : polynomial_number K.order f ≡ number
    candidate_number =
        ap (polynomial_number K.order) is ∙ number_of_polynomial K.order (t.degree + 1) number (zero-below K) small
      where
        power : ℕ
        power = K.order ^ (t.degree + 1)

        twice : 2 * power ≤ power * K.order
        twice =
            let rest : K.order ≡ 2 + (K.order - 2) = omega (arith, K.one-below) in
            omega (arith, ap (λ n. power * n) rest, mul-add power 2 (K.order - 2))

        small : number < K.order ^ suc (t.degree + 1)
        small = omega (arith, to, twice, pow-suc K.order (t.degree + 1))

    -- it is irreducible, and was appended
    pub found_more : (found : List PolyValue) (p : PolyValue) (new : List PolyValue) → IsIrreduciblePolynomial K f →
        AreFoundBelow t number found →
        p ≡ poly_with t.order f → new ≡ found ++ p ∷ [] → AreFoundBelow t (number + 1) new
    found_more found p new irreducible h p_is new_is = subst (AreFoundBelow t (number + 1)) (sym new_is) (record {
      fields = All-push (λ (x : PolyValue). x.order ≡ t.order) found p h.fields (ap (λ (x : PolyValue). x.order) p_is);
      irreducibles = subst (AreIrreduciblesBelow K (t.degree + 1) (number + 1)) (sym listed)
          (one_more K (t.degree + 1) number f (coefficients_of found) is candidate_number
          (record { irreducible = irreducible; degree_is = candidate_degree }) h.irreducibles);
    })
      where
        listed : coefficients_of (found ++ p ∷ []) ≡ coefficients_of found ++ f ∷ []
        listed =
            map-append (λ (x : PolyValue). x.coefficients) found (p ∷ [])
            ∙ ap (λ (x : PolyValue). coefficients_of found ++ x.coefficients ∷ []) p_is

    -- it is not
    pub found_same : (found : List PolyValue) → ¬ (IsIrreduciblePolynomial K f) → AreFoundBelow t number found →
        AreFoundBelow t (number + 1) found
    found_same found reducible h = record {
      fields = h.fields;
      irreducibles = not_one_more K (t.degree + 1) number f (coefficients_of found) is reducible h.irreducibles;
    }

  -- their degrees are no greater than the greatest one
  pub found_degrees : (bound : ℕ) (found : List PolyValue) → t.degree < greatest_degree t.order →
      AreFoundBelow t bound found → All (λ p. degree_of p.coefficients ≤ greatest_degree t.order) found
  found_degrees bound found small h i p inside = omega (arith, small, degree)
    where
      listed : get_or (coefficients_of found) i p.coefficients ≡ (get_or found i p).coefficients
      listed = get_or-map (λ (f : PolyValue). f.coefficients) found i p p.coefficients inside

      degree : degree_of (get_or found i p).coefficients ≡ t.degree + 1
      degree = ap degree_of (sym listed)
          ∙ (h.irreducibles.each i p.coefficients
          (omega (arith, inside, length-map found (λ (f : PolyValue). f.coefficients)))).irreducible.degree_is

  -- before the first candidate
  pub found_none : (first : ℕ) (found : List PolyValue) → first ≡ order_number t.order ^ (t.degree + 1) → found ≡ [] →
      AreFoundBelow t first found
  found_none first found first_is none = subst (AreFoundBelow t first) (sym none) (record {
    fields = All-nil (λ (x : PolyValue). x.order ≡ t.order);
    irreducibles = none_below K (t.degree + 1) first (omega (arith, first_is, ap (λ q. q ^ (t.degree + 1)) same_order));
  })

  -- after the last
  pub found_all : (first number : ℕ) (found : List PolyValue) → first ≡ order_number t.order ^ (t.degree + 1) →
      number ≡ 2 * first → AreFoundBelow t number found →
      AreFoundBelow t (2 * order_number t.order ^ (t.degree + 1)) found
  found_all first number found first_is last h = subst (λ n. AreFoundBelow t n found)
      (last ∙ ap (λ n. 2 * n) first_is) h

-- a table with one more degree
pub tabled_more : (o : Order) (d : ℕ) (items found all : List PolyValue) → AreTabled o d items →
    AreFoundBelow (table_of o d items) (2 * order_number o ^ (d + 1)) found →
    d < greatest_degree o → all ≡ items ++ found → AreTabled o (d + 1) all
tabled_more o d items found all h g small is = subst (AreTabled o (d + 1)) (sym is) (record {
  fields = All-append (λ (x : PolyValue). x.order ≡ o) items found h.fields g.fields;
  irreducibles = subst (AreIrreduciblesUpTo K (d + 1))
      (sym (map-append (λ (x : PolyValue). x.coefficients) items found))
      (one_more_degree K d (coefficients_of items) (coefficients_of found) h.irreducibles
      (subst (λ q. AreIrreduciblesBelow K (d + 1) (2 * q ^ (d + 1)) (coefficients_of found))
      (sym (number_field-order o)) g.irreducibles));
  bounded = omega (arith, small);
})
  where
    K : NumberField
    K = number_field o
