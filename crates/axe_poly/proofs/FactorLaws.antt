-- The irreducible divisors of a polynomial, as they are found in a table.
use Rattle.std.specs.Prelude.{◌≡◌, ◌≢◌, ℕ, ◌+◌, ◌<◌, ◌≤◌, List, [], ◌∷◌, ◌++◌, length, get_or}
use Rattle.std.proofs.lemmas.List.{map-append}
use Rattle.std.proofs.lemmas.List.Elements.{All-nil, All-push, All-append}
use Rattle.axe_algebra.specs.NumberField.{NumberField}
use Rattle.axe_field.specs.NumberFields.{number_field}
use Rattle.axe_polynomial_algebra.specs.PolynomialsOfLists.{degree_of, Divides, ListsByNumber, AreFactorsUpTo}
use Rattle.axe_poly.specs.Numbering.{AreIrreduciblesUpTo}
use Rattle.axe_poly.specs.Polys.{PolyValue, poly_with, coefficients_of, AreFactors, AreFactorsOf}
use Rattle.axe_poly.specs.Tables.{IrreduciblesValue, AreIrreducibles, IsFactorAmong, AreFactorsAmong}
use Rattle.axe_polynomial_algebra.proofs.ListFactors.{no_factor_of_degree_0, factors_of_next_degree}
use Rattle.axe_poly.proofs.IrreducibleLists.{none_among, one_more_factor, no_more_factor, all_factors}
use mathlib.Core.Path.{sym, ◌∙◌, ap, subst}

-- the coefficients of one more polynomial
pub coefficients_pushed : (factors : List PolyValue) (p : PolyValue) (f : List ℕ) → p.coefficients ≡ f →
    coefficients_of (factors ++ p ∷ []) ≡ coefficients_of factors ++ f ∷ []
coefficients_pushed factors p f is =
    map-append (λ (x : PolyValue). x.coefficients) factors (p ∷ [])
    ∙ ap (λ (x : List ℕ). coefficients_of factors ++ x ∷ []) is

module _ (t : IrreduciblesValue) (f : PolyValue) (d : ℕ) (table : AreIrreducibles t) (field : f.order ≡ t.order) where
  abbrev K : NumberField
  K = number_field f.order

  found : AreIrreduciblesUpTo K t.degree t.polynomials
  found = subst (λ o. AreIrreduciblesUpTo (number_field o) t.degree t.polynomials) (sym field) table

  pub among_none : (factors : List PolyValue) → factors ≡ [] → AreFactorsAmong t f d 0 factors
  among_none factors none = subst (AreFactorsAmong t f d 0) (sym none) (record {
    fields = All-nil (λ (x : PolyValue). x.order ≡ f.order);
    listed = none_among K f.coefficients d t.degree t.polynomials found;
  })

  pub among_more : (index : ℕ) (factors new : List PolyValue) (p : PolyValue) → index < length t.polynomials →
      degree_of (get_or t.polynomials index []) ≡ d →
      Divides (number_field t.order) (get_or t.polynomials index []) f.coefficients → p ≡ poly_with t.order
      (get_or t.polynomials index []) →
      new ≡ factors ++ p ∷ [] → AreFactorsAmong t f d index factors → AreFactorsAmong t f d (index + 1) new
  among_more index factors new p inside degree divides p_is new_is h = subst (AreFactorsAmong t f d (index + 1))
      (sym new_is) (record {
        fields = All-push (λ (x : PolyValue). x.order ≡ f.order) factors p h.fields
            (ap (λ (x : PolyValue). x.order) p_is ∙ sym field);
        listed = subst (ListsByNumber K.order (IsFactorAmong K f.coefficients d t.polynomials (index + 1)))
            (sym (coefficients_pushed factors p (get_or t.polynomials index [])
            (ap (λ (x : PolyValue). x.coefficients) p_is)))
            (one_more_factor K f.coefficients d t.degree t.polynomials found index (coefficients_of factors)
            inside degree
            (subst (λ o. Divides (number_field o) (get_or t.polynomials index []) f.coefficients)
            (sym field) divides) h.listed);
      })

  pub among_other_degree : (index : ℕ) (factors : List PolyValue) → index < length t.polynomials →
      degree_of (get_or t.polynomials index []) ≢ d →
      AreFactorsAmong t f d index factors → AreFactorsAmong t f d (index + 1) factors
  among_other_degree index factors inside other h = record {
    fields = h.fields;
    listed = no_more_factor K f.coefficients d t.degree t.polynomials found index (coefficients_of factors) inside
        (λ is. other is.degree_is) h.listed;
  }

  pub among_no_divisor : (index : ℕ) (factors : List PolyValue) → index < length t.polynomials →
      ¬ (Divides (number_field t.order) (get_or t.polynomials index []) f.coefficients) →
      AreFactorsAmong t f d index factors → AreFactorsAmong t f d (index + 1) factors
  among_no_divisor index factors inside none h = record {
    fields = h.fields;
    listed = no_more_factor K f.coefficients d t.degree t.polynomials found index (coefficients_of factors) inside
        (λ is. none
        (subst (λ o. Divides (number_field o)
        (get_or t.polynomials index []) f.coefficients) field is.divides)) h.listed;
  }

  pub among_all : (index : ℕ) (factors : List PolyValue) → length t.polynomials ≤ index → d ≤ t.degree →
      AreFactorsAmong t f d index factors → AreFactorsOf f d factors
  among_all index factors past bound h = record {
    fields = h.fields;
    listed = all_factors K f.coefficients d t.degree t.polynomials found index
        (coefficients_of factors) past bound h.listed;
  }

-- before the first degree, and one more degree
pub factors_none : (f : PolyValue) (factors : List PolyValue) → factors ≡ [] → AreFactors f 0 factors
factors_none f factors none = subst (AreFactors f 0) (sym none) (record {
  fields = All-nil (λ (x : PolyValue). x.order ≡ f.order);
  listed = no_factor_of_degree_0 (number_field f.order) f.coefficients;
})

pub factors_next : (f : PolyValue) (s : ℕ) (factors more all : List PolyValue) → AreFactors f s factors →
    AreFactorsOf f (s + 1) more → all ≡ factors ++ more →
    AreFactors f (s + 1) all
factors_next f s factors more all h g is = subst (AreFactors f (s + 1)) (sym is) (record {
  fields = All-append (λ (x : PolyValue). x.order ≡ f.order) factors more h.fields g.fields;
  listed = subst (AreFactorsUpTo (number_field f.order) f.coefficients (s + 1))
      (sym (map-append (λ (x : PolyValue). x.coefficients) factors more))
      (factors_of_next_degree (number_field f.order) f.coefficients s (coefficients_of factors)
      (coefficients_of more) h.listed g.listed);
})
