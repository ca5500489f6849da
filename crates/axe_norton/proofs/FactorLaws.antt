-- The first small factor that fits a square matrix: how it is found, degree by degree.
use Rattle.std.specs.Prelude.{◌≡◌, ◌↔◌, ℕ, ◌+◌, ◌<◌, ◌≤◌, List, [], length, get_or, All, Option, Some, None, Result, Bool, true, false, cond, eqb}
use Rattle.std.specs.Option.{is_some}
use Rattle.std.proofs.lemmas.List.{length-map, get_or-map, get_or_default}
use Rattle.std.proofs.lemmas.List.Elements.{All-get_or, All-weaker}
use Rattle.std.specs.List.{Contains}
use Rattle.axe_algebra.specs.NumberField.{NumberField}
use Rattle.axe_algebra.specs.Bridge.{field_of, vector_of}
use Rattle.axe_algebra.specs.Lists.{IsVectorOver, IsSquareOver, unit_row}
use Rattle.axe_algebra.proofs.ListEntries.{listed_over, listed_length, listed_at}
use Rattle.axe_algebra.proofs.ElementNumbers.{zero-below}
use Rattle.axe_polynomial_algebra.specs.PolynomialsOfLists.{degree_of, polynomial_number, IsMonicOver, Divides, Fits}
use Rattle.axe_polynomial_algebra.specs.PolynomialsOfLists.{IsFactorOfDegree, AreFactorsOfDegree}
use Rattle.axe_polynomial_algebra.specs.PolynomialTheorems.{MonicCofactor}
use Rattle.axe_polynomial_algebra.proofs.Cofactors.{cofactor_is_monic}
use Rattle.axe_polynomial_algebra.proofs.ListCongruences.{monic_of_list}
use Rattle.axe_polynomial_algebra.proofs.MinimalLists.{list_minimal_polynomial_is_unique}
use Rattle.axe_polynomial_algebra.proofs.PolynomialNumbers.{numbers_by_degree}
use Rattle.axe_polynomial_algebra.proofs.VectorFits.{fits_exactly}
use Rattle.axe_field.specs.Order.{Order, order_number}
use Rattle.axe_field.specs.NumberFields.{number_field}
use Rattle.axe_field.proofs.NumberFields.{number_field-order}
use Rattle.axe_row.specs.Operations.{IsZeroVector}
use Rattle.axe_row.specs.Rows.{RowValue}
use Rattle.axe_row.specs.Refusals.{Answers}
use Rattle.axe_row.specs.declared.refusals.Refusal.{Refusal}
use Rattle.axe_matrix.specs.Matrices.{MatrixValue, IsMatrix}
use Rattle.axe_echelon.proofs.Exits.{answers_more}
use Rattle.axe_poly.specs.Limits.{greatest_degree}
use Rattle.axe_poly.specs.declared.minimal.CyclicBasis.{CyclicBasis}
use Rattle.axe_poly.specs.Powers.{IsCyclicBasis}
use Rattle.axe_poly.specs.Polys.{PolyValue, IsPoly, coefficients_of, IsValueAt, IsMinimalPolynomialOf, AreFactorsOf}
use Rattle.axe_word.specs.declared.tested.Tested.{Tested}
use Rattle.axe_word.specs.Tested.{IsTested, IsTestedAt}
use Rattle.axe_norton.specs.declared.factors.Fitted.{Fitted}
use Rattle.axe_norton.specs.SmallFactors.{first_unit_row, IsFittingFactor, NoneFits}
use Rattle.axe_norton.specs.ValueSpaces.{AreSpacesAt, FitsWithSpaces}
use Rattle.axe_norton.specs.Searches.{FindsFittingIn, IsFittingOfDegree, IsFirstOfDegree, FindsFittingOf, FindsFitting}
use Rattle.axe_norton.proofs.TestedLaws.{IsNullSpaceOver, null_space_over}
use mathlib.Core.Path.{refl, sym, ◌∙◌, ap, subst}
use native.Mathlib.Omega.{arith}
use native.Mathlib.Decide.{dec_lt, ℕ_discrete}

-- ---- the first unit vector

pub unit_over : (K : NumberField) (n i : ℕ) → IsVectorOver K n (unit_row n i)
unit_over K n i = listed_over K n (λ j. cond (eqb i j) 1 0) (λ j below. bit (eqb i j))
  where
    bit : (b : Bool) → cond b 1 0 < K.order
    bit true = K.one-below
    bit false = zero-below K

pub unit_nonzero : (n : ℕ) → 0 < n → ¬ (IsZeroVector (unit_row n 0))
unit_nonzero n some zeros =
    let zero_first : get_or (unit_row n 0) 0 0 ≡ 0 =
    zeros 0 0 (omega (arith, some, listed_length {A = ℕ} n (λ j. cond (eqb 0 j) 1 0))) in
    let one_first : get_or (unit_row n 0) 0 0 ≡ 1 = listed_at {A = ℕ} n (λ j. cond (eqb 0 j) 1 0) 0 0 some in
    omega (arith, zero_first, one_first)

pub unit_is : (x : MatrixValue) (o : Order) (n : ℕ) (v : RowValue) → o ≡ x.order → n ≡ x.cols → v ≡ record { order = o; entries = unit_row n 0 } → v ≡ first_unit_row x
unit_is x o n v order cols is = is ∙ (λ i. record { order = order i; entries = unit_row (cols i) 0 })

module _ (x : MatrixValue) (v : RowValue) (is : v ≡ first_unit_row x) where
  pub unit_fits : length v.entries ≡ x.cols
  unit_fits = ap (λ (r : RowValue). length r.entries) is ∙ listed_length {A = ℕ} x.cols (λ j. cond (eqb 0 j) 1 0)

  pub unit_not_zero : 0 < x.cols → ¬ (IsZeroVector v.entries)
  unit_not_zero some = subst (λ (r : RowValue). ¬ (IsZeroVector r.entries)) (sym is) (unit_nonzero x.cols some)

  pub basis_of_unit : (basis : CyclicBasis) → IsCyclicBasis x v basis → IsCyclicBasis x (first_unit_row x) basis
  basis_of_unit basis cyclic = subst (λ (r : RowValue). IsCyclicBasis x r basis) is cyclic

module _ (x : MatrixValue) where
  abbrev K : NumberField
  K = number_field x.order

  -- p fits x
  abbrev FitsHere : List ℕ → Type 0
  FitsHere p = Fits K x.rows p

  abbrev number : List ℕ → ℕ
  number p = polynomial_number (order_number x.order) p

  -- ---- one polynomial

  -- p fits x exactly where the null space of p(x) has as many rows as p has degrees
  pub fits_by_rows : (p : PolyValue) (t : Tested) → p.order ≡ x.order → IsPoly p → IsTestedAt p x t →
      FitsHere p.coefficients ↔ (length t.null_space.rows ≡ degree_of p.coefficients)
  fits_by_rows p t field over is =
      let null : IsNullSpaceOver x.order (length x.rows) t.matrix.rows t.null_space =
      null_space_over x.order (length x.rows) t.matrix t.null_space is.value.field is.value.value_is.square is.tested.null_space is.tested.well_formed in
      fits_exactly K x.rows p.coefficients t.matrix.rows t.null_space.rows
      (subst (λ o. IsMonicOver (number_field o) p.coefficients) field over) is.value.value_is null.over null.basis

  -- p(x), with its null space
  pub tested_at : (p : PolyValue) (value : MatrixValue) (t : Tested) → IsValueAt p.coefficients x value → t.matrix ≡ value → IsTested t → IsTestedAt p x t
  tested_at p value t is same tested = record {
    value = subst (IsValueAt p.coefficients x) (sym same) is;
    tested = tested;
  }

  -- it has rows
  pub value_rows : (p : PolyValue) (value : MatrixValue) → length x.rows ≡ x.cols → IsValueAt p.coefficients x value → IsMatrix value → 0 < length value.rows
  value_rows p value square is formed = omega (arith, square, is.value_is.square.length_is, is.columns, formed.some_column)

  -- ---- the first of some polynomials

  module _ (polys : List PolyValue) where
    abbrev pub NoneBefore : ℕ → Type 0
    NoneBefore index = (i : ℕ) → i < index → ¬ (FitsHere (get_or (coefficients_of polys) i []))

    pub none_at_first : NoneBefore 0
    none_at_first i below = absurd (omega arith)

    coefficients_at : (index : ℕ) (p : PolyValue) → index < length polys → p ≡ get_or polys index p →
        p.coefficients ≡ get_or (coefficients_of polys) index []
    coefficients_at index p inside is =
        ap (λ (r : PolyValue). r.coefficients) is ∙ sym (get_or-map (λ (r : PolyValue). r.coefficients) polys index p [] inside)

    -- the one at an index doesn't fit
    pub none_more : (index : ℕ) (p : PolyValue) → index < length polys → p ≡ get_or polys index p → NoneBefore index → ¬ (FitsHere p.coefficients) →
        NoneBefore (index + 1)
    none_more index p inside is before out i below = at (ℕ_discrete i index)
      where
        at : Dec (i ≡ index) → ¬ (FitsHere (get_or (coefficients_of polys) i []))
        at (yes here) = subst (λ (c : List ℕ). ¬ (FitsHere c))
            (coefficients_at index p inside is ∙ ap (λ k. get_or (coefficients_of polys) k []) (sym here)) out
        at (no other) = before i (omega (arith, below, other))

    -- it fits
    pub first_found : (index : ℕ) (p : PolyValue) (found : Fitted) → index < length polys → p ≡ get_or polys index p → NoneBefore index →
        All (λ r. r.order ≡ x.order) polys → found.poly ≡ p → FitsWithSpaces x p found.spaces → FindsFittingIn x polys (Some found)
    first_found index p found inside is before fields copied fits = record {
      number = index;
      below = inside;
      before = before;
      is = ap (λ (r : PolyValue). r.coefficients) copied ∙ coefficients_at index p inside is;
      field = ap (λ (r : PolyValue). r.order) (copied ∙ is) ∙ fields index p inside;
      fits = subst (λ (r : PolyValue). FitsHere r.coefficients) (sym copied) fits.0;
      spaces = subst (λ (r : PolyValue). AreSpacesAt x r found.spaces) (sym copied) fits.1;
    }

    pub none_of_all : (index : ℕ) → length polys ≤ index → NoneBefore index → FindsFittingIn x polys None
    none_of_all index past before i below = before i (omega (arith, past, below))

  -- ---- the first divisor of a degree

  module _ (f : PolyValue) (field : f.order ≡ x.order) (d : ℕ) (factors : List PolyValue) (listed : AreFactorsOf f d factors) where
    listed_here : AreFactorsOfDegree K f.coefficients d (coefficients_of factors)
    listed_here = subst (λ o. AreFactorsOfDegree (number_field o) f.coefficients d (coefficients_of factors)) field listed.listed

    pub fields_here : All (λ p. p.order ≡ x.order) factors
    fields_here = All-weaker (λ (p : PolyValue). p.order ≡ f.order) (λ (p : PolyValue). p.order ≡ x.order) (λ p is. is ∙ field) factors listed.fields

    long : length (coefficients_of factors) ≡ length factors
    long = length-map factors (λ (p : PolyValue). p.coefficients)

    -- they divide
    pub divide_here : All (λ p. Divides K p.coefficients f.coefficients) factors
    divide_here i default below =
        let factor : IsFactorOfDegree K f.coefficients d (get_or (coefficients_of factors) i []) =
        All-get_or (IsFactorOfDegree K f.coefficients d) (coefficients_of factors) i [] (omega (arith, below, long)) listed_here.each in
        subst (λ (c : List ℕ). Divides K c f.coefficients) (get_or-map (λ (r : PolyValue). r.coefficients) factors i default [] below) factor.divides

    -- each divisor of the degree has a place in the list
    place : (p : List ℕ) → IsFactorOfDegree K f.coefficients d p →
        (i : ℕ) × (i < length factors) × (get_or (coefficients_of factors) i [] ≡ p)
    place p factor = at (listed_here.all p factor)
      where
        at : Contains (coefficients_of factors) p → (i : ℕ) × (i < length factors) × (get_or (coefficients_of factors) i [] ≡ p)
        at (i, below, same) = (i, omega (arith, below, long), get_or_default (coefficients_of factors) i [] p below ∙ same)

    pub fitting_found : (result : Option Fitted) → FindsFittingIn x factors result → FindsFittingOf x f d result
    fitting_found None none = λ p fitting. at p fitting (place p fitting.factor)
      where
        at : (p : List ℕ) → IsFittingOfDegree x f d p → (i : ℕ) × (i < length factors) × (get_or (coefficients_of factors) i [] ≡ p) → ⊥
        at p fitting (i, below, same) = none i below (subst FitsHere (sym same) fitting.fits)
    fitting_found (Some found) is = record {
      field = is.field;
      fitting = record {
        factor = subst (IsFactorOfDegree K f.coefficients d) (sym is.is)
            (All-get_or (IsFactorOfDegree K f.coefficients d) (coefficients_of factors) is.number [] (omega (arith, is.below, long)) listed_here.each);
        fits = is.fits;
      };
      first = λ other fitting. no_smaller other fitting (place other fitting.factor);
      spaces = is.spaces;
    }
      where
        no_smaller : (other : List ℕ) → IsFittingOfDegree x f d other → (i : ℕ) × (i < length factors) × (get_or (coefficients_of factors) i [] ≡ other) →
            number found.poly.coefficients ≤ number other
        no_smaller other fitting (i, below, same) = by_place (dec_lt i is.number) (ℕ_discrete i is.number)
          where
            by_place : Dec (i < is.number) → Dec (i ≡ is.number) → number found.poly.coefficients ≤ number other
            by_place (yes early) _ = absurd (is.before i early (subst FitsHere (sym same) fitting.fits))
            by_place (no later) (yes here) =
                omega (arith, ap number (is.is ∙ ap (λ k. get_or (coefficients_of factors) k []) (sym here) ∙ same))
            by_place (no later) (no apart) =
                let ascends : polynomial_number K.order (get_or (coefficients_of factors) is.number []) < polynomial_number K.order (get_or (coefficients_of factors) i []) =
                listed_here.ascending is.number i [] (omega (arith, later, apart)) (omega (arith, below, long)) in
                let less : number (get_or (coefficients_of factors) is.number []) < number (get_or (coefficients_of factors) i []) =
                subst (λ q. polynomial_number q (get_or (coefficients_of factors) is.number []) < polynomial_number q (get_or (coefficients_of factors) i []))
                (number_field-order x.order) ascends in
                omega (arith, less, ap number is.is, ap number same)

    pub fitting_told : (polys : List PolyValue) (result : Result (Option Fitted) Refusal) → polys ≡ factors → Answers None (FindsFittingIn x polys) result →
        Answers None (FindsFittingOf x f d) result
    fitting_told polys result same told =
        answers_more result (FindsFittingIn x factors) (FindsFittingOf x f d)
        (subst (λ (ps : List PolyValue). Answers None (FindsFittingIn x ps) result) same told) fitting_found

  -- ---- the first small factor

  -- no divisor of f up to a degree fits
  abbrev pub NoneUpTo : PolyValue → ℕ → Type 0
  NoneUpTo f s = (d : ℕ) → 1 ≤ d → d ≤ s → (p : List ℕ) → ¬ (IsFittingOfDegree x f d p)

  pub none_up_to_0 : (f : PolyValue) → NoneUpTo f 0
  none_up_to_0 f d some within p fitting = omega arith

  pub none_up_to_next : (f : PolyValue) (s d : ℕ) → d ≡ s + 1 → NoneUpTo f s → FindsFittingOf x f d None → NoneUpTo f d
  none_up_to_next f s d is before none e some within p = at (ℕ_discrete e d)
    where
      at : Dec (e ≡ d) → ¬ (IsFittingOfDegree x f e p)
      at (yes here) = subst (λ k. ¬ (IsFittingOfDegree x f k p)) (sym here) (none p)
      at (no other) = before e some (omega (arith, is, within, other)) p

  module _ (f : PolyValue) (square : IsSquareOver K x.cols x.rows) (minimal : IsMinimalPolynomialOf x (first_unit_row x) f) where
    -- a small factor that fits is a divisor of its degree that fits: f is the one minimal polynomial
    same_minimal : (other : PolyValue) → IsMinimalPolynomialOf x (first_unit_row x) other → other.coefficients ≡ f.coefficients
    same_minimal other is =
        list_minimal_polynomial_is_unique K x.cols x.rows (unit_row x.cols 0) other.coefficients f.coefficients square (unit_over K x.cols 0)
        is.minimal minimal.minimal

    as_divisor : (p : PolyValue) → IsFittingFactor x p → IsFittingOfDegree x f (degree_of p.coefficients) p.coefficients
    as_divisor p is = record {
      factor = record {
        irreducible = is.factor.factor.irreducible;
        divides = subst (λ (g : List ℕ). Divides K p.coefficients g) (same_minimal is.factor.minimal is.factor.is_minimal) is.factor.factor.divides;
        degree_is = refl;
      };
      fits = is.fits;
    }

    -- its degree is no greater than that of f
    pub divisor_degree : (p : List ℕ) → IsMonicOver K p → Divides K p f.coefficients → degree_of p ≤ degree_of f.coefficients
    divisor_degree p over divides = by_cofactor (cofactor_is_monic (field_of K) (degree_of p) (degree_of f.coefficients) (vector_of K p) (vector_of K f.coefficients)
        (monic_of_list K p over) (monic_of_list K f.coefficients minimal.minimal.over) divides)
      where
        by_cofactor : MonicCofactor (field_of K) (degree_of p) (degree_of f.coefficients) (vector_of K p) (vector_of K f.coefficients) →
            degree_of p ≤ degree_of f.coefficients
        by_cofactor cofactor = omega (arith, cofactor.sum)

    -- none fits up to the greatest degree of both
    pub none_fits : (s : ℕ) → NoneUpTo f s → ((d : ℕ) → d ≤ greatest_degree x.order → d ≤ degree_of f.coefficients → d ≤ s) → NoneFits x
    none_fits s before enough p is =
        let divisor : IsFittingOfDegree x f (degree_of p.coefficients) p.coefficients = as_divisor p is in
        let monic : IsMonicOver K p.coefficients = is.factor.factor.irreducible.over in
        before (degree_of p.coefficients) (omega (arith, monic.positive))
        (enough (degree_of p.coefficients) is.factor.factor.bound (divisor_degree p.coefficients monic divisor.factor.divides)) p.coefficients divisor

    -- the first of a degree is the first where none of a smaller degree fits
    pub first_fits : (s d : ℕ) (found : Fitted) → d ≡ s + 1 → d ≤ greatest_degree x.order → NoneUpTo f s → IsFirstOfDegree x f d found →
        FindsFitting x (Some found)
    first_fits s d found is bounded before of_degree = (
      record {
        fitting = record {
          factor = record {
            minimal = f;
            is_minimal = minimal;
            field = of_degree.field;
            factor = record {
              irreducible = of_degree.fitting.factor.irreducible;
              divides = of_degree.fitting.factor.divides;
              bound = omega (arith, bounded, of_degree.fitting.factor.degree_is);
            };
          };
          fits = of_degree.fitting.fits;
        };
        first = λ other fitting. no_smaller other (as_divisor other fitting);
      },
      of_degree.spaces,
    )
      where
        no_smaller : (other : PolyValue) → IsFittingOfDegree x f (degree_of other.coefficients) other.coefficients →
            number found.poly.coefficients ≤ number other.coefficients
        no_smaller other divisor = by_degree (dec_lt (degree_of other.coefficients) d) (ℕ_discrete (degree_of other.coefficients) d)
          where
            monic : IsMonicOver K other.coefficients
            monic = divisor.factor.irreducible.over

            by_degree : Dec (degree_of other.coefficients < d) → Dec (degree_of other.coefficients ≡ d) →
                number found.poly.coefficients ≤ number other.coefficients
            by_degree (yes smaller) _ =
                absurd (before (degree_of other.coefficients) (omega (arith, monic.positive)) (omega (arith, smaller, is)) other.coefficients divisor)
            by_degree (no more) (yes same) =
                of_degree.first other.coefficients (subst (λ k. IsFittingOfDegree x f k other.coefficients) same divisor)
            by_degree (no more) (no greater) =
                let less : polynomial_number K.order found.poly.coefficients < polynomial_number K.order other.coefficients =
                numbers_by_degree K found.poly.coefficients other.coefficients of_degree.fitting.factor.irreducible.over monic
                (omega (arith, more, greater, of_degree.fitting.factor.degree_is)) in
                let here : number found.poly.coefficients < number other.coefficients =
                subst (λ q. polynomial_number q found.poly.coefficients < polynomial_number q other.coefficients) (number_field-order x.order) less in
                omega (arith, here)

    -- what was found, by whether there is something
    pub first_where_some : (s d : ℕ) (found : Option Fitted) → d ≡ s + 1 → d ≤ greatest_degree x.order → NoneUpTo f s → true ≡ is_some found →
        FindsFittingOf x f d found → FindsFitting x found
    first_where_some s d None is bounded before some none = absurd (let e : true ≡ false = some in cc)
    first_where_some s d (Some found) is bounded before some of_degree = first_fits s d found is bounded before of_degree

    pub none_where_none : (s d : ℕ) (found : Option Fitted) → d ≡ s + 1 → NoneUpTo f s → false ≡ is_some found → FindsFittingOf x f d found → NoneUpTo f d
    none_where_none s d None is before none of_degree = none_up_to_next f s d is before of_degree
    none_where_none s d (Some found) is before none of_degree = absurd (let e : false ≡ true = none in cc)
