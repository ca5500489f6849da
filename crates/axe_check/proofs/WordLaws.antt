-- What the words that are named say of constituents.
use Rattle.std.proofs.Common.{◌≡◌, ◌≢◌, ℕ, ◌≤◌, inl, inr, List, Option, Some, None, string_bytes, String, refl, sym, ap, subst, ◌∙◌, arith}
use Rattle.axe_polynomial_algebra.specs.PolynomialsOfLists.{degree_of, IsIrreduciblePolynomial, Fits}
use Rattle.axe_field.specs.Order.{Order}
use Rattle.axe_field.specs.NumberFields.{number_field}
use Rattle.axe_row.specs.Rows.{RowValue}
use Rattle.axe_matrix.specs.Matrices.{MatrixValue}
use Rattle.axe_poly.specs.Limits.{greatest_degree}
use Rattle.axe_poly.specs.Polys.{PolyValue, poly_with}
use Rattle.axe_spin.specs.Modules.{ModuleValue}
use Rattle.axe_word.specs.Words.{WordValue, IsValueOf}
use Rattle.axe_norton.specs.declared.verdicts.At.{At}
use Rattle.axe_norton.specs.declared.verdicts.At.TheVariants.{Irreducible, Reducible, Left}
use Rattle.axe_norton.specs.Spaces.{GeneratesModule}
use Rattle.axe_norton.specs.OneVector.{FitsWord, SaysByPoly, ShowsIrreducibleByOne}
use Rattle.axe_norton.specs.Verdicts.{last_word, IsTrueOf, word_of_seed}
use Rattle.axe_norton.proofs.UniqueLaws.{says_one, poly_says_one}
use Rattle.axe_iso.specs.Forms.{FormValue, IsForm, IsFormFrom, IsNullSpaceOf}
use Rattle.axe_iso.proofs.PointForms.{fitting_is_small, point_is_null_vector, point_is_vector}
use Rattle.axe_series.proofs.SomeForm.{IsShownBy, said_is_shown}
use Rattle.axe_report.specs.Reports.{FactorValue, WitnessValue, word_of, poly_of}
use Rattle.axe_check.specs.Certificates.{SaysWith, named_poly, WitnessSays}
use Rattle.axe_check.specs.Steps.{AreDigitsOver, IsWitnessOver, LeavesOpenBy, IsSeenBy, IsFormOf, IsReducibleReason}
use Rattle.axe_report.specs.declared.reasons.Reason
use Rattle.axe_check.proofs.ProperSubmodules.{proper_is_reducible}
use Rattle.std.specs.declared.alloc.Global.{Global}

-- a word, with a polynomial or none, says one thing
pub says_with_one : (m : ModuleValue) (word : WordValue) (poly : Option PolyValue) (a b : At) → SaysWith m word poly a → SaysWith m word poly b → a ≡ b
says_with_one m word None a b first second = says_one m word a b first second
says_with_one m word (Some p) a b (inl (fits, first)) (inl (also, second)) = poly_says_one m word p a b first second
says_with_one m word (Some p) a b (inl (fits, first)) (inr (not_so, second)) = absurd (not_so fits)
says_with_one m word (Some p) a b (inr (not_so, first)) (inl (fits, second)) = absurd (not_so fits)
says_with_one m word (Some p) a b (inr (not_so, first)) (inr (nor, second)) = says_one m word a b first second

irreducible_is_said : (poly : Option PolyValue) (v : RowValue) → Irreducible poly v ≢ Left
irreducible_is_said poly v same = cc

reducible_is_said : (space : MatrixValue) → Reducible space ≢ Left
reducible_is_said space same = cc

same_of_some : {A : Type 0} (x y : A) → Some x ≡ Some y → x ≡ y
same_of_some x y e = cc

-- so where a witness says something else it doesn't leave the module open
pub not_left_open : (m : ModuleValue) (seed : ℕ) (witness : Option WitnessValue) (value : WitnessValue) (answer : At) → witness ≡ Some value →
    answer ≢ Left → WitnessSays m seed value answer → ¬ (LeavesOpenBy m seed witness)
not_left_open m seed witness value answer is other says (w, named, left) =
    other
    (says_with_one m (word_of_seed m seed value.word) (named_poly m.order value.poly) answer Left says
    (subst (λ (v : WitnessValue). WitnessSays m seed v Left) (same_of_some w value (sym named ∙ is)) left))

-- ---- the vector of an irreducible module

module _ (m : ModuleValue) (seed number : ℕ) (p : PolyValue) (v : RowValue) (small : degree_of p.coefficients ≤ greatest_degree p.order)
    (fits : FitsWord m (word_of_seed m seed number) p) where
  module _ (by : PolyValue) (says : SaysByPoly m (word_of_seed m seed number) p (Irreducible (Some by) v)) where
    space : IsNullSpaceOf m seed number (Some p) says.tested.null_space
    space = record { matrix = says.tested.matrix; is_tested = says.is_tested }

    abbrev x : MatrixValue
    x = says.is_tested.argument

    is_value : IsValueOf m (word_of_seed m seed number) x
    is_value = says.is_tested.is_value

    shown : ShowsIrreducibleByOne m says.tested.matrix says.tested.null_space v → IsShownBy m seed number (Some p) v
    shown shows = record {
      of_module = point_is_vector m seed number (Some p) says.tested.null_space space 0 shows.some_point v shows.first shows.field;
      generates = subst (GeneratesModule m) (sym shows.first) shows.generates;
      null = point_is_null_vector m seed number (Some p) says.tested.null_space space 0 shows.some_point v shows.first;
      small =
          fitting_is_small m seed number p x is_value (fits.field ∙ sym is_value.field)
          (subst (λ o. IsIrreduciblePolynomial (number_field o) p.coefficients) (sym is_value.field) fits.irreducible)
          (subst (λ o. degree_of p.coefficients ≤ greatest_degree o) (fits.field ∙ sym is_value.field) small)
          (subst (λ o. Fits (number_field o) x.rows p.coefficients) (sym is_value.field) (fits.fits x is_value));
    }

    shown_by_named : IsShownBy m seed number (Some by) v
    shown_by_named = subst (λ (q : PolyValue). IsShownBy m seed number (Some q) v) (sym says.tells.0) (shown says.tells.1)

  poly_is_shown : (poly : Option PolyValue) → SaysByPoly m (word_of_seed m seed number) p (Irreducible poly v) → IsShownBy m seed number poly v
  poly_is_shown None says = absurd says.tells
  poly_is_shown (Some by) says = shown_by_named by says

-- a word, with a small polynomial or none, that shows the module to be irreducible gives such a vector
pub with_is_shown : (m : ModuleValue) (seed number : ℕ) (named poly : Option PolyValue) (v : RowValue) →
    ((p : PolyValue) → named ≡ Some p → degree_of p.coefficients ≤ greatest_degree p.order) →
    SaysWith m (word_of_seed m seed number) named (Irreducible poly v) → IsShownBy m seed number poly v
with_is_shown m seed number None poly v small says = said_is_shown m seed number poly v says
with_is_shown m seed number (Some p) poly v small (inl (fits, says)) = poly_is_shown m seed number p v (small p refl) fits poly says
with_is_shown m seed number (Some p) poly v small (inr (not_so, says)) = said_is_shown m seed number poly v says

-- the degree of a polynomial that is named is small
named_small : (o : Order) (digits : Option (List ℕ)) → AreDigitsOver o digits → (p : PolyValue) → named_poly o digits ≡ Some p →
    degree_of p.coefficients ≤ greatest_degree p.order
named_small o None are p is = absurd cc
named_small o (Some digits) are p is =
    subst (λ (q : PolyValue). degree_of q.coefficients ≤ greatest_degree q.order) (same_of_some (poly_with o digits) p is) are.small

-- ---- what the named word says, and what comes of it

-- the number that is named is that of a word that may be tried
pub word_within : (o : Order) (witness : Option WitnessValue) → IsWitnessOver o witness → (word : Option ℕ) (number : ℕ) → word ≡ word_of witness → word ≡ Some number →
    number ≤ last_word
word_within o witness is word number word_is number_is =
    let same : number ≡ is.value.word = same_of_some number is.value.word (sym number_is ∙ word_is ∙ ap word_of is.is) in
    omega (arith, same, is.word)

module _ (m : ModuleValue) (seed : ℕ) (witness : Option WitnessValue) (is : IsWitnessOver m.order witness) (word : Option ℕ) (number : ℕ)
    (digits : Option (List ℕ)) (at : At) (word_is : word ≡ word_of witness) (number_is : word ≡ Some number) (digits_is : digits ≡ poly_of witness)
    (says : SaysWith m (word_of_seed m seed number) (named_poly m.order digits) at) where
  number_same : number ≡ is.value.word
  number_same = same_of_some number is.value.word (sym number_is ∙ word_is ∙ ap word_of is.is)

  digits_same : digits ≡ is.value.poly
  digits_same = digits_is ∙ ap poly_of is.is

  witness_says : WitnessSays m seed is.value at
  witness_says =
      subst (λ n. SaysWith m (word_of_seed m seed n) (named_poly m.order is.value.poly) at) number_same
      (subst (λ ds. SaysWith m (word_of_seed m seed number) (named_poly m.order ds) at) digits_same says)

  pub not_left : at ≢ Left → ¬ (LeavesOpenBy m seed witness)
  not_left other = not_left_open m seed witness is.value at is.is other witness_says

  pub left_open : at ≡ Left → LeavesOpenBy m seed witness
  left_open left = (is.value, is.is, subst (WitnessSays m seed is.value) left witness_says)

  pub seen_shown : (poly lent : Option PolyValue) (v : RowValue) → at ≡ Irreducible poly v → lent ≡ poly → IsShownBy m seed number lent v
  seen_shown poly lent v at_is lent_is =
      subst (λ (p : Option PolyValue). IsShownBy m seed number p v) (sym lent_is)
      (with_is_shown m seed number (named_poly m.order digits) poly v
      (named_small m.order digits (subst (AreDigitsOver m.order) (sym digits_same) is.digits))
      (subst (SaysWith m (word_of_seed m seed number) (named_poly m.order digits)) at_is says))

  pub seen_by : (poly : Option PolyValue) (v : RowValue) → at ≡ Irreducible poly v → IsTrueOf m at → IsSeenBy m seed witness
  seen_by poly v at_is true_of = record {
    decided = not_left (λ left. irreducible_is_said poly v (sym at_is ∙ left));
    irreducible = subst (IsTrueOf m) at_is true_of;
  }

  pub reducible_reason : (space : MatrixValue) (reported : FactorValue) (name : String Global) → witness ≡ reported.witness → at ≡ Reducible space → IsTrueOf m at →
      string_bytes name ≡ reported.name → IsReducibleReason m seed reported (Reason.TheVariants.Reducible name)
  reducible_reason space reported name witness_is at_is true_of named = record {
    name = name;
    is = refl;
    named = named;
    decided = subst (λ w. ¬ (LeavesOpenBy m seed w)) witness_is (not_left (λ left. reducible_is_said space (sym at_is ∙ left)));
    wrong = proper_is_reducible m space (subst (IsTrueOf m) at_is true_of);
  }

-- a form is one by its own word
pub form_of_itself : (m : ModuleValue) (seed number : ℕ) (poly : Option PolyValue) (v : RowValue) (form : FormValue) → IsForm form →
    IsFormFrom m seed number poly v form → IsFormOf m form
form_of_itself m seed number poly v form is_form from = record {
  poly = poly;
  vector = v;
  is_form = is_form;
  from =
      subst (λ k. IsFormFrom m k form.word poly v form) (sym from.seed_is)
      (subst (λ k. IsFormFrom m seed k poly v form) (sym from.word_is) from);
}
