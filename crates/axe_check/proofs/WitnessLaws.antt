-- The witnesses of a report of version 2.
use Rattle.std.proofs.Common.{◌≡◌, ℕ, ◌+◌, ◌-◌, ◌^◌, ◌<◌, ◌≤◌, List, length, All, Option, Some, None, inl, inr, refl, sym, subst, arith}
use Rattle.std.proofs.Math.Nat.{pow-le-pow_right}
use Rattle.std.proofs.lemmas.Bool.{cases_lt}
use Rattle.axe_polynomial_algebra.specs.PolynomialsOfLists.{degree_of}
use Rattle.axe_field.specs.Order.{Order, order_number}
use Rattle.axe_field.proofs.NumberFields.{number_field-order}
use Rattle.axe_field.proofs.Orders.{order_number-at_least}
use Rattle.axe_poly.specs.Limits.{greatest_degree}
use Rattle.axe_poly.specs.Polys.{poly_with}
use Rattle.axe_poly.proofs.PolyLaws.{greatest_is_greatest}
use Rattle.axe_report.specs.Reports.{WitnessValue, IsReportHeader, AreDigits, IsPolyOver, IsWitnessIn}
use Rattle.axe_report.specs.declared.report.ReportHeader.{ReportHeader}
use Rattle.axe_report.specs.declared.report.Version.{Version}
use Rattle.axe_report.specs.declared.report.Version.TheVariants.{One, Two}
use Rattle.axe_check.specs.Steps.{IsSmallPoly, AreDigitsOver, IsWitnessOver}

-- the degree is no greater than the greatest one
small_degree : (o : Order) (digits : List ℕ) → AreDigits (order_number o) digits → degree_of digits ≤ greatest_degree o
small_degree o digits are = elim (cases_lt (greatest_degree o) (degree_of digits)) [
  | inl more ↦
      let grows : order_number o ^ (greatest_degree o + 1) ≤ order_number o ^ (length digits - 1) =
      pow-le-pow_right (omega (arith, order_number-at_least o)) (omega (arith, more)) in
      absurd (omega (arith, grows, greatest_is_greatest o, are.small))
  | inr few ↦ few
]

digits_are_small : (o : Order) (digits : List ℕ) → AreDigits (order_number o) digits → IsSmallPoly (poly_with o digits)
digits_are_small o digits are = record {
  is_poly = record {
    elements = subst (λ q. All (λ digit. digit < q) digits) (sym (number_field-order o)) are.elements;
    positive = are.some_degree;
    leads = are.monic;
  };
  small = small_degree o digits are;
}

digits_over : (o : Order) (poly : Option (List ℕ)) → IsPolyOver (order_number o) poly → AreDigitsOver o poly
digits_over o None is = tt
digits_over o (Some digits) is = digits_are_small o digits is

-- in a report of version 2 there is a witness
pub witness_over : (header : ReportHeader) (version : Version) (witness : Option WitnessValue) → version ≡ Two → IsReportHeader header →
    IsWitnessIn version header witness → IsWitnessOver header.field witness
witness_over header One witness is numbers in_report = absurd cc
witness_over header Two None is numbers in_report = absurd in_report
witness_over header Two (Some value) is numbers in_report = record {
  value = value;
  is = refl;
  word = omega (arith, in_report.word, numbers.words);
  digits = digits_over header.field value.poly in_report.poly;
}
