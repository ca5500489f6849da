use Rattle.std.proofs.Common.{◌≡◌, ◌+◌, ◌*◌, ◌^◌, ◌≤◌, length, sym, ◌∙◌, ap, arith}
use Rattle.std.specs.List.{All}
use Rattle.std.proofs.lemmas.List.{length-replicate}
use Rattle.axe_field.specs.Order.{order_number}
use Rattle.axe_row.specs.Rows.{RowValue}
use Rattle.axe_echelon.proofs.Exits.{answers_more}
use Rattle.axe_polynomial_algebra.specs.PolynomialsOfLists.{degree_of}
use Rattle.axe_poly.specs.Limits.{greatest_degree}
use Rattle.axe_poly.specs.Polys.{PolyValue}
use Rattle.axe_poly.specs.Tables.{AreFoundBelow}
use Rattle.axe_poly.proofs.FoundLaws.{found_none, found_degrees, found_all}
use Rattle.axe_poly.proofs.irreducibles.Irreducibles.of_next_degree.Goals as goal
use mathlib.Core.Path.{ap₂, subst}

pub loop-number-init : goal.loop-number-init
loop-number-init c =
    let long : c.degree.result + 1 + 1 ≡ c.args.self.now.degree + 2 = omega (arith, c.degree.ensures.value) in
    record {
      candidate_field = ap (λ (r : RowValue). r.order) c.in_ok-candidate.ensures ∙ c.field.ensures.order;
      candidate_long = ap (λ (r : RowValue). length r.entries) c.in_ok-candidate.ensures ∙ length-replicate _ _ ∙ long;
      found = found_none c.args.self.now c.power-first.result c.new-found.result.items
          (c.power-first.ensures.value
          ∙ ap₂ (λ q n. q ^ (n + 1))
          (ap order_number c.field.ensures.order) c.degree.ensures.value) c.new-found.ensures.items;
    }

pub divisors_of-requires-clause-fields : goal.divisors_of-requires-clause-fields
divisors_of-requires-clause-fields c =
    λ i p inside. c.loop-number.invariant.found.fields i p inside ∙ sym c.lanes.ensures.order

pub divisors_of-requires-clause-degrees : goal.divisors_of-requires-clause-degrees
divisors_of-requires-clause-degrees c =
    subst (λ o. All (λ (p : PolyValue). degree_of p.coefficients ≤ greatest_degree o) c.loop-number.found.items)
    (sym c.lanes.ensures.order)
    (found_degrees c.args.self.now c.loop-number.number c.loop-number.found.items c.requires
    c.loop-number.invariant.found)

pub returns : goal.returns
returns c =
    let t = c.args.self.now in
    answers_more c.divisors_of.result _ _ c.divisors_of.ensures (λ divisors same.
    subst (AreFoundBelow t (2 * order_number t.order ^ (t.degree + 1))) (sym same)
    (found_all t c.power-first.result c.loop-number.number c.loop-number.found.items
    (c.power-first.ensures.value
    ∙ ap₂ (λ q n. q ^ (n + 1)) (ap order_number c.field.ensures.order) c.degree.ensures.value)
    (omega (arith, c.loop-number-test.false, c.loop-number.auto.number-end (omega arith)))
    c.loop-number.invariant.found))
