use Rattle.std.proofs.Common.{◌≡◌, ◌≤◌, ◌++◌, [], ◌∷◌, List, ap, sym, ◌∙◌, append_assoc, arith}
use Rattle.std.specs.Vec.Iter.{into_iter_items}
use Rattle.std.proofs.lemmas.List.{append-nil, nil_from_length}
use Rattle.axe_polynomial_algebra.specs.PolynomialsOfLists.{degree_of}
use Rattle.axe_poly.specs.Limits.{greatest_degree}
use Rattle.axe_poly.specs.Polys.{PolyValue}
use Rattle.axe_poly.proofs.DivisorLaws.{next_of_all}
use Rattle.axe_poly.proofs.divisor.divisors_of.Goals as goal
use mathlib.Core.Path.{ap₂}

pub new-requires-clause-field : goal.new-requires-clause-field
new-requires-clause-field c =
    sym (next_of_all (λ p. p.order ≡ c.args.lanes.now) c.args.polynomials.items c.loop-poly.yielded
    (into_iter_items c.loop-poly.poly-iterator) (into_iter_items c.next.new.self) c.in-Some.poly c.requires.fields
    c.loop-poly.invariant.items c.in-Some.ensures.steps.0)

pub new-requires-clause-degree : goal.new-requires-clause-degree
new-requires-clause-degree c =
    let field = next_of_all (λ p. p.order ≡ c.args.lanes.now) c.args.polynomials.items c.loop-poly.yielded
    (into_iter_items c.loop-poly.poly-iterator) (into_iter_items c.next.new.self) c.in-Some.poly c.requires.fields
    c.loop-poly.invariant.items c.in-Some.ensures.steps.0 in
    let small = next_of_all (λ p. degree_of p.coefficients ≤ greatest_degree c.args.lanes.now) c.args.polynomials.items
    c.loop-poly.yielded (into_iter_items c.loop-poly.poly-iterator) (into_iter_items c.next.new.self) c.in-Some.poly
    c.requires.degrees c.loop-poly.invariant.items c.in-Some.ensures.steps.0 in
    omega (arith, small, ap greatest_degree field)

pub loop-poly-preserved : goal.loop-poly-preserved
loop-poly-preserved c = record {
  items = append_assoc c.loop-poly.yielded (c.in-Some.poly ∷ []) (into_iter_items c.next.new.self)
      ∙ ap (λ rest. c.loop-poly.yielded ++ rest) (sym c.in-Some.ensures.steps.0) ∙ c.loop-poly.invariant.items;
  made = c.in_ok-push.ensures.items
      ∙ ap₂ (λ (xs : List PolyValue) x. xs ++ x ∷ []) c.loop-poly.invariant.made c.new.ensures;
}

pub returns : goal.returns
returns c =
    let none = nil_from_length (into_iter_items c.loop-poly.poly-iterator)
    (omega (arith, c.in-None.ensures.steps.0, c.loop-poly.poly-iterator.rest.ok)) in
    c.loop-poly.invariant.made ∙ sym (append-nil c.loop-poly.yielded)
    ∙ ap (λ rest. c.loop-poly.yielded ++ rest) (sym none) ∙ c.loop-poly.invariant.items
