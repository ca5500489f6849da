use Rattle.std.proofs.Common.{◌+◌, ap, arith}
use Rattle.axe_poly.specs.Limits.{greatest_degree}
use Rattle.axe_norton.proofs.FactorLaws.{none_up_to_0, first_where_some, none_where_none, none_fits}
use Rattle.axe_norton.proofs.factors.first_fitting_divisor.Goals as goal

pub loop-below-init : goal.loop-below-init
loop-below-init c = record {
  field = c.requires.field;
  reached = omega arith;
  none = none_up_to_0 c.args.matrix.now c.args.first.now.minimal;
  second = tt;
}

pub fitting_of_degree-requires-clause-field : goal.fitting_of_degree-requires-clause-field
fitting_of_degree-requires-clause-field c = c.loop-below.invariant.field

pub fitting_of_degree-requires-clause-next : goal.fitting_of_degree-requires-clause-next
fitting_of_degree-requires-clause-next c = omega (arith, c.loop-below.invariant.reached)

pub fitting_of_degree-requires-clause-second : goal.fitting_of_degree-requires-clause-second
fitting_of_degree-requires-clause-second c = c.loop-below.invariant.second

pub returns-then-is_some-clause-found : goal.returns-then-is_some-clause-found
returns-then-is_some-clause-found c =
    first_where_some c.args.matrix.now c.args.first.now.minimal c.requires.square c.requires.first.minimal c.loop-below.below (c.loop-below.below + 1) c.in_ok-found.found
    (omega arith)
    (omega (arith, c.loop-below-test.true, c.loop-below.auto.below-end, c.min-most.ensures, c.greatest_degree.ensures, ap greatest_degree c.field.ensures.order))
    c.loop-below.invariant.none c.if-is_some.ensures c.in_ok-found.ensures.found

pub loop-below-preserved : goal.loop-below-preserved
loop-below-preserved c = record {
  field = c.fitting_of_degree.ensures.same_field;
  reached = c.in_ok-found.ensures.reached;
  none = none_where_none c.args.matrix.now c.args.first.now.minimal c.requires.square c.requires.first.minimal c.loop-below.below (c.loop-below.below + 1)
      c.in_ok-found.found (omega arith) c.loop-below.invariant.none c.if-is_some.ensures c.in_ok-found.ensures.found;
  second = c.in_ok-found.ensures.second;
}

pub returns-clause-found : goal.returns-clause-found
returns-clause-found c =
    none_fits c.args.matrix.now c.args.first.now.minimal c.requires.square c.requires.first.minimal c.loop-below.below c.loop-below.invariant.none
    (λ d small divides. omega (
      arith,
      small,
      divides,
      c.loop-below-test.false,
      c.loop-below.auto.below-end,
      c.min-most.ensures,
      c.greatest_degree.ensures,
      ap greatest_degree c.field.ensures.order,
      c.degree.ensures.value,
    ))

pub returns-clause-same_field : goal.returns-clause-same_field
returns-clause-same_field c = c.loop-below.invariant.field
