use Rattle.axe_norton.proofs.OpenLaws.{own_square}
use Rattle.axe_norton.proofs.DecisionLaws.{fitted_spaces, told_by_first}
use Rattle.axe_norton.proofs.one_vector.test_by_factor.Goals as goal

pub first_fitting-requires-clause-square : goal.first_fitting-requires-clause-square
first_fitting-requires-clause-square c = own_square c.args.module.now c.args.matrix.now c.requires.square

pub test_by_one-requires-clause-spaces : goal.test_by_one-requires-clause-spaces
test_by_one-requires-clause-spaces c =
    let first = rw c.in-Some.is at c.in_ok-found.ensures.found in (
      first.1.tested,
      fitted_spaces c.args.module.now c.args.matrix.now c.requires.square c.in-Some.found.poly first.0.fitting first.1.tested first.1.is_tested
          c.in-Some.found.spaces first.1.of_tested,
    )

pub returns-in-Some-clause-tells : goal.returns-in-Some-clause-tells
returns-in-Some-clause-tells c =
    let first = rw c.in-Some.is at c.in_ok-found.ensures.found in
    told_by_first c.args.module.now c.args.matrix.now c.in-Some.found.poly first.1.tested c.test_by_one.result first.0 first.1.is_tested
    (c.test_by_one.ensures.tells first.1.tested
    (fitted_spaces c.args.module.now c.args.matrix.now c.requires.square c.in-Some.found.poly first.0.fitting first.1.tested first.1.is_tested
    c.in-Some.found.spaces first.1.of_tested))
