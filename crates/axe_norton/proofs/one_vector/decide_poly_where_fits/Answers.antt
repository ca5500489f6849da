use Rattle.axe_echelon.proofs.Exits.{no_memory}
use Rattle.axe_norton.specs.Searches.{AreSingularSpaces}
use Rattle.axe_norton.proofs.OneVectorLaws.{singular_spaces, told_is_true}
use Rattle.axe_norton.proofs.one_vector.decide_poly_where_fits.Goals as goal

pub test_by_one-requires-clause-spaces : goal.test_by_one-requires-clause-spaces
test_by_one-requires-clause-spaces c =
    let fits = rw c.in-Some.is at c.in_ok-tested.ensures in
    let are : AreSingularSpaces c.args.module.now c.in-Some.tested c.of-spaces.result =
    singular_spaces c.args.module.now c.args.word.now c.args.poly.now fits.0 c.in-Some.tested fits.1 c.of-spaces.result
    c.of-spaces.ensures in
    (c.in-Some.tested, are)

pub returns-in_err-test_by_one-clause-says : goal.returns-in_err-test_by_one-clause-says
returns-in_err-test_by_one-clause-says c =
    let fits = rw c.in-Some.is at c.in_ok-tested.ensures in
    let are : AreSingularSpaces c.args.module.now c.in-Some.tested c.of-spaces.result =
    singular_spaces c.args.module.now c.args.word.now c.args.poly.now fits.0 c.in-Some.tested fits.1 c.of-spaces.result
    c.of-spaces.ensures in
    no_memory _ c.from_residual-in_err-test_by_one.result _ c.from_residual-in_err-test_by_one.ensures.1
    (c.in_err-test_by_one.ensures.tells c.in-Some.tested are)

pub returns-in_err-test_by_one-clause-holds : goal.returns-in_err-test_by_one-clause-holds
returns-in_err-test_by_one-clause-holds c =
    let fits = rw c.in-Some.is at c.in_ok-tested.ensures in
    let are : AreSingularSpaces c.args.module.now c.in-Some.tested c.of-spaces.result =
    singular_spaces c.args.module.now c.args.word.now c.args.poly.now fits.0 c.in-Some.tested fits.1 c.of-spaces.result
    c.of-spaces.ensures in
    no_memory _ c.from_residual-in_err-test_by_one.result _ c.from_residual-in_err-test_by_one.ensures.1
    (c.in_err-test_by_one.ensures.tells c.in-Some.tested are)

pub returns-clause-says : goal.returns-clause-says
returns-clause-says c =
    let fits = rw c.in-Some.is at c.in_ok-tested.ensures in
    let are : AreSingularSpaces c.args.module.now c.in-Some.tested c.of-spaces.result =
    singular_spaces c.args.module.now c.args.word.now c.args.poly.now fits.0 c.in-Some.tested fits.1 c.of-spaces.result
    c.of-spaces.ensures in (
      fits.0,
      record {
        tested = c.in-Some.tested;
        is_tested = fits.1;
        tells = rw c.in_ok-poly.ensures.copied at c.in_ok-test_by_one.ensures.tells c.in-Some.tested are;
      },
    )

pub returns-clause-holds : goal.returns-clause-holds
returns-clause-holds c =
    let fits = rw c.in-Some.is at c.in_ok-tested.ensures in
    let are : AreSingularSpaces c.args.module.now c.in-Some.tested c.of-spaces.result =
    singular_spaces c.args.module.now c.args.word.now c.args.poly.now fits.0 c.in-Some.tested fits.1 c.of-spaces.result
    c.of-spaces.ensures in
    told_is_true c.args.module.now c.args.word.now c.args.poly.now fits.0 c.in-Some.tested fits.1
    c.in_ok-test_by_one.ensures.well_formed c.requires.word c.in_ok-test_by_one.field-0
    (rw c.in_ok-poly.ensures.copied at c.in_ok-test_by_one.ensures.tells c.in-Some.tested are)
