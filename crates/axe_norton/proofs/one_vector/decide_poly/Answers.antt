use Rattle.axe_echelon.proofs.Exits.{answers_more}
use Rattle.axe_norton.specs.Searches.{AreSingularSpaces}
use Rattle.axe_norton.proofs.OneVectorLaws.{singular_spaces, told_is_true, said_by_poly}
use Rattle.axe_norton.proofs.one_vector.decide_poly.Goals as goal

pub test_by_one-requires-clause-spaces : goal.test_by_one-requires-clause-spaces
test_by_one-requires-clause-spaces c = (
  c.in_ok-tested.tested,
  singular_spaces c.args.module.now c.args.word.now c.args.poly.now c.requires.poly c.in_ok-tested.tested
      c.in_ok-tested.ensures c.of-spaces.result c.of-spaces.ensures,
)

pub returns-clause-says : goal.returns-clause-says
returns-clause-says c =
    let are : AreSingularSpaces c.args.module.now c.in_ok-tested.tested c.of-spaces.result =
    singular_spaces c.args.module.now c.args.word.now c.args.poly.now c.requires.poly c.in_ok-tested.tested c.in_ok-tested.ensures
    c.of-spaces.result c.of-spaces.ensures in
    said_by_poly c.args.module.now c.args.word.now c.args.poly.now c.requires.poly c.in_ok-tested.tested c.in_ok-tested.ensures
    c.test_by_one.result (rw c.in_ok-poly.ensures.copied at c.test_by_one.ensures.tells c.in_ok-tested.tested are)

pub returns-clause-holds : goal.returns-clause-holds
returns-clause-holds c =
    let are : AreSingularSpaces c.args.module.now c.in_ok-tested.tested c.of-spaces.result =
    singular_spaces c.args.module.now c.args.word.now c.args.poly.now c.requires.poly c.in_ok-tested.tested c.in_ok-tested.ensures
    c.of-spaces.result c.of-spaces.ensures in
    answers_more c.test_by_one.result _ _ (rw c.in_ok-poly.ensures.copied at c.test_by_one.ensures.tells c.in_ok-tested.tested are)
    (told_is_true c.args.module.now c.args.word.now c.args.poly.now c.requires.poly c.in_ok-tested.tested c.in_ok-tested.ensures
    c.test_by_one.ensures.well_formed c.requires.word)
