use Rattle.axe_norton.proofs.TestedLaws.{value_square}
use Rattle.axe_norton.proofs.DecisionLaws.{truth_told}
use Rattle.axe_norton.proofs.SaidLaws.{said_is_true}
use Rattle.axe_norton.proofs.FirstLaws.{said_by_points, said_where_left}
use Rattle.axe_norton.proofs.decisions.decide_value.Goals as goal

pub test_null_space-requires-clause-value : goal.test_null_space-requires-clause-value
test_null_space-requires-clause-value c = record {
  word = c.args.word.now;
  is_word = c.requires.word;
  is_value = c.requires.value;
}

pub test_by_factor-requires-clause-square : goal.test_by_factor-requires-clause-square
test_by_factor-requires-clause-square c = value_square c.args.module.now c.args.word.now c.args.value.now c.requires.value

pub returns-in-Left-clause-says : goal.returns-in-Left-clause-says
returns-in-Left-clause-says c =
    said_where_left c.args.module.now c.args.word.now c.args.value.now c.requires.value c.test_by_factor.result
    (rw c.in-Left.is at c.in_ok-told.ensures.tells) c.test_by_factor.ensures.tells

pub returns-in-Left-clause-holds : goal.returns-in-Left-clause-holds
returns-in-Left-clause-holds c =
    truth_told c.args.module.now c.args.word.now c.test_by_factor.result c.test_by_factor.ensures.well_formed c.requires.word
    (said_where_left c.args.module.now c.args.word.now c.args.value.now c.requires.value c.test_by_factor.result
    (rw c.in-Left.is at c.in_ok-told.ensures.tells) c.test_by_factor.ensures.tells)

pub returns-in_default-clause-says : goal.returns-in_default-clause-says
returns-in_default-clause-says c =
    said_by_points c.args.module.now c.args.word.now c.args.value.now c.requires.value c.in_ok-told.told c.in_default.not-Left
    c.in_ok-told.ensures.tells

pub returns-in_default-clause-holds : goal.returns-in_default-clause-holds
returns-in_default-clause-holds c =
    said_is_true c.args.module.now c.in_ok-told.ensures.well_formed c.args.word.now c.in_ok-told.told c.requires.word
    (said_by_points c.args.module.now c.args.word.now c.args.value.now c.requires.value c.in_ok-told.told c.in_default.not-Left
    c.in_ok-told.ensures.tells)
