use Rattle.axe_layer.proofs.DigitWords.{digit_alone, none_above_one}
use Rattle.axe_layer.proofs.runs.digits_from.Goals as goal

pub returns-then-count-eq1-clause-taken : goal.returns-then-count-eq1-clause-taken
returns-then-count-eq1-clause-taken c = λ i low below. digit_alone c.args.words.now c.args.from i c.args.count c.if-count-eq1.true below

pub returns-then-count-eq1-clause-cleared : goal.returns-then-count-eq1-clause-cleared
returns-then-count-eq1-clause-cleared c = λ i low above. none_above_one _ i c.args.count c.if-count-eq1.true above
