use Rattle.std.proofs.Common.{rules, arith}
use Rattle.std.proofs.lemmas.Grind.{common_steps}
use Rattle.axe_layer.proofs.layer.word_of.Goals as goal

pub loop-at-preserved : goal.loop-at-preserved
loop-at-preserved c = grind (arith, common_steps)

pub returns-then-numbers-from-ge-WORD : goal.returns-then-numbers-from-ge-WORD
returns-then-numbers-from-ge-WORD c = search rules
