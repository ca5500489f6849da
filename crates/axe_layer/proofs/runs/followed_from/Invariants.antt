use Rattle.axe_layer.proofs.RunLaws.{TellsBetween}
use Rattle.axe_layer.proofs.runs.followed_from.Given as goal

abbrev pub invariant-loop-at : goal.invariant-loop-at
invariant-loop-at l = TellsBetween l.indices l.from l.at l.word
