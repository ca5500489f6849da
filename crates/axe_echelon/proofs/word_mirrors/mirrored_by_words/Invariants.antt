use Rattle.axe_echelon.proofs.MirroredWords.{IsMirroredBelow}
use Rattle.axe_echelon.proofs.word_mirrors.mirrored_by_words.Given as goal

abbrev pub invariant-loop-power : goal.invariant-loop-power
invariant-loop-power l = IsMirroredBelow l.power l.row l.mirrored
