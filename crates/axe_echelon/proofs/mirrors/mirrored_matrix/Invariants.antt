use Rattle.axe_echelon.proofs.MirroredRows.{HasMirroredRows}
use Rattle.axe_echelon.proofs.mirrors.mirrored_matrix.Given as goal

abbrev pub invariant-loop-index : goal.invariant-loop-index
invariant-loop-index l = HasMirroredRows l.index l.matrix l.mirrored
