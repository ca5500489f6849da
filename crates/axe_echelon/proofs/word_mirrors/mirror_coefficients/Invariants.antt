use Rattle.axe_row.specs.Rows.{IsRow}
use Rattle.axe_echelon.proofs.MirroredWords.{HasMirroredWords}
use Rattle.axe_echelon.proofs.word_mirrors.mirror_coefficients.Given as goal

abbrev pub invariant-loop-at : goal.invariant-loop-at
invariant-loop-at l = record {
  part : HasMirroredWords l.power l.at l.row l.fn.mirrored l.mirrored;
  well_formed : IsRow l.mirrored;
}
