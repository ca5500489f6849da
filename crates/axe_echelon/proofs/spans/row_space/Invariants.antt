use Rattle.axe_echelon.proofs.RowSpaces.{IsRowSpaceOfFirst}
use Rattle.axe_echelon.proofs.spans.row_space.Given as goal

abbrev pub invariant-loop-index : goal.invariant-loop-index
invariant-loop-index l = IsRowSpaceOfFirst l.matrix l.index l.space
