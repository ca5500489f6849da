use Rattle.axe_row.proofs.PieceNumbers.{IsNumberBelow}
use Rattle.axe_row.proofs.Row.piece_number.Given as goal

abbrev pub invariant-loop-index : goal.invariant-loop-index
invariant-loop-index l = IsNumberBelow l.self l.scalar l.at l.index l.number
