use Rattle.std.proofs.Common.{◌-◌}
use Rattle.axe_row.specs.BitBlocks.{bits_of_word}
use Rattle.axe_echelon.proofs.WordsOfPivots.{IsHalfCleared, zeros_ahead}
use Rattle.axe_echelon.proofs.subspace.Subspace.clear_word_of_held.Given as goal

abbrev pub invariant-loop-place : goal.invariant-loop-place
invariant-loop-place g l =
    IsHalfCleared l.self l.self-inside.field l.self-inside.cols l.self-inside.rows.items l.self-inside.pivots l.fn.at l.fn.held l.held l.marks

abbrev pub decreases-loop-place : goal.decreases-loop-place
decreases-loop-place g l = 64 - zeros_ahead (bits_of_word l.marks)
