use Rattle.std.proofs.Common.{◌-◌}
use Rattle.axe_row.specs.BitBlocks.{bits_of_word}
use Rattle.axe_echelon.proofs.WordsOfPivots.{IsHalfClearedWith, zeros_ahead}
use Rattle.axe_echelon.proofs.subspace.Subspace.clear_word_of_held_with.Given as goal

abbrev pub invariant-loop-place : goal.invariant-loop-place
invariant-loop-place g l =
    IsHalfClearedWith l.self l.self-inside.field l.self-inside.cols l.self-inside.rows.items l.self-inside.pivots l.fn.word l.fn.held l.held l.marks
    l.fn.multipliers l.multipliers

abbrev pub decreases-loop-place : goal.decreases-loop-place
decreases-loop-place g l = 64 - zeros_ahead (bits_of_word l.marks)
