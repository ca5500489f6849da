use Rattle.std.proofs.Common.{◌-◌}
use Rattle.axe_row.specs.BitBlocks.{bits_of_word, IsBlock}
use Rattle.axe_row.specs.EntryWords.{entries_in_word}
use Rattle.axe_row.specs.Rows.{IsRow}
use Rattle.axe_echelon.proofs.WordsOfPivots.{IsHalfClearedWith, zeros_ahead}
use Rattle.axe_echelon.proofs.subspace.Subspace.clear_word_with_by_block.Given as goal

abbrev pub invariant-loop-place : goal.invariant-loop-place
invariant-loop-place g l = record {
  cleared : IsHalfClearedWith l.self l.self-inside.field l.self-inside.cols l.self-inside.rows.items l.self-inside.pivots l.fn.word l.fn.row l.row
      l.places l.fn.multipliers l.multipliers;
  block_is : IsBlock l.self-inside.field (entries_in_word l.row.entries l.fn.word) l.block;
  row_well_formed : IsRow l.row;
}

abbrev pub decreases-loop-place : goal.decreases-loop-place
decreases-loop-place g l = 64 - zeros_ahead (bits_of_word l.places)
