use Rattle.std.specs.List.{All}
use Rattle.axe_reduction.specs.AugmentedRows.{IsRowLike, cancelled}
use Rattle.axe_reduction.proofs.AugmentedRowLaws.{IsMappedBelow}
use Rattle.axe_reduction.proofs.augmented_row.cancel_in_each.Given as goal

abbrev pub invariant-loop-other : goal.invariant-loop-other
invariant-loop-other l = record {
  mapped : IsMappedBelow l.other-index (cancelled l.column l.row) l.fn.rows l.rows;
  alike : All (IsRowLike l.row) l.rows;
}
