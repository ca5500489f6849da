use Rattle.std.proofs.Common.{◌≡◌, ◌++◌, length, take}
use Rattle.std.specs.List.{flat_map}
use Rattle.axe_file.specs.Packed.{packed_row}
use Rattle.axe_file.proofs.writing.put_rows.Given as goal

abbrev pub invariant-loop-index : goal.invariant-loop-index
invariant-loop-index l =
    (l.bytes.items ≡ l.fn.bytes.items ++ flat_map (packed_row l.matrix.order l.matrix.cols) (take l.index l.matrix.rows))
    × (length l.room ≡ length l.fn.room)
