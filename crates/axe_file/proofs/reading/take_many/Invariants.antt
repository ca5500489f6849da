use Rattle.std.proofs.Common.{◌≡◌, ◌*◌, length, take}
use Rattle.axe_algebra.specs.Lists.{listed}
use Rattle.axe_file.proofs.MarkTables.{taken}
use Rattle.axe_file.proofs.reading.take_many.Given as goal

abbrev pub invariant-loop-place : goal.invariant-loop-place
invariant-loop-place g l =
    (take (l.place * g.row.COUNT) l.marks ≡ listed (l.place * g.row.COUNT) (taken g.row.COUNT l.table l.bytes)) × (length l.marks ≡ length l.initial.marks)
