use Rattle.std.proofs.Common.{◌≡◌, ◌/◌, ◌%◌}
use Rattle.axe_algebra.specs.Lists.{listed}
use Rattle.axe_file.specs.Marks.{mark_of}
use Rattle.axe_file.proofs.reading.marks_of_bytes.Given as goal

abbrev pub invariant-loop-index : goal.invariant-loop-index
invariant-loop-index l = l.table.items ≡ listed l.index (λ i. mark_of l.layout.field (i / l.layout.marks) (i % l.layout.marks))
