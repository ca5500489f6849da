use Rattle.std.proofs.Common.{◌≡◌}
use Rattle.axe_algebra.specs.Lists.{listed}
use Rattle.axe_file.specs.Packed.{mark_at}
use Rattle.axe_file.proofs.reading.take_rows.Given as goal

abbrev pub invariant-loop-index : goal.invariant-loop-index
invariant-loop-index l =
    l.matrix ≡ record { order = l.layout.field; cols = l.layout.columns; rows = listed l.index (λ i. listed l.layout.columns (mark_at l.layout.field l.layout.columns l.bytes l.offset i)) }
