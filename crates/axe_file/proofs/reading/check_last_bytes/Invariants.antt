use Rattle.std.proofs.Common.{◌*◌}
use Rattle.axe_file.proofs.LastBytes.{AreFaultlessBelow}
use Rattle.axe_file.proofs.reading.check_last_bytes.Given as goal

abbrev pub invariant-loop-index : goal.invariant-loop-index
invariant-loop-index l = AreFaultlessBelow l.layout.field l.layout.columns l.bytes l.offset (l.index * l.layout.width)
