use Rattle.std.proofs.Common.{◌≡◌, take, false}
use Rattle.axe_file.specs.Packed.{has_reserved}
use Rattle.axe_file.proofs.reading.has_reserved.Given as goal

abbrev pub invariant-loop-offset : goal.invariant-loop-offset
invariant-loop-offset l = has_reserved (take l.offset-index l.offsets) l.bytes ≡ false
