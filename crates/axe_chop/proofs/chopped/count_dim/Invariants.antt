use Rattle.std.proofs.Common.{◌≡◌, ◌≤◌, take}
use Rattle.axe_report.specs.Names.{count_of}
use Rattle.axe_chop.proofs.chopped.count_dim.Given as goal

abbrev pub invariant-loop-other : goal.invariant-loop-other
invariant-loop-other l = (l.count ≡ count_of l.dim (take l.other-index l.dims)) × (l.count ≤ l.other-index)
