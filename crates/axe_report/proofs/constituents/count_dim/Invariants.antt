use Rattle.std.proofs.Common.{◌≡◌, ◌≤◌, take}
use Rattle.axe_report.specs.Names.{count_of}
use Rattle.axe_report.specs.Reports.{dims}
use Rattle.axe_report.proofs.constituents.count_dim.Given as goal

abbrev pub invariant-loop-factor : goal.invariant-loop-factor
invariant-loop-factor l = (l.count ≡ count_of l.dim (dims (take l.factor-index l.factors))) × (l.count ≤ l.factor-index)
