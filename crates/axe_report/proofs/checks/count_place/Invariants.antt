use Rattle.std.proofs.Common.{◌≡◌, ◌≤◌, take}
use Rattle.axe_report.specs.Names.{count_of}
use Rattle.axe_report.proofs.checks.count_place.Given as goal

abbrev pub invariant-loop-other : goal.invariant-loop-other
invariant-loop-other l = (l.count ≡ count_of l.place (take l.other-index l.series)) × (l.count ≤ l.other-index)
