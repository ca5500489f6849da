use Rattle.std.proofs.Common.{◌≡◌, ◌++◌, map}
use Rattle.axe_chop.specs.Reported.{entry_factor}
use Rattle.axe_chop.proofs.reported.report_factors.Given as goal

abbrev pub invariant-loop-name : goal.invariant-loop-name
invariant-loop-name l =
    l.factors.items ++ map entry_factor l.name-iterator ≡ map entry_factor l.chopped.factors.entries
