use Rattle.std.proofs.Common.{take}
use Rattle.axe_series.specs.Runs.{AreOfOthers}
use Rattle.axe_chop.proofs.found.known_form.Given as goal

abbrev pub invariant-loop-number : goal.invariant-loop-number
invariant-loop-number l = AreOfOthers (take l.number l.forms) l.action
