use Rattle.std.proofs.Common.{◌≡◌, ◌+◌, drop}
use Rattle.std.specs.List.{prefix_len}
use Rattle.axe_report.specs.Fronts.{is_digit}
use Rattle.axe_report.proofs.parts.digits_len.Given as goal

abbrev pub invariant-loop-index : goal.invariant-loop-index
invariant-loop-index l = l.index + prefix_len is_digit (drop l.index l.text) ≡ prefix_len is_digit l.text
