use Rattle.std.proofs.Common.{◌≡◌, ◌+◌, drop}
use Rattle.std.specs.List.{prefix_len}
use Rattle.axe_report.specs.Fronts.{is_no_separator}
use Rattle.axe_report.proofs.parts.word_len.Given as goal

abbrev pub invariant-loop-index : goal.invariant-loop-index
invariant-loop-index l = l.index + prefix_len is_no_separator (drop l.index l.text) ≡ prefix_len is_no_separator l.text
