use Rattle.std.proofs.Common.{◌≡◌, ◌++◌, take}
use Rattle.std.specs.List.{flat_map}
use Rattle.axe_report.specs.Spelling.{header_line, factor_line}
use Rattle.axe_report.proofs.writing.write_report.Given as goal

abbrev pub invariant-loop-factor : goal.invariant-loop-factor
invariant-loop-factor l = l.text.items ≡ header_line l.report.header ++ flat_map factor_line (take l.factor-index l.report.factors)
