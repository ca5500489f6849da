use Rattle.std.proofs.Common.{◌≡◌, ◌++◌, take}
use Rattle.axe_report.specs.Spelling.{digit_bytes}
use Rattle.axe_report.proofs.writing.put_digits.Given as goal

abbrev pub invariant-loop-digit : goal.invariant-loop-digit
invariant-loop-digit l = l.text.items ≡ l.initial.text.items ++ digit_bytes (take l.digit-index l.digits)
