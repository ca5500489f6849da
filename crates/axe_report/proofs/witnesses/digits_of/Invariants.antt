use Rattle.std.proofs.Common.{◌≡◌, take}
use Rattle.axe_report.specs.Spelling.{digit_bytes}
use Rattle.axe_report.proofs.witnesses.digits_of.Given as goal

abbrev pub invariant-loop-byte : goal.invariant-loop-byte
invariant-loop-byte l = digit_bytes l.digits.items ≡ take l.byte-index l.numeral
