use Rattle.std.proofs.Common.{◌≡◌, ◌-◌, drop, length}
use Rattle.axe_file.specs.TextReading.{digits_fault}
use Rattle.axe_file.proofs.text_reading.check_digits.Given as goal

abbrev pub invariant-loop-at : goal.invariant-loop-at
invariant-loop-at l = digits_fault l.order l.left (drop l.at l.bytes) l.at ≡ digits_fault l.order l.wanted (drop l.start l.bytes) l.start

abbrev pub decreases-loop-at : goal.decreases-loop-at
decreases-loop-at l = length l.bytes - l.at
