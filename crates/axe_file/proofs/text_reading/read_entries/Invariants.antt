use Rattle.std.proofs.Common.{◌-◌, length}
use Rattle.axe_file.proofs.TextRuns.{DigitsCopied}
use Rattle.axe_file.proofs.text_reading.read_entries.Given as goal

abbrev pub invariant-loop-done : goal.invariant-loop-done
invariant-loop-done l = DigitsCopied l.bytes l.start l.done l.end l.entries

abbrev pub decreases-loop-done : goal.decreases-loop-done
decreases-loop-done l = length l.fn.entries - l.done
