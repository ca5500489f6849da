use Rattle.std.proofs.Common.{◌≡◌, ◌+◌, ◌*◌, get_or}
use Rattle.axe_algebra.specs.Digits.{number_with_digits}
use Rattle.axe_algebra.specs.Lists.{listed}
use Rattle.axe_file.proofs.layout.Layout.whole_byte.Given as goal

abbrev pub invariant-loop-index : goal.invariant-loop-index
invariant-loop-index g l = l.byte ≡ number_with_digits l.order (listed l.index (λ j. get_or l.row (l.place * g.row.COUNT + j) 0))
