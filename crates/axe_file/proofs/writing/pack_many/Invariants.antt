use Rattle.std.proofs.Common.{◌≡◌, ◌+◌, ◌*◌, get_or, length, take}
use Rattle.axe_algebra.specs.Lists.{listed}
use Rattle.axe_row.specs.ByteDigits.{digits_per_byte}
use Rattle.axe_file.specs.Marks.{byte_with_marks}
use Rattle.axe_file.proofs.writing.pack_many.Given as goal

abbrev pub invariant-loop-place : goal.invariant-loop-place
invariant-loop-place g l =
    (take l.place l.bytes ≡ listed l.place (λ k. byte_with_marks l.layout.field (λ j. get_or l.row (k * digits_per_byte l.layout.field + j) 0)))
    × (length l.bytes ≡ l.layout.width)
