use Rattle.std.proofs.Common.{rules, ◌≡◌, sym, ◌∙◌, arith}
use Rattle.axe_field.specs.Order.{order_number}
use Rattle.axe_file.proofs.PackedBits.{bytes_of_bits, bits_are_marks}
use Rattle.axe_file.proofs.Scans.{marks_are_elements}
use Rattle.axe_file.proofs.reading.row_of.Goals as goal

pub from_elements-requires : goal.from_elements-requires
from_elements-requires c =
    rw (c.deref.ensures.value, c.in_ok-marks.ensures.value) (marks_are_elements c.args.layout.now.field c.args.layout.now.columns c.args.bytes.now)

pub of_packed_bits-row-requires-clause-room : goal.of_packed_bits-row-requires-clause-room
of_packed_bits-row-requires-clause-room c =
    let layout = c.args.layout.now in
    omega (arith, c.requires.bytes, bytes_of_bits layout.field layout.columns (sym c.order.ensures.value ∙ c.if-order-eq2.true))

pub returns-then-order-eq2-clause-value : goal.returns-then-order-eq2-clause-value
returns-then-order-eq2-clause-value c =
    let layout = c.args.layout.now in
    let two : order_number layout.field ≡ 2 = sym c.order.ensures.value ∙ c.if-order-eq2.true in
    rw (← bits_are_marks layout.field layout.columns c.args.bytes.now two) (search rules)
