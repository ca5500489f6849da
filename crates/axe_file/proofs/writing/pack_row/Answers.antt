use Rattle.std.proofs.Common.{rules, ◌≡◌, length, sym, ◌∙◌, arith}
use Rattle.axe_field.specs.Order.{order_number}
use Rattle.axe_file.specs.Marks.{bytes_per_row}
use Rattle.axe_file.proofs.PackedBits.{bytes_of_bits, bits_are_row}
use Rattle.axe_file.proofs.writing.pack_row.Goals as goal

pub copy_packed_bits-requires-clause-room : goal.copy_packed_bits-requires-clause-room
copy_packed_bits-requires-clause-room c =
    let layout = c.args.layout.now in
    omega (
      arith,
      c.requires.bytes,
      c.requires.columns,
      layout.width_is,
      bytes_of_bits layout.field layout.columns (sym c.order.ensures.value ∙ c.if-order-eq2.true),
    )

pub returns-then-order-eq2-clause-packed : goal.returns-then-order-eq2-clause-packed
returns-then-order-eq2-clause-packed c =
    let layout = c.args.layout.now in
    let two : order_number layout.field ≡ 2 = sym c.order.ensures.value ∙ c.if-order-eq2.true in
    let long : length c.copy_packed_bits.new.bytes ≡ bytes_per_row layout.field layout.columns =
    omega (arith, c.copy_packed_bits.ensures.long, c.requires.bytes, layout.width_is) in
    bits_are_row layout.field layout.columns c.copy_packed_bits.new.bytes c.args.row.now.entries two long (λ i. (c.type_inv.packed i).fits) c.copy_packed_bits.ensures.entries

pub pack-requires-clause-elements : goal.pack-requires-clause-elements
pack-requires-clause-elements c = search rules

pub pack-requires-clause-columns : goal.pack-requires-clause-columns
pack-requires-clause-columns c = search rules

pub pack-requires-clause-room : goal.pack-requires-clause-room
pack-requires-clause-room c = search rules

pub returns-else-order-eq2-clause-packed : goal.returns-else-order-eq2-clause-packed
returns-else-order-eq2-clause-packed c = search rules
