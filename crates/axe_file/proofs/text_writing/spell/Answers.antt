use Rattle.std.proofs.Common.{◌+◌, ◌%◌, ap, map, ◌∙◌}
use Rattle.axe_field.specs.Order.{order_number}
use Rattle.axe_field.proofs.Orders.{order_number-at_most}
use Rattle.axe_file.proofs.TextRuns.{spelled}
use Rattle.axe_file.proofs.text_writing.spell.Goals as goal

pub returns : goal.returns
returns c =
    let row = c.args.row.now in
    c.add_to_each.ensures
    ∙ ap (map (λ byte. (byte + 48) % 256)) c.copy_to.ensures
    ∙ spelled (order_number row.order) row.entries (order_number-at_most row.order) c.len.ensures.well_formed.elements
