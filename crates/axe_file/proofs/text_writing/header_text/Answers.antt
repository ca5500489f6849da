use Rattle.std.proofs.Common.{ap, ◌∙◌}
use Rattle.axe_field.specs.Order.{order_number}
use Rattle.axe_file.proofs.TextLines.{header_written}
use Rattle.axe_file.proofs.text_writing.header_text.Goals as goal

pub returns : goal.returns
returns c =
    let m = c.args.matrix.now in
    let order = c.order-order.ensures.value ∙ ap order_number c.field.ensures.order in
    ap (λ (v : _). v.items) c.into_bytes.ensures.value
    ∙ c.in_ok-header.ensures.ok
    ∙ header_written m c.order-order.result c.rows-rows.result c.cols-columns.result order c.rows-rows.ensures.count c.cols-columns.ensures.count
