use Rattle.std.proofs.Common.{sym, ◌∙◌}
use Rattle.axe_file.proofs.TextNumbers.{order_too_large, field_made}
use Rattle.axe_file.proofs.text_header.field_with_order.Goals as goal

pub returns-then-order-gt9 : goal.returns-then-order-gt9
returns-then-order-gt9 c = sym (order_too_large c.args.order c.if-order-gt9.true)

pub returns-else-order-gt9 : goal.returns-else-order-gt9
returns-else-order-gt9 c = c.ok.ensures.value ∙ field_made c.new.result c.args.order c.new.ensures.ok c.new.ensures.err
