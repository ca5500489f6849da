use Rattle.std.proofs.Common.{rules, sym, ap, ◌∙◌}
use Rattle.axe_field.specs.Order.{order_number}
use Rattle.axe_matrix.proofs.MatrixLaws.{one_field}
use Rattle.axe_matrix.proofs.ProductLaws.{product_refusal-none}
use Rattle.axe_matrix.proofs.Matrix.mul.Goals as goal

pub returns-then-ne-clause-product : goal.returns-then-ne-clause-product
returns-then-ne-clause-product c = search rules

pub returns-then-cols-rows-clause-product : goal.returns-then-cols-rows-clause-product
returns-then-cols-rows-clause-product c = search rules

pub times-requires-clause-field : goal.times-requires-clause-field
times-requires-clause-field c = sym (one_field _ _ _ _ c.field.ensures.order c.if-ne.ensures c.field-2.ensures.order)

pub times-requires-clause-inner_fit : goal.times-requires-clause-inner_fit
times-requires-clause-inner_fit c = search rules

pub returns-clause-product : goal.returns-clause-product
returns-clause-product c =
    let fields = one_field _ _ _ _ c.field.ensures.order c.if-ne.ensures c.field-2.ensures.order in
    let none = product_refusal-none c.args.self.now c.args.other.now (ap order_number fields) (sym c.cols.ensures.count ∙ c.if-cols-rows.false ∙ c.rows.ensures.count) in
    rw none c.times.ensures.product
