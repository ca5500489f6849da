use Rattle.std.proofs.Common.{rules, sym, ap, ◌∙◌}
use Rattle.axe_field.specs.Order.{order_number}
use Rattle.axe_matrix.proofs.MatrixLaws.{one_field}
use Rattle.axe_matrix.proofs.SumLaws.{sum_refusal-none}
use Rattle.axe_matrix.proofs.Matrix.add.Goals as goal

pub returns-then-ne-clause-sum : goal.returns-then-ne-clause-sum
returns-then-ne-clause-sum c = search rules

pub returns-then-rows-clause-sum : goal.returns-then-rows-clause-sum
returns-then-rows-clause-sum c = search rules

pub plus-requires-clause-field : goal.plus-requires-clause-field
plus-requires-clause-field c = sym (one_field _ _ _ _ c.field.ensures.order c.if-ne.ensures c.field-2.ensures.order)

pub plus-requires-clause-rows_fit : goal.plus-requires-clause-rows_fit
plus-requires-clause-rows_fit c = search rules

pub plus-requires-clause-columns_fit : goal.plus-requires-clause-columns_fit
plus-requires-clause-columns_fit c = search rules

pub returns-clause-sum : goal.returns-clause-sum
returns-clause-sum c =
    let fields = one_field _ _ _ _ c.field.ensures.order c.if-ne.ensures c.field-2.ensures.order in
    let none = sum_refusal-none c.args.self.now c.args.other.now (ap order_number fields) (sym c.rows.ensures.count ∙ c.if-rows.false ∙ c.rows-2.ensures.count) (sym c.cols.ensures.count ∙ c.if-cols.false ∙ c.cols-else-rows.ensures.count) in
    rw none c.plus.ensures.sum
