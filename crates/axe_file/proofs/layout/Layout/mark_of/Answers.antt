use Rattle.axe_file.proofs.Layouts.{weight_fits, weight_positive, mark_by_division}
use Rattle.axe_file.proofs.layout.Layout.mark_of.Goals as goal

pub pow-requires : goal.pow-requires
pow-requires c = weight_fits c.args.self.now.field _ _ c.args.index c.order-order.ensures.value c.args.self.now.marks_is

pub nonzero_div-result : goal.nonzero_div-result
nonzero_div-result c = rw c.pow.ensures (weight_positive c.args.self.now.field _ _ c.order-order.ensures.value)

pub returns-clause-value : goal.returns-clause-value
returns-clause-value c =
    rw c.pow.ensures (mark_by_division c.args.self.now.field _ _ c.args.byte c.args.index c.order-order.ensures.value c.args.self.now.marks_is c.requires)
