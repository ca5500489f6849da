use Rattle.std.proofs.Common.{sym, ◌∙◌}
use Rattle.axe_reduction.proofs.BesideLaws.{augmented-IsAugmented, view-count}
use Rattle.axe_reduction.proofs.BesideSums.{products-AreBeside, products_are_sum}
use Rattle.axe_reduction.proofs.augmented.Augmented.plus_product.Goals as goal

pub add_product-requires-clause-rows_fit : goal.add_product-requires-clause-rows_fit
add_product-requires-clause-rows_fit c = c.requires.rows_fit ∙ view-count c.self.inside.left c.self.inside.right _ c.self.view_is

pub add_product-requires-clause-inner_fit : goal.add_product-requires-clause-inner_fit
add_product-requires-clause-inner_fit c = c.requires.inner_fit ∙ view-count c.other.inside.left c.other.inside.right _ c.other.view_is

pub add_product-requires-2-clause-rows_fit : goal.add_product-requires-2-clause-rows_fit
add_product-requires-2-clause-rows_fit c =
    c.requires.rows_fit ∙ view-count c.self.inside.left c.self.inside.right _ c.self.view_is ∙ sym c.self.invariant.as_many

pub add_product-requires-2-clause-inner_fit : goal.add_product-requires-2-clause-inner_fit
add_product-requires-2-clause-inner_fit c =
    c.requires.inner_fit ∙ view-count c.other.inside.left c.other.inside.right _ c.other.view_is ∙ sym c.other.invariant.as_many

pub invariant_of-result : goal.invariant_of-result
invariant_of-result c =
    products-AreBeside c.self.inside.left c.self.inside.right c.other.inside.left c.other.inside.right _ _ c.args.factors.now _ c.self.invariant c.in_ok-add_product.ensures.sum c.in_ok-add_product-2.ensures.sum
    c.add_product.ensures.well_formed c.add_product-2.ensures.well_formed

pub returns-clause-sum : goal.returns-clause-sum
returns-clause-sum c =
    products_are_sum c.self.inside.left c.self.inside.right c.other.inside.left c.other.inside.right _ _ c.args.factors.now _ _ _ c.self.view_is c.self.invariant c.other.view_is c.other.invariant c.requires.alike
    c.in_ok-add_product.ensures.sum c.in_ok-add_product-2.ensures.sum

pub returns-clause-well_formed : goal.returns-clause-well_formed
returns-clause-well_formed c =
    augmented-IsAugmented _ _ (products-AreBeside c.self.inside.left c.self.inside.right c.other.inside.left c.other.inside.right _ _ c.args.factors.now _ c.self.invariant c.in_ok-add_product.ensures.sum c.in_ok-add_product-2.ensures.sum
    c.add_product.ensures.well_formed c.add_product-2.ensures.well_formed)
