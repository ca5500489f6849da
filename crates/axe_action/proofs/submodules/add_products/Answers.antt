use Rattle.std.proofs.Common.{ap, sym, ◌∙◌}
use Rattle.axe_echelon.proofs.Exits.{no_memory}
use Rattle.axe_field.specs.Arithmetic.{field_neg}
use Rattle.axe_matrix.specs.Products.{matrix_with_product}
use Rattle.axe_action.proofs.submodules.add_products.Goals as goal

pub add_product-requires-clause-rows_fit : goal.add_product-requires-clause-rows_fit
add_product-requires-clause-rows_fit c = c.requires.at_pivots_rows

pub add_product-requires-clause-inner_fit : goal.add_product-requires-clause-inner_fit
add_product-requires-clause-inner_fit c = c.requires.at_pivots_inner

pub add_product-requires-clause-columns_fit : goal.add_product-requires-clause-columns_fit
add_product-requires-clause-columns_fit c = c.requires.at_pivots_columns

pub add_product-requires-clause-a_field : goal.add_product-requires-clause-a_field
add_product-requires-clause-a_field c = c.requires.at_pivots_field

pub add_product-requires-clause-b_field : goal.add_product-requires-clause-b_field
add_product-requires-clause-b_field c = c.requires.across_field

pub add_product-requires-2-clause-rows_fit : goal.add_product-requires-2-clause-rows_fit
add_product-requires-2-clause-rows_fit c = c.requires.at_columns_rows

pub add_product-requires-2-clause-inner_fit : goal.add_product-requires-2-clause-inner_fit
add_product-requires-2-clause-inner_fit c = c.requires.at_columns_inner

pub add_product-requires-2-clause-columns_fit : goal.add_product-requires-2-clause-columns_fit
add_product-requires-2-clause-columns_fit c = c.requires.at_columns_columns

pub add_product-requires-2-clause-a_field : goal.add_product-requires-2-clause-a_field
add_product-requires-2-clause-a_field c = c.requires.at_columns_field

pub add_product-requires-2-clause-b_field : goal.add_product-requires-2-clause-b_field
add_product-requires-2-clause-b_field c = c.requires.at_pivots_field ∙ sym c.requires.across_field ∙ c.requires.at_columns_field

pub returns-in_err-add_product-clause-at_pivots : goal.returns-in_err-add_product-clause-at_pivots
returns-in_err-add_product-clause-at_pivots c = no_memory _ c.from_residual.result _ c.from_residual.ensures.1 c.in_err-add_product.ensures.sum

pub returns-in_err-add_product-clause-at_columns : goal.returns-in_err-add_product-clause-at_columns
returns-in_err-add_product-clause-at_columns c = no_memory _ c.from_residual.result _ c.from_residual.ensures.1 c.in_err-add_product.ensures.sum

pub returns-in_err-add_product-2-clause-at_pivots : goal.returns-in_err-add_product-2-clause-at_pivots
returns-in_err-add_product-2-clause-at_pivots c = no_memory _ c.from_residual-in_err-add_product-2.result _ c.from_residual-in_err-add_product-2.ensures.1 c.in_err-add_product-2.ensures.sum

pub returns-in_err-add_product-2-clause-at_columns : goal.returns-in_err-add_product-2-clause-at_columns
returns-in_err-add_product-2-clause-at_columns c = no_memory _ c.from_residual-in_err-add_product-2.result _ c.from_residual-in_err-add_product-2.ensures.1 c.in_err-add_product-2.ensures.sum

pub returns-clause-at_pivots : goal.returns-clause-at_pivots
returns-clause-at_pivots c = c.in_ok-add_product.ensures.sum

pub returns-clause-at_columns : goal.returns-clause-at_columns
returns-clause-at_columns c =
    c.in_ok-add_product-2.ensures.sum
    ∙ ap (λ k. matrix_with_product c.args.blocks.now.at_columns k c.args.blocks.now.across c.args.entries.now)
    (c.neg-minus_one.ensures.value ∙ ap (λ o. field_neg o 1) c.field.ensures.order)

pub returns-clause-well_formed : goal.returns-clause-well_formed
returns-clause-well_formed c = (c.add_product.ensures.well_formed, c.add_product-2.ensures.well_formed)
