use Rattle.std.proofs.Common.{length, ap, sym, ◌∙◌}
use Rattle.axe_echelon.proofs.Exits.{no_memory}
use Rattle.axe_field.specs.Arithmetic.{field_neg}
use Rattle.axe_matrix.specs.Matrices.{MatrixValue, columns_at, rows_at}
use Rattle.axe_matrix.specs.Products.{matrix_with_product}
use Rattle.axe_action.proofs.EntryLaws.{lists_at_length, chosen, chosen_length}
use Rattle.axe_action.proofs.submodules.generator_parts.Goals as goal

pub add_products-requires : goal.add_products-requires
add_products-requires c = record {
  at_pivots_field = c.requires.field ∙ sym (ap (λ (m : MatrixValue). m.order) c.in_ok-blocks.ensures.at_pivots);
  across_field = (ap (λ (m : MatrixValue). m.order) c.in_ok-blocks.ensures.across) ∙ sym (ap (λ (m : MatrixValue). m.order) c.in_ok-blocks.ensures.at_pivots);
  at_columns_field = (ap (λ (m : MatrixValue). m.order) c.in_ok-blocks.ensures.across) ∙ sym (ap (λ (m : MatrixValue). m.order) c.in_ok-blocks.ensures.at_columns);
  at_pivots_rows = c.requires.as_many
      ∙ sym (ap (λ (m : MatrixValue). length m.rows) c.in_ok-blocks.ensures.at_pivots
      ∙ lists_at_length c.args.pivots.now (chosen c.args.pivots.now c.args.generator.rows) ∙ chosen_length c.args.pivots.now c.args.generator.rows);
  at_pivots_inner = c.requires.width
      ∙ sym (ap (λ (m : MatrixValue). length m.rows) c.in_ok-blocks.ensures.across
      ∙ lists_at_length c.args.pivots.now (chosen c.args.columns.now c.args.generator.rows) ∙ chosen_length c.args.columns.now c.args.generator.rows);
  at_pivots_columns = (ap (λ (m : MatrixValue). m.cols) c.in_ok-blocks.ensures.across) ∙ sym (ap (λ (m : MatrixValue). m.cols) c.in_ok-blocks.ensures.at_pivots);
  at_columns_rows = (ap (λ (m : MatrixValue). length m.rows) c.in_ok-blocks.ensures.across ∙ lists_at_length c.args.pivots.now (chosen c.args.columns.now c.args.generator.rows))
      ∙ sym (ap (λ (m : MatrixValue). length m.rows) c.in_ok-blocks.ensures.at_columns ∙ lists_at_length c.args.columns.now (chosen c.args.columns.now c.args.generator.rows));
  at_columns_inner = (ap (λ (m : MatrixValue). m.cols) c.in_ok-blocks.ensures.across) ∙ sym c.requires.as_many;
  at_columns_columns = c.requires.width ∙ sym (ap (λ (m : MatrixValue). m.cols) c.in_ok-blocks.ensures.at_columns);
}

pub returns-in_err-blocks-clause-sub : goal.returns-in_err-blocks-clause-sub
returns-in_err-blocks-clause-sub c = no_memory _ c.from_residual.result _ c.from_residual.ensures.1 c.in_err-blocks.ensures.at_pivots

pub returns-in_err-blocks-clause-quotient : goal.returns-in_err-blocks-clause-quotient
returns-in_err-blocks-clause-quotient c = no_memory _ c.from_residual.result _ c.from_residual.ensures.1 c.in_err-blocks.ensures.at_pivots

pub returns-in_err-add_products-clause-sub : goal.returns-in_err-add_products-clause-sub
returns-in_err-add_products-clause-sub c = no_memory _ c.from_residual-in_err-add_products.result _ c.from_residual-in_err-add_products.ensures.1 c.in_err-add_products.ensures.at_pivots

pub returns-in_err-add_products-clause-quotient : goal.returns-in_err-add_products-clause-quotient
returns-in_err-add_products-clause-quotient c = no_memory _ c.from_residual-in_err-add_products.result _ c.from_residual-in_err-add_products.ensures.1 c.in_err-add_products.ensures.at_pivots

pub returns-clause-sub : goal.returns-clause-sub
returns-clause-sub c =
    c.in_ok-add_products.ensures.at_pivots
    ∙ ap (λ a. matrix_with_product a 1 c.args.entries.now c.in_ok-blocks.blocks.across) c.in_ok-blocks.ensures.at_pivots
    ∙ ap (λ b. matrix_with_product (columns_at c.args.pivots.now (rows_at c.args.pivots.now c.args.generator)) 1 c.args.entries.now b) c.in_ok-blocks.ensures.across

pub returns-clause-quotient : goal.returns-clause-quotient
returns-clause-quotient c =
    c.in_ok-add_products.ensures.at_columns
    ∙ ap (λ q. matrix_with_product q (field_neg c.args.entries.now.order 1) c.in_ok-blocks.blocks.across c.args.entries.now) c.in_ok-blocks.ensures.at_columns
    ∙ ap (λ p. matrix_with_product (columns_at c.args.columns.now (rows_at c.args.columns.now c.args.generator)) (field_neg c.args.entries.now.order 1) p c.args.entries.now)
    c.in_ok-blocks.ensures.across
    ∙ ap (λ o. matrix_with_product (columns_at c.args.columns.now (rows_at c.args.columns.now c.args.generator)) (field_neg o 1)
    (columns_at c.args.pivots.now (rows_at c.args.columns.now c.args.generator)) c.args.entries.now) c.requires.field

pub returns-clause-well_formed : goal.returns-clause-well_formed
returns-clause-well_formed c = c.in_ok-add_products.ensures.well_formed
