use Rattle.std.proofs.Common.{◌≡◌, None, length, refl, sym, inr, ◌∙◌}
use Rattle.axe_echelon.proofs.Exits.{memory_if_accepted, no_memory_late, answered_or, answers_with}
use Rattle.axe_action.specs.Coordinates.{HasImagesIn}
use Rattle.axe_action.specs.FreeColumns.{HasRowsModulo, rows_to_span, row_at}
use Rattle.axe_row.specs.Refusals.{RefusedAs}
use Rattle.axe_row.specs.declared.refusals.Refusal.TheVariants.{NotInvariant}
use Rattle.axe_matrix.specs.Matrices.{MatrixValue, IsMatrix, rows_at}
use Rattle.axe_action.proofs.QuotientImages.{AreImagesModulo, units_accepted, units_made, images_field, images_many, images_if_zero, moved_out}
use Rattle.axe_action.proofs.QuotientImages.{action_at, columns_in_images}
use Rattle.axe_action.proofs.quotients.generator_modulo.Goals as goal

pub has_zero_product-requires-clause-field : goal.has_zero_product-requires-clause-field
has_zero_product-requires-clause-field c =
    let are : AreImagesModulo c.args.rows.now c.args.generator.now c.args.units.now c.in_ok-images.images c.args.columns.now = record {
      field = c.requires.field;
      fits = c.requires.fits;
      square = c.requires.square;
      generator_well_formed = c.requires.generator_well_formed;
      rows_well_formed = c.requires.well_formed;
      free = c.requires.free;
      all_units = c.requires.units;
      made = units_made c.args.rows.now c.args.generator.now c.args.units.now c.in_ok-images.images c.args.columns.now c.requires.field c.requires.fits
          c.requires.units c.in_ok-images.ensures.product;
      images_well_formed = c.in_ok-images.ensures.well_formed;
    } in
    sym (images_field c.args.rows.now c.args.generator.now c.args.units.now c.in_ok-images.images c.args.columns.now are)

pub has_zero_product-requires-clause-fits : goal.has_zero_product-requires-clause-fits
has_zero_product-requires-clause-fits c =
    let are : AreImagesModulo c.args.rows.now c.args.generator.now c.args.units.now c.in_ok-images.images c.args.columns.now = record {
      field = c.requires.field;
      fits = c.requires.fits;
      square = c.requires.square;
      generator_well_formed = c.requires.generator_well_formed;
      rows_well_formed = c.requires.well_formed;
      free = c.requires.free;
      all_units = c.requires.units;
      made = units_made c.args.rows.now c.args.generator.now c.args.units.now c.in_ok-images.images c.args.columns.now c.requires.field c.requires.fits
          c.requires.units c.in_ok-images.ensures.product;
      images_well_formed = c.in_ok-images.ensures.well_formed;
    } in
    sym (images_many c.args.rows.now c.args.generator.now c.args.units.now c.in_ok-images.images c.args.columns.now are)

pub rows_at-requires-clause-within : goal.rows_at-requires-clause-within
rows_at-requires-clause-within c =
    let are : AreImagesModulo c.args.rows.now c.args.generator.now c.args.units.now c.in_ok-images.images c.args.columns.now = record {
      field = c.requires.field;
      fits = c.requires.fits;
      square = c.requires.square;
      generator_well_formed = c.requires.generator_well_formed;
      rows_well_formed = c.requires.well_formed;
      free = c.requires.free;
      all_units = c.requires.units;
      made = units_made c.args.rows.now c.args.generator.now c.args.units.now c.in_ok-images.images c.args.columns.now c.requires.field c.requires.fits
          c.requires.units c.in_ok-images.ensures.product;
      images_well_formed = c.in_ok-images.ensures.well_formed;
    } in
    columns_in_images c.args.rows.now c.args.generator.now c.args.units.now c.in_ok-images.images c.args.columns.now are

pub returns-then-not-branch : goal.returns-then-not-branch
returns-then-not-branch c =
    let are : AreImagesModulo c.args.rows.now c.args.generator.now c.args.units.now c.in_ok-images.images c.args.columns.now = record {
      field = c.requires.field;
      fits = c.requires.fits;
      square = c.requires.square;
      generator_well_formed = c.requires.generator_well_formed;
      rows_well_formed = c.requires.well_formed;
      free = c.requires.free;
      all_units = c.requires.units;
      made = units_made c.args.rows.now c.args.generator.now c.args.units.now c.in_ok-images.images c.args.columns.now c.requires.field c.requires.fits
          c.requires.units c.in_ok-images.ensures.product;
      images_well_formed = c.in_ok-images.ensures.well_formed;
    } in
    inr (
      refl,
      moved_out c.args.rows.now c.args.generator.now c.args.units.now c.in_ok-images.images c.args.columns.now are c.in_ok-has_zero_product.field-0 c.in_ok-has_zero_product.ensures
          c.if-not-branch.true,
    )

pub returns : goal.returns
returns c =
    let are : AreImagesModulo c.args.rows.now c.args.generator.now c.args.units.now c.in_ok-images.images c.args.columns.now = record {
      field = c.requires.field;
      fits = c.requires.fits;
      square = c.requires.square;
      generator_well_formed = c.requires.generator_well_formed;
      rows_well_formed = c.requires.well_formed;
      free = c.requires.free;
      all_units = c.requires.units;
      made = units_made c.args.rows.now c.args.generator.now c.args.units.now c.in_ok-images.images c.args.columns.now c.requires.field c.requires.fits
          c.requires.units c.in_ok-images.ensures.product;
      images_well_formed = c.in_ok-images.ensures.well_formed;
    } in
    answered_or None (λ (action : MatrixValue). (action ≡ rows_at c.args.columns.now c.in_ok-images.images) × IsMatrix action)
    (λ (action : MatrixValue). HasImagesIn c.args.generator.now c.args.rows.now.rows c.args.rows.now.rows
    × HasRowsModulo (rows_to_span c.args.rows.now) c.args.columns.now (row_at c.args.generator.now.rows c.args.columns.now) (length c.args.columns.now) action)
    (RefusedAs NotInvariant (¬ (HasImagesIn c.args.generator.now c.args.rows.now.rows c.args.rows.now.rows))) c.rows_at.result refl
    (λ action at. (
      images_if_zero c.args.rows.now c.args.generator.now c.args.units.now c.in_ok-images.images c.args.columns.now are
          (sym c.in_ok-has_zero_product.ensures ∙ c.if-not-branch.false),
      action_at c.args.rows.now c.args.generator.now c.args.units.now c.in_ok-images.images c.args.columns.now are action at.0 at.1,
    ))
    (answers_with c.rows_at.result _ IsMatrix _ c.rows_at.ensures.rows c.rows_at.ensures.well_formed (λ action is formed. (is, formed)))

pub returns-in_err-images : goal.returns-in_err-images
returns-in_err-images c =
    let none = units_accepted c.args.rows.now c.args.generator.now c.args.units.now c.args.columns.now c.requires.field c.requires.fits c.requires.units in
    no_memory_late None _ _ c.from_residual.result _ refl (memory_if_accepted _ _ _ none c.in_err-images.ensures.product) c.from_residual.ensures.1

pub returns-in_err-has_zero_product : goal.returns-in_err-has_zero_product
returns-in_err-has_zero_product c =
    no_memory_late None _ _ c.from_residual-in_err-has_zero_product.result _ refl c.in_err-has_zero_product.ensures
    c.from_residual-in_err-has_zero_product.ensures.1
