use Rattle.std.proofs.Common.{◌≡◌, length, ap, sym, ◌∙◌}
use Rattle.axe_algebra.specs.ListArithmetic.{combination}
use Rattle.axe_field.specs.NumberFields.{number_field}
use Rattle.axe_row.specs.Rows.{RowValue}
use Rattle.axe_matrix.specs.Matrices.{MatrixValue}
use Rattle.axe_row.proofs.CombinationLaws.{length-combination}
use Rattle.axe_echelon.proofs.Exits.{no_memory, answers_with}
use Rattle.axe_spin.specs.Spun.{image_of_row}
use Rattle.axe_spin.proofs.SpaceLaws.{enlarged_by_image, image_inserted}
use Rattle.axe_spin.proofs.generated.insert_image.Goals as goal
use mathlib.Core.Path.{ap₂}

pub vec_mul-requires-clause-field : goal.vec_mul-requires-clause-field
vec_mul-requires-clause-field c =
    ap (λ (r : RowValue). r.order) c.row.ensures.value ∙ c.requires.subspace.field ∙ sym (ap (λ (g : MatrixValue). g.order) c.generator.ensures.value)

pub vec_mul-requires-clause-fits : goal.vec_mul-requires-clause-fits
vec_mul-requires-clause-fits c = c.row.ensures.as_long ∙ c.requires.subspace.columns ∙ sym c.generator.ensures.square

pub insert-requires-clause-field : goal.insert-requires-clause-field
insert-requires-clause-field c =
    ap (λ (r : RowValue). r.order) c.in_ok-image.ensures.product ∙ ap (λ (g : MatrixValue). g.order) c.generator.ensures.value
    ∙ sym c.requires.subspace.field

pub insert-requires-clause-fits : goal.insert-requires-clause-fits
insert-requires-clause-fits c =
    ap (λ (r : RowValue). length r.entries) c.in_ok-image.ensures.product ∙ length-combination _ _ _ _
    ∙ ap (λ (g : MatrixValue). g.cols) c.generator.ensures.value ∙ sym c.requires.subspace.columns

-- the product is the image
image_is : (c : goal.After-insert) → c.in_ok-image.image.entries ≡ image_of_row c.args.module.now c.args.space.now.rows c.args.source c.args.number
image_is c =
    ap (λ (r : RowValue). r.entries) c.in_ok-image.ensures.product
    ∙ ap₂ (λ (v : RowValue) (g : MatrixValue). combination (number_field g.order) g.cols v.entries g.rows) c.row.ensures.value c.generator.ensures.value

pub returns-clause-enlarged : goal.returns-clause-enlarged
returns-clause-enlarged c =
    answers_with c.insert.result _ _ _ c.insert.ensures.inserted c.insert.ensures.exactly
    (λ new one_more exactly. enlarged_by_image c.args.module.now c.generator.ensures.well_formed c.args.space.now c.insert.new.self
    c.in_ok-image.image.entries new c.args.source c.args.number c.requires.subspace c.requires.within c.requires.number (image_is c) one_more exactly.1
    c.insert.ensures.well_formed)

pub returns-clause-image : goal.returns-clause-image
returns-clause-image c =
    answers_with c.insert.result _ _ _ c.insert.ensures.inserted c.insert.ensures.exactly
    (λ new one_more exactly. image_inserted c.args.module.now c.generator.ensures.well_formed c.args.space.now c.insert.new.self
    c.in_ok-image.image.entries new c.args.source c.args.number c.requires.subspace c.requires.within c.requires.number (image_is c) one_more exactly.1
    c.insert.ensures.well_formed)

-- what is told of the product is told of the image
pub returns-clause-exactly : goal.returns-clause-exactly
returns-clause-exactly c = rw (← image_is c, ← c.requires.subspace.field) c.insert.ensures.exactly

pub returns-in_err-image-clause-enlarged : goal.returns-in_err-image-clause-enlarged
returns-in_err-image-clause-enlarged c = no_memory _ c.from_residual.result _ c.from_residual.ensures.1 c.in_err-image.ensures.product

pub returns-in_err-image-clause-image : goal.returns-in_err-image-clause-image
returns-in_err-image-clause-image c = no_memory _ c.from_residual.result _ c.from_residual.ensures.1 c.in_err-image.ensures.product
