use Rattle.std.proofs.Common.{◌≡◌, false, [], length, get_or, ap, sym, ◌∙◌, arith, rules}
use Rattle.axe_row.specs.Rows.{RowValue}
use Rattle.axe_matrix.specs.Matrices.{MatrixValue}
use Rattle.axe_row.proofs.CombinationLaws.{length-combination}
use Rattle.axe_iso.proofs.FollowLaws.{row_is_followed, image_followed, image_not_followed}
use Rattle.axe_iso.proofs.matching.follow_row.Goals as goal

pub row-requires : goal.row-requires
row-requires c =
    row_is_followed c.args.module.now c.args.matrices.now c.gens-number-end.ensures.well_formed c.requires.matrices (get_or c.args.basis.now.rows 0 [])
    c.loop-number.basis c.args.source c.loop-number.number c.loop-number.invariant c.requires.source

pub follow_image-requires-clause-fits : goal.follow_image-requires-clause-fits
follow_image-requires-clause-fits c =
    ap (λ (r : RowValue). length r.entries) c.in_ok-image.ensures.product ∙ length-combination _ _ _ _
    ∙ ap (λ (g : MatrixValue). g.cols) c.generator.ensures.value ∙ sym c.loop-number.invariant.columns

pub returns-then-not-branch : goal.returns-then-not-branch
returns-then-not-branch c =
    let wrong : c.in_ok-follow_image.field-0 ≡ false = search rules in
    image_not_followed c.args.module.now c.args.matrices.now c.gens-number-end.ensures.well_formed c.requires.matrices (get_or c.args.basis.now.rows 0 [])
    c.loop-number.basis c.args.source c.loop-number.number c.loop-number.invariant c.requires.source
    (omega (arith, c.loop-number-test.true, c.gens-number-end.ensures.count))
    c.generator.result.now c.generator-in-loop-number.result.now c.row.result.now c.row-coefficients.result.now c.in_ok-image.image
    c.generator.ensures.value c.row.ensures.value c.in_ok-image.ensures.product c.generator-in-loop-number.ensures.value c.row-coefficients.ensures.value
    c.follow_image.new.basis c.in_ok-follow_image.field-0 c.in_ok-follow_image.ensures.follows wrong

pub loop-number-preserved : goal.loop-number-preserved
loop-number-preserved c =
    image_followed c.args.module.now c.args.matrices.now c.gens-number-end.ensures.well_formed c.requires.matrices (get_or c.args.basis.now.rows 0 [])
    c.loop-number.basis c.args.source c.loop-number.number c.loop-number.invariant c.requires.source
    (omega (arith, c.loop-number-test.true, c.gens-number-end.ensures.count))
    c.generator.result.now c.generator-in-loop-number.result.now c.row.result.now c.row-coefficients.result.now c.in_ok-image.image
    c.generator.ensures.value c.row.ensures.value c.in_ok-image.ensures.product c.generator-in-loop-number.ensures.value c.row-coefficients.ensures.value
    c.follow_image.new.basis c.in_ok-follow_image.field-0 c.in_ok-follow_image.ensures.follows c.if-not-branch.false c.in_ok-follow_image.ensures.well_formed
