use Rattle.std.proofs.Common.{◌≡◌, ◌<◌, length, get_or, refl, ap, ◌∙◌, arith}
use Rattle.axe_matrix.specs.Matrices.{MatrixValue}
use Rattle.axe_iso.proofs.LayerLaws.{product_given, products_next}
use Rattle.axe_iso.proofs.images.multiply_layers.Goals as goal

pub loop-index-preserved : goal.loop-index-preserved
loop-index-preserved c =
    let inside : c.loop-index.index < length c.args.layers.now.items = omega (arith, c.loop-index-test.true, c.len-index-end.ensures, c.args.layers.now.ok.0) in
    let old_is : c.index.result.now ≡ get_or c.args.layers.now.items c.loop-index.index c.index.result.now =
    c.index.ensures ∙ c.loop-index.invariant.others c.loop-index.index c.index.result.now (omega arith) in
    products_next c.args.kept.now c.args.layers.now.items c.loop-index.index c.loop-index.layers.items _ c.index.result.now c.in_ok-layers.field-0
    c.loop-index.invariant inside c.index.ensures
    (product_given c.args.kept.now c.index.result.now
    (ap (λ (x : MatrixValue). x.order) old_is ∙ c.requires.field c.loop-index.index c.index.result.now inside)
    (ap (λ (x : MatrixValue). length x.rows) old_is ∙ c.requires.fits c.loop-index.index c.index.result.now inside)
    c.in_ok-layers.field-0 c.in_ok-layers.ensures.product)
    c.in_ok-layers.ensures.well_formed refl
