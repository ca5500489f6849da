use Rattle.std.proofs.Common.{◌≡◌, ◌<◌, length, arith}
use Rattle.axe_row.specs.declared.refusals.Refusal.TheVariants.{Memory}
use Rattle.axe_matrix.specs.Matrices.{matrix_product}
use Rattle.axe_echelon.proofs.Exits.{no_memory}
use Rattle.axe_iso.proofs.ImageLaws.{layer_is_there, image_memory, image_given, layers_of_image, image_taken, image_keeps}
use Rattle.axe_iso.proofs.images.follow_layer.Goals as goal

pub index-requires : goal.index-requires
index-requires c =
    let below : c.loop-number.number < length c.args.module.now.generators = omega (arith, c.loop-number-test.true, c.gens-number-end.ensures.count) in
    let there : c.args.source < length c.loop-number.layers.items =
    layer_is_there c.args.module.now c.args.matrices.now c.gens-number-end.ensures.well_formed c.requires.matrices c.loop-number.layers.items c.args.source
    c.loop-number.number c.loop-number.invariant.up_to c.requires.source below in
    omega (arith, c.loop-number.layers.ok.0)

memory : (c : goal.After-from_residual) → c.in_err-image.field-0.0 ≡ Memory
memory c =
    image_memory c.args.module.now c.args.matrices.now c.gens-number-end.ensures.well_formed c.requires.matrices c.loop-number.layers.items c.args.source
    c.loop-number.number c.loop-number.invariant.up_to c.requires.source (omega (arith, c.loop-number-test.true, c.gens-number-end.ensures.count))
    c.index.result.now c.generator.result.now c.index.ensures c.generator.ensures.value c.in_err-image.field-0.0 c.in_err-image.ensures.product

pub returns-in_err-image-clause-followed : goal.returns-in_err-image-clause-followed
returns-in_err-image-clause-followed c = no_memory _ c.from_residual.result c.in_err-image.field-0.0 c.from_residual.ensures.1 (memory c)

pub returns-in_err-image-clause-kept : goal.returns-in_err-image-clause-kept
returns-in_err-image-clause-kept c = no_memory _ c.from_residual.result c.in_err-image.field-0.0 c.from_residual.ensures.1 (memory c)

pub take_image-requires-clause-layers : goal.take_image-requires-clause-layers
take_image-requires-clause-layers c =
    let is_module = c.gens-number-end.ensures.well_formed in
    let below : c.loop-number.number < length c.args.module.now.generators = omega (arith, c.loop-number-test.true, c.gens-number-end.ensures.count) in
    layers_of_image c.args.module.now c.args.matrices.now is_module c.requires.matrices c.loop-number.layers.items c.args.source
    c.loop-number.number c.loop-number.invariant.up_to c.requires.source below
    c.index.result.now c.generator.result.now c.in_ok-image.image c.generator-in-loop-number.result.now c.row-coefficients.result.now
    c.index.ensures c.generator.ensures.value
    (image_given c.args.module.now c.args.matrices.now is_module c.requires.matrices c.loop-number.layers.items c.args.source
    c.loop-number.number c.loop-number.invariant.up_to c.requires.source below c.index.result.now c.generator.result.now c.index.ensures
    c.generator.ensures.value c.in_ok-image.image c.in_ok-image.ensures.product)
    c.generator-in-loop-number.ensures.value c.row-coefficients.ensures.value

pub loop-number-preserved : goal.loop-number-preserved
loop-number-preserved c =
    let is_module = c.gens-number-end.ensures.well_formed in
    let below : c.loop-number.number < length c.args.module.now.generators = omega (arith, c.loop-number-test.true, c.gens-number-end.ensures.count) in
    let image_is : c.in_ok-image.image ≡ matrix_product c.index.result.now c.generator.result.now =
    image_given c.args.module.now c.args.matrices.now is_module c.requires.matrices c.loop-number.layers.items c.args.source
    c.loop-number.number c.loop-number.invariant.up_to c.requires.source below c.index.result.now c.generator.result.now c.index.ensures
    c.generator.ensures.value c.in_ok-image.image c.in_ok-image.ensures.product in
    record {
      up_to =
          image_taken c.args.module.now c.args.matrices.now is_module c.requires.matrices c.loop-number.layers.items c.args.source
          c.loop-number.number c.loop-number.invariant.up_to c.requires.source below
          c.index.result.now c.generator.result.now c.in_ok-image.image c.generator-in-loop-number.result.now c.row-coefficients.result.now
          c.index.ensures c.generator.ensures.value image_is c.generator-in-loop-number.ensures.value c.row-coefficients.ensures.value
          c.take_image.new.layers.items c.in_ok-image.ensures.well_formed c.in_ok-take_image.ensures;
      kept = λ hom acts has.
          image_keeps c.args.module.now c.args.matrices.now is_module c.requires.matrices c.loop-number.layers.items c.args.source
          c.loop-number.number c.loop-number.invariant.up_to c.requires.source below
          c.index.result.now c.generator.result.now c.in_ok-image.image c.generator-in-loop-number.result.now c.row-coefficients.result.now
          c.index.ensures c.generator.ensures.value image_is c.generator-in-loop-number.ensures.value c.row-coefficients.ensures.value
          c.take_image.new.layers.items c.in_ok-image.ensures.well_formed c.in_ok-take_image.ensures hom acts
          (c.loop-number.invariant.kept hom acts has);
    }
