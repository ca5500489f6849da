use Rattle.std.proofs.Common.{◌<◌, length, arith}
use Rattle.axe_spin.proofs.SpaceLaws.{enlarged_by_nothing, enlarged_on, images_more, images_of_whole}
use Rattle.axe_spin.proofs.generated.insert_images.Goals as goal

pub loop-generator-init : goal.loop-generator-init
loop-generator-init c = record {
  enlarged = enlarged_by_nothing c.args.module.now c.args.space.now c.requires.subspace;
  images = λ i below. absurd (omega (arith, below));
}

pub insert_image-requires-clause-subspace : goal.insert_image-requires-clause-subspace
insert_image-requires-clause-subspace c = c.loop-generator.invariant.enlarged.subspace

pub loop-generator-preserved : goal.loop-generator-preserved
loop-generator-preserved c =
    let enlarged = c.loop-generator.invariant.enlarged in
    let below : c.args.source < length c.loop-generator.space.rows = omega (arith, c.requires.within, enlarged.grown) in
    record {
      enlarged = enlarged_on c.args.module.now c.gens-generator-end.ensures.well_formed c.args.space.now c.loop-generator.space c.insert_image.new.space
          enlarged c.in_ok-insert_image.ensures.enlarged;
      images = images_more c.args.module.now c.gens-generator-end.ensures.well_formed c.loop-generator.space c.insert_image.new.space c.args.source
          c.loop-generator.generator c.in_ok-insert_image.ensures.enlarged below c.loop-generator.invariant.images c.in_ok-insert_image.ensures.image;
    }

pub returns-then-is_whole-clause-images : goal.returns-then-is_whole-clause-images
returns-then-is_whole-clause-images c =
    let enlarged = c.loop-generator.invariant.enlarged in
    images_of_whole c.args.module.now c.gens-generator-end.ensures.well_formed c.loop-generator.space c.args.source enlarged.subspace
    (c.is_whole.ensures.0 c.if-is_whole.true) (omega (arith, c.requires.within, enlarged.grown))
