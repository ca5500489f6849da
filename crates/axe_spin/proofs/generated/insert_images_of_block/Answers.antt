use Rattle.std.proofs.Common.{◌+◌, ◌<◌, ◌≤◌, length, sym, ◌∙◌, arith}
use Rattle.axe_spin.proofs.SpaceLaws.{enlarged_by_nothing, enlarged_on, images_of_whole}
use Rattle.axe_spin.proofs.BlockLaws.{images_given, images_field, images_columns, images_count, images_each, enlarged_by_images, images_of_more}
use Rattle.axe_spin.proofs.generated.insert_images_of_block.Goals as goal
use Rattle.axe_spin.proofs.generated.insert_images_of_block.Goals.{else-loop-index-test, then-loop-index-test+then-dim-cols}

pub loop-index-init : goal.loop-index-init
loop-index-init c = record {
  enlarged = enlarged_by_nothing c.args.module.now c.args.space.now c.requires.subspace;
  images = λ r begun within i below. absurd (omega (arith, below));
}

pub insert_rows-requires-clause-field : goal.insert_rows-requires-clause-field
insert_rows-requires-clause-field c =
    let m = c.args.module.now in
    let given = images_given m c.args.space.now c.in_ok-block.block c.generator.result.now c.args.source c.args.count c.loop-index.index c.requires.subspace
    c.in_ok-block.ensures.block c.generator.ensures.value c.generator.ensures.square c.in_ok-images.images c.in_ok-images.ensures.product in
    images_field m c.args.space.now c.in_ok-block.block c.generator.result.now c.args.source c.args.count c.loop-index.index c.requires.subspace
    c.in_ok-block.ensures.block c.generator.ensures.value c.generator.ensures.square c.in_ok-images.images given
    ∙ sym c.loop-index.invariant.enlarged.subspace.field

pub insert_rows-requires-clause-columns : goal.insert_rows-requires-clause-columns
insert_rows-requires-clause-columns c =
    let m = c.args.module.now in
    let given = images_given m c.args.space.now c.in_ok-block.block c.generator.result.now c.args.source c.args.count c.loop-index.index c.requires.subspace
    c.in_ok-block.ensures.block c.generator.ensures.value c.generator.ensures.square c.in_ok-images.images c.in_ok-images.ensures.product in
    images_columns m c.args.space.now c.in_ok-block.block c.generator.result.now c.args.source c.args.count c.loop-index.index c.requires.subspace
    c.in_ok-block.ensures.block c.generator.ensures.value c.generator.ensures.square c.in_ok-images.images given
    ∙ sym c.loop-index.invariant.enlarged.subspace.columns

pub loop-index-preserved : goal.loop-index-preserved
loop-index-preserved c =
    let m = c.args.module.now in
    let is = c.gens-index-end.ensures.well_formed in
    let enlarged = c.loop-index.invariant.enlarged in
    let given = images_given m c.args.space.now c.in_ok-block.block c.generator.result.now c.args.source c.args.count c.loop-index.index c.requires.subspace
    c.in_ok-block.ensures.block c.generator.ensures.value c.generator.ensures.square c.in_ok-images.images c.in_ok-images.ensures.product in
    let many = images_count m c.args.space.now c.in_ok-block.block c.generator.result.now c.args.source c.args.count c.loop-index.index c.requires.subspace
    c.in_ok-block.ensures.block c.generator.ensures.value c.generator.ensures.square c.in_ok-images.images given in
    let each = images_each m c.args.space.now c.in_ok-block.block c.generator.result.now c.args.source c.args.count c.loop-index.index c.requires.subspace
    c.in_ok-block.ensures.block c.generator.ensures.value c.generator.ensures.square c.in_ok-images.images given c.loop-index.space enlarged
    c.requires.within in
    let within : c.args.source + c.args.count ≤ length c.loop-index.space.rows = omega (arith, c.requires.within, enlarged.grown) in
    let inside : c.loop-index.index < length m.generators = omega (arith, c.loop-index-test.true, c.gens-index-end.ensures.count) in
    record {
      enlarged = enlarged_on m is c.args.space.now c.loop-index.space c.insert_rows.new.space enlarged
          (enlarged_by_images m is c.loop-index.space c.insert_rows.new.space c.in_ok-images.images.rows c.args.source c.args.count c.loop-index.index
          enlarged.subspace within inside many each c.in_ok-insert_rows.ensures.inserted c.insert_rows.ensures.well_formed);
      images = images_of_more m is c.loop-index.space c.insert_rows.new.space c.in_ok-images.images.rows c.args.source c.args.count c.loop-index.index
          enlarged.subspace within inside many each c.in_ok-insert_rows.ensures.inserted c.insert_rows.ensures.well_formed c.loop-index.invariant.images;
    }

pub returns-clause-images : goal.returns-clause-images
returns-clause-images c r begun below = elim c.loop-index-test.branch [
  | else-loop-index-test w ↦ λ i inside. c.loop-index.invariant.images r begun below i (omega (arith, inside, w.loop-index-test.false, c.gens-index-end.ensures.count))
  | then-loop-index-test+then-dim-cols w ↦
      images_of_whole c.args.module.now c.gens-index-end.ensures.well_formed c.loop-index.space r c.loop-index.invariant.enlarged.subspace
      (sym w.dim.ensures.count ∙ w.if-dim-cols.true ∙ w.cols.ensures.count ∙ c.loop-index.invariant.enlarged.subspace.columns)
      (omega (arith, below, c.requires.within, c.loop-index.invariant.enlarged.grown))
]
