use Rattle.std.proofs.Common.{◌+◌, List, sym, subst, ◌∙◌, arith}
use Rattle.axe_matrix.specs.Matrices.{MatrixValue}
use Rattle.axe_spin.specs.Images.{AreImagesAt}
use Rattle.axe_spin.proofs.SpunLaws.{spins_nowhere, spins_on}
use Rattle.axe_spin.proofs.ImageLaws.{begin_with_itself, begin_on, images_stay, spins_until}
use Rattle.axe_spin.proofs.spinning.take_images_of_block.Goals as goal

pub loop-index-init : goal.loop-index-init
loop-index-init c = record {
  spins = spins_until c.args.module.now c.args.rows.now c.args.rows.now c.args.source 0 c.args.source (c.args.source + 0)
      (spins_nowhere c.args.module.now c.args.rows.now c.args.source 0) (omega arith);
  begins = begin_with_itself c.args.rows.now.rows;
  span = c.requires.span;
  well_formed = c.requires.well_formed;
  origins = c.requires.origins;
}

pub take_made_images-requires-clause-field : goal.take_made_images-requires-clause-field
take_made_images-requires-clause-field c = c.loop-index.invariant.spins.field ∙ c.requires.field

pub take_made_images-requires-clause-fits : goal.take_made_images-requires-clause-fits
take_made_images-requires-clause-fits c = c.loop-index.invariant.spins.columns ∙ c.requires.fits

pub take_made_images-requires-clause-within : goal.take_made_images-requires-clause-within
take_made_images-requires-clause-within c =
    omega (arith, c.loop-index-test.true, c.requires.within, c.loop-index.invariant.spins.grown)

pub take_made_images-requires-clause-images : goal.take_made_images-requires-clause-images
take_made_images-requires-clause-images c =
    images_stay c.args.module.now c.args.rows.now.rows c.loop-index.rows.rows (c.args.source + c.loop-index.index) c.loop-index.index c.deref.result.now
    c.loop-index.invariant.begins (omega (arith, c.loop-index-test.true, c.requires.within))
    (subst (λ (images : List MatrixValue). AreImagesAt c.args.module.now c.args.rows.now.rows (c.args.source + c.loop-index.index) c.loop-index.index images)
    (sym c.deref.ensures.value) (c.in_ok-images.ensures.images c.loop-index.index c.loop-index-test.true))

pub loop-index-preserved : goal.loop-index-preserved
loop-index-preserved c =
    let spins = c.loop-index.invariant.spins in
    record {
      spins = spins_until c.args.module.now c.args.rows.now c.take_made_images.new.rows c.args.source 0 (c.args.source + c.loop-index.index + 1)
          (c.args.source + (c.loop-index.index + 1))
          (spins_on c.args.module.now c.args.rows.now c.loop-index.rows c.take_made_images.new.rows c.args.source 0 (c.args.source + c.loop-index.index) 0
          (c.args.source + c.loop-index.index + 1) 0 spins c.in_ok-take_made_images.ensures.taken)
          (omega arith);
      begins = begin_on c.args.rows.now.rows c.loop-index.rows.rows c.take_made_images.new.rows.rows spins.grown c.loop-index.invariant.begins
          c.in_ok-take_made_images.ensures.begins;
      span = c.in_ok-take_made_images.ensures.span;
      well_formed = c.in_ok-take_made_images.ensures.well_formed;
      origins = c.in_ok-take_made_images.ensures.origins;
    }

pub returns-clause-taken : goal.returns-clause-taken
returns-clause-taken c =
    spins_until c.args.module.now c.args.rows.now c.loop-index.rows c.args.source 0 (c.args.source + c.loop-index.index) (c.args.source + c.args.count)
    c.loop-index.invariant.spins (omega (arith, c.loop-index-test.false, c.loop-index.auto.index-end))
