use Rattle.std.proofs.Common.{◌≡◌, ◌<◌, ◌≤◌, ◌+◌, [], ◌∷◌, ◌++◌, length, sym, ◌∙◌, arith, rules}
use Rattle.axe_spin.specs.Spun.{image_of_row}
use Rattle.axe_spin.proofs.SpunLaws.{spins_nowhere, spins_on, spins_to_next, spins_to_row, spins_to_row_of_full}
use Rattle.axe_spin.proofs.OriginLaws.{origins_of_new, origins_of_old}
use Rattle.axe_spin.proofs.ImageLaws.{begin_with_itself, begin_on, begin_offered, image_stays, taken_field, taken_image, taken_length}
use Rattle.axe_spin.proofs.spinning.take_made_images.Goals.{then-branch+in_ok-push, else-branch}
use Rattle.axe_spin.proofs.spinning.take_made_images.Goals as goal

pub loop-generator-init : goal.loop-generator-init
loop-generator-init c = record {
  spins = spins_nowhere c.args.module.now c.args.rows.now c.args.source 0;
  begins = begin_with_itself c.args.rows.now.rows;
  span = c.requires.span;
  well_formed = c.requires.well_formed;
  origins = c.requires.origins;
}

pub offer-requires-clause-field : goal.offer-requires-clause-field
offer-requires-clause-field c =
    taken_field c.args.module.now c.args.rows.now.rows c.args.source c.args.index c.loop-generator.generator c.args.images.now
    c.index-images-generator.result c.row.result.now c.in_ok-image.image c.requires.images c.loop-generator-test.true c.index-images-generator.is
    c.row.ensures.value c.in_ok-image.ensures.copied
    ∙ sym c.requires.field ∙ sym c.loop-generator.invariant.spins.field

pub offer-requires-clause-fits : goal.offer-requires-clause-fits
offer-requires-clause-fits c =
    taken_length c.args.module.now c.args.rows.now.rows c.args.source c.args.index c.loop-generator.generator c.args.images.now
    c.index-images-generator.result c.row.result.now c.in_ok-image.image c.requires.images c.loop-generator-test.true c.index-images-generator.is
    c.row.ensures.value c.in_ok-image.ensures.copied
    ∙ sym c.requires.fits ∙ sym c.loop-generator.invariant.spins.columns

pub loop-generator-preserved : goal.loop-generator-preserved
loop-generator-preserved c =
    let spins = c.loop-generator.invariant.spins in
    let below : c.args.source < length c.loop-generator.rows.rows = omega (arith, c.requires.within, spins.grown) in
    let inside : c.loop-generator.generator < length c.args.module.now.generators = omega (arith, c.loop-generator-test.true, c.requires.images.count) in
    let image : c.in_ok-image.image.entries ≡ image_of_row c.args.module.now c.loop-generator.rows.rows c.args.source c.loop-generator.generator =
    taken_image c.args.module.now c.args.rows.now.rows c.args.source c.args.index c.loop-generator.generator c.args.images.now
    c.index-images-generator.result c.row.result.now c.in_ok-image.image c.requires.images c.loop-generator-test.true c.index-images-generator.is
    c.row.ensures.value c.in_ok-image.ensures.copied
    ∙ sym (image_stays c.args.module.now c.args.rows.now.rows c.loop-generator.rows.rows c.args.source c.loop-generator.generator
    c.loop-generator.invariant.begins c.requires.within) in
    record {
      spins = spins_on c.args.module.now c.args.rows.now c.loop-generator.rows c.offer.new.rows c.args.source 0 c.args.source c.loop-generator.generator
          c.args.source (c.loop-generator.generator + 1) spins
          (spins_to_next c.args.module.now c.loop-generator.rows c.offer.new.rows c.in_ok-image.image.entries c.args.source c.loop-generator.generator
          c.dim.ensures.well_formed (spins.field ∙ c.requires.field) (spins.columns ∙ c.requires.fits) below inside image
          c.in_ok-offer.ensures.offered);
      begins = begin_on c.args.rows.now.rows c.loop-generator.rows.rows c.offer.new.rows.rows spins.grown c.loop-generator.invariant.begins
          (begin_offered c.loop-generator.rows c.offer.new.rows c.in_ok-image.image.entries c.in_ok-offer.ensures.offered);
      span = c.in_ok-offer.ensures.span;
      well_formed = c.in_ok-offer.ensures.well_formed;
      origins = elim c.if-branch.branch [
        | then-branch+in_ok-push w ↦
            let pushed : w.push.new.self.items ≡ c.loop-generator.origins.items ++ record { source = c.args.source; generator = c.loop-generator.generator } ∷ [] =
            search rules in
            rw w.origins-is (origins_of_new c.args.module.now c.loop-generator.rows c.offer.new.rows c.in_ok-image.image.entries c.in_ok-offer.field-0
            c.loop-generator.origins.items w.push.new.self.items (record { source = c.args.source; generator = c.loop-generator.generator })
            c.loop-generator.invariant.origins below inside image c.in_ok-offer.ensures.told w.if-branch.true pushed)
        | else-branch w ↦
            rw w.origins-is (origins_of_old c.args.module.now c.loop-generator.rows c.offer.new.rows c.in_ok-image.image.entries c.in_ok-offer.field-0
            c.loop-generator.origins.items c.loop-generator.invariant.origins c.in_ok-offer.ensures.told w.if-branch.false)
      ];
    }

pub returns-then-dim-clause-taken : goal.returns-then-dim-clause-taken
returns-then-dim-clause-taken c =
    let spins = c.loop-generator.invariant.spins in
    spins_on c.args.module.now c.args.rows.now c.loop-generator.rows c.loop-generator.rows c.args.source 0 c.args.source c.loop-generator.generator
    (c.args.source + 1) 0 spins
    (spins_to_row_of_full c.args.module.now c.loop-generator.span c.loop-generator.rows c.args.source c.loop-generator.generator
    c.dim.ensures.well_formed c.dim-in-loop-generator.ensures.well_formed c.loop-generator.invariant.span (spins.field ∙ c.requires.field)
    (spins.columns ∙ c.requires.fits) (sym c.dim-in-loop-generator.ensures.count ∙ sym c.if-dim.true ∙ c.dim.ensures.count))

pub returns-after-loop-generator-clause-taken : goal.returns-after-loop-generator-clause-taken
returns-after-loop-generator-clause-taken c =
    let all : length c.args.module.now.generators ≤ c.loop-generator.generator = omega (arith, c.loop-generator-test.false, c.requires.images.count) in
    spins_on c.args.module.now c.args.rows.now c.loop-generator.rows c.loop-generator.rows c.args.source 0 c.args.source c.loop-generator.generator
    (c.args.source + 1) 0 c.loop-generator.invariant.spins
    (spins_to_row c.args.module.now c.loop-generator.rows c.args.source c.loop-generator.generator all)
