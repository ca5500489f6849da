use Rattle.std.proofs.Common.{◌≤◌, ◌+◌, length, ap, sym, ◌∙◌, arith}
use Rattle.axe_spin.proofs.SpunLaws.{spins_nowhere, spun_of_taken, spun_of_columns}
use Rattle.axe_spin.proofs.ImageLaws.{HaveTaken, have_taken_more, spins_until}
use Rattle.axe_spin.proofs.spinning.spin.Goals.{then-count-eq1+in_ok-take_images, else-count-eq1+in_ok-take_images_of_block}
use Rattle.axe_spin.proofs.spinning.spin.Goals as goal

pub loop-init : goal.loop-init
loop-init c = record {
  spins = spins_nowhere c.args.module.now c.args.rows.now 0 0;
  span = c.requires.span;
  well_formed = c.requires.well_formed;
  within = omega arith;
  origins = c.requires.origins;
  counted = omega arith;
}

pub block_length-count-requires : goal.block_length-count-requires
block_length-count-requires c =
    omega (arith, c.loop.invariant.within, c.if-taken-rows.false, c.rows.ensures.count, c.rows-in-loop.ensures.count)

pub take_images-requires-clause-field : goal.take_images-requires-clause-field
take_images-requires-clause-field c = c.loop.invariant.spins.field ∙ c.requires.field

pub take_images-requires-clause-fits : goal.take_images-requires-clause-fits
take_images-requires-clause-fits c = c.loop.invariant.spins.columns ∙ c.requires.fits

pub take_images_of_block-requires-clause-field : goal.take_images_of_block-requires-clause-field
take_images_of_block-requires-clause-field c = c.loop.invariant.spins.field ∙ c.requires.field

pub take_images_of_block-requires-clause-fits : goal.take_images_of_block-requires-clause-fits
take_images_of_block-requires-clause-fits c = c.loop.invariant.spins.columns ∙ c.requires.fits

pub loop-preserved : goal.loop-preserved
loop-preserved c =
    let within : c.loop.taken + c.block_length-count.result ≤ length c.loop.rows.rows =
    omega (arith, c.block_length-count.ensures.within, c.rows-in-loop.ensures.count) in
    let next : HaveTaken c.args.module.now c.args.rows.now c.if-count-eq1.span c.if-count-eq1.rows c.if-count-eq1.origins.items (c.loop.taken + c.block_length-count.result) =
    elim c.if-count-eq1.branch [
      | then-count-eq1+in_ok-take_images w ↦
          rw (w.span-is, w.rows-is, w.origins-is)
          (have_taken_more c.args.module.now c.args.rows.now c.loop.rows w.take_images.new.rows w.take_images.new.span w.take_images.new.origins.items
          c.loop.taken c.block_length-count.result c.loop.invariant.spins within
          (spins_until c.args.module.now c.loop.rows w.take_images.new.rows c.loop.taken 0 (c.loop.taken + 1) (c.loop.taken + c.block_length-count.result)
          w.in_ok-take_images.ensures.taken (ap (λ n. c.loop.taken + n) (sym w.if-count-eq1.true)))
          w.in_ok-take_images.ensures.span w.in_ok-take_images.ensures.well_formed w.in_ok-take_images.ensures.origins)
      | else-count-eq1+in_ok-take_images_of_block w ↦
          rw (w.span-is, w.rows-is, w.origins-is)
          (have_taken_more c.args.module.now c.args.rows.now c.loop.rows w.take_images_of_block.new.rows w.take_images_of_block.new.span
          w.take_images_of_block.new.origins.items c.loop.taken c.block_length-count.result c.loop.invariant.spins within
          w.in_ok-take_images_of_block.ensures.taken w.in_ok-take_images_of_block.ensures.span w.in_ok-take_images_of_block.ensures.well_formed
          w.in_ok-take_images_of_block.ensures.origins)
    ] in
    record {
      spins = next.spins;
      span = next.span;
      well_formed = next.well_formed;
      origins = next.origins;
      within = next.within;
      counted = omega (arith, c.loop.invariant.counted, c.block_length-count.ensures.some);
    }

pub returns-after-loop-clause-spun : goal.returns-after-loop-clause-spun
returns-after-loop-clause-spun c =
    let all : c.args.span.now.cols ≤ c.loop.taken = omega (arith, c.loop-test.false, c.cols-end.ensures.count, c.loop.invariant.counted) in
    spun_of_columns c.args.module.now c.args.span.now c.args.rows.now c.loop.rows c.loop.taken
    c.requires.span c.requires.well_formed c.requires.field c.requires.fits c.loop.invariant.spins all

pub returns-then-taken-rows-clause-spun : goal.returns-then-taken-rows-clause-spun
returns-then-taken-rows-clause-spun c =
    spun_of_taken c.args.module.now c.args.span.now c.args.rows.now c.loop.rows c.loop.taken
    c.requires.span c.requires.well_formed c.requires.field c.requires.fits c.loop.invariant.spins
    (omega (arith, c.if-taken-rows.true, c.rows.ensures.count))
