use Rattle.std.proofs.Common.{None, length, slice_index_or, refl, arith}
use Rattle.axe_spin.proofs.SpaceLaws.{enlarged_by_nothing, enlarged_on, images_of_whole}
use Rattle.axe_spin.proofs.PostponedLaws.{images_but_stay, images_of_rows_more}
use Rattle.axe_spin.proofs.generated.insert_postponed.Goals as goal

pub loop-source-init : goal.loop-source-init
loop-source-init c = record {
  enlarged = enlarged_by_nothing c.args.module.now c.args.space.now c.requires.subspace;
  done = λ r below. absurd (omega (arith, below));
}

pub insert_postponed_image-requires-clause-images : goal.insert_postponed_image-requires-clause-images
insert_postponed_image-requires-clause-images c =
    images_but_stay c.args.module.now c.dim.ensures.well_formed c.args.space.now c.loop-source.space
    (slice_index_or c.args.postponed.now c.loop-source.source None) c.loop-source.source (length c.args.module.now.generators)
    c.loop-source.invariant.enlarged (omega (arith, c.loop-source-test.true, c.requires.within))
    (c.requires.taken c.loop-source.source (omega (arith, c.loop-source-test.true)))

pub loop-source-preserved : goal.loop-source-preserved
loop-source-preserved c =
    let m = c.args.module.now in
    let enlarged = c.loop-source.invariant.enlarged in
    let more = c.in_ok-insert_postponed_image.ensures.enlarged in
    record {
      enlarged = enlarged_on m c.dim.ensures.well_formed c.args.space.now c.loop-source.space c.insert_postponed_image.new.space enlarged more;
      done = images_of_rows_more m c.dim.ensures.well_formed c.loop-source.space c.insert_postponed_image.new.space c.loop-source.source more
          (omega (arith, c.loop-source-test.true, c.requires.within, enlarged.grown)) c.loop-source.invariant.done
          c.in_ok-insert_postponed_image.ensures.images;
    }

pub returns-after-loop-source-clause-images : goal.returns-after-loop-source-clause-images
returns-after-loop-source-clause-images c r below = c.loop-source.invariant.done r (omega (arith, below, c.loop-source-test.false))

pub returns-then-is_whole-clause-images : goal.returns-then-is_whole-clause-images
returns-then-is_whole-clause-images c r below =
    let enlarged = c.loop-source.invariant.enlarged in
    images_of_whole c.args.module.now c.dim.ensures.well_formed c.loop-source.space r enlarged.subspace (c.if-is_whole.ensures.0 refl)
    (omega (arith, below, c.requires.within, enlarged.grown))
