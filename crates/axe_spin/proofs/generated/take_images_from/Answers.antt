use Rattle.std.proofs.Common.{◌≤◌, ◌+◌, length, subst, sym, arith}
use Rattle.axe_echelon.specs.Echelons.{EchelonValue}
use Rattle.axe_echelon.proofs.EliminationLaws.{room_of_rank}
use Rattle.axe_spin.proofs.SpaceLaws.{enlarged_by_nothing}
use Rattle.axe_spin.proofs.BlockLaws.{AreTaken, rows_taken, row_taken}
use Rattle.axe_spin.proofs.generated.take_images_from.Goals as goal
use Rattle.axe_spin.proofs.generated.take_images_from.Goals.{then-count-eq1+in_ok-insert_images, else-count-eq1+in_ok-insert_images_of_block}

pub loop-init : goal.loop-init
loop-init c = record {
  enlarged = enlarged_by_nothing c.args.module.now c.args.space.now c.requires.subspace;
  steps = omega arith;
  within = c.requires.within;
  images = c.requires.images;
}

pub block_length-count-requires : goal.block_length-count-requires
block_length-count-requires c = omega (arith, c.loop.invariant.within, c.if-taken-dim.false, c.dim.ensures.count, c.dim-in-loop.ensures.count)

pub insert_images-requires-clause-subspace : goal.insert_images-requires-clause-subspace
insert_images-requires-clause-subspace c = c.loop.invariant.enlarged.subspace

pub insert_images_of_block-requires-clause-subspace : goal.insert_images_of_block-requires-clause-subspace
insert_images_of_block-requires-clause-subspace c = c.loop.invariant.enlarged.subspace

pub loop-preserved : goal.loop-preserved
loop-preserved c =
    let m = c.args.module.now in
    let is = c.dim-end.ensures.well_formed in
    let within : c.loop.taken + c.block_length-count.result ≤ length c.loop.space.rows = omega (arith, c.block_length-count.ensures.within, c.dim-in-loop.ensures.count) in
    let taken : AreTaken m c.args.space.now c.if-count-eq1.space (c.loop.taken + c.block_length-count.result) =
    elim c.if-count-eq1.branch [
      | then-count-eq1+in_ok-insert_images w ↦
          subst (λ (e : EchelonValue). AreTaken m c.args.space.now e (c.loop.taken + c.block_length-count.result)) (sym w.space-is)
          (row_taken m is c.args.space.now c.loop.space w.insert_images.new.space c.loop.taken c.block_length-count.result c.loop.invariant.enlarged within
          c.loop.invariant.images w.in_ok-insert_images.ensures.enlarged w.if-count-eq1.true w.in_ok-insert_images.ensures.images)
      | else-count-eq1+in_ok-insert_images_of_block w ↦
          subst (λ (e : EchelonValue). AreTaken m c.args.space.now e (c.loop.taken + c.block_length-count.result)) (sym w.space-is)
          (rows_taken m is c.args.space.now c.loop.space w.insert_images_of_block.new.space c.loop.taken c.block_length-count.result
          c.loop.invariant.enlarged within c.loop.invariant.images w.in_ok-insert_images_of_block.ensures.enlarged
          w.in_ok-insert_images_of_block.ensures.images)
    ] in
    record {
      enlarged = taken.enlarged;
      steps = omega (arith, c.loop.invariant.steps, c.block_length-count.ensures.some);
      within = taken.within;
      images = taken.images;
    }

pub returns-after-loop-clause-enlarged : goal.returns-after-loop-clause-enlarged
returns-after-loop-clause-enlarged c = c.loop.invariant.enlarged

pub returns-after-loop-clause-images : goal.returns-after-loop-clause-images
returns-after-loop-clause-images c r below =
    let room = room_of_rank c.loop.space c.loop.invariant.enlarged.subspace.well_formed in
    c.loop.invariant.images r (omega (
      arith,
      below,
      room,
      c.loop.invariant.enlarged.subspace.columns,
      c.loop-test.false,
      c.dim-end.ensures.count,
      c.loop.invariant.steps,
    ))

pub returns-then-taken-dim-clause-enlarged : goal.returns-then-taken-dim-clause-enlarged
returns-then-taken-dim-clause-enlarged c = c.loop.invariant.enlarged

pub returns-then-taken-dim-clause-images : goal.returns-then-taken-dim-clause-images
returns-then-taken-dim-clause-images c r below = c.loop.invariant.images r (omega (arith, below, c.if-taken-dim.true, c.dim.ensures.count))
