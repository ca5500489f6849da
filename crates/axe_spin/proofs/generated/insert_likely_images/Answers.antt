use Rattle.std.proofs.Common.{◌+◌, ◌<◌, length, sym, subst, arith}
use Rattle.axe_echelon.specs.Echelons.{EchelonValue}
use Rattle.axe_spin.specs.Postponed.{AreImagesSpannedBut}
use Rattle.axe_spin.specs.Spaces.{IsEnlarged}
use Rattle.axe_spin.proofs.SpaceLaws.{enlarged_by_nothing, enlarged_on, images_of_whole}
use Rattle.axe_spin.proofs.PostponedLaws.{images_but_stay, images_but_more}
use Rattle.axe_spin.proofs.generated.insert_likely_images.Goals as goal
use Rattle.axe_spin.proofs.generated.insert_likely_images.Goals.{then-not-is_postponed+in_ok-is_new+in_ok-note, else-not-is_postponed}

pub loop-number-init : goal.loop-number-init
loop-number-init c = record {
  enlarged = enlarged_by_nothing c.args.module.now c.args.space.now c.requires.subspace;
  images = λ i below. absurd (omega (arith, below));
}

pub returns-after-loop-number-clause-images : goal.returns-after-loop-number-clause-images
returns-after-loop-number-clause-images c i below =
    c.loop-number.invariant.images i (omega (arith, below, c.loop-number-test.false, c.gens-number-end.ensures.count))

pub returns-then-is_whole-clause-images : goal.returns-then-is_whole-clause-images
returns-then-is_whole-clause-images c i below likely =
    let enlarged = c.loop-number.invariant.enlarged in
    images_of_whole c.args.module.now c.gens-number-end.ensures.well_formed c.loop-number.space c.args.source enlarged.subspace
    (c.is_whole.ensures.0 c.if-is_whole.true) (omega (arith, c.requires.within, enlarged.grown)) i below

pub loop-number-preserved : goal.loop-number-preserved
loop-number-preserved c =
    let m = c.args.module.now in
    let is = c.gens-number-end.ensures.well_formed in
    let enlarged = c.loop-number.invariant.enlarged in
    let images = c.loop-number.invariant.images in
    let below : c.args.source < length c.loop-number.space.rows = omega (arith, c.requires.within, enlarged.grown) in
    record {
      enlarged = elim c.if-not-is_postponed.branch [
        | then-not-is_postponed+in_ok-is_new+in_ok-note w ↦
            subst (λ (e : EchelonValue). IsEnlarged m c.args.space.now e) (sym w.space-is)
            (enlarged_on m is c.args.space.now c.loop-number.space w.insert_image.new.space enlarged w.in_ok-is_new.ensures.enlarged)
        | else-not-is_postponed w ↦ subst (λ (e : EchelonValue). IsEnlarged m c.args.space.now e) (sym w.space-is) enlarged
      ];
      images = elim c.if-not-is_postponed.branch [
        | then-not-is_postponed+in_ok-is_new+in_ok-note w ↦
            subst (λ (e : EchelonValue). AreImagesSpannedBut m e.rows c.args.postponed c.args.source (c.loop-number.number + 1)) (sym w.space-is)
            (images_but_more m w.insert_image.new.space.rows c.args.postponed c.args.source c.loop-number.number
            (images_but_stay m is c.loop-number.space w.insert_image.new.space c.args.postponed c.args.source c.loop-number.number
            w.in_ok-is_new.ensures.enlarged below images)
            (λ likely. w.in_ok-is_new.ensures.image))
        | else-not-is_postponed w ↦
            subst (λ (e : EchelonValue). AreImagesSpannedBut m e.rows c.args.postponed c.args.source (c.loop-number.number + 1)) (sym w.space-is)
            (images_but_more m c.loop-number.space.rows c.args.postponed c.args.source c.loop-number.number images
            (λ likely. absurd (likely (c.is_postponed.ensures.0 w.if-not-is_postponed.false))))
      ];
    }
