use Rattle.std.proofs.Common.{ℕ, Option, Some, length, subst, sym, ◌∙◌, arith}
use Rattle.std.proofs.lemmas.Option.{same_Some}
use Rattle.axe_spin.specs.Postponed.{AreImagesSpannedBut}
use Rattle.axe_spin.proofs.PostponedLaws.{images_without, images_with}
use Rattle.axe_spin.proofs.SpaceLaws.{enlarged_by_nothing}
use Rattle.axe_spin.proofs.generated.insert_postponed_image.Goals as goal

pub returns-in_default-clause-enlarged : goal.returns-in_default-clause-enlarged
returns-in_default-clause-enlarged c = enlarged_by_nothing c.args.module.now c.args.space.now c.requires.subspace

pub returns-in_default-clause-images : goal.returns-in_default-clause-images
returns-in_default-clause-images c =
    images_without c.args.module.now c.args.space.now.rows c.args.postponed c.args.source (length c.args.module.now.generators)
    (λ i inside same. c.in_default.not-Some i same) c.requires.images

pub returns-in_ok-insert_image-clause-images : goal.returns-in_ok-insert_image-clause-images
returns-in_ok-insert_image-clause-images c =
    images_with c.args.module.now c.gens.ensures.well_formed c.args.space.now c.insert_image.new.space c.in-Some.number c.args.source
    (length c.args.module.now.generators) c.in_ok-insert_image.ensures.enlarged c.requires.within
    (subst (λ (p : Option ℕ). AreImagesSpannedBut c.args.module.now c.args.space.now.rows p c.args.source (length c.args.module.now.generators))
    c.in-Some.is c.requires.images) c.in_ok-insert_image.ensures.image

pub returns-else-number-gens-clause-enlarged : goal.returns-else-number-gens-clause-enlarged
returns-else-number-gens-clause-enlarged c = enlarged_by_nothing c.args.module.now c.args.space.now c.requires.subspace

pub returns-else-number-gens-clause-images : goal.returns-else-number-gens-clause-images
returns-else-number-gens-clause-images c =
    images_without c.args.module.now c.args.space.now.rows c.args.postponed c.args.source (length c.args.module.now.generators)
    (λ i inside same. omega (arith, inside, c.if-number-gens.false, c.gens.ensures.count, same_Some c.in-Some.number i (sym c.in-Some.is ∙ same)))
    c.requires.images
