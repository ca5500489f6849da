use Rattle.axe_echelon.proofs.Exits.{answers_more}
use Rattle.axe_iso.specs.Images.{IsSpaceOfImages}
use Rattle.axe_iso.proofs.SkippedPoints.{own_space_has_images, space_of_images}
use Rattle.axe_iso.proofs.matching.possible_images.Goals as goal

pub returns-then-rows-le1 : goal.returns-then-rows-le1
returns-then-rows-le1 c =
    answers_more c.row_space.result _ (IsSpaceOfImages c.args.module.now c.args.matrices.now c.args.space.now) c.row_space.ensures.span (λ e is.
    own_space_has_images c.args.module.now c.args.matrices.now c.args.space.now e c.requires.field c.requires.columns is)

pub returns : goal.returns
returns c =
    answers_more c.row_space-3.result _ (IsSpaceOfImages c.args.module.now c.args.matrices.now c.args.space.now) c.row_space-3.ensures.span (λ e is.
    space_of_images c.args.module.now c.args.matrices.now c.args.space.now c.in_ok-images_of_first.field-0 e c.in_ok-images_of_first.ensures is)
