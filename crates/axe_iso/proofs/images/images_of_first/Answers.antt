use Rattle.std.proofs.Common.{◌+◌, List, [], ◌∷◌, ◌++◌, sym, ap, subst, ◌∙◌}
use Rattle.axe_matrix.specs.Matrices.{MatrixValue, IsMatrix}
use Rattle.axe_iso.proofs.ImageLaws.{AreImagesUpTo, space_is_layer, images_followed, first_layer_has_images}
use Rattle.axe_iso.proofs.images.images_of_first.Goals as goal

pub loop-source-init : goal.loop-source-init
loop-source-init c =
    subst (λ (layers : List MatrixValue). AreImagesUpTo c.args.module.now c.args.matrices.now c.args.space.now layers 0)
    (sym (c.in_ok-push.ensures.items ∙ ap (λ (layers : List MatrixValue). layers ++ c.in_ok-copy.field-0 ∷ []) c.in_ok-layers.ensures.items
    ∙ ap (λ (x : MatrixValue). x ∷ []) c.in_ok-copy.ensures.copied))
    (space_is_layer c.args.module.now c.args.matrices.now c.dim.ensures.well_formed c.requires.matrices c.args.space.now c.requires.field c.requires.columns
    (subst IsMatrix c.in_ok-copy.ensures.copied c.in_ok-copy.ensures.well_formed))

pub loop-source-preserved : goal.loop-source-preserved
loop-source-preserved c =
    images_followed c.args.module.now c.args.matrices.now c.dim.ensures.well_formed c.requires.matrices c.args.space.now c.loop-source.layers.items
    c.follow_layer.new.layers.items c.loop-source.source (c.loop-source.source + 1) c.loop-source.invariant c.in_ok-follow_layer.ensures.followed
    c.in_ok-follow_layer.ensures.kept

pub returns : goal.returns
returns c =
    first_layer_has_images c.args.module.now c.args.matrices.now c.dim.ensures.well_formed c.requires.matrices c.args.space.now c.swap_remove.result
    c.loop-source.layers.items c.loop-source.source c.loop-source.invariant c.swap_remove.ensures.value
