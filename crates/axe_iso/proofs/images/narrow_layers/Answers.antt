use Rattle.std.proofs.Common.{List, length, subst, ◌∙◌, sym}
use Rattle.axe_echelon.proofs.Exits.{answers_more}
use Rattle.axe_matrix.specs.Matrices.{MatrixValue}
use Rattle.axe_iso.specs.Images.{IsImageWithout, AreNarrowed}
use Rattle.axe_iso.proofs.LayerLaws.{narrowed_by_null_space}
use Rattle.axe_iso.proofs.images.narrow_layers.Goals as goal

pub returns : goal.returns
returns c =
    answers_more c.multiply_layers.result _ (λ _. AreNarrowed c.args.coefficients.now.entries c.args.image c.args.layers.now.items c.multiply_layers.new.layers.items)
    c.multiply_layers.ensures (λ _ products.
    narrowed_by_null_space c.args.coefficients.now.entries c.args.image c.args.layers.now.items c.requires.layers
    c.without_combination-difference.result c.in_ok-kept.kept c.multiply_layers.new.layers.items
    (subst (λ (xs : List MatrixValue). IsImageWithout c.args.coefficients.now.entries xs (length xs) c.args.image c.without_combination-difference.result)
    c.deref.ensures.value c.without_combination-difference.ensures)
    (sym c.has_only_zeros.ensures ∙ c.if-has_only_zeros.false) c.in_ok-kept.ensures.basis c.in_ok-kept.ensures.well_formed products)
