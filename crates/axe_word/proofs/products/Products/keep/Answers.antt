use Rattle.std.proofs.Common.{sym, ap, ◌∙◌, subst}
use Rattle.axe_spin.specs.Modules.{generator_of}
use Rattle.axe_word.specs.KeptProducts.{AreProductsOf}
use Rattle.axe_word.proofs.KeptLaws.{kept-more}
use Rattle.axe_word.proofs.products.Products.keep.Goals as goal

pub returns-clause-products : goal.returns-clause-products
returns-clause-products c =
    let m = c.args.module.now in
    subst (AreProductsOf m) (sym c.in_ok-push.ensures.items)
    (kept-more m c.self.inside.kept.items _ c.generator.result.now c.generator-2.result.now c.generator.ensures.well_formed
    (subst (AreProductsOf m) (sym c.self.view_is) c.requires.products) c.requires.first c.requires.second
    (c.generator.ensures.value ∙ ap (generator_of m) c.from-left.ensures) (c.generator-2.ensures.value ∙ ap (generator_of m) c.from-right.ensures)
    c.in_ok-product.ensures.product c.in_ok-product.ensures.well_formed)
