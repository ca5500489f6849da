use Rattle.std.proofs.Common.{refl}
use Rattle.axe_word.proofs.KeptLaws.{factor-one, factor-two, kept-IsMatrix}
use Rattle.axe_word.proofs.products.Products.factor_at.Goals as goal

pub returns-in-Some-clause-factor : goal.returns-in-Some-clause-factor
returns-in-Some-clause-factor c =
    factor-two c.args.module.now c.args.gens.now c.args.index _ _ c.args.self.now c.in-Some.product.now c.requires.products c.if-index-gens.true refl refl
    c.in-Some.ensures

pub returns-in-Some-clause-well_formed : goal.returns-in-Some-clause-well_formed
returns-in-Some-clause-well_formed c = kept-IsMatrix c.args.module.now _ _ c.args.self.now c.in-Some.product.now c.requires.products c.in-Some.ensures

pub returns-clause-factor : goal.returns-clause-factor
returns-clause-factor c =
    factor-one c.args.module.now c.args.gens.now c.args.index c.from.result c.generator.result.now c.generator.ensures.well_formed c.requires.numbers
    c.requires.inside c.from.ensures c.generator.ensures.value
