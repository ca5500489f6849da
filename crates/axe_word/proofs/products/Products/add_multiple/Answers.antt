use Rattle.axe_word.proofs.KeptLaws.{added-whole}
use Rattle.axe_word.proofs.products.Products.add_multiple.Goals as goal

pub returns-then-first-gens-clause-added : goal.returns-then-first-gens-clause-added
returns-then-first-gens-clause-added c =
    added-whole c.args.module.now c.args.coefficient c.args.gens.now c.factor_at-first.result.len c.args.sum.now c.factor_at-first.result.matrix.now
    c.add_scaled.new.self c.factor_at-first.ensures.factor c.if-first-gens.true c.add_scaled.ensures.sum
