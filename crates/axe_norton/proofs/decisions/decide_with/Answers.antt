use Rattle.axe_norton.proofs.decisions.decide_with.Goals as goal

pub decide_knowing-requires-clause-known : goal.decide_knowing-requires-clause-known
decide_knowing-requires-clause-known c = c.nothing-known.ensures c.args.module.now c.args.seed
