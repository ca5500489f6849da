use Rattle.axe_plan.proofs.Steps.{generators_put_more}
use Rattle.axe_plan.proofs.draft.Draft.put_generators.Goals as goal

pub loop-index-preserved : goal.loop-index-preserved
loop-index-preserved c =
    generators_put_more _ _ _ c.args.name.now _ c.args.module.now c.loop-index.index _ c.loop-index.invariant c.in_ok-put_packed_file.ensures.put
    c.in_ok-file.ensures c.generator.ensures.value
