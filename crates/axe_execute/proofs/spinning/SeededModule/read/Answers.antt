use Rattle.std.proofs.Common.{refl}
use Rattle.std.proofs.lemmas.Result.{err_from_is_err_and}
use Rattle.axe_spin.specs.Modules.{ModuleValue}
use Rattle.axe_plan.proofs.Sequences.{among_before}
use Rattle.axe_plan.proofs.ModulePlans.{SeededReading, seeded_reading}
use Rattle.axe_plan.proofs.ReadCalls.{reads_as, reads_no_more, reads_on, reads_all, then_computes, fault_computes}
use Rattle.axe_execute.proofs.spinning.SeededModule.read.Goals as goal

pub returns-in_err-matrices-clause-reads : goal.returns-in_err-matrices-clause-reads
returns-in_err-matrices-clause-reads g c = λ tells.
    let p = err_from_is_err_and c.from_residual.result c.from_residual.ensures.1 in
    rw (p.1, p.2) (reads_as g.F.Folder.files g.F.Folder.tally _ _ _ _ _ (SeededReading c.args.generators c.args.name.now c.args.seed.now) _
    (seeded_reading c.args.generators c.args.name.now c.args.seed.now)
    (reads_no_more g.F.Folder.files g.F.Folder.tally _ _ _ _ _ _ _ _ _ (among_before _ _) (c.in_err-matrices.ensures.reads tells)))

pub returns-in_err-seed-clause-reads : goal.returns-in_err-seed-clause-reads
returns-in_err-seed-clause-reads g c = λ tells.
    let p = err_from_is_err_and c.from_residual-in_err-seed.result c.from_residual-in_err-seed.ensures.1 in
    rw (p.1, p.2) (reads_as g.F.Folder.files g.F.Folder.tally _ _ _ _ _ (SeededReading c.args.generators c.args.name.now c.args.seed.now) _
    (seeded_reading c.args.generators c.args.name.now c.args.seed.now)
    (reads_on g.F.Folder.files g.F.Folder.tally _ _ _ _ _ _ _ _ _ _ _ (c.in_ok-matrices.ensures.reads tells)
    (reads_no_more g.F.Folder.files g.F.Folder.tally _ _ _ _ _ _ _ _ _ (among_before _ _) (c.in_err-seed.ensures.reads tells))))

pub returns-in_err-module-clause-reads : goal.returns-in_err-module-clause-reads
returns-in_err-module-clause-reads g c = λ tells.
    let p = err_from_is_err_and c.from_residual-in_err-module.result c.from_residual-in_err-module.ensures.1 in
    rw (p.1, p.2) (reads_as g.F.Folder.files g.F.Folder.tally _ _ _ _ _ (SeededReading c.args.generators c.args.name.now c.args.seed.now) _
    (seeded_reading c.args.generators c.args.name.now c.args.seed.now)
    (reads_on g.F.Folder.files g.F.Folder.tally _ _ _ _ _ _ _ _ _ _ _ (c.in_ok-matrices.ensures.reads tells)
    (reads_all g.F.Folder.files g.F.Folder.tally _ _ _ _ _ _ _ _ _ (c.in_ok-seed.ensures.reads tells)
    (fault_computes (λ (m : ModuleValue). m) _ _ _ _ (record { agrees = c.in_err-module.ensures.made })))))

pub returns-clause-reads : goal.returns-clause-reads
returns-clause-reads g c = λ tells.
    reads_as g.F.Folder.files g.F.Folder.tally _ _ _ _ _ (SeededReading c.args.generators c.args.name.now c.args.seed.now) _
    (seeded_reading c.args.generators c.args.name.now c.args.seed.now)
    (reads_on g.F.Folder.files g.F.Folder.tally _ _ _ _ _ _ _ _ _ _ _ (c.in_ok-matrices.ensures.reads tells)
    (reads_all g.F.Folder.files g.F.Folder.tally _ _ _ _ _ _ _ _ _ (c.in_ok-seed.ensures.reads tells)
    (then_computes (λ (m : ModuleValue). m) _ c.in_ok-module.module _ _ _ c.in_ok-module.ensures.made (record { agrees = refl }))))
