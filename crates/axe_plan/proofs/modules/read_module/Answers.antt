use Rattle.std.proofs.lemmas.Result.{err_from_is_err_and}
use Rattle.axe_plan.proofs.Sequences.{among_same}
use Rattle.axe_plan.proofs.ReadCalls.{reads_as, reads_no_more, reads_all}
use Rattle.axe_plan.proofs.ModulePlans.{ModuleReading, module_reading}
use Rattle.axe_plan.proofs.modules.read_module.Goals as goal

pub returns-in_err-generators-clause-reads : goal.returns-in_err-generators-clause-reads
returns-in_err-generators-clause-reads g c = λ tells.
    let p = err_from_is_err_and c.from_residual.result c.from_residual.ensures.1 in
    let reads = c.in_err-generators.ensures.reads tells in
    rw (p.1, p.2) (reads_as g.F.Folder.files g.F.Folder.tally _ _ _ _ _ (ModuleReading c.args.files.now c.args.name.now) _
    (module_reading c.args.files.now c.args.name.now)
    (reads_no_more g.F.Folder.files g.F.Folder.tally _ _ _ _ _ _ _ _ _ (among_same _) (rw c.as_str.ensures.text at reads)))

pub returns-clause-reads : goal.returns-clause-reads
returns-clause-reads g c = λ tells.
    let reads = c.in_ok-generators.ensures.reads tells in
    reads_as g.F.Folder.files g.F.Folder.tally _ _ _ _ _ (ModuleReading c.args.files.now c.args.name.now) _
    (module_reading c.args.files.now c.args.name.now)
    (reads_all g.F.Folder.files g.F.Folder.tally _ _ _ _ _ _ _ _ _ (rw c.as_str.ensures.text at reads)
    (record { agrees = c.module_of.ensures.made }))
