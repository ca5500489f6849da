use Rattle.std.proofs.Common.{sym, ◌∙◌, ap}
use Rattle.std.proofs.lemmas.Result.{err_from_is_err_and}
use Rattle.axe_plan.specs.ReportFiles.{ReportIn}
use Rattle.axe_plan.proofs.Sequences.{among_same}
use Rattle.axe_plan.proofs.ReadCalls.{reads_no_more, reads_all}
use Rattle.axe_plan.proofs.ReportAnswers.{report_fault_agrees}
use Rattle.axe_plan.proofs.report_files.read_report_file.Goals as goal

pub returns-in_err-bytes : goal.returns-in_err-bytes
unfolding ReportIn
returns-in_err-bytes g c = λ tells.
    let p = err_from_is_err_and c.from_residual.result c.from_residual.ensures.1 in
    rw (p.1, p.2) (reads_no_more g.F.Folder.files g.F.Folder.tally _ _ _ _ _ _ _ _ _ (among_same _) (c.in_err-bytes.ensures tells))

pub returns-in-Ok : goal.returns-in-Ok
unfolding ReportIn
returns-in-Ok g c = λ tells.
    let right = c.in-Ok.ensures.report in
    reads_all g.F.Folder.files g.F.Folder.tally _ _ _ _ _ _ _ _ _ (c.in_ok-bytes.ensures tells)
    (record { agrees = rw c.deref.ensures.value at right })

pub returns : goal.returns
unfolding ReportIn
returns g c = λ tells.
    let right = c.in-Err.ensures.fault in
    reads_all g.F.Folder.files g.F.Folder.tally _ _ _ _ _ _ _ _ _ (c.in_ok-bytes.ensures tells)
    (record { agrees = rw c.of_report.ensures (report_fault_agrees _ c.args.file.now _ c.in-Err.fault c.in_ok-from_str-in-Err.ensures.ok (rw c.deref.ensures.value at right)) })
