use Rattle.std.proofs.Common.{◌∙◌, ap, refl, inl, inr}
use Rattle.std.proofs.lemmas.Result.{err_from_is_err_and}
use Rattle.axe_plan.proofs.Sequences.{among_same}
use Rattle.axe_plan.proofs.ReadCalls.{reads_no_more, reads_on}
use Rattle.axe_execute.specs.VerifyCommand.{VerifyPlan}
use Rattle.axe_execute.proofs.verifying.verify_draft.Goals as goal

pub returns-in_err-file : goal.returns-in_err-file
unfolding VerifyPlan
returns-in_err-file g c = λ tells.
    let p = err_from_is_err_and c.from_residual.result c.from_residual.ensures.1 in
    rw (p.1, p.2) (_, inl refl, record { agrees = tt; kept = refl; counted = inr (tt, refl) })

pub returns-in_err-report : goal.returns-in_err-report
unfolding VerifyPlan
returns-in_err-report g c = λ tells.
    let p = err_from_is_err_and c.from_residual-in_err-report.result c.from_residual-in_err-report.ensures.1 in
    let read = c.in_err-report.ensures.reads tells in
    rw (p.1, p.2) (_, inl refl, reads_no_more g.F.Folder.files g.F.Folder.tally _ _ _ _ _ _ _ _ _ (among_same _) (rw (c.deref.ensures ∙ c.in_ok-file.ensures, c.as_str.ensures.text) at read))

pub returns : goal.returns
unfolding VerifyPlan
returns g c = λ tells.
    let read = c.in_ok-report.ensures.reads tells in
    let reported = c.reported_draft.ensures tells in
    let first = rw (c.deref.ensures ∙ c.in_ok-file.ensures, c.as_str.ensures.text) at read in (
      _,
      inr (c.in_ok-report.report, first.agrees, refl),
      reads_on g.F.Folder.files g.F.Folder.tally _ _ _ _ _ _ _ _ _ _ _ first
          (rw (c.reported_layout-files.ensures, c.as_str-2.ensures.text) at reported),
    )
