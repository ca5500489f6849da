use Rattle.std.proofs.Common.{[], ◌∙◌, ap, refl, sym, subst, Ok, Err}
use Rattle.axe_report.specs.declared.report.ReportHeader.{ReportHeader}
use Rattle.axe_chop.specs.Answers.{AnswersChop, factor_modules}
use Rattle.axe_chop.specs.Reported.{module_header, IsFoundUnder, factor_witnesses}
use Rattle.axe_plan.specs.Meanings.{Is}
use Rattle.axe_plan.specs.Drafts.{plan_in}
use Rattle.axe_plan.specs.Outcome.{Agrees}
use Rattle.axe_plan.proofs.Sequences.{among_same, answer_carries}
use Rattle.axe_execute.specs.ChopCommand.{series_plan, FoundPlan}
use Rattle.axe_execute.proofs.ChopDrafts.{found_plan_of_series, found_open_section}
use Rattle.axe_execute.proofs.chopping.found_draft.Goals as goal

pub series_draft-requires-clause-relations : goal.series_draft-requires-clause-relations
series_draft-requires-clause-relations c = c.header_of-header.ensures.relations

pub series_draft-requires-clause-found : goal.series_draft-requires-clause-found
series_draft-requires-clause-found c =
    subst (λ (header : ReportHeader). IsFoundUnder header c.in-Ok.chopped) (sym c.header_of-header.ensures.header) (record {
      m = c.args.module;
      is_module = c.header_of-header.ensures.well_formed;
      header_is = refl;
      chopped_is = c.in-Ok.ensures.run;
    })

pub returns-in-Ok : goal.returns-in-Ok
returns-in-Ok c =
    answer_carries [] [] plan_in c.series_draft.result
    (Is (Ok (series_plan c.args.files.now c.args.name.now (module_header c.args.module c.args.seed c.args.words) c.in-Ok.chopped.basis (factor_modules c.in-Ok.chopped)
    (factor_witnesses c.in-Ok.chopped) c.in-Ok.chopped.series.items)))
    (FoundPlan c.args.files.now c.args.name.now c.args.module c.args.seed c.args.words) (among_same [])
    (found_plan_of_series c.args.module c.args.seed c.args.words c.in-Ok.chopped c.in-Ok.ensures.run c.args.files.now c.args.name.now)
    (subst (λ (header : ReportHeader). Agrees [] plan_in c.series_draft.result (Is (Ok (series_plan c.args.files.now c.args.name.now header
    c.in-Ok.chopped.basis (factor_modules c.in-Ok.chopped) (factor_witnesses c.in-Ok.chopped) c.in-Ok.chopped.series.items))))
    c.header_of-header.ensures.header c.series_draft.ensures)

pub returns-in-Err-Undecided : goal.returns-in-Err-Undecided
returns-in-Err-Undecided c =
    let run = subst (AnswersChop c.args.module c.args.seed c.args.words)
    (c.in-Err-Undecided.is ∙ ap Err c.in-Err-Undecided.field-0-is) c.chop_owned.ensures.run in
    found_open_section c.args.files.now c.args.name.now c.args.module c.args.seed c.args.words c.in-Err-Undecided.basis _ c.in-Err-Undecided.offset _
    c.in-Err-Undecided.dim _ c.in-Err-Undecided.basis-is c.in-Err-Undecided.offset-is c.in-Err-Undecided.dim-is run
