use Rattle.std.proofs.Common.{[], ap, ◌∙◌}
use Rattle.axe_echelon.proofs.Exits.{no_memory}
use Rattle.axe_spin.specs.Modules.{ModuleValue}
use Rattle.axe_series.specs.Series.{basis_of_rows}
use Rattle.axe_chop.specs.Kept.{acting_module}
use Rattle.axe_chop.proofs.search.search.Goals as goal

pub decide_all-requires-clause-nothing : goal.decide_all-requires-clause-nothing
decide_all-requires-clause-nothing c =
    record {
      basis = c.nothing-found.ensures.basis ∙ ap (λ (m : ModuleValue). basis_of_rows m []) c.module.ensures;
      forms = c.nothing-found.ensures.forms;
      places = c.nothing-found.ensures.places;
      well_formed = c.nothing-found.ensures.well_formed;
    }

pub decide_all-requires-clause-no_section : goal.decide_all-requires-clause-no_section
decide_all-requires-clause-no_section c = c.new-sections.ensures.items

pub outcome_of-requires : goal.outcome_of-requires
outcome_of-requires c = record {
  whole = acting_module c.args.action;
  seed = c.args.seed;
  words = c.args.words;
  decided = c.in_ok-left.ensures;
}

pub returns : goal.returns
returns c = c.outcome_of.ensures (acting_module c.args.action) c.args.seed c.args.words c.in_ok-left.ensures

pub returns-in_err-left : goal.returns-in_err-left
returns-in_err-left c =
    no_memory _ c.from_residual.result _ c.from_residual.ensures.1 c.in_err-left.ensures
