use Rattle.std.proofs.Common.{sym, ap, ◌∙◌}
use Rattle.axe_echelon.proofs.Exits.{no_memory}
use Rattle.axe_series.specs.Sections.{SectionValue}
use Rattle.axe_chop.specs.Searches.{as_irreducible, as_reducible, as_undecided}
use Rattle.axe_chop.proofs.Stepping.{decided_as, true_as, like_as, room_as, step_as}
use Rattle.axe_chop.proofs.search.decide_section.Goals as goal

pub decide-requires-clause-field : goal.decide-requires-clause-field
decide-requires-clause-field c = c.requires.table_field

pub place_owned-requires-clause-decided : goal.place_owned-requires-clause-decided
place_owned-requires-clause-decided c = (
  c.args.words,
  decided_as c.args.section c.decide.new.self c.args.seed c.args.words _ _ c.decide.ensures.same c.in-Irreducible.is c.in_ok-word.ensures.decides,
)

pub place_owned-requires-clause-like : goal.place_owned-requires-clause-like
place_owned-requires-clause-like c =
    like_as c.args.section c.decide.new.self c.args.found.now.forms.items c.decide.ensures.same c.requires.like

pub place_owned-requires-clause-field : goal.place_owned-requires-clause-field
place_owned-requires-clause-field c = c.requires.field ∙ sym (ap (λ (s : SectionValue). s.rows.order) c.decide.ensures.same)

pub place_owned-requires-clause-fits : goal.place_owned-requires-clause-fits
place_owned-requires-clause-fits c = c.requires.fits ∙ sym (ap (λ (s : SectionValue). s.rows.cols) c.decide.ensures.same)

pub place_owned-requires-clause-room : goal.place_owned-requires-clause-room
place_owned-requires-clause-room c =
    room_as c.args.section c.decide.new.self c.args.found.now.basis.rows c.decide.ensures.same c.requires.room

pub place_owned-requires-clause-few_forms : goal.place_owned-requires-clause-few_forms
place_owned-requires-clause-few_forms c = c.requires.few_forms

pub put_parts-requires : goal.put_parts-requires
put_parts-requires c = record {
  decided = (
    c.args.seed,
    c.args.words,
    decided_as c.args.section c.decide.new.self c.args.seed c.args.words _ _ c.decide.ensures.same c.in-Reducible.is c.in_ok-word.ensures.decides,
  );
  space = true_as c.args.section c.decide.new.self _ _ c.decide.ensures.same c.in-Reducible.is c.in_ok-word.ensures.holds;
}

pub returns-in_ok-place_owned-in-Irreducible-clause-decided : goal.returns-in_ok-place_owned-in-Irreducible-clause-decided
returns-in_ok-place_owned-in-Irreducible-clause-decided c =
    step_as c.args.seed c.args.words c.args.section c.decide.new.self _ _ _ _ c.decide.ensures.same _
    (as_irreducible _ _ _ _
    (decided_as c.args.section c.decide.new.self c.args.seed c.args.words _ _ c.decide.ensures.same c.in-Irreducible.is c.in_ok-word.ensures.decides)
    c.in_ok-place_owned-in-Irreducible.ensures.placed c.in_ok-place_owned-in-Irreducible.ensures.basis c.in_ok-place_owned-in-Irreducible.ensures.well_formed)

pub returns-in_ok-put_parts-in-Reducible-clause-decided : goal.returns-in_ok-put_parts-in-Reducible-clause-decided
returns-in_ok-put_parts-in-Reducible-clause-decided c =
    step_as c.args.seed c.args.words c.args.section c.decide.new.self _ _ _ _ c.decide.ensures.same _
    (as_reducible _ _
    (decided_as c.args.section c.decide.new.self c.args.seed c.args.words _ _ c.decide.ensures.same c.in-Reducible.is c.in_ok-word.ensures.decides)
    (true_as c.args.section c.decide.new.self _ _ c.decide.ensures.same c.in-Reducible.is c.in_ok-word.ensures.holds)
    c.in_ok-put_parts-in-Reducible.ensures)

pub returns-in-Undecided-clause-decided : goal.returns-in-Undecided-clause-decided
returns-in-Undecided-clause-decided c =
    step_as c.args.seed c.args.words c.args.section c.decide.new.self _ _ _ _ c.decide.ensures.same _
    (as_undecided (decided_as c.args.section c.decide.new.self c.args.seed c.args.words _ _ c.decide.ensures.same c.in-Undecided.is c.in_ok-word.ensures.decides))

pub returns-in_err-word-clause-decided : goal.returns-in_err-word-clause-decided
returns-in_err-word-clause-decided c =
    no_memory _ c.from_residual.result _ c.from_residual.ensures.1 c.in_err-word.ensures.decides

pub returns-in_err-place_owned-in-Irreducible-clause-decided : goal.returns-in_err-place_owned-in-Irreducible-clause-decided
returns-in_err-place_owned-in-Irreducible-clause-decided c =
    no_memory _ c.from_residual-in_err-place_owned-in-Irreducible.result _ c.from_residual-in_err-place_owned-in-Irreducible.ensures.1
    c.in_err-place_owned-in-Irreducible.ensures.placed

pub returns-in_err-put_parts-in-Reducible-clause-decided : goal.returns-in_err-put_parts-in-Reducible-clause-decided
returns-in_err-put_parts-in-Reducible-clause-decided c =
    no_memory _ c.from_residual-in_err-put_parts-in-Reducible.result _ c.from_residual-in_err-put_parts-in-Reducible.ensures.1
    c.in_err-put_parts-in-Reducible.ensures
