use Rattle.std.proofs.Common.{sym, subst, refl, ap, ◌∙◌}
use Rattle.axe_row.specs.declared.refusals.Refusal.TheVariants.{Memory}
use Rattle.axe_echelon.proofs.Exits.{no_memory}
use Rattle.axe_poly.specs.Tables.{IrreduciblesValue}
use Rattle.axe_spin.specs.Modules.{ModuleValue}
use Rattle.axe_chop.specs.Kept.{acting_module}
use Rattle.axe_chop.specs.Stages.{IsSection}
use Rattle.axe_chop.proofs.Stepping.{pushed_first, popped, popped_none, reached_first, reached_end, reached_next, less_next}
use Rattle.axe_chop.proofs.Stepping.{first_of_module, forms_like_first, first_rows_like, room_first, left_open}
use Rattle.axe_chop.proofs.search.decide_all.Goals as goal

pub loop-section-init : goal.loop-section-init
loop-section-init c = record {
  reached = reached_first (acting_module c.args.action) c.args.seed c.args.words c.args.found.now c.push_front.new.self.items
      c.requires.nothing.basis c.requires.nothing.forms c.requires.nothing.places c.requires.nothing.well_formed
      (subst IsSection c.whole.ensures.whole c.whole.ensures.well_formed)
      (pushed_first _ _ _ _ c.whole.ensures.whole c.requires.no_section c.in_ok-push_front.ensures.items);
  field = ap (λ (t : IrreduciblesValue). t.order) c.new-table.ensures.none ∙ c.field.ensures.order
      ∙ ap (λ (m : ModuleValue). m.order) c.module.ensures;
}

pub decide_section-requires-clause-like : goal.decide_section-requires-clause-like
decide_section-requires-clause-like c =
    forms_like_first (acting_module c.args.action) c.args.seed c.args.words c.loop-section.found c.loop-section.sections.items c.loop-section.invariant.reached
    c.in-Some.section c.pop_front.new.self.items
    (popped _ _ c.pop_front.result c.in-Some.section c.in-Some.is c.pop_front.ensures.items)

pub decide_section-requires-clause-field : goal.decide_section-requires-clause-field
decide_section-requires-clause-field c =
    sym (first_rows_like (acting_module c.args.action) c.args.seed c.args.words c.loop-section.found c.loop-section.sections.items c.loop-section.invariant.reached
    c.in-Some.section c.pop_front.new.self.items
    (popped _ _ c.pop_front.result c.in-Some.section c.in-Some.is c.pop_front.ensures.items)).field

pub decide_section-requires-clause-fits : goal.decide_section-requires-clause-fits
decide_section-requires-clause-fits c =
    sym (first_rows_like (acting_module c.args.action) c.args.seed c.args.words c.loop-section.found c.loop-section.sections.items c.loop-section.invariant.reached
    c.in-Some.section c.pop_front.new.self.items
    (popped _ _ c.pop_front.result c.in-Some.section c.in-Some.is c.pop_front.ensures.items)).columns

pub decide_section-requires-clause-room : goal.decide_section-requires-clause-room
decide_section-requires-clause-room c =
    room_first (acting_module c.args.action) c.args.seed c.args.words c.loop-section.found c.loop-section.sections.items c.loop-section.invariant.reached
    c.in-Some.section c.pop_front.new.self.items
    (popped _ _ c.pop_front.result c.in-Some.section c.in-Some.is c.pop_front.ensures.items)

pub decide_section-requires-clause-few_forms : goal.decide_section-requires-clause-few_forms
decide_section-requires-clause-few_forms c = c.loop-section.invariant.reached.few_forms

pub decide_section-requires-clause-table_field : goal.decide_section-requires-clause-table_field
decide_section-requires-clause-table_field c =
    c.loop-section.invariant.field ∙ sym (first_of_module (acting_module c.args.action) c.args.seed c.args.words c.loop-section.found
    c.loop-section.sections.items c.loop-section.invariant.reached c.in-Some.section c.pop_front.new.self.items
    (popped _ _ c.pop_front.result c.in-Some.section c.in-Some.is c.pop_front.ensures.items)).like.field

pub returns-in-Some-left : goal.returns-in-Some-left
returns-in-Some-left c =
    left_open (acting_module c.args.action) c.args.seed c.args.words c.loop-section.found c.loop-section.sections.items c.loop-section.invariant.reached
    c.in-Some.section c.pop_front.new.self.items
    (popped _ _ c.pop_front.result c.in-Some.section c.in-Some.is c.pop_front.ensures.items)
    c.decide_section.new.found c.decide_section.new.sections.items c.in-Some-left.undecided
    (rw c.in-Some-left.is at c.in_ok-left.ensures.decided)

pub loop-section-preserved : goal.loop-section-preserved
loop-section-preserved c = record {
  reached = reached_next (acting_module c.args.action) c.args.seed c.args.words c.loop-section.found c.loop-section.sections.items
      c.loop-section.invariant.reached c.in-Some.section c.pop_front.new.self.items
      (popped _ _ c.pop_front.result c.in-Some.section c.in-Some.is c.pop_front.ensures.items) c.decide_section.new.found c.decide_section.new.sections.items
      (rw c.in_default-left.is at c.in_ok-left.ensures.decided);
  field = c.decide_section.ensures.same_field ∙ (first_of_module (acting_module c.args.action) c.args.seed c.args.words c.loop-section.found
      c.loop-section.sections.items c.loop-section.invariant.reached c.in-Some.section c.pop_front.new.self.items
      (popped _ _ c.pop_front.result c.in-Some.section c.in-Some.is c.pop_front.ensures.items)).like.field;
}

pub loop-section-smaller : goal.loop-section-smaller
loop-section-smaller c =
    less_next (acting_module c.args.action) c.args.seed c.args.words c.loop-section.found c.loop-section.sections.items c.loop-section.invariant.reached
    c.in-Some.section c.pop_front.new.self.items
    (popped _ _ c.pop_front.result c.in-Some.section c.in-Some.is c.pop_front.ensures.items) c.decide_section.new.found c.decide_section.new.sections.items
    (rw c.in_default-left.is at c.in_ok-left.ensures.decided)

pub returns : goal.returns
returns c =
    reached_end (acting_module c.args.action) c.args.seed c.args.words c.loop-section.found c.loop-section.sections.items c.loop-section.invariant.reached
    (popped_none _ _ c.pop_front.result c.in_default.is c.pop_front.ensures.rest c.pop_front.ensures.items)

pub returns-in_err-push_front : goal.returns-in_err-push_front
returns-in_err-push_front c =
    no_memory _ c.from_residual.result Memory c.from_residual.ensures.1 refl

pub returns-in_err-left : goal.returns-in_err-left
returns-in_err-left c =
    no_memory _ c.from_residual-in_err-left.result _ c.from_residual-in_err-left.ensures.1 c.in_err-left.ensures.decided
