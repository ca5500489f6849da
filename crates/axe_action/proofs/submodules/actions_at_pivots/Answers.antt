use Rattle.std.proofs.Common.{sym, subst, arith}
use Rattle.std.specs.Vec.Iter.{into_iter_items}
use Rattle.std.proofs.lemmas.List.{nil_from_length}
use Rattle.axe_action.specs.FreeColumns.{rows_to_span}
use Rattle.axe_action.proofs.GeneratorLists.{AreGeneratorsOf, generators_none, generators_left, all_made, all_fit}
use Rattle.axe_action.proofs.CosetLaws.{cosets_count}
use Rattle.axe_action.proofs.SplitLaws.{cosets_of_reduced, complementary_next, sub_next, quotient_next}
use Rattle.axe_action.proofs.SplitLaws.{answers_if_made, sub_whole, quotient_whole, none_refused}
use Rattle.axe_action.proofs.submodules.actions_at_pivots.Goals as goal

pub loop-generator-init : goal.loop-generator-init
loop-generator-init c = record {
  left = subst (AreGeneratorsOf c.args.module) (sym c.into_iter-generator-iterator.ensures.into_iter_gives.0)
      (record { lists = c.into_generators-generator-items.ensures.generators; each = c.into_generators-generator-items.ensures.each });
  subs = generators_none _ _ _ c.new-actions.result.subs.items c.new-actions.ensures.subs;
  quotients = generators_none _ _ _ c.new-actions.result.quotients.items c.new-actions.ensures.quotients;
}

pub take-requires-clause-complementary : goal.take-requires-clause-complementary
take-requires-clause-complementary c =
    complementary_next c.args.module c.args.rows.now c.into_generators-generator-items.ensures.well_formed c.requires.well_formed c.requires.field
    c.requires.fits c.requires.invariant c.loop-generator.yielded (into_iter_items c.loop-generator.generator-iterator) c.loop-generator.invariant.left
    c.in-Some.generator (into_iter_items c.next.new.self) c.in-Some.ensures.steps.0
    c.args.pivots.now c.args.columns.now c.requires.reduced c.requires.free

pub take-requires-clause-as_many : goal.take-requires-clause-as_many
take-requires-clause-as_many c =
    cosets_count (rows_to_span c.args.rows.now) c.args.pivots.now c.args.columns.now c.in_ok-entries.entries
    (cosets_of_reduced c.args.rows.now c.args.pivots.now c.args.columns.now c.in_ok-entries.entries c.requires.well_formed c.requires.reduced c.requires.free
    c.in_ok-entries.ensures.columns)

pub loop-generator-preserved : goal.loop-generator-preserved
loop-generator-preserved c = record {
  left = generators_left c.args.module c.loop-generator.yielded (into_iter_items c.loop-generator.generator-iterator) c.loop-generator.invariant.left
      c.in-Some.generator (into_iter_items c.next.new.self) c.in-Some.ensures.steps.0;
  subs = sub_next c.args.module c.args.rows.now c.into_generators-generator-items.ensures.well_formed c.requires.well_formed c.requires.field
      c.requires.fits c.requires.invariant c.loop-generator.yielded (into_iter_items c.loop-generator.generator-iterator) c.loop-generator.invariant.left
      c.in-Some.generator (into_iter_items c.next.new.self) c.in-Some.ensures.steps.0
      c.args.pivots.now c.args.columns.now c.in_ok-entries.entries c.loop-generator.actions.subs.items c.take.new.self.subs.items
      c.requires.reduced c.requires.free c.in_ok-entries.ensures.columns c.in_ok-take.ensures.well_formed.0
      c.loop-generator.invariant.subs c.in_ok-take.ensures.sub;
  quotients = quotient_next c.args.module c.args.rows.now c.into_generators-generator-items.ensures.well_formed c.requires.well_formed c.requires.field
      c.requires.fits c.requires.invariant c.loop-generator.yielded (into_iter_items c.loop-generator.generator-iterator) c.loop-generator.invariant.left
      c.in-Some.generator (into_iter_items c.next.new.self) c.in-Some.ensures.steps.0
      c.args.pivots.now c.args.columns.now c.in_ok-entries.entries c.loop-generator.actions.quotients.items c.take.new.self.quotients.items
      (cosets_of_reduced c.args.rows.now c.args.pivots.now c.args.columns.now c.in_ok-entries.entries c.requires.well_formed c.requires.reduced c.requires.free
      c.in_ok-entries.ensures.columns)
      c.in_ok-take.ensures.well_formed.1 c.loop-generator.invariant.quotients c.in_ok-take.ensures.quotient;
}

pub into_modules-requires-clause-some_sub : goal.into_modules-requires-clause-some_sub
into_modules-requires-clause-some_sub c =
    all_made c.args.module _ _ _ c.loop-generator.yielded (into_iter_items c.loop-generator.generator-iterator) c.loop-generator.actions.subs.items
    c.into_generators-generator-items.ensures.well_formed c.loop-generator.invariant.left c.loop-generator.invariant.subs
    (nil_from_length (into_iter_items c.loop-generator.generator-iterator) (omega (arith, c.in-None.ensures.steps.0, c.loop-generator.generator-iterator.rest.ok)))

pub into_modules-requires-clause-subs_fit : goal.into_modules-requires-clause-subs_fit
into_modules-requires-clause-subs_fit c =
    all_fit c.args.module _ _ _ c.loop-generator.yielded (into_iter_items c.loop-generator.generator-iterator) c.loop-generator.actions.subs.items
    c.into_generators-generator-items.ensures.well_formed c.loop-generator.invariant.left c.loop-generator.invariant.subs
    (nil_from_length (into_iter_items c.loop-generator.generator-iterator) (omega (arith, c.in-None.ensures.steps.0, c.loop-generator.generator-iterator.rest.ok)))

pub into_modules-requires-clause-some_quotient : goal.into_modules-requires-clause-some_quotient
into_modules-requires-clause-some_quotient c =
    all_made c.args.module _ _ _ c.loop-generator.yielded (into_iter_items c.loop-generator.generator-iterator) c.loop-generator.actions.quotients.items
    c.into_generators-generator-items.ensures.well_formed c.loop-generator.invariant.left c.loop-generator.invariant.quotients
    (nil_from_length (into_iter_items c.loop-generator.generator-iterator) (omega (arith, c.in-None.ensures.steps.0, c.loop-generator.generator-iterator.rest.ok)))

pub into_modules-requires-clause-quotients_fit : goal.into_modules-requires-clause-quotients_fit
into_modules-requires-clause-quotients_fit c =
    all_fit c.args.module _ _ _ c.loop-generator.yielded (into_iter_items c.loop-generator.generator-iterator) c.loop-generator.actions.quotients.items
    c.into_generators-generator-items.ensures.well_formed c.loop-generator.invariant.left c.loop-generator.invariant.quotients
    (nil_from_length (into_iter_items c.loop-generator.generator-iterator) (omega (arith, c.in-None.ensures.steps.0, c.loop-generator.generator-iterator.rest.ok)))

pub returns-clause-sub : goal.returns-clause-sub
returns-clause-sub c =
    let none = nil_from_length (into_iter_items c.loop-generator.generator-iterator)
    (omega (arith, c.in-None.ensures.steps.0, c.loop-generator.generator-iterator.rest.ok)) in
    answers_if_made c.into_modules.result _ _ _ c.into_modules.ensures.made c.into_modules.ensures.refused
    (λ modules made. sub_whole c.args.module c.args.rows.now c.args.columns.now c.into_generators-generator-items.ensures.well_formed c.requires.well_formed c.requires.field
    c.requires.fits c.requires.invariant c.loop-generator.yielded (into_iter_items c.loop-generator.generator-iterator) c.loop-generator.invariant.left none
    c.loop-generator.actions.subs.items c.loop-generator.actions.quotients.items c.loop-generator.invariant.subs c.loop-generator.invariant.quotients _ made.0)
    (none_refused c.args.module c.args.rows.now c.args.columns.now c.into_generators-generator-items.ensures.well_formed c.requires.well_formed c.requires.field
    c.requires.fits c.requires.invariant c.loop-generator.yielded (into_iter_items c.loop-generator.generator-iterator) c.loop-generator.invariant.left none
    c.loop-generator.actions.subs.items c.loop-generator.actions.quotients.items c.loop-generator.invariant.subs c.loop-generator.invariant.quotients)

pub returns-clause-quotient : goal.returns-clause-quotient
returns-clause-quotient c =
    let none = nil_from_length (into_iter_items c.loop-generator.generator-iterator)
    (omega (arith, c.in-None.ensures.steps.0, c.loop-generator.generator-iterator.rest.ok)) in
    answers_if_made c.into_modules.result _ _ _ c.into_modules.ensures.made c.into_modules.ensures.refused
    (λ modules made. quotient_whole c.args.module c.args.rows.now c.args.columns.now c.into_generators-generator-items.ensures.well_formed c.requires.well_formed c.requires.field
    c.requires.fits c.requires.invariant c.loop-generator.yielded (into_iter_items c.loop-generator.generator-iterator) c.loop-generator.invariant.left none
    c.loop-generator.actions.subs.items c.loop-generator.actions.quotients.items c.loop-generator.invariant.subs c.loop-generator.invariant.quotients
    c.requires.free _ made.1)
    (none_refused c.args.module c.args.rows.now c.args.columns.now c.into_generators-generator-items.ensures.well_formed c.requires.well_formed c.requires.field
    c.requires.fits c.requires.invariant c.loop-generator.yielded (into_iter_items c.loop-generator.generator-iterator) c.loop-generator.invariant.left none
    c.loop-generator.actions.subs.items c.loop-generator.actions.quotients.items c.loop-generator.invariant.subs c.loop-generator.invariant.quotients)
