use Rattle.std.proofs.Common.{◌≡◌, length, ap, sym, ◌∙◌, subst, arith}
use Rattle.std.specs.Vec.Iter.{into_iter_items}
use Rattle.std.proofs.lemmas.List.{nil_from_length}
use Rattle.axe_echelon.proofs.Exits.{no_memory}
use Rattle.axe_spin.specs.Modules.{generator_of}
use Rattle.axe_action.proofs.GeneratorLists.{AreGeneratorsOf, generators_none, generators_left, generators_whole, some_yielded, all_made, all_fit, module_of_made}
use Rattle.axe_action.proofs.GeneratorLists.{next_generator, next_is}
use Rattle.axe_action.proofs.ConjugateLaws.{IsBasisFor, asked_inverse}
use Rattle.axe_action.proofs.ChangedBases.{conjugate_next, basis_changed, inverse_not_refused}
use Rattle.axe_action.proofs.KnownRowLaws.{images_told}
use Rattle.axe_action.proofs.standard.change_standard_basis.Goals as goal

pub returns-in_err-inverse-clause-action : goal.returns-in_err-inverse-clause-action
returns-in_err-inverse-clause-action c =
    let fits : IsBasisFor c.args.module c.args.basis.now = record { field = c.requires.field; rows = c.requires.square; columns = c.requires.fits } in
    no_memory _ c.from_residual.result _ c.from_residual.ensures.1
    (inverse_not_refused c.args.module c.args.basis.now _ c.rows.ensures.well_formed c.requires.independent fits c.in_err-inverse.ensures.inverse)

pub loop-generator-init : goal.loop-generator-init
loop-generator-init c = record {
  left = subst (AreGeneratorsOf c.args.module) (sym c.into_iter-generator-iterator.ensures.into_iter_gives.0)
      (record { lists = c.into_generators-generator-items.ensures.generators; each = c.into_generators-generator-items.ensures.each });
  conjugates = generators_none _ _ _ c.new-conjugates.result.items c.new-conjugates.ensures.items;
}

pub conjugate_by_origins-requires-clause-generator_field : goal.conjugate_by_origins-requires-clause-generator_field
conjugate_by_origins-requires-clause-generator_field c =
    (next_generator c.args.module c.loop-generator.yielded (into_iter_items c.loop-generator.generator-iterator) c.loop-generator.invariant.left
    c.in-Some.generator (into_iter_items c.next.new.self) c.in-Some.ensures.steps.0).field ∙ sym c.requires.field

pub conjugate_by_origins-requires-clause-inverse : goal.conjugate_by_origins-requires-clause-inverse
conjugate_by_origins-requires-clause-inverse c =
    let fits : IsBasisFor c.args.module c.args.basis.now = record { field = c.requires.field; rows = c.requires.square; columns = c.requires.fits } in
    asked_inverse c.args.module c.args.basis.now _ fits c.in_ok-inverse.ensures.inverse

pub conjugate_by_origins-requires-clause-square : goal.conjugate_by_origins-requires-clause-square
conjugate_by_origins-requires-clause-square c = c.requires.square ∙ sym c.requires.fits

pub conjugate_by_origins-requires-clause-generator_rows : goal.conjugate_by_origins-requires-clause-generator_rows
conjugate_by_origins-requires-clause-generator_rows c =
    (next_generator c.args.module c.loop-generator.yielded (into_iter_items c.loop-generator.generator-iterator) c.loop-generator.invariant.left
    c.in-Some.generator (into_iter_items c.next.new.self) c.in-Some.ensures.steps.0).rows ∙ sym c.requires.fits

pub conjugate_by_origins-requires-clause-generator_columns : goal.conjugate_by_origins-requires-clause-generator_columns
conjugate_by_origins-requires-clause-generator_columns c =
    (next_generator c.args.module c.loop-generator.yielded (into_iter_items c.loop-generator.generator-iterator) c.loop-generator.invariant.left
    c.in-Some.generator (into_iter_items c.next.new.self) c.in-Some.ensures.steps.0).columns ∙ sym c.requires.fits

pub conjugate_by_origins-requires-clause-images : goal.conjugate_by_origins-requires-clause-images
conjugate_by_origins-requires-clause-images c =
    let fits : IsBasisFor c.args.module c.args.basis.now = record { field = c.requires.field; rows = c.requires.square; columns = c.requires.fits } in
    let number : c.len-number.result ≡ length c.loop-generator.yielded =
    omega (arith, c.len-number.ensures, c.loop-generator.conjugates.ok.0, c.loop-generator.invariant.conjugates.as_many) in
    images_told c.args.module c.args.basis.now c.in-Some.generator c.args.origins.now c.len-number.result fits c.requires.origins
    (next_is c.args.module c.loop-generator.yielded (into_iter_items c.loop-generator.generator-iterator) c.loop-generator.invariant.left
    c.in-Some.generator (into_iter_items c.next.new.self) c.in-Some.ensures.steps.0 ∙ ap (generator_of c.args.module) (sym number))

pub loop-generator-preserved : goal.loop-generator-preserved
loop-generator-preserved c =
    let fits : IsBasisFor c.args.module c.args.basis.now = record { field = c.requires.field; rows = c.requires.square; columns = c.requires.fits } in
    record {
      left = generators_left c.args.module c.loop-generator.yielded (into_iter_items c.loop-generator.generator-iterator) c.loop-generator.invariant.left
          c.in-Some.generator (into_iter_items c.next.new.self) c.in-Some.ensures.steps.0;
      conjugates = conjugate_next c.args.module c.args.basis.now c.in_ok-inverse.inverse fits
          (asked_inverse c.args.module c.args.basis.now _ fits c.in_ok-inverse.ensures.inverse)
          c.loop-generator.yielded (into_iter_items c.loop-generator.generator-iterator) c.loop-generator.invariant.left
          c.in-Some.generator (into_iter_items c.next.new.self) c.in-Some.ensures.steps.0 c.in_ok-conjugate.conjugate c.loop-generator.conjugates.items
          c.push.new.self.items c.in_ok-conjugate.ensures.product c.in_ok-conjugate.ensures.well_formed c.loop-generator.invariant.conjugates
          c.in_ok-push.ensures.items;
    }

pub new-requires-clause-some_generator : goal.new-requires-clause-some_generator
new-requires-clause-some_generator c =
    let none = nil_from_length (into_iter_items c.loop-generator.generator-iterator)
    (omega (arith, c.in-None.ensures.steps.0, c.loop-generator.generator-iterator.rest.ok)) in
    all_made c.args.module _ _ _ c.loop-generator.yielded (into_iter_items c.loop-generator.generator-iterator) c.loop-generator.conjugates.items
    c.into_generators-generator-items.ensures.well_formed c.loop-generator.invariant.left c.loop-generator.invariant.conjugates none

pub new-requires-clause-generators_fit : goal.new-requires-clause-generators_fit
new-requires-clause-generators_fit c =
    let none = nil_from_length (into_iter_items c.loop-generator.generator-iterator)
    (omega (arith, c.in-None.ensures.steps.0, c.loop-generator.generator-iterator.rest.ok)) in
    all_fit c.args.module _ _ _ c.loop-generator.yielded (into_iter_items c.loop-generator.generator-iterator) c.loop-generator.conjugates.items
    c.into_generators-generator-items.ensures.well_formed c.loop-generator.invariant.left c.loop-generator.invariant.conjugates none

pub returns-clause-action : goal.returns-clause-action
returns-clause-action c =
    let fits : IsBasisFor c.args.module c.args.basis.now = record { field = c.requires.field; rows = c.requires.square; columns = c.requires.fits } in
    let none = nil_from_length (into_iter_items c.loop-generator.generator-iterator)
    (omega (arith, c.in-None.ensures.steps.0, c.loop-generator.generator-iterator.rest.ok)) in
    basis_changed c.args.module c.args.basis.now (length c.loop-generator.yielded) c.loop-generator.conjugates.items c.new.result
    c.into_generators-generator-items.ensures.well_formed c.rows.ensures.well_formed c.requires.independent fits
    (generators_whole c.args.module c.loop-generator.yielded (into_iter_items c.loop-generator.generator-iterator) c.loop-generator.invariant.left none)
    c.loop-generator.invariant.conjugates
    (module_of_made _ _ _ _ c.loop-generator.conjugates.items c.new.result c.loop-generator.invariant.conjugates
    (some_yielded c.args.module c.loop-generator.yielded (into_iter_items c.loop-generator.generator-iterator)
    c.into_generators-generator-items.ensures.well_formed c.loop-generator.invariant.left none)
    c.new.ensures.made)
