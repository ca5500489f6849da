use Rattle.std.proofs.Common.{length, ap, sym, subst, ◌∙◌, arith}
use Rattle.std.specs.List.{All}
use Rattle.std.proofs.lemmas.List.Elements.{All-nil, All-push}
use Rattle.axe_row.specs.Rows.{RowValue}
use Rattle.axe_echelon.specs.Echelons.{EchelonValue}
use Rattle.axe_echelon.proofs.Exits.{no_memory, memory_if_accepted}
use Rattle.axe_norton.specs.Pairings.{IsPairing}
use Rattle.axe_norton.proofs.SeenLaws.{AreImages, basis_in, basis_formed, others_in, some_other, images_at_start, images_next, pairing_made, value_if_accepted, some_columns, number_below, image_accepted, pairing_accepted}
use Rattle.axe_norton.proofs.pairings.pairings.Goals as goal

pub returns-in_err-columns : goal.returns-in_err-columns
returns-in_err-columns c =
    no_memory _ c.from_residual.result _ c.from_residual.ensures.1
    (memory_if_accepted _ _ _ (some_columns c.args.module.now c.args.basis.now c.args.transposed.now c.requires.spaces) c.in_err-columns.ensures.transpose)

pub zero-seen-requires-clause-some_column : goal.zero-seen-requires-clause-some_column
zero-seen-requires-clause-some_column c =
    omega (arith, c.rows.ensures.count, some_other c.args.module.now c.args.basis.now c.args.transposed.now c.requires.spaces)

pub loop-place-init : goal.loop-place-init
loop-place-init c = record {
  images = images_at_start c.args.module.now c.args.basis.now c.in_ok-images.images
      (basis_in c.args.module.now c.args.basis.now c.args.transposed.now c.requires.spaces)
      (basis_formed c.args.module.now c.args.basis.now c.args.transposed.now c.requires.spaces) c.in_ok-images.ensures.copied;
  found = subst (All (IsPairing c.args.module.now c.args.basis.now c.args.transposed.now)) (sym c.new-found.ensures.items)
      (All-nil (IsPairing c.args.module.now c.args.basis.now c.args.transposed.now));
  field = ap (λ (e : EchelonValue). e.order) c.zero-seen.ensures.no_rows ∙ c.field.ensures.order;
  columns = ap (λ (e : EchelonValue). e.cols) c.zero-seen.ensures.no_rows ∙ c.rows.ensures.count;
}

pub returns-in_err-images-2 : goal.returns-in_err-images-2
returns-in_err-images-2 c =
    no_memory _ c.from_residual-in_err-images-2.result _ c.from_residual-in_err-images-2.ensures.1
    (memory_if_accepted _ _ _
    (image_accepted c.args.module.now c.args.basis.now c.loop-place.images c.generator.result.now _ c.loop-place.invariant.images c.generator.ensures.value
    c.generator.ensures.square)
    c.in_err-images-2.ensures.product)

pub returns-in_err-pairing : goal.returns-in_err-pairing
returns-in_err-pairing c =
    let images : AreImages c.args.module.now c.args.basis.now c.in_ok-images-2.images =
    images_next c.args.module.now c.args.basis.now c.loop-place.images c.generator.result.now c.in_ok-images-2.images _ c.loop-place.invariant.images
    c.generator.ensures.well_formed c.generator.ensures.value c.generator.ensures.square
    (number_below _ _ _ c.gens.ensures.count c.generator.ensures.well_formed.some_generator) c.in_ok-images-2.ensures.product in
    no_memory _ c.from_residual-in_err-pairing.result _ c.from_residual-in_err-pairing.ensures.1
    (memory_if_accepted _ _ _
    (pairing_accepted c.args.module.now c.args.basis.now c.in_ok-images-2.images c.args.transposed.now c.in_ok-columns.columns images
    (others_in c.args.module.now c.args.basis.now c.args.transposed.now c.requires.spaces)
    (value_if_accepted _ _ _ (some_columns c.args.module.now c.args.basis.now c.args.transposed.now c.requires.spaces) c.in_ok-columns.ensures.transpose))
    c.in_err-pairing.ensures.product)

pub row-requires : goal.row-requires
row-requires c =
    let images : AreImages c.args.module.now c.args.basis.now c.in_ok-images-2.images =
    images_next c.args.module.now c.args.basis.now c.loop-place.images c.generator.result.now c.in_ok-images-2.images _ c.loop-place.invariant.images
    c.generator.ensures.well_formed c.generator.ensures.value c.generator.ensures.square
    (number_below _ _ _ c.gens.ensures.count c.generator.ensures.well_formed.some_generator) c.in_ok-images-2.ensures.product in
    let pairing : IsPairing c.args.module.now c.args.basis.now c.args.transposed.now c.in_ok-pairing.pairing =
    pairing_made c.args.module.now c.args.basis.now c.in_ok-images-2.images c.args.transposed.now c.in_ok-columns.columns c.in_ok-pairing.pairing
    c.requires.spaces images c.in_ok-columns.ensures.transpose c.in_ok-pairing.ensures.product in
    omega (arith, c.requires.spaces.some_row, pairing.count, c.rows-in-loop-place.ensures.count)

pub insert-requires-clause-field : goal.insert-requires-clause-field
insert-requires-clause-field c =
    let images : AreImages c.args.module.now c.args.basis.now c.in_ok-images-2.images =
    images_next c.args.module.now c.args.basis.now c.loop-place.images c.generator.result.now c.in_ok-images-2.images _ c.loop-place.invariant.images
    c.generator.ensures.well_formed c.generator.ensures.value c.generator.ensures.square
    (number_below _ _ _ c.gens.ensures.count c.generator.ensures.well_formed.some_generator) c.in_ok-images-2.ensures.product in
    let pairing : IsPairing c.args.module.now c.args.basis.now c.args.transposed.now c.in_ok-pairing.pairing =
    pairing_made c.args.module.now c.args.basis.now c.in_ok-images-2.images c.args.transposed.now c.in_ok-columns.columns c.in_ok-pairing.pairing
    c.requires.spaces images c.in_ok-columns.ensures.transpose c.in_ok-pairing.ensures.product in
    ap (λ (r : RowValue). r.order) (c.in_ok-first.ensures.copied ∙ c.row.ensures.value) ∙ pairing.field ∙ sym c.loop-place.invariant.field

pub insert-requires-clause-fits : goal.insert-requires-clause-fits
insert-requires-clause-fits c =
    let images : AreImages c.args.module.now c.args.basis.now c.in_ok-images-2.images =
    images_next c.args.module.now c.args.basis.now c.loop-place.images c.generator.result.now c.in_ok-images-2.images _ c.loop-place.invariant.images
    c.generator.ensures.well_formed c.generator.ensures.value c.generator.ensures.square
    (number_below _ _ _ c.gens.ensures.count c.generator.ensures.well_formed.some_generator) c.in_ok-images-2.ensures.product in
    let pairing : IsPairing c.args.module.now c.args.basis.now c.args.transposed.now c.in_ok-pairing.pairing =
    pairing_made c.args.module.now c.args.basis.now c.in_ok-images-2.images c.args.transposed.now c.in_ok-columns.columns c.in_ok-pairing.pairing
    c.requires.spaces images c.in_ok-columns.ensures.transpose c.in_ok-pairing.ensures.product in
    ap (λ (r : RowValue). length r.entries) c.in_ok-first.ensures.copied ∙ c.row.ensures.as_long ∙ pairing.columns ∙ sym c.loop-place.invariant.columns

pub loop-place-preserved : goal.loop-place-preserved
loop-place-preserved c =
    let images : AreImages c.args.module.now c.args.basis.now c.in_ok-images-2.images =
    images_next c.args.module.now c.args.basis.now c.loop-place.images c.generator.result.now c.in_ok-images-2.images _ c.loop-place.invariant.images
    c.generator.ensures.well_formed c.generator.ensures.value c.generator.ensures.square
    (number_below _ _ _ c.gens.ensures.count c.generator.ensures.well_formed.some_generator) c.in_ok-images-2.ensures.product in
    let pairing : IsPairing c.args.module.now c.args.basis.now c.args.transposed.now c.in_ok-pairing.pairing =
    pairing_made c.args.module.now c.args.basis.now c.in_ok-images-2.images c.args.transposed.now c.in_ok-columns.columns c.in_ok-pairing.pairing
    c.requires.spaces images c.in_ok-columns.ensures.transpose c.in_ok-pairing.ensures.product in
    record {
      images = images;
      found = subst (All (IsPairing c.args.module.now c.args.basis.now c.args.transposed.now)) (sym c.in_ok-push.ensures.items)
          (All-push (IsPairing c.args.module.now c.args.basis.now c.args.transposed.now) c.loop-place.found.items c.in_ok-pairing.pairing
          c.loop-place.invariant.found pairing);
      field = c.in_ok-insert.ensures.inserted.field ∙ c.loop-place.invariant.field;
      columns = c.in_ok-insert.ensures.inserted.columns ∙ c.loop-place.invariant.columns;
    }
