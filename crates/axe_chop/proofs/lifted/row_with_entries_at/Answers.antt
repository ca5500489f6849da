use Rattle.std.proofs.Common.{◌≡◌, ◌<◌, length, get_or, sym, subst, ◌∙◌, arith}
use Rattle.axe_field.specs.Arithmetic.{field_add}
use Rattle.axe_chop.proofs.Placements.{placed_none, placed_count, placed_more, placed_all}
use Rattle.axe_chop.proofs.lifted.row_with_entries_at.Goals as goal

pub loop-place-init : goal.loop-place-init
loop-place-init c =
    placed_none c.args.row.now c.args.dim c.args.columns.now c.in_ok-placed.placed c.field.result.now c.field.ensures.order
    c.in_ok-placed.ensures.zeros

pub get-requires : goal.get-requires
get-requires c =
    let count : length c.loop-place.placed.entries ≡ c.args.dim =
    placed_count c.args.row.now c.args.dim c.args.columns.now c.loop-place.place c.loop-place.placed c.loop-place.invariant in
    subst (λ n. get_or c.args.columns.now c.loop-place.place 0 < n) (sym count)
    (c.requires.within c.loop-place.place 0 c.loop-place-test.true)

pub set-requires-clause-index : goal.set-requires-clause-index
set-requires-clause-index c =
    let count : length c.loop-place.placed.entries ≡ c.args.dim =
    placed_count c.args.row.now c.args.dim c.args.columns.now c.loop-place.place c.loop-place.placed c.loop-place.invariant in
    subst (λ n. get_or c.args.columns.now c.loop-place.place 0 < n) (sym count)
    (c.requires.within c.loop-place.place 0 c.loop-place-test.true)

pub loop-place-preserved : goal.loop-place-preserved
loop-place-preserved c =
    placed_more c.args.row.now c.args.dim c.args.columns.now c.loop-place.place c.loop-place.placed c.set.new.self c.add-sum.result
    c.field.ensures.well_formed c.requires.fits c.loop-place-test.true c.requires.within c.loop-place.invariant
    (c.add-sum.ensures.value
    ∙ (λ k. field_add (c.field.ensures.order k) (c.get.ensures.entry k) (c.get-in-loop-place.ensures.entry k)))
    c.set.ensures.replaced

pub returns : goal.returns
returns c = record {
  combination = placed_all c.args.row.now c.args.dim c.args.columns.now c.loop-place.place c.loop-place.placed
      (omega (arith, c.loop-place-test.false, c.loop-place.auto.place-end)) c.loop-place.invariant;
}
