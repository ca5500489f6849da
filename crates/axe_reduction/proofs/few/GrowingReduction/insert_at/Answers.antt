use Rattle.std.proofs.lemmas.Grind.{common_steps}
use Rattle.std.proofs.Common.{rules, ◌≡◌, ◌≤◌, refl, arith, ap, ◌∙◌, List, length}
use Rattle.std.specs.Prelude.{ltb}
use Rattle.std.specs.List.{insert}
use Rattle.std.proofs.lemmas.List.Sums.{count_by-le-length}
use Rattle.axe_reduction.specs.AugmentedRows.{count_below}
use Rattle.axe_reduction.specs.declared.augmented_row.AugmentedRow.{AugmentedRow}
use Rattle.axe_reduction.proofs.GrowingLaws.{inserted_rows, inserted_alike, inserted_at}
use Rattle.axe_reduction.proofs.few.GrowingReduction.insert_at.Goals as goal

pub returns : goal.returns
returns c =
    let place : c.place_among-place.result ≡ count_below c.args.pivot c.args.self.now.pivots.items =
    c.place_among-place.ensures ∙ ap (count_below c.args.pivot) c.deref.ensures.value in
    let items = inserted_at c.args.pivot _ c.place_among-place.result c.scale_at.new.self c.args.self.now.reduced.items _ c.cancel_in_each.new.rows
    c.insert.new.self.items (omega (arith, c.args.self.now.reduced.ok.0)) c.deref_mut.ensures.value c.cancel_in_each.ensures.cancelled
    c.in_ok-insert.ensures.items in
    let within : c.place_among-place.result ≤ length c.cancel_in_each.new.rows =
    omega (
      arith,
      place,
      count_by-le-length (λ number. ltb number c.args.pivot) c.args.self.now.pivots.items,
      c.requires.count,
      c.cancel_in_each.auto.rows,
      ap (λ (l : List AugmentedRow). length l) c.deref_mut.ensures.value,
    ) in
    record {
      reduced = inserted_rows c.args.pivot c.place_among-place.result _ c.args.row c.scale_at.new.self c.args.self.now.reduced.items _
          c.cancel_in_each.new.rows c.insert.new.self.items c.scale_at.ensures.scaled c.deref_mut.ensures.value c.cancel_in_each.ensures.cancelled
          items place;
      pivots = c.in_ok-insert-2.ensures.items ∙ ap (λ i. insert c.args.self.now.pivots.items i c.args.pivot) place;
      rest = refl {A = List AugmentedRow};
      alike = inserted_alike c.args.row c.scale_at.new.self c.place_among-place.result c.cancel_in_each.new.rows c.insert.new.self.items within
          c.scale_at.ensures.alike c.cancel_in_each.ensures.alike items;
    }

pub insert-requires : goal.insert-requires
insert-requires c = grind (arith, common_steps)

pub insert-requires-2 : goal.insert-requires-2
insert-requires-2 c = grind (arith, common_steps)

pub cancel_in_each-requires-clause-column : goal.cancel_in_each-requires-clause-column
cancel_in_each-requires-clause-column c = search rules
