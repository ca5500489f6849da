use Rattle.std.proofs.lemmas.Grind.{common_steps}
use Rattle.std.proofs.Common.{◌≡◌, ◌++◌, [], ◌∷◌, List, sym, ap, ◌∙◌, subst, append_assoc, arith}
use Rattle.std.proofs.lemmas.List.{append-nil, nil_from_length}
use Rattle.std.specs.Vec.Iter.{into_iter_items}
use Rattle.axe_reduction.specs.declared.augmented_row.AugmentedRow.{AugmentedRow}
use Rattle.axe_reduction.proofs.BesideLaws.{augmented-IsAugmented}
use Rattle.axe_reduction.proofs.BesideRows.{AreOfRows, next_row, of_more_rows, rows-AreBeside, rows_are_whole}
use Rattle.axe_reduction.proofs.augmented.Augmented.with_rows_of.Goals as goal

pub loop-row-preserved : goal.loop-row-preserved
loop-row-preserved c = record {
  items = append_assoc c.loop-row.yielded (c.in-Some.row ∷ []) (into_iter_items c.next.new.self)
      ∙ ap (λ rest. c.loop-row.yielded ++ rest) (sym c.in-Some.ensures.steps.0) ∙ c.loop-row.invariant.items;
  parts = of_more_rows c.args.self.now c.loop-row.yielded c.loop-row.left c.loop-row.right c.append.new.self c.append-in-loop-row.new.self c.in-Some.row
      c.loop-row.invariant.parts c.in_ok-append.ensures.appended c.in_ok-append-2.ensures.appended c.append.ensures.well_formed
      c.append-in-loop-row.ensures.well_formed;
}

pub invariant_of-result : goal.invariant_of-result
invariant_of-result c = rows-AreBeside c.args.self.now c.loop-row.yielded c.loop-row.left c.loop-row.right c.loop-row.invariant.parts

pub returns-clause-rows : goal.returns-clause-rows
returns-clause-rows c =
    let all : c.loop-row.yielded ≡ c.args.rows.items =
    sym (append-nil c.loop-row.yielded)
    ∙ ap (λ rest. c.loop-row.yielded ++ rest)
    (sym (nil_from_length (into_iter_items c.loop-row.row-iterator) (omega (arith, c.in-None.ensures.steps.0, c.loop-row.row-iterator.rest.ok))))
    ∙ c.loop-row.invariant.items in
    rows_are_whole c.args.self.now c.args.rows.items c.loop-row.left c.loop-row.right
    (subst (λ (rows : List AugmentedRow). AreOfRows c.args.self.now rows c.loop-row.left c.loop-row.right) all c.loop-row.invariant.parts)

pub returns-clause-well_formed : goal.returns-clause-well_formed
returns-clause-well_formed c =
    augmented-IsAugmented c.loop-row.left c.loop-row.right
    (rows-AreBeside c.args.self.now c.loop-row.yielded c.loop-row.left c.loop-row.right c.loop-row.invariant.parts)

pub append-requires-clause-room : goal.append-requires-clause-room
append-requires-clause-room c = grind (arith, common_steps)

pub append-requires-in-loop-row-clause-room : goal.append-requires-in-loop-row-clause-room
append-requires-in-loop-row-clause-room c = grind (arith, common_steps)

pub append-requires-clause-field : goal.append-requires-clause-field
append-requires-clause-field c =
    let row = next_row c.args.self.now c.args.rows.items c.loop-row.yielded (into_iter_items c.loop-row.row-iterator) c.in-Some.row
    (into_iter_items c.next.new.self) c.requires.alike c.loop-row.invariant.items c.in-Some.ensures.steps.0 in
    row.left_field ∙ sym c.loop-row.invariant.parts.left_field

pub append-requires-clause-fits : goal.append-requires-clause-fits
append-requires-clause-fits c =
    let row = next_row c.args.self.now c.args.rows.items c.loop-row.yielded (into_iter_items c.loop-row.row-iterator) c.in-Some.row
    (into_iter_items c.next.new.self) c.requires.alike c.loop-row.invariant.items c.in-Some.ensures.steps.0 in
    row.left_length ∙ sym c.loop-row.invariant.parts.left_columns

pub append-requires-in-loop-row-clause-field : goal.append-requires-in-loop-row-clause-field
append-requires-in-loop-row-clause-field c =
    let row = next_row c.args.self.now c.args.rows.items c.loop-row.yielded (into_iter_items c.loop-row.row-iterator) c.in-Some.row
    (into_iter_items c.next.new.self) c.requires.alike c.loop-row.invariant.items c.in-Some.ensures.steps.0 in
    row.right_field ∙ sym c.loop-row.invariant.parts.right_field

pub append-requires-in-loop-row-clause-fits : goal.append-requires-in-loop-row-clause-fits
append-requires-in-loop-row-clause-fits c =
    let row = next_row c.args.self.now c.args.rows.items c.loop-row.yielded (into_iter_items c.loop-row.row-iterator) c.in-Some.row
    (into_iter_items c.next.new.self) c.requires.alike c.loop-row.invariant.items c.in-Some.ensures.steps.0 in
    omega (arith, row.columns, c.loop-row.invariant.parts.right_columns)
