use Rattle.std.proofs.Common.{[], ◌∷◌, map, subst, sym, ◌∙◌}
use Rattle.std.specs.Vec.Iter.{into_iter_items}
use Rattle.std.proofs.lemmas.List.{map-append}
use Rattle.axe_row.specs.Rows.{RowValue}
use Rattle.axe_matrix.specs.RowLists.{AreRowsOf}
use Rattle.axe_echelon.proofs.RowSpaces.{rows_more, next_long}
use Rattle.axe_spin.specs.Blocks.{SpansMore}
use Rattle.axe_spin.proofs.BlockLaws.{spans_none, spans_one_more}
use Rattle.axe_spin.proofs.generated.insert_rows.Goals as goal

pub loop-row-init : goal.loop-row-init
loop-row-init c = record {
  rows = subst (AreRowsOf c.args.rows) (sym c.into_iter-row-iterator.ensures.into_iter_gives.0) c.into_rows-row-items.ensures.rows;
  more = spans_none c.args.space.now;
  well_formed = c.cols-2.ensures.well_formed;
}

pub loop-row-preserved : goal.loop-row-preserved
loop-row-preserved c = record {
  rows = rows_more c.args.rows c.loop-row.yielded (into_iter_items c.loop-row.row-iterator) (into_iter_items c.next.new.self) c.in-Some.row
      c.loop-row.invariant.rows c.in-Some.ensures.steps.0;
  more = subst (λ rows. SpansMore c.args.space.now rows c.insert.new.self)
      (sym (map-append (λ (r : RowValue). r.entries) c.loop-row.yielded (c.in-Some.row ∷ [])))
      (spans_one_more c.args.space.now c.loop-row.space c.insert.new.self (map (λ (r : RowValue). r.entries) c.loop-row.yielded) c.in-Some.row.entries
      c.in_ok-insert.field-0 c.loop-row.invariant.more c.loop-row.invariant.well_formed
      (next_long c.args.rows c.loop-row.yielded (into_iter_items c.loop-row.row-iterator) (into_iter_items c.next.new.self) c.in-Some.row
      c.loop-row.invariant.rows c.in-Some.ensures.steps.0 ∙ c.requires.columns ∙ sym c.loop-row.invariant.more.columns)
      c.in_ok-insert.ensures.inserted c.in_ok-insert.ensures.exactly.1);
  well_formed = c.insert.ensures.well_formed;
}
