use Rattle.std.proofs.Common.{length, sym, ap, ◌∙◌}
use Rattle.axe_row.specs.Rows.{RowValue}
use Rattle.axe_row.proofs.CombinationLaws.{length-combination}
use Rattle.axe_norton.specs.Pairings.{combinations}
use Rattle.axe_norton.proofs.SeenLaws.{IsWithin, within_more, within_full, combination_spanned, item_columns}
use Rattle.axe_norton.proofs.pairings.is_seen_to_generate.Goals as goal

pub insert-requires-clause-fits : goal.insert-requires-clause-fits
insert-requires-clause-fits c =
    ap (λ (r : RowValue). length r.entries) c.in_ok-vec_mul.ensures.product ∙ length-combination _ _ _ _
    ∙ item_columns c.args.coordinates.now c.args.dimension c.args.pairings.now c.loop-pairing.pairing-index c.pairing-item.result c.requires.pairings
    c.loop-pairing-test.true c.pairing-item.is
    ∙ sym c.loop-pairing.invariant.columns_are

pub returns-then-dim-cols : goal.returns-then-dim-cols
returns-then-dim-cols c =
    let next : IsWithin c.args.coordinates.now.order c.args.dimension (combinations c.args.coordinates.now c.args.pairings.now) c.insert.new.self =
    within_more c.args.coordinates.now.order c.args.dimension (combinations c.args.coordinates.now c.args.pairings.now) c.loop-pairing.span c.insert.new.self
    c.in_ok-vec_mul.field-0.entries c.in_ok-insert.field-0 c.loop-pairing.invariant c.in_ok-insert.ensures.inserted
    (combination_spanned c.args.coordinates.now c.args.pairings.now c.loop-pairing.pairing-index c.pairing-item.result c.in_ok-vec_mul.field-0
    c.loop-pairing-test.true c.pairing-item.is c.in_ok-vec_mul.ensures.product) in
    λ seen.
    within_full c.args.coordinates.now.order c.args.dimension (combinations c.args.coordinates.now c.args.pairings.now) c.insert.new.self next
    c.insert.ensures.well_formed (sym c.dim.ensures.count ∙ c.if-dim-cols.true ∙ c.cols.ensures.count ∙ next.columns_are)

pub loop-pairing-preserved : goal.loop-pairing-preserved
loop-pairing-preserved c =
    within_more c.args.coordinates.now.order c.args.dimension (combinations c.args.coordinates.now c.args.pairings.now) c.loop-pairing.span c.insert.new.self
    c.in_ok-vec_mul.field-0.entries c.in_ok-insert.field-0 c.loop-pairing.invariant c.in_ok-insert.ensures.inserted
    (combination_spanned c.args.coordinates.now c.args.pairings.now c.loop-pairing.pairing-index c.pairing-item.result c.in_ok-vec_mul.field-0
    c.loop-pairing-test.true c.pairing-item.is c.in_ok-vec_mul.ensures.product)
