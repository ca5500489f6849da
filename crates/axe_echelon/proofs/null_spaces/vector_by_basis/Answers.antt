use Rattle.std.proofs.Common.{◌≡◌, ◌-◌, ◌<◌, length, ◌∙◌, sym, subst, Bool, true, false, arith}
use Rattle.std.proofs.lemmas.List.{length-reverse}
use Rattle.axe_algebra.specs.Lists.{unit_row}
use Rattle.axe_algebra.specs.SpansOfLists.{IsPivot}
use Rattle.axe_field.specs.NumberFields.{number_field}
use Rattle.axe_field.specs.Order.{IsElement}
use Rattle.axe_echelon.specs.Echelons.{IsReducedMatrix}
use Rattle.axe_echelon.specs.Mirrored.{mirrored_row}
use Rattle.axe_echelon.proofs.OrthogonalLaws.{ArePlacesBefore, no_places, place_of_pivot, places_more, places_same}
use Rattle.axe_echelon.proofs.OrthogonalRows.{by_basis_start, by_basis_entry, by_basis_all}
use Rattle.axe_echelon.proofs.Exits.{no_memory}
use Rattle.axe_echelon.proofs.null_spaces.vector_by_basis.Goals.{then-is_pivot, else-is_pivot}
use Rattle.axe_echelon.proofs.null_spaces.vector_by_basis.Goals as goal

not_both : (b : Bool) → b ≡ true → b ≡ false → ⊥
not_both b t f = cc

pub loop-pivot-init : goal.loop-pivot-init
loop-pivot-init c = record {
  places = λ reduced. no_places (length c.args.basis.now.rows) reduced.basis.pivots;
  vector =
      let last : c.cols-last.result ≡ c.args.space.now.cols = c.cols-last.ensures.count ∙ c.requires.basis.columns in
      let cols : c.cols.result ≡ c.args.space.now.cols = c.cols.ensures.count ∙ c.requires.basis.columns in
      let unit : c.in_ok-vector.vector ≡
      record { order = c.args.space.now.order; entries = unit_row c.args.space.now.cols (c.args.space.now.cols - 1 - c.args.column) } =
      c.in_ok-vector.ensures.unit ∙ (λ t. record { order = c.field.ensures.order t; entries = unit_row (cols t) (last t - 1 - c.args.column) }) in
      by_basis_start c.args.space.now c.field.ensures.well_formed c.args.column c.requires.within c.args.basis.now c.cols-last.ensures.well_formed
      c.requires.basis c.requires.no_pivot c.in_ok-vector.vector unit c.in_ok-vector.ensures.well_formed;
}

pub get-requires-clause-row : goal.get-requires-clause-row
get-requires-clause-row c =
    (place_of_pivot (IsPivot (number_field c.args.space.now.order) c.args.space.now.rows) (length c.args.basis.now.rows) c.requires.basis.basis.pivots
    c.requires.basis.basis.are_pivots c.loop-pivot.pivot c.loop-pivot.index (c.loop-pivot.invariant.places c.requires.basis)
    (c.is_pivot.ensures.0 c.if-is_pivot.true)).0

pub overflow_add-index : goal.overflow_add-index
overflow_add-index c =
    let below : c.loop-pivot.index < length c.args.basis.now.rows =
    (place_of_pivot (IsPivot (number_field c.args.space.now.order) c.args.space.now.rows) (length c.args.basis.now.rows) c.requires.basis.basis.pivots
    c.requires.basis.basis.are_pivots c.loop-pivot.pivot c.loop-pivot.index (c.loop-pivot.invariant.places c.requires.basis)
    (c.is_pivot.ensures.0 c.if-is_pivot.true)).0 in
    omega (arith, below, c.cols-last.ensures.well_formed.rows_fit)

pub loop-pivot-preserved : goal.loop-pivot-preserved
loop-pivot-preserved c =
    elim c.if-is_pivot.branch [
      | then-is_pivot w ↦
          let is_pivot : IsPivot (number_field c.args.space.now.order) c.args.space.now.rows c.loop-pivot.pivot = c.is_pivot.ensures.0 w.if-is_pivot.true in
          let inside : c.loop-pivot.pivot < c.args.space.now.cols = omega (arith, c.loop-pivot-test.true, c.requires.within) in
          let place : (reduced : IsReducedMatrix c.args.space.now c.args.basis.now) →
          (c.loop-pivot.index < length c.args.basis.now.rows) × (reduced.basis.pivots c.loop-pivot.index ≡ c.loop-pivot.pivot) =
          λ reduced. place_of_pivot (IsPivot (number_field c.args.space.now.order) c.args.space.now.rows) (length c.args.basis.now.rows) reduced.basis.pivots
          reduced.basis.are_pivots c.loop-pivot.pivot c.loop-pivot.index (c.loop-pivot.invariant.places reduced) is_pivot in
          record {
            places = λ reduced. rw w.index-is (places_more (IsPivot (number_field c.args.space.now.order) c.args.space.now.rows) (length c.args.basis.now.rows)
                reduced.basis.pivots reduced.basis.are_pivots c.loop-pivot.pivot c.loop-pivot.index (c.loop-pivot.invariant.places reduced) is_pivot);
            vector =
                let last : c.cols-last.result ≡ c.args.space.now.cols = c.cols-last.ensures.count ∙ c.requires.basis.columns in
                rw (w.vector-is, w.index-is) (by_basis_entry c.args.space.now c.field.ensures.well_formed c.args.column c.requires.within
                c.args.basis.now c.cols-last.ensures.well_formed c.requires.basis c.requires.no_pivot c.loop-pivot.index c.loop-pivot.pivot
                w.get.result c.loop-pivot.vector w.set_negative.new.row c.loop-pivot.invariant.vector (place c.requires.basis).0
                (λ reduced. (place reduced).1) inside w.get.ensures.value
                (rw last at w.set_negative.ensures.set) w.set_negative.ensures.same w.set_negative.ensures.well_formed);
          }
      | else-is_pivot w ↦ record {
        places = λ reduced. rw w.index-is (places_same (IsPivot (number_field c.args.space.now.order) c.args.space.now.rows) (length c.args.basis.now.rows)
            reduced.basis.pivots reduced.basis.are_pivots c.loop-pivot.pivot c.loop-pivot.index (c.loop-pivot.invariant.places reduced)
            (λ pivot. not_both c.is_pivot.result (c.is_pivot.ensures.1 pivot) w.if-is_pivot.false));
        vector = rw (w.vector-is, w.index-is) c.loop-pivot.invariant.vector;
      }
    ]

pub returns : goal.returns
returns c =
    let whole : c.loop-pivot.pivot ≡ c.args.column = omega (arith, c.loop-pivot-test.false, c.loop-pivot.auto.pivot-end) in
    by_basis_all c.args.space.now c.field.ensures.well_formed c.args.column c.requires.within c.args.basis.now c.cols-last.ensures.well_formed
    c.requires.basis c.requires.no_pivot c.loop-pivot.index (mirrored_row c.loop-pivot.vector) c.loop-pivot.invariant.vector
    (subst (λ k. ArePlacesBefore (length c.args.basis.now.rows) c.requires.basis.basis.pivots k c.loop-pivot.index) whole
    (c.loop-pivot.invariant.places c.requires.basis))

pub get-requires-clause-column : goal.get-requires-clause-column
get-requires-clause-column c = omega (arith, c.requires.within, c.requires.basis.columns)

pub returns-in_err-vector : goal.returns-in_err-vector
returns-in_err-vector c = no_memory _ c.from_residual.result _ c.from_residual.ensures.1 c.in_err-vector.ensures.unit

pub set_negative-requires-clause-index : goal.set_negative-requires-clause-index
set_negative-requires-clause-index c =
    omega (
      arith,
      length-reverse c.loop-pivot.vector.entries,
      c.loop-pivot.invariant.vector.over.length_is,
      c.cols-last.ensures.count,
      c.requires.basis.columns,
      c.loop-pivot-test.true,
      c.requires.within,
    )

pub set_negative-requires-clause-element : goal.set_negative-requires-clause-element
set_negative-requires-clause-element c =
    subst (λ o. IsElement o c.get.result) (c.requires.basis.field ∙ sym c.loop-pivot.invariant.vector.field) c.get.ensures.element
