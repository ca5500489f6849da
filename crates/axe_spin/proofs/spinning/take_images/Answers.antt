use Rattle.std.proofs.Common.{◌≡◌, ◌<◌, ◌≤◌, ◌+◌, [], ◌∷◌, ◌++◌, length, ap, sym, ◌∙◌, arith, rules}
use Rattle.axe_algebra.specs.ListArithmetic.{combination}
use Rattle.axe_field.specs.NumberFields.{number_field}
use Rattle.axe_row.specs.Rows.{RowValue}
use Rattle.axe_matrix.specs.Matrices.{MatrixValue}
use Rattle.axe_row.proofs.CombinationLaws.{length-combination}
use Rattle.axe_spin.specs.Spun.{image_of_row}
use Rattle.axe_spin.proofs.SpunLaws.{spins_nowhere, spins_on, spins_to_next, spins_to_row, spins_to_row_of_full}
use Rattle.axe_spin.proofs.OriginLaws.{origins_of_new, origins_of_old}
use Rattle.axe_spin.proofs.spinning.take_images.Goals.{then-branch+in_ok-push, else-branch}
use Rattle.axe_spin.proofs.spinning.take_images.Goals as goal
use mathlib.Core.Path.{ap₂}

pub loop-number-init : goal.loop-number-init
loop-number-init c = record {
  spins = spins_nowhere c.args.module.now c.args.rows.now c.args.source 0;
  span = c.requires.span;
  well_formed = c.requires.well_formed;
  origins = c.requires.origins;
}

pub offer-requires-clause-fits : goal.offer-requires-clause-fits
offer-requires-clause-fits c =
    ap (λ (r : RowValue). length r.entries) c.in_ok-image.ensures.product ∙ length-combination _ _ _ _
    ∙ ap (λ (g : MatrixValue). g.cols) c.generator.ensures.value ∙ sym c.requires.fits ∙ sym c.loop-number.invariant.spins.columns

pub loop-number-preserved : goal.loop-number-preserved
loop-number-preserved c =
    let spins = c.loop-number.invariant.spins in
    let below : c.args.source < length c.loop-number.rows.rows = omega (arith, c.requires.within, spins.grown) in
    let inside : c.loop-number.number < length c.args.module.now.generators = omega (arith, c.loop-number-test.true, c.gens-number-end.ensures.count) in
    let image : c.in_ok-image.image.entries ≡ image_of_row c.args.module.now c.loop-number.rows.rows c.args.source c.loop-number.number =
    ap (λ (r : RowValue). r.entries) c.in_ok-image.ensures.product
    ∙ ap₂ (λ (v : RowValue) (g : MatrixValue). combination (number_field g.order) g.cols v.entries g.rows) c.row.ensures.value c.generator.ensures.value in
    record {
      spins = spins_on c.args.module.now c.args.rows.now c.loop-number.rows c.offer.new.rows c.args.source 0 c.args.source c.loop-number.number c.args.source
          (c.loop-number.number + 1) spins
          (spins_to_next c.args.module.now c.loop-number.rows c.offer.new.rows c.in_ok-image.image.entries c.args.source c.loop-number.number
          c.gens-number-end.ensures.well_formed (spins.field ∙ c.requires.field) (spins.columns ∙ c.requires.fits) below inside image
          c.in_ok-offer.ensures.offered);
      span = c.in_ok-offer.ensures.span;
      well_formed = c.in_ok-offer.ensures.well_formed;
      origins = elim c.if-branch.branch [
        | then-branch+in_ok-push w ↦
            let pushed : w.push.new.self.items ≡ c.loop-number.origins.items ++ record { source = c.args.source; generator = c.loop-number.number } ∷ [] =
            search rules in
            rw w.origins-is (origins_of_new c.args.module.now c.loop-number.rows c.offer.new.rows c.in_ok-image.image.entries c.in_ok-offer.field-0
            c.loop-number.origins.items w.push.new.self.items (record { source = c.args.source; generator = c.loop-number.number })
            c.loop-number.invariant.origins below inside image c.in_ok-offer.ensures.told w.if-branch.true pushed)
        | else-branch w ↦
            rw w.origins-is (origins_of_old c.args.module.now c.loop-number.rows c.offer.new.rows c.in_ok-image.image.entries c.in_ok-offer.field-0
            c.loop-number.origins.items c.loop-number.invariant.origins c.in_ok-offer.ensures.told w.if-branch.false)
      ];
    }

pub returns-then-dim-clause-taken : goal.returns-then-dim-clause-taken
returns-then-dim-clause-taken c =
    let spins = c.loop-number.invariant.spins in
    spins_on c.args.module.now c.args.rows.now c.loop-number.rows c.loop-number.rows c.args.source 0 c.args.source c.loop-number.number (c.args.source + 1) 0
    spins
    (spins_to_row_of_full c.args.module.now c.loop-number.span c.loop-number.rows c.args.source c.loop-number.number c.gens-number-end.ensures.well_formed
    c.dim.ensures.well_formed c.loop-number.invariant.span (spins.field ∙ c.requires.field) (spins.columns ∙ c.requires.fits)
    (sym c.dim.ensures.count ∙ c.if-dim.true ∙ c.dim-in-loop-number.ensures.count))

pub returns-after-loop-number-clause-taken : goal.returns-after-loop-number-clause-taken
returns-after-loop-number-clause-taken c =
    let all : length c.args.module.now.generators ≤ c.loop-number.number = omega (arith, c.loop-number-test.false, c.gens-number-end.ensures.count) in
    spins_on c.args.module.now c.args.rows.now c.loop-number.rows c.loop-number.rows c.args.source 0 c.args.source c.loop-number.number (c.args.source + 1) 0
    c.loop-number.invariant.spins (spins_to_row c.args.module.now c.loop-number.rows c.args.source c.loop-number.number all)
