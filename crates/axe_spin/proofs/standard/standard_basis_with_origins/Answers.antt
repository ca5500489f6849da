use Rattle.std.proofs.Common.{ap}
use Rattle.std.proofs.lemmas.Result.{IfOk-from_err}
use Rattle.axe_matrix.specs.Matrices.{MatrixValue, IsMatrix}
use Rattle.axe_echelon.proofs.Exits.{no_memory}
use Rattle.axe_spin.proofs.SpunLaws.{span_of_none}
use Rattle.axe_spin.proofs.OriginLaws.{first_row_has_none}
use Rattle.axe_spin.proofs.StandardLaws.{first_is_offered, standard_matrix}
use Rattle.axe_spin.proofs.standard.standard_basis_with_origins.Goals as goal

pub spin-requires-clause-field : goal.spin-requires-clause-field
spin-requires-clause-field c =
    ap (λ (x : MatrixValue). x.order)
    (first_is_offered c.args.module.now c.args.vector.now c.in_ok-first.first c.empty-rows.result c.offer.new.rows _ _ c.empty-rows.ensures.no_rows
    c.field-2.ensures.order c.dim-2.ensures.count c.in_ok-first.ensures.copied c.in_ok-first.ensures.well_formed c.requires.field c.requires.nonzero
    c.in_ok-offer.ensures.offered)

pub spin-requires-clause-fits : goal.spin-requires-clause-fits
spin-requires-clause-fits c =
    ap (λ (x : MatrixValue). x.cols)
    (first_is_offered c.args.module.now c.args.vector.now c.in_ok-first.first c.empty-rows.result c.offer.new.rows _ _ c.empty-rows.ensures.no_rows
    c.field-2.ensures.order c.dim-2.ensures.count c.in_ok-first.ensures.copied c.in_ok-first.ensures.well_formed c.requires.field c.requires.nonzero
    c.in_ok-offer.ensures.offered)

pub returns-clause-basis : goal.returns-clause-basis
returns-clause-basis c =
    standard_matrix c.args.module.now c.args.vector.now c.offer.new.rows c.spin.new.rows c.field.ensures.well_formed
    (first_is_offered c.args.module.now c.args.vector.now c.in_ok-first.first c.empty-rows.result c.offer.new.rows _ _ c.empty-rows.ensures.no_rows
    c.field-2.ensures.order c.dim-2.ensures.count c.in_ok-first.ensures.copied c.in_ok-first.ensures.well_formed c.requires.field c.requires.nonzero
    c.in_ok-offer.ensures.offered)
    c.in_ok-spin.ensures.spun

pub returns-in_err-first-clause-basis : goal.returns-in_err-first-clause-basis
returns-in_err-first-clause-basis c = no_memory _ c.from_residual.result _ c.from_residual.ensures.1 c.in_err-first.ensures.copied

pub returns-in_err-first-clause-well_formed : goal.returns-in_err-first-clause-well_formed
returns-in_err-first-clause-well_formed c = IfOk-from_err c.from_residual.result (λ found. IsMatrix found.0) c.from_residual.ensures.0

pub returns-in_err-offer-clause-basis : goal.returns-in_err-offer-clause-basis
returns-in_err-offer-clause-basis c = no_memory _ c.from_residual-in_err-offer.result _ c.from_residual-in_err-offer.ensures.1 c.in_err-offer.ensures.offered

pub returns-in_err-offer-clause-well_formed : goal.returns-in_err-offer-clause-well_formed
returns-in_err-offer-clause-well_formed c = IfOk-from_err c.from_residual-in_err-offer.result (λ found. IsMatrix found.0) c.from_residual-in_err-offer.ensures.0

pub returns-in_err-spin-clause-basis : goal.returns-in_err-spin-clause-basis
returns-in_err-spin-clause-basis c = no_memory _ c.from_residual-in_err-spin.result _ c.from_residual-in_err-spin.ensures.1 c.in_err-spin.ensures.spun

pub returns-in_err-spin-clause-well_formed : goal.returns-in_err-spin-clause-well_formed
returns-in_err-spin-clause-well_formed c = IfOk-from_err c.from_residual-in_err-spin.result (λ found. IsMatrix found.0) c.from_residual-in_err-spin.ensures.0

pub offer-requires-clause-span : goal.offer-requires-clause-span
offer-requires-clause-span c =
    span_of_none c.args.module.now c.zero-span.result c.empty-rows.result _ _ _ _ c.zero-span.ensures.no_rows c.empty-rows.ensures.no_rows
    c.field.ensures.order c.field-2.ensures.order c.dim.ensures.count c.dim-2.ensures.count

pub returns-in_err-first-clause-origins : goal.returns-in_err-first-clause-origins
returns-in_err-first-clause-origins c = no_memory _ c.from_residual.result _ c.from_residual.ensures.1 c.in_err-first.ensures.copied

pub returns-in_err-offer-clause-origins : goal.returns-in_err-offer-clause-origins
returns-in_err-offer-clause-origins c = no_memory _ c.from_residual-in_err-offer.result _ c.from_residual-in_err-offer.ensures.1 c.in_err-offer.ensures.offered

pub returns-in_err-spin-clause-origins : goal.returns-in_err-spin-clause-origins
returns-in_err-spin-clause-origins c = no_memory _ c.from_residual-in_err-spin.result _ c.from_residual-in_err-spin.ensures.1 c.in_err-spin.ensures.spun

pub spin-requires-clause-origins : goal.spin-requires-clause-origins
spin-requires-clause-origins c =
    first_row_has_none c.args.module.now c.offer.new.rows.rows c.args.vector.now.entries c.new-origins.result.items
    (ap (λ (x : MatrixValue). x.rows)
    (first_is_offered c.args.module.now c.args.vector.now c.in_ok-first.first c.empty-rows.result c.offer.new.rows _ _ c.empty-rows.ensures.no_rows
    c.field-2.ensures.order c.dim-2.ensures.count c.in_ok-first.ensures.copied c.in_ok-first.ensures.well_formed c.requires.field c.requires.nonzero
    c.in_ok-offer.ensures.offered))
    c.new-origins.ensures.items
