use Rattle.std.proofs.Common.{sym, ap, subst, ◌∙◌, arith}
use Rattle.std.specs.List.{All}
use Rattle.axe_algebra.specs.SpansOfLists.{SpansEverything}
use Rattle.axe_field.specs.NumberFields.{number_field}
use Rattle.axe_row.specs.Rows.{RowValue}
use Rattle.axe_norton.specs.Pairings.{TakesTo, combinations}
use Rattle.axe_norton.proofs.SearchLaws.{point_fits, point_nonzero}
use Rattle.axe_norton.proofs.SeenLaws.{basis_in, basis_formed, some_other, seen_point, pairings_take}
use Rattle.axe_norton.proofs.spaces.proper_combination.Goals as goal

pub is_seen_to_generate-requires-clause-some_dimension : goal.is_seen_to_generate-requires-clause-some_dimension
is_seen_to_generate-requires-clause-some_dimension c =
    omega (arith, c.rows.ensures.count, some_other c.args.module.now c.args.null_space.now c.args.transposed.now c.requires.spaces)

pub is_seen_to_generate-requires-clause-pairings : goal.is_seen_to_generate-requires-clause-pairings
is_seen_to_generate-requires-clause-pairings c =
    subst (λ k. All (TakesTo c.args.coordinates.now k) c.args.pairings.now) (sym c.rows.ensures.count)
    (pairings_take c.args.module.now c.args.null_space.now c.args.transposed.now c.args.coordinates.now c.args.pairings.now c.requires.coordinates
    c.requires.pairings)

pub returns-then-branch : goal.returns-then-branch
returns-then-branch c =
    seen_point c.args.module.now c.args.null_space.now c.args.transposed.now c.requires.spaces c.dim.ensures.well_formed c.requires.first c.args.coordinates.now
    c.args.pairings.now c.requires.coordinates c.requires.pairings
    (subst (λ k. SpansEverything (number_field c.args.coordinates.now.order) k (combinations c.args.coordinates.now c.args.pairings.now)) c.rows.ensures.count
    (c.in_ok-is_seen_to_generate.ensures c.if-branch.true))

pub proper_space-requires-clause-fits : goal.proper_space-requires-clause-fits
proper_space-requires-clause-fits c =
    point_fits c.args.module.now c.args.null_space.now (basis_in c.args.module.now c.args.null_space.now c.args.transposed.now c.requires.spaces)
    (basis_formed c.args.module.now c.args.null_space.now c.args.transposed.now c.requires.spaces) c.requires.coordinates.number c.in_ok-point.point
    c.requires.coordinates.below (ap (λ (r : RowValue). r.entries) c.in_ok-point.ensures.product ∙ c.requires.coordinates.combine)

pub proper_space-requires-clause-nonzero : goal.proper_space-requires-clause-nonzero
proper_space-requires-clause-nonzero c =
    point_nonzero c.args.module.now c.args.null_space.now (basis_in c.args.module.now c.args.null_space.now c.args.transposed.now c.requires.spaces)
    (basis_formed c.args.module.now c.args.null_space.now c.args.transposed.now c.requires.spaces) c.requires.coordinates.number c.in_ok-point.point
    c.requires.coordinates.below (ap (λ (r : RowValue). r.entries) c.in_ok-point.ensures.product ∙ c.requires.coordinates.combine)
