use Rattle.std.proofs.Common.{◌<◌, length, ap, subst, arith}
use Rattle.axe_echelon.specs.Echelons.{EchelonValue}
use Rattle.axe_echelon.proofs.PivotRowLaws.{length-rows}
use Rattle.axe_echelon.proofs.PivotsOfRows.{pivot_of_row, pivot_within}
use Rattle.axe_echelon.proofs.subspace.Subspace.pivot.Goals as goal

below : (c : goal.After-index) → c.args.index < length c.self.inside.rows.items
below c = omega (arith, length-rows _ _ c.self.inside.rows.items _ c.self.view_is, c.requires)

pub index-requires : goal.index-requires
index-requires c = omega (arith, length-rows _ _ c.self.inside.rows.items _ c.self.view_is, c.requires, c.self.inside.rows.ok.0)

pub returns-clause-place : goal.returns-clause-place
returns-clause-place c =
    pivot_of_row _ _ c.self.inside.rows.items c.self.invariant.are_rows c.args.index c.index.result.now (below c) c.index.ensures
    c.args.self.now c.self.view_is

pub returns-clause-within : goal.returns-clause-within
returns-clause-within c =
    let within = pivot_within _ _ c.self.inside.rows.items c.self.invariant.are_rows c.args.index c.index.result.now (below c) c.index.ensures in
    subst (λ n. c.index.result.now.pivot < n) (ap (λ (x : EchelonValue). x.cols) c.self.view_is) within
