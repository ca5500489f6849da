use Rattle.std.proofs.Common.{◌≡◌, ◌+◌, ◌*◌, ◌≤◌, ap, subst, arith}
use Rattle.axe_echelon.specs.Echelons.{EchelonValue}
use Rattle.axe_echelon.specs.Subspaces.{IsReducedBelow}
use Rattle.axe_echelon.proofs.StepLaws.{over_of_row, is_row_of_over}
use Rattle.axe_echelon.proofs.WordsOfPivots.{reduced_below_none, reduced_below_all}
use Rattle.axe_echelon.proofs.subspace.Subspace.reduce_by_words.Goals as goal

pub loop-at-init : goal.loop-at-init
loop-at-init g c =
    reduced_below_none c.args.self.now c.args.row.now c.requires.field
    (over_of_row _ _ c.args.row.now c.requires.field c.requires.elements c.requires.fits)

pub reduce_word-requires-clause-within : goal.reduce_word-requires-clause-within
reduce_word-requires-clause-within g c =
    omega (arith, c.div_ceil-at-end.ensures, c.loop-at-test.true, ap (λ (e : EchelonValue). e.cols) c.self.view_is)

pub loop-at-preserved : goal.loop-at-preserved
loop-at-preserved g c =
    subst (λ k. IsReducedBelow c.args.self.now k c.args.row.now c.reduce_word.new.row)
    (let next : c.loop-at.at * 64 + 64 ≡ (c.loop-at.at + 1) * 64 = omega arith in next)
    (c.reduce_word.ensures c.args.row.now c.loop-at.invariant)

pub returns-clause-representative : goal.returns-clause-representative
returns-clause-representative g c =
    let whole : c.args.self.now.cols ≤ c.loop-at.at * 64 =
    omega (arith, c.div_ceil-at-end.ensures, c.loop-at-test.false, ap (λ (e : EchelonValue). e.cols) c.self.view_is) in
    reduced_below_all c.args.self.now (c.loop-at.at * 64) c.args.row.now c.loop-at.row c.loop-at.invariant whole

pub returns-clause-row_well_formed : goal.returns-clause-row_well_formed
returns-clause-row_well_formed g c =
    is_row_of_over c.args.self.now.order c.args.self.now.cols c.loop-at.row c.loop-at.invariant.field c.loop-at.invariant.over
