use Rattle.std.proofs.Common.{◌≡◌, ◌+◌, ◌*◌, ◌≤◌, ◌∙◌, length, ap, subst, arith}
use Rattle.axe_row.specs.Rows.{RowValue}
use Rattle.axe_echelon.specs.Echelons.{EchelonValue}
use Rattle.axe_echelon.specs.Subspaces.{IsReducedBelow}
use Rattle.axe_echelon.proofs.StepLaws.{over_of_row}
use Rattle.axe_echelon.proofs.WordsOfPivots.{reduced_below_none, reduced_below_all}
use Rattle.axe_echelon.proofs.subspace.Subspace.reduce_by_sums.Goals as goal

pub loop-at-init : goal.loop-at-init
loop-at-init c =
    rw c.take-sum.ensures.value (
    reduced_below_none c.args.self.now c.args.row.now c.requires.field
    (over_of_row _ _ c.args.row.now c.requires.field c.requires.elements c.requires.fits))

pub clear_word_of_sum-requires-clause-within : goal.clear_word_of_sum-requires-clause-within
clear_word_of_sum-requires-clause-within c =
    omega (arith, c.div_ceil-at-end.ensures, c.loop-at-test.true, ap (λ (e : EchelonValue). e.cols) c.self.view_is)

pub loop-at-preserved : goal.loop-at-preserved
loop-at-preserved c =
    subst (λ k. IsReducedBelow c.args.self.now k c.args.row.now c.clear_word_of_sum.new.sum)
    (let next : c.loop-at.at * 64 + 64 ≡ (c.loop-at.at + 1) * 64 = omega arith in next)
    (c.clear_word_of_sum.ensures c.args.row.now c.loop-at.invariant)

pub returns-clause-representative : goal.returns-clause-representative
returns-clause-representative c =
    let whole : c.args.self.now.cols ≤ c.loop-at.at * 64 =
    omega (arith, c.div_ceil-at-end.ensures, c.loop-at-test.false, ap (λ (e : EchelonValue). e.cols) c.self.view_is) in
    rw c.into_row.ensures.value (reduced_below_all c.args.self.now (c.loop-at.at * 64) c.args.row.now c.loop-at.sum c.loop-at.invariant whole)

pub returns-clause-same_field : goal.returns-clause-same_field
returns-clause-same_field c = ap (λ (r : RowValue). r.order) c.into_row.ensures.value ∙ c.loop-at.invariant.field

pub returns-clause-as_long : goal.returns-clause-as_long
returns-clause-as_long c = ap (λ (r : RowValue). length r.entries) c.into_row.ensures.value ∙ c.loop-at.invariant.over.length_is
