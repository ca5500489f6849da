use Rattle.std.proofs.Common.{◌≡◌, ◌+◌, ◌*◌, ◌≤◌, ◌∙◌, ap, sym, subst, replicate, arith}
use Rattle.axe_echelon.specs.Echelons.{EchelonValue}
use Rattle.axe_echelon.specs.Subspaces.{IsClearedBelow}
use Rattle.axe_echelon.proofs.ClearingLaws.{cleared_by_none}
use Rattle.axe_echelon.proofs.StepLaws.{over_of_row}
use Rattle.axe_echelon.proofs.WordsOfPivots.{cleared_below_of_before, cleared_below_all}
use Rattle.axe_echelon.proofs.subspace.Subspace.reduce_with_by_sums.Goals as goal

pub loop-word-init : goal.loop-word-init
loop-word-init c =
    let field = c.requires.field ∙ sym (ap (λ (e : EchelonValue). e.order) c.self.view_is) in
    let fits = c.requires.fits ∙ sym (ap (λ (e : EchelonValue). e.cols) c.self.view_is) in
    rw c.take-sum.ensures.value (
    cleared_below_of_before c.args.self.now _ _ c.self.inside.rows.items c.self.view_is c.self.invariant.are_rows 0 c.args.row.now c.args.row.now
    c.args.multipliers.now
    (cleared_by_none _ _ _ _ _ field (over_of_row _ _ _ field c.requires.elements fits)
    (c.requires.zeros ∙ (λ i. record { order = field i; entries = replicate (fits i) 0 }))))

pub clear_word_of_sum_with-requires-clause-within : goal.clear_word_of_sum_with-requires-clause-within
clear_word_of_sum_with-requires-clause-within c =
    omega (arith, c.div_ceil-word-end.ensures, c.loop-word-test.true, ap (λ (e : EchelonValue). e.cols) c.self.view_is)

pub loop-word-preserved : goal.loop-word-preserved
loop-word-preserved c =
    subst (λ k. IsClearedBelow c.args.self.now k c.args.row.now c.clear_word_of_sum_with.new.sum c.clear_word_of_sum_with.new.multipliers)
    (let next : c.loop-word.word * 64 + 64 ≡ (c.loop-word.word + 1) * 64 = omega arith in next)
    (c.clear_word_of_sum_with.ensures c.args.row.now c.loop-word.invariant)

pub returns : goal.returns
returns c =
    let whole : c.args.self.now.cols ≤ c.loop-word.word * 64 =
    omega (arith, c.div_ceil-word-end.ensures, c.loop-word-test.false, ap (λ (e : EchelonValue). e.cols) c.self.view_is) in
    rw c.into_row.ensures.value (
    cleared_below_all c.args.self.now (c.loop-word.word * 64) c.args.row.now c.loop-word.sum c.loop-word.multipliers c.loop-word.invariant whole)
