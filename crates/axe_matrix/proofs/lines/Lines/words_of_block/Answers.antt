use Rattle.std.proofs.Common.{◌≡◌, ◌⊎◌, ◌<◌, ◌≤◌, ◌+◌, ◌*◌, List, ℕ, length, get_or, arith, sym, ap, ◌∙◌, inl, inr}
use native.Mathlib.Decide.{dec_lt}
use Rattle.axe_row.specs.Planes.{coefficients_at}
use Rattle.axe_row.specs.Rows.{RowValue}
use Rattle.axe_matrix.specs.Transposes.{coefficients_of}
use Rattle.axe_matrix.proofs.CoefficientWrites.{length-coefficients, coefficients-row}
use Rattle.axe_matrix.proofs.TransposedBlocks.{HaveWordsBelow-none, HaveWordsBelow-more, words_all}
use Rattle.axe_matrix.proofs.lines.Lines.words_of_block.Goals as goal

pub overflow_mul-from : goal.overflow_mul-from
overflow_mul-from c = omega (arith, c.requires.within, c.rows-rows.ensures.count, c.rows-rows.type_inv)

pub loop-index-init : goal.loop-index-init
loop-index-init c = HaveWordsBelow-none _ _ _

pub loop-index-preserved : goal.loop-index-preserved
loop-index-preserved c =
    let inside : c.loop-index.index < length c.args.self.now.rows = omega (arith, c.loop-index-test.true, c.min-index-end.ensures, c.rows-rows.ensures.count) in
    HaveWordsBelow-more _ _ _ c.loop-index.index _ _ _ _ c.loop-index.invariant c.loop-index.auto.index
    (omega (arith, c.loop-index-test.true, c.min-index-end.ensures)) (λ j small.
    c.digit_words-words.ensures j small
    ∙ ap (λ (r : RowValue). get_or (coefficients_at r.order c.args.power r.entries) (c.args.at * 64 + j) 0) c.row.ensures.value
    ∙ ap (λ (r : List ℕ). get_or r (c.args.at * 64 + j) 0) (sym (coefficients-row c.args.power c.loop-index.index c.args.self.now inside)))

pub returns : goal.returns
returns c = λ i j low small.
    let m = coefficients_of c.args.power c.args.self.now in
    let ended : (c.loop-index.index ≡ c.args.row_block * 64 + 64) ⊎ (length m.rows ≤ c.loop-index.index) =
    elim (dec_lt c.loop-index.index (length c.args.self.now.rows)) [
      | yes inside ↦
          inl (omega (arith, c.loop-index.auto.index-end, c.loop-index-test.false, c.min-index-end.ensures, c.requires.within, c.rows-rows.ensures.count))
      | no outside ↦ inr (omega (arith, outside, length-coefficients c.args.power c.args.self.now))
    ] in
    words_all m _ _ c.loop-index.index i j _ _ c.loop-index.invariant low small ended
