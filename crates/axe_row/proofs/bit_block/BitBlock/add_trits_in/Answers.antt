use Rattle.std.proofs.Common.{◌≡◌, ◌≢◌, ℕ, List, ◌+◌, ◌*◌, ◌%◌, ◌<◌, refl, sym, ap, subst, ◌∙◌, arith}
use Rattle.axe_field.specs.NumberFields.{number_field}
use Rattle.axe_field.specs.Order.{order_number}
use Rattle.axe_layer.specs.Words.{digit_of_words}
use Rattle.axe_row.specs.BitBlocks.{low_at, IsBlock}
use Rattle.axe_row.specs.Operations.{sum_with_multiple}
use Rattle.axe_row.specs.declared.bit_block.BitBlock.{BitBlock}
use Rattle.axe_row.proofs.BlockElements.{high_at}
use Rattle.axe_row.proofs.TritBlockLaws.{block_over_three, block_over_nine, digit_below, once}
use Rattle.axe_row.proofs.bit_block.BitBlock.add_trits_in.Goals as goal
use Rattle.axe_row.proofs.bit_block.BitBlock.add_trits_in.Goals.{then-scalar-eq2, else-scalar-eq2}

pub returns-then-this-eq3 : goal.returns-then-this-eq3
returns-then-this-eq3 g c = record {
  sum = λ o is known element entries others all all' held held'.
      let three : order_number o ≡ 3 = is ∙ c.if-this-eq3.true in
      let small : c.args.scalar < 3 = omega (arith, element, three) in
      let multiple : (i : ℕ) → i < 64 → low_at c.args.other.now i < 3 →
      digit_of_words c.if-scalar-eq2.multiple i ≡ c.args.scalar * low_at c.args.other.now i % 3 = λ i low digit.
      elim c.if-scalar-eq2.branch [
        | then-scalar-eq2 w ↦
            ap (λ (words : List ℕ). digit_of_words words i) w.multiple-is ∙ w.negative_trits-multiple.ensures i low digit
            ∙ sym (ap (λ k. k * low_at c.args.other.now i % 3) w.if-scalar-eq2.true)
        | else-scalar-eq2 w ↦
            ap (λ (words : List ℕ). digit_of_words words i) w.multiple-is
            ∙ once c.args.scalar (low_at c.args.other.now i) small c.requires.nonzero w.if-scalar-eq2.false digit
      ] in
      subst (λ (after : BitBlock). IsBlock o (sum_with_multiple (number_field o) entries c.args.scalar others) after) (sym c.of_words.ensures)
      (block_over_three o (c.requires.odd o is known) c.args.scalar element c.args.self.now c.args.other.now _ entries others all all' held held' three
      (λ i low. refl) (λ i low first second.
      let part = multiple i low second in
      c.sum_of_trits.ensures i low first (digit_below _ _ part) ∙ ap (λ m. (low_at c.args.self.now i + m) % 3) part));
}

pub returns : goal.returns
returns g c = record {
  sum = λ o is known element entries others all all' held held'.
      let not_three : order_number o ≢ 3 = λ three. omega (arith, is, three, c.if-this-eq3.false) in
      subst (λ (after : BitBlock). IsBlock o (sum_with_multiple (number_field o) entries c.args.scalar others) after) (sym c.of_words-2.ensures)
      (block_over_nine o (c.requires.odd o is known) c.args.scalar element c.args.self.now c.args.other.now _ entries others all all' held held' not_three
      (λ i low small first second first' second'.
      let part = c.multiple_over_nine.ensures.constant i low small second second' in
      c.sum_of_trits-2.ensures i low first (digit_below _ _ part) ∙ ap (λ m. (low_at c.args.self.now i + m) % 3) part)
      (λ i low small first second first' second'.
      let part = c.multiple_over_nine.ensures.linear i low small second second' in
      c.sum_of_trits-3.ensures i low first' (digit_below _ _ part) ∙ ap (λ m. (high_at c.args.self.now i + m) % 3) part));
}
