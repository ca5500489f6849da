use Rattle.std.proofs.Common.{◌≡◌, ◌≢◌, ℕ, List, get_or, ap, refl, arith}
use Rattle.axe_field.specs.Order.{order_number}
use Rattle.axe_row.proofs.BitBlockLaws.{sum_of_entries, sum_over_two, sum_over_four, sum_over_eight}
use Rattle.axe_row.proofs.bit_block.BitBlock.add_bits_in.Goals as goal

pub returns-then-this-eq2 : goal.returns-then-this-eq2
returns-then-this-eq2 g c = record {
  sum = λ o is prime element.
      let two : order_number o ≡ 2 = omega (arith, is, c.if-this-eq2.true) in
      sum_of_entries o c.args.self.now c.args.other.now _ c.args.scalar (c.requires.even o is prime) (λ all all'.
      sum_over_two o c.args.self.now c.args.other.now _ c.args.scalar two c.requires.nonzero element all all' (omega arith) (omega arith) refl refl refl refl);
}

pub returns-then-this-eq4 : goal.returns-then-this-eq4
returns-then-this-eq4 g c = record {
  sum = λ o is prime element.
      let four : order_number o ≡ 4 = omega (arith, is, c.if-this-eq4.true) in
      sum_of_entries o c.args.self.now c.args.other.now _ c.args.scalar (c.requires.even o is prime) (λ all all'.
      sum_over_four o c.args.self.now c.args.other.now _ c.args.scalar _ _ four element refl refl all all' (omega arith) (omega arith) (omega arith) (omega arith)
      (ap (λ (l : List ℕ). get_or l 0 0) c.xor_multiple_over_four.ensures.constant) (ap (λ (l : List ℕ). get_or l 0 0) c.xor_multiple_over_four.ensures.linear) refl refl);
}

pub returns : goal.returns
returns g c = record {
  sum = λ o is prime element.
      let even = c.requires.even o is prime in
      let not_two : order_number o ≢ 2 = λ two. omega (arith, is, two, c.if-this-eq2.false) in
      let not_four : order_number o ≢ 4 = λ four. omega (arith, is, four, c.if-this-eq4.false) in
      sum_of_entries o c.args.self.now c.args.other.now _ c.args.scalar even (λ all all'.
      sum_over_eight o c.args.self.now c.args.other.now _ c.args.scalar _ _ _ not_two not_four even element refl refl refl all all'
      (record { ones = omega arith; twos = omega arith; high_ones = omega arith }) (record { ones = omega arith; twos = omega arith; high_ones = omega arith })
      (ap (λ (l : List ℕ). get_or l 0 0) c.xor_multiple_over_eight.ensures.constant) (ap (λ (l : List ℕ). get_or l 0 0) c.xor_multiple_over_eight.ensures.linear)
      (ap (λ (l : List ℕ). get_or l 0 0) c.xor_multiple_over_eight.ensures.quadratic) refl);
}
