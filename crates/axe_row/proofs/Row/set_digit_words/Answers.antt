use Rattle.std.proofs.Common.{rules, arith}
use Rattle.axe_row.specs.HigherPlanes.{linear_of, quadratic_of}
use Rattle.axe_row.proofs.KeptPlanes.{alone_order, kept_planes, kept_view, kept_not_prime}
use Rattle.axe_row.proofs.RowPlanes.{IsRow-of_planes, with_length}
use Rattle.axe_row.proofs.RowWords.{constant_with_words, linear_with_words, quadratic_with_words, row_with_constant, row_with_linear, row_with_quadratic, third_power}
use Rattle.axe_row.proofs.Row.set_digit_words.Goals.{then-power-eq1, else-power-eq1}
use Rattle.axe_row.proofs.Row.set_digit_words.Goals as goal

pub invariant_of-self : goal.invariant_of-self
invariant_of-self c = record {
  planes = with_length _ _ _ _ _
      (constant_with_words _ _ c.args.power c.args.at c.args.words c.self.inside.constant (linear_of c.self.inside.field c.self.inside.higher) (quadratic_of c.self.inside.field c.self.inside.higher)
      _ _ c.self.invariant.planes c.self.view_is c.requires.digits c.set_digit_words.ensures);
  needed = c.self.invariant.needed;
}

pub returns-then-power-eq0-clause-written : goal.returns-then-power-eq0-clause-written
returns-then-power-eq0-clause-written c =
    row_with_constant _ _ c.args.power c.args.at c.args.words c.self.inside.constant (linear_of c.self.inside.field c.self.inside.higher) (quadratic_of c.self.inside.field c.self.inside.higher)
    _ _ c.self.invariant.planes c.self.view_is c.requires.digits c.if-power-eq0.true c.set_digit_words.ensures

pub returns-then-power-eq0-clause-well_formed : goal.returns-then-power-eq0-clause-well_formed
returns-then-power-eq0-clause-well_formed c = IsRow-of_planes _ _ _ _ _ (invariant_of-self c).planes

pub invariant_of-self-2 : goal.invariant_of-self-2
invariant_of-self-2 c =
    let planes = kept_planes _ _ _ _ c.self.invariant _ _ _ c.in-Some.is c.deref_mut.ensures.value c.deref_mut.ensures.value in
    let view_is = kept_view _ c.self.inside.constant _ _ _ _ _ c.self.view_is c.in-Some.is c.deref_mut.ensures.value c.deref_mut.ensures.value in
    elim c.if-power-eq1.branch [
      | then-power-eq1 w ↦
          rw w.self-inside-is (record {
            planes = linear_with_words _ _ c.args.power c.args.at c.args.words _ _ _ _ _ planes view_is c.requires.digits w.set_digit_words-then-power-eq1.ensures;
            needed = kept_not_prime _ _ _ _ c.self.invariant _ c.in-Some.is;
          })
      | else-power-eq1 w ↦
          rw w.self-inside-is (record {
            planes = quadratic_with_words _ _ c.args.power c.args.at c.args.words _ _ _ _ _ planes view_is c.requires.digits w.set_digit_words-else-power-eq1.ensures;
            needed = kept_not_prime _ _ _ _ c.self.invariant _ c.in-Some.is;
          })
    ]

pub returns-clause-written : goal.returns-clause-written
returns-clause-written c =
    let planes = kept_planes _ _ _ _ c.self.invariant _ _ _ c.in-Some.is c.deref_mut.ensures.value c.deref_mut.ensures.value in
    let view_is = kept_view _ c.self.inside.constant _ _ _ _ _ c.self.view_is c.in-Some.is c.deref_mut.ensures.value c.deref_mut.ensures.value in
    elim c.if-power-eq1.branch [
      | then-power-eq1 w ↦
          rw w.self-inside-is (row_with_linear _ _ c.args.power c.args.at c.args.words _ _ _ _ _ planes view_is c.requires.digits w.if-power-eq1.true
          w.set_digit_words-then-power-eq1.ensures)
      | else-power-eq1 w ↦
          rw w.self-inside-is (row_with_quadratic _ _ c.args.power c.args.at c.args.words _ _ _ _ _ planes view_is c.requires.digits
          (third_power c.args.self.now.order c.args.power c.requires.power c.if-power-eq0.false w.if-power-eq1.false)
          w.set_digit_words-else-power-eq1.ensures)
    ]

pub returns-clause-well_formed : goal.returns-clause-well_formed
returns-clause-well_formed c = IsRow-of_planes _ _ _ _ _ (invariant_of-self-2 c).planes

-- a power other than the first stands over no prime field
not_alone : (c : goal.In_default) → ⊥
not_alone c =
    c.if-power-eq0.false
    (omega (arith, c.requires.power, alone_order _ _ _ _ _ _ c.self.invariant c.self.view_is c.in_default.is))

pub returns-in_default-clause-written : goal.returns-in_default-clause-written
returns-in_default-clause-written c = absurd (not_alone c)

pub returns-in_default-clause-well_formed : goal.returns-in_default-clause-well_formed
returns-in_default-clause-well_formed c = absurd (not_alone c)

pub set_digit_words-requires-clause-prime : goal.set_digit_words-requires-clause-prime
set_digit_words-requires-clause-prime c = search rules

pub set_digit_words-requires-clause-digits : goal.set_digit_words-requires-clause-digits
set_digit_words-requires-clause-digits c = search rules

pub invariant_of-self-in_default : goal.invariant_of-self-in_default
invariant_of-self-in_default c = c.self.invariant
