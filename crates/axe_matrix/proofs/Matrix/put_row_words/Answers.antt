use Rattle.std.proofs.lemmas.Grind.{common_steps}
use Rattle.std.proofs.Common.{arith, ◌<◌, length, ◌∙◌}
use Rattle.axe_matrix.proofs.CoefficientWrites.{HasRowWords-write}
use Rattle.axe_matrix.proofs.RowListLaws.{length-at}
use Rattle.axe_matrix.proofs.RowWrites.{below_rows, order-at, MakeMatrix-write}
use Rattle.axe_matrix.proofs.Matrix.put_row_words.Goals as goal

within : (c : goal.After-self-1) → c.args.row < length c.self.inside.rows.items
within c = below_rows _ _ _ c.self.inside.rows.items c.args.row c.self.view_is c.requires.row

pub invariant_of-self : goal.invariant_of-self
invariant_of-self c =
    MakeMatrix-write _ _ c.self.inside.rows.items c.args.row c.set_digit_words.new.self c.self.invariant
    (c.set_digit_words.ensures.written.order ∙ order-at _ _ c.self.inside.rows.items c.args.row c.index_mut.result.now c.self.invariant (within c) c.index_mut.ensures.value)
    (c.set_digit_words.ensures.written.as_long
    ∙ length-at _ _ c.self.inside.rows.items c.args.row c.index_mut.result.now c.self.invariant (within c) c.index_mut.ensures.value)
    c.set_digit_words.ensures.well_formed

pub returns-clause-replaced : goal.returns-clause-replaced
returns-clause-replaced c =
    HasRowWords-write _ _ c.self.inside.rows.items c.args.power c.args.row c.args.at c.args.words c.index_mut.result.now c.set_digit_words.new.self _
    c.self.view_is c.self.invariant (within c) c.index_mut.ensures.value c.set_digit_words.ensures.written

pub returns-clause-well_formed : goal.returns-clause-well_formed
returns-clause-well_formed c = (invariant_of-self c).matrix

pub index_mut-requires : goal.index_mut-requires
index_mut-requires c = grind (arith, common_steps)

pub set_digit_words-requires-clause-prime : goal.set_digit_words-requires-clause-prime
set_digit_words-requires-clause-prime c = grind (arith, common_steps)

pub set_digit_words-requires-clause-power : goal.set_digit_words-requires-clause-power
set_digit_words-requires-clause-power c = grind (arith, common_steps)

pub set_digit_words-requires-clause-digits : goal.set_digit_words-requires-clause-digits
set_digit_words-requires-clause-digits c = grind (arith, common_steps)
