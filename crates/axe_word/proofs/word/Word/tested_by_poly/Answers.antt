use Rattle.std.proofs.Common.{sym, ◌∙◌}
use Rattle.axe_word.proofs.TestedLaws.{poly_value_rows, poly_value_tested}
use Rattle.axe_word.proofs.word.Word.tested_by_poly.Goals as goal

pub value_at-requires-clause-field : goal.value_at-requires-clause-field
value_at-requires-clause-field c = c.in_ok-value.ensures.value.field ∙ sym c.requires.field

pub value_at-requires-clause-square : goal.value_at-requires-clause-square
value_at-requires-clause-square c = c.in_ok-value.ensures.value.value.square.length_is ∙ sym c.in_ok-value.ensures.value.columns

pub of-requires : goal.of-requires
of-requires c =
    poly_value_rows c.args.module.now c.args.self.now c.args.poly.now c.in_ok-value.value c.in_ok-matrix.matrix c.in_ok-value.ensures.value
    c.in_ok-matrix.ensures.value c.in_ok-matrix.ensures.well_formed

pub returns : goal.returns
returns c =
    poly_value_tested c.args.module.now c.args.self.now c.args.poly.now c.in_ok-value.value c.in_ok-matrix.matrix c.in_ok-value.ensures.value
    c.in_ok-matrix.ensures.value c.of.result c.of.ensures
