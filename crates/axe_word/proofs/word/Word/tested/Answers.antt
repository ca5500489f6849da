use Rattle.axe_word.proofs.TestedLaws.{value_rows, value_tested}
use Rattle.axe_word.proofs.word.Word.tested.Goals as goal

pub of-requires : goal.of-requires
of-requires c = value_rows c.args.module.now c.args.self.now c.in_ok-value.field-0 c.in_ok-value.ensures.well_formed c.in_ok-value.ensures.value

pub returns : goal.returns
returns c = value_tested c.args.module.now c.args.self.now c.in_ok-value.field-0 c.of.result c.in_ok-value.ensures.value c.of.ensures
