use Rattle.std.proofs.Common.{refl}
use Rattle.axe_field.specs.Order.{Two}
use Rattle.axe_module_tests.proofs.words.word_0_has_no_terms.Goals as goal

pub nth_word-word-requires-clause-order : goal.nth_word-word-requires-clause-order
nth_word-word-requires-clause-order c _ = record { order = Two; is = refl }
