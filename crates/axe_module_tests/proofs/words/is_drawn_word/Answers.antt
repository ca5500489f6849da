use Rattle.std.proofs.Common.{refl}
use Rattle.axe_field.specs.Order.{Nine}
use Rattle.axe_module_tests.proofs.words.is_drawn_word.Goals as goal

pub nth_word-word-requires-clause-order : goal.nth_word-word-requires-clause-order
nth_word-word-requires-clause-order g c = record { order = Nine; is = refl }
