use Rattle.axe_algebra.specs.Bridge.{field_of}
use Rattle.axe_algebra.proofs.WordValues.{word_value_is_matrix, word_value_keeps}
use Rattle.axe_algebra.proofs.words.word_value_keeps_invariant_spans.Goals as goal

pub returns-clause-square : goal.returns-clause-square
returns-clause-square c K = word_value_is_matrix (field_of K)

pub returns-clause-keeps : goal.returns-clause-keeps
returns-clause-keeps c K = word_value_keeps (field_of K)
