use Rattle.axe_algebra.specs.Bridge.{field_of}
use Rattle.axe_polynomial_algebra.proofs.ValueWords.{polynomial_value_is_word_value}
use Rattle.axe_polynomial_algebra.proofs.values.polynomial_value_is_word_value.Goals as goal

pub returns : goal.returns
returns c K = polynomial_value_is_word_value (field_of K)
