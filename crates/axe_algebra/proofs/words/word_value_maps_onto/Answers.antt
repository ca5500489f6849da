use Rattle.axe_algebra.specs.Bridge.{field_of}
use Rattle.axe_algebra.proofs.WordValues.{word_value_maps_onto}
use Rattle.axe_algebra.proofs.words.word_value_maps_onto.Goals as goal

pub returns : goal.returns
returns c K = word_value_maps_onto (field_of K)
