use Rattle.axe_algebra.specs.Bridge.{field_of}
use Rattle.axe_algebra.proofs.Matching.{not_isomorphic_without_match}
use Rattle.axe_algebra.proofs.standard.no_match_is_not_isomorphic.Goals as goal

pub returns : goal.returns
returns c K = not_isomorphic_without_match (field_of K)
