use Rattle.axe_algebra.specs.Bridge.{field_of}
use Rattle.axe_algebra.proofs.IsomorphismLaws.{isomorphic_refl, isomorphic_sym, isomorphic_trans}
use Rattle.axe_algebra.proofs.standard.isomorphism_is_an_equivalence.Goals as goal

pub returns-clause-reflexive : goal.returns-clause-reflexive
returns-clause-reflexive c K = isomorphic_refl (field_of K)

pub returns-clause-symmetric : goal.returns-clause-symmetric
returns-clause-symmetric c K = isomorphic_sym (field_of K)

pub returns-clause-transitive : goal.returns-clause-transitive
returns-clause-transitive c K = isomorphic_trans (field_of K)
