use Rattle.std.proofs.Common.{[], get_or}
use Rattle.axe_algebra.specs.ListArithmetic.{IsConjugate}
use Rattle.axe_field.specs.NumberFields.{number_field}
use Rattle.axe_action.proofs.GeneratorLists.{AreNewGenerators}
use Rattle.axe_action.proofs.conjugates.conjugate_by.Given as goal

abbrev pub invariant-loop-index : goal.invariant-loop-index
invariant-loop-index l =
    AreNewGenerators l.module.order l.module.dim
    (λ i rows. IsConjugate (number_field l.module.order) l.module.dim l.basis.rows (get_or l.module.generators i []) rows) l.index l.conjugates.items
