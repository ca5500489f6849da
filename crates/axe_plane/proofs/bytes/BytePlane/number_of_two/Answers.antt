use Rattle.std.proofs.Common.{◌+◌, ◌*◌, ap₂, ◌∙◌, sym, arith}
use Rattle.axe_plane.proofs.SmallNumbers.{number_from-two}
use Rattle.axe_plane.proofs.bytes.BytePlane.number_of_two.Goals as goal

pub overflow_add-at : goal.overflow_add-at
overflow_add-at c = omega (arith, c.requires.counted)

pub returns-clause-value : goal.returns-clause-value
returns-clause-value c =
    ap₂ (λ x y. x * c.args.base + y) (c.from.ensures ∙ c.digit_at.ensures) (c.from-2.ensures ∙ c.digit_at-2.ensures)
    ∙ sym (number_from-two c.args.base c.args.at c.args.self.now.digits c.requires.within)
