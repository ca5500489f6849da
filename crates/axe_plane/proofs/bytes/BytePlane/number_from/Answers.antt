use Rattle.std.proofs.Common.{ap, ◌∙◌, sym, arith}
use Rattle.axe_layer.specs.Digits.{number_from}
use Rattle.axe_plane.proofs.SmallNumbers.{number_from-one}
use Rattle.axe_plane.proofs.bytes.BytePlane.number_from.Goals as goal

pub returns-in-1-clause-value : goal.returns-in-1-clause-value
returns-in-1-clause-value c =
    c.from.ensures ∙ c.get.ensures
    ∙ sym (number_from-one c.args.base c.args.at c.args.self.now.digits (omega (arith, c.if-whole.true, c.in-1.is, c.len.ensures.count)))
    ∙ ap (λ size. number_from c.args.base size c.args.at c.args.self.now.digits) (sym c.in-1.is)
