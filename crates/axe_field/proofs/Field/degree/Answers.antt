use Rattle.std.proofs.Common.{ap}
use Rattle.axe_field.specs.declared.Field.TheInside.{Inside}
use Rattle.axe_field.proofs.Lookup.{inside-is}
use Rattle.axe_field.proofs.Field.degree.Goals as goal

pub returns : goal.returns
returns c = ap (λ (s : Inside). s.degree) (inside-is c.self.inside c.args.self.now c.self.invariant c.self.view_is)
