use Rattle.std.proofs.Common.{rules}
use Rattle.axe_norton.proofs.CutValues.{one_more_value}
use Rattle.axe_norton.proofs.known.Known.keep.Goals as goal

pub returns-in_ok-push-clause-known : goal.returns-in_ok-push-clause-known
returns-in_ok-push-clause-known c = λ m seed is value. record {
  last = is.last;
  values = one_more_value m seed c.args.number c.args.self.now.values.items _ c.args.value is.values (search rules) (search rules) c.requires.well_formed value c.in_ok-push.ensures.items;
}
