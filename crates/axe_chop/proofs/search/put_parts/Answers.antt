use Rattle.axe_chop.proofs.Stepping.{pushed_two}
use Rattle.std.proofs.Common.{refl}
use Rattle.axe_row.specs.declared.refusals.Refusal.TheVariants.{Memory}
use Rattle.axe_echelon.proofs.Exits.{no_memory}
use Rattle.axe_chop.proofs.search.put_parts.Goals as goal

pub returns : goal.returns
returns c = record {
  sub = c.in_ok-sub.sub;
  quotient = c.in_ok-sub.quotient;
  cut = c.in_ok-sub.ensures;
  order = pushed_two _ _ _ _ _ c.in_ok-push_front.ensures.items c.in_ok-push_front-2.ensures.items;
}

pub returns-in_err-sub : goal.returns-in_err-sub
returns-in_err-sub c =
    no_memory _ c.from_residual.result _ c.from_residual.ensures.1 c.in_err-sub.ensures

pub returns-in_err-push_front : goal.returns-in_err-push_front
returns-in_err-push_front c =
    no_memory _ c.from_residual-in_err-push_front.result Memory c.from_residual-in_err-push_front.ensures.1 refl

pub returns-in_err-push_front-2 : goal.returns-in_err-push_front-2
returns-in_err-push_front-2 c =
    no_memory _ c.from_residual-in_err-push_front-2.result Memory c.from_residual-in_err-push_front-2.ensures.1 refl
