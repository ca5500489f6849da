use Rattle.std.proofs.Common.{refl, arith}
use Rattle.axe_norton.proofs.FittingLaws.{linear_is_irreducible, irreducible_without_factors}
use Rattle.axe_norton.proofs.fitting.is_irreducible.Goals as goal

pub returns-then-half-eq0 : goal.returns-then-half-eq0
returns-then-half-eq0 c = (
  λ _. linear_is_irreducible c.args.poly.now c.degree-half.ensures.well_formed (omega (arith, c.degree-half.ensures.value, c.if-half-eq0.true)),
  λ _. refl,
)

pub returns : goal.returns
returns c =
    irreducible_without_factors c.args.poly.now c.degree-half.ensures.well_formed _ c.in_ok-factors.factors.items c.in_ok-factors.ensures
    (omega (arith, c.degree-half.ensures.value, c.if-half-eq0.false)) (omega (arith, c.degree-half.ensures.value)) c.in_ok-factors.factors.len
    (omega (arith, c.in_ok-factors.factors.ok.0)) c.is_empty.result c.is_empty.ensures
