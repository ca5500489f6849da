use Rattle.std.proofs.Common.{◌≡◌, ◌+◌, ap, ◌∙◌, arith}
use Rattle.axe_poly.specs.Polys.{AreFactors}
use Rattle.axe_poly.proofs.FactorLaws.{factors_next}
use Rattle.axe_poly.proofs.factors.factors_up_to.Goals as goal
use mathlib.Core.Path.{subst}

pub loop-found-preserved : goal.loop-found-preserved
loop-found-preserved c =
    let h = c.loop-found.invariant in
    record {
      field = c.add_degree.ensures.same_field ∙ h.field;
      degree = c.in_ok-add_degree.ensures.added ∙ ap (λ n. n + 1) h.degree;
      factors =
          factors_next c.args.poly.now c.loop-found.found c.loop-found.factors.items c.in_ok-more.more.items
          c.append.new.self.items h.factors c.in_ok-more.ensures
          c.in_ok-append.ensures.items;
    }

pub returns : goal.returns
returns c =
    subst (λ s. AreFactors c.args.poly.now s c.loop-found.factors.items)
    (let e : c.loop-found.found ≡ c.args.degree = omega
    (arith, c.loop-found-test.false, c.loop-found.auto.found-end) in e) c.loop-found.invariant.factors
