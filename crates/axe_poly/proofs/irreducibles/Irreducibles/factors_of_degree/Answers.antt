use Rattle.std.proofs.Common.{arith}
use Rattle.axe_poly.proofs.FactorLaws.{among_none, among_all}
use Rattle.axe_poly.proofs.irreducibles.Irreducibles.factors_of_degree.Goals as goal

pub loop-index-init : goal.loop-index-init
loop-index-init c =
    among_none c.args.self.now c.args.poly.now c.args.degree c.count-index-end.ensures.well_formed c.requires.field
    c.new-factors.result.items c.new-factors.ensures.items

pub returns : goal.returns
returns c =
    among_all c.args.self.now c.args.poly.now c.args.degree c.count-index-end.ensures.well_formed c.requires.field
    c.loop-index.index c.loop-index.factors.items
    (omega (arith, c.loop-index-test.false, c.count-index-end.ensures.count)) c.requires.found
    c.loop-index.invariant
