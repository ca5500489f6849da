use Rattle.std.proofs.Common.{refl, sym, ◌∙◌, rules, arith}
use Rattle.axe_echelon.proofs.InverseLaws.{inverse_refusal-some}
use Rattle.axe_echelon.proofs.inverses.inverse.Goals as goal

pub returns-then-rows-cols-clause-inverse : goal.returns-then-rows-cols-clause-inverse
returns-then-rows-cols-clause-inverse c =
    rw (inverse_refusal-some c.args.matrix.now (λ square. c.if-rows-cols.true (c.rows.ensures.count ∙ square ∙ sym c.cols.ensures.count))) refl

pub returns-then-rows-cols-clause-well_formed : goal.returns-then-rows-cols-clause-well_formed
returns-then-rows-cols-clause-well_formed c = tt

pub returns-in-Some-clause-inverse : goal.returns-in-Some-clause-inverse
returns-in-Some-clause-inverse c = search rules

pub returns-in-Some-clause-well_formed : goal.returns-in-Some-clause-well_formed
returns-in-Some-clause-well_formed c = search rules

pub returns-in-None-clause-inverse : goal.returns-in-None-clause-inverse
returns-in-None-clause-inverse c = search rules

pub returns-in_err-inverse-clause-inverse : goal.returns-in_err-inverse-clause-inverse
returns-in_err-inverse-clause-inverse c = search rules

pub returns-in_err-inverse-clause-well_formed : goal.returns-in_err-inverse-clause-well_formed
returns-in_err-inverse-clause-well_formed c = search rules

pub returns-in-None-clause-well_formed : goal.returns-in-None-clause-well_formed
returns-in-None-clause-well_formed c = tt

pub inverse_of-requires : goal.inverse_of-requires
inverse_of-requires c = omega (arith, c.rows.ensures.count, c.cols.ensures.count, c.if-rows-cols.false)
