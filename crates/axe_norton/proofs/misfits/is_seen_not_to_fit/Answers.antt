use Rattle.std.proofs.Common.{arith}
use Rattle.std.proofs.lemmas.Bool.{ltb-true}
use Rattle.axe_norton.proofs.MisfitLaws.{seen_misfit}
use Rattle.axe_norton.proofs.misfits.is_seen_not_to_fit.Goals as goal

pub returns-clause-seen : goal.returns-clause-seen
returns-clause-seen c = λ more.
    seen_misfit c.args.matrix.now c.args.poly.now c.insert_from_second.new.found c.requires.square c.requires.field c.degree-2.ensures.well_formed
    c.in_ok-insert_from_second.ensures.found c.rank.ensures.well_formed
    (omega (arith, ltb-true c.degree-2.result c.rank.result more, c.degree-2.ensures.value, c.rank.ensures.count))
