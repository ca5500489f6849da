use Rattle.std.proofs.Common.{◌<◌, length, arith}
use Rattle.axe_norton.proofs.FactorLaws.{none_at_first, none_more, first_found, none_of_all}
use Rattle.axe_norton.proofs.factors.first_that_fits.Goals as goal

pub loop-index-init : goal.loop-index-init
loop-index-init c = record {
  none = none_at_first c.args.matrix.now c.args.polys.now;
  second = c.requires.second;
}

pub returns-in-Some-clause-found : goal.returns-in-Some-clause-found
returns-in-Some-clause-found c =
    let inside : c.loop-index.index < length c.args.polys.now = omega (arith, c.loop-index-test.true) in
    let found = rw c.in-Some.is at c.in_ok-spaces.ensures.found in
    first_found c.args.matrix.now c.args.polys.now c.loop-index.index c.index-polys-index.result (record { poly = c.in_ok-poly.poly; spaces = c.in-Some.spaces })
    inside c.index-polys-index.is c.loop-index.invariant.none c.requires.fields c.in_ok-poly.ensures.copied found

pub loop-index-preserved : goal.loop-index-preserved
loop-index-preserved c = record {
  none =
      (let inside : c.loop-index.index < length c.args.polys.now = omega (arith, c.loop-index-test.true) in
      none_more c.args.matrix.now c.args.polys.now c.loop-index.index c.index-polys-index.result inside c.index-polys-index.is c.loop-index.invariant.none
      (rw c.in_default.is at c.in_ok-spaces.ensures.found));
  second = c.in_ok-spaces.ensures.second;
}

pub returns-clause-found : goal.returns-clause-found
returns-clause-found c = none_of_all c.args.matrix.now c.args.polys.now c.loop-index.index (omega (arith, c.loop-index-test.false)) c.loop-index.invariant.none
