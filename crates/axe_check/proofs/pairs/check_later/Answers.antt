use Rattle.std.proofs.Common.{refl, ◌∙◌, arith}
use Rattle.axe_check.proofs.PairLaws.{matched_some, matched_none, name_read}
use Rattle.axe_check.proofs.pairs.check_later.Goals as goal

pub returns-then-is_some : goal.returns-then-is_some
returns-then-is_some c = record {
  a = c.in_ok-name_of.field-0;
  b = c.in_ok-name_of-2.field-0;
  is = refl;
  second = c.loop-second.second;
  ascending = omega (arith, c.loop-second.auto.second);
  below = c.loop-second-test.true;
  first_named =
      c.in_ok-name_of.ensures
      ∙ name_read c.args.reported.now c.args.first c.index-reported-first.result (omega (arith, c.requires.first, c.requires.count)) c.index-reported-first.is;
  second_named =
      c.in_ok-name_of-2.ensures
      ∙ name_read c.args.reported.now c.loop-second.second c.index-reported-second.result (omega (arith, c.loop-second-test.true, c.requires.count))
      c.index-reported-second.is;
  apart = c.loop-second.invariant;
  same = matched_some c.args.factors.now c.args.first c.loop-second.second c.index-factors-second.result c.args.form.now c.requires.well_formed
      (omega (arith, c.loop-second.auto.second)) c.loop-second-test.true c.index-factors-second.is c.requires.form c.in_ok-matches.field-0
      c.if-is_some.ensures c.in_ok-matches.ensures.answer;
}

pub loop-second-preserved : goal.loop-second-preserved
loop-second-preserved c =
    matched_none c.args.factors.now c.args.first c.loop-second.second c.index-factors-second.result c.args.form.now c.requires.well_formed
    (omega (arith, c.loop-second.auto.second)) c.loop-second-test.true c.index-factors-second.is c.requires.form c.in_ok-matches.field-0
    c.if-is_some.ensures c.in_ok-matches.ensures.answer c.loop-second.invariant
