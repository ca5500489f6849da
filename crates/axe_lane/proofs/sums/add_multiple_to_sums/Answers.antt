use Rattle.std.proofs.Common.{◌≡◌, arith, inl, inr}
use Rattle.axe_lane.proofs.LazySums.{has_remainders, stays_below}
use Rattle.axe_lane.proofs.sums.add_multiple_to_sums.Goals as goal

pub returns-in-5 : goal.returns-in-5
returns-in-5 c =
    record {
      sum = has_remainders c.args.p 5 c.args.m c.in-5.is c.requires.prime _ _ _ c.add_multiple.ensures;
      below = stays_below c.args.p 5 c.args.m c.in-5.is c.requires.prime _ _ _ c.add_multiple.ensures c.requires.factor c.requires.dst_below c.requires.src_below;
    }

pub returns-in_default : goal.returns-in_default
returns-in_default c =
    let last : c.args.p ≡ 7 = elim c.requires.prime [ inl e ↦ omega arith | inr e ↦ e ] in
    record {
      sum = has_remainders c.args.p 7 c.args.m last c.requires.prime _ _ _ c.add_multiple-in_default.ensures;
      below =
          stays_below c.args.p 7 c.args.m last c.requires.prime _ _ _ c.add_multiple-in_default.ensures c.requires.factor c.requires.dst_below
          c.requires.src_below;
    }
