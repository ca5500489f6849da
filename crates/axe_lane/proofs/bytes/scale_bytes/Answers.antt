use Rattle.std.proofs.Common.{◌≡◌, arith, inl, inr}
use Rattle.axe_lane.proofs.ByteLaws.{multiple_is_below}
use Rattle.axe_lane.proofs.bytes.scale_bytes.Goals as goal

pub returns-in-2-clause-below : goal.returns-in-2-clause-below
returns-in-2-clause-below c =
    multiple_is_below c.args.p 2 c.args.m (omega arith) c.in-2.is c.scale.new.dst c.args.dst.now c.scale.ensures

pub returns-in-3-clause-below : goal.returns-in-3-clause-below
returns-in-3-clause-below c =
    multiple_is_below c.args.p 3 c.args.m (omega arith) c.in-3.is c.scale-in-3.new.dst c.args.dst.now
    c.scale-in-3.ensures

pub returns-in-5-clause-below : goal.returns-in-5-clause-below
returns-in-5-clause-below c =
    multiple_is_below c.args.p 5 c.args.m (omega arith) c.in-5.is c.scale-in-5.new.dst c.args.dst.now
    c.scale-in-5.ensures

pub returns-in_default-clause-below : goal.returns-in_default-clause-below
returns-in_default-clause-below c =
    let last : c.args.p ≡ 7 =
    elim c.requires.prime [
      | inl e ↦ omega arith
      | inr r ↦ elim r [ inl e ↦ omega arith | inr r' ↦ elim r' [ inl e ↦ omega arith | inr e ↦ e ] ]
    ] in
    multiple_is_below c.args.p 7 c.args.m (omega arith) last c.scale-in_default.new.dst c.args.dst.now
    c.scale-in_default.ensures
