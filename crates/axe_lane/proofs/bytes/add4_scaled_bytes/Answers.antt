use Rattle.std.proofs.Common.{◌≡◌, ◌∙◌, ap, sym, arith, inl, inr}
use Rattle.axe_lane.specs.Bytes.{sum_with_four_multiples}
use Rattle.axe_lane.proofs.ByteLaws.{sum_is_below}
use Rattle.axe_lane.proofs.bytes.add4_scaled_bytes.Goals as goal

pub returns-in-2-clause-sum : goal.returns-in-2-clause-sum
returns-in-2-clause-sum c =
    c.add_four_multiples.ensures
    ∙ ap (λ p. sum_with_four_multiples p c.args.factors c.args.dst.now c.args.a.now c.args.b.now c.args.c.now c.args.d.now) (sym c.in-2.is)

pub returns-in-3-clause-sum : goal.returns-in-3-clause-sum
returns-in-3-clause-sum c =
    c.add_four_multiples-in-3.ensures
    ∙ ap (λ p. sum_with_four_multiples p c.args.factors c.args.dst.now c.args.a.now c.args.b.now c.args.c.now c.args.d.now) (sym c.in-3.is)

pub returns-in-5-clause-sum : goal.returns-in-5-clause-sum
returns-in-5-clause-sum c =
    c.add_four_multiples-in-5.ensures
    ∙ ap (λ p. sum_with_four_multiples p c.args.factors c.args.dst.now c.args.a.now c.args.b.now c.args.c.now c.args.d.now) (sym c.in-5.is)

pub returns-in_default-clause-sum : goal.returns-in_default-clause-sum
returns-in_default-clause-sum c =
    let last : 7 ≡ c.args.p =
    elim c.requires.prime [
      | inl e ↦ omega arith
      | inr r ↦ elim r [ inl e ↦ omega arith | inr r' ↦ elim r' [ inl e ↦ omega arith | inr e ↦ sym e ] ]
    ] in
    c.add_four_multiples-in_default.ensures
    ∙ ap (λ p. sum_with_four_multiples p c.args.factors c.args.dst.now c.args.a.now c.args.b.now c.args.c.now c.args.d.now) last

pub returns-in-2-clause-below : goal.returns-in-2-clause-below
returns-in-2-clause-below c =
    sum_is_below c.args.p 2 _ (omega arith) c.in-2.is c.add_four_multiples.new.dst _ c.args.d.now c.add_four_multiples.ensures

pub returns-in-3-clause-below : goal.returns-in-3-clause-below
returns-in-3-clause-below c =
    sum_is_below c.args.p 3 _ (omega arith) c.in-3.is c.add_four_multiples-in-3.new.dst _ c.args.d.now c.add_four_multiples-in-3.ensures

pub returns-in-5-clause-below : goal.returns-in-5-clause-below
returns-in-5-clause-below c =
    sum_is_below c.args.p 5 _ (omega arith) c.in-5.is c.add_four_multiples-in-5.new.dst _ c.args.d.now c.add_four_multiples-in-5.ensures

pub returns-in_default-clause-below : goal.returns-in_default-clause-below
returns-in_default-clause-below c =
    let last : c.args.p ≡ 7 =
    elim c.requires.prime [
      | inl e ↦ omega arith
      | inr r ↦ elim r [ inl e ↦ omega arith | inr r' ↦ elim r' [ inl e ↦ omega arith | inr e ↦ e ] ]
    ] in
    sum_is_below c.args.p 7 _ (omega arith) last c.add_four_multiples-in_default.new.dst _ c.args.d.now
    c.add_four_multiples-in_default.ensures
