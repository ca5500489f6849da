use Rattle.std.proofs.Common.{◌≡◌, suc, ◌+◌, refl, sym, ◌∙◌, ap, subst, arith, rules}
use Rattle.axe_poly.specs.Tables.{IrreduciblesValue}
use Rattle.axe_word.specs.KeptProducts.{AreProductsOf}
use Rattle.axe_norton.specs.Known.{IsKnownOf}
use Rattle.axe_norton.specs.Searches.{IsKeptTranspose}
use Rattle.axe_norton.specs.Verdicts.{Says, IsTrueOf, word_of_seed}
use Rattle.axe_norton.proofs.OpenLaws.{many_where_undecided}
use Rattle.axe_norton.proofs.decisions.decide_knowing.Goals.{then-number-eq0+then-not-few_points+in_ok-said, else-number-eq0+in_ok-said-2}
use Rattle.axe_norton.proofs.DecisionLaws.{none_before, open_more, decided_here, said_by_word_zero, undecided}
use Rattle.axe_norton.proofs.decisions.decide_knowing.Goals as goal

pub loop-number-init : goal.loop-number-init
loop-number-init c = record {
  field = c.requires.field;
  products = search rules;
  kept = tt;
  known = c.requires.known;
  before = none_before c.args.module.now c.args.seed;
}

pub loop-number-preserved : goal.loop-number-preserved
loop-number-preserved c =
    let says : Says c.args.module.now (word_of_seed c.args.module.now c.args.seed c.loop-number.number) c.if-number-eq0.said = elim c.if-number-eq0.branch [
      | then-number-eq0+then-not-few_points+in_ok-said w ↦
          subst (Says c.args.module.now (word_of_seed c.args.module.now c.args.seed c.loop-number.number)) (sym w.said-is)
          (said_by_word_zero c.args.module.now c.args.seed c.loop-number.number _ w.if-number-eq0.true w.in_ok-said.ensures.says)
      | else-number-eq0+in_ok-said-2 w ↦
          subst (Says c.args.module.now (word_of_seed c.args.module.now c.args.seed c.loop-number.number)) (sym w.said-is) w.in_ok-said-2.ensures.says
    ] in
    record {
      field = elim c.if-number-eq0.branch [
        | then-number-eq0+then-not-few_points+in_ok-said w ↦ ap (λ (t : IrreduciblesValue). t.order) w.table-is ∙ c.loop-number.invariant.field
        | else-number-eq0+in_ok-said-2 w ↦ ap (λ (t : IrreduciblesValue). t.order) w.table-is ∙ w.decide_numbered.ensures.same_field
      ];
      products = elim c.if-number-eq0.branch [
        | then-number-eq0+then-not-few_points+in_ok-said w ↦ subst (AreProductsOf c.args.module.now) (sym w.products-is) c.loop-number.invariant.products
        | else-number-eq0+in_ok-said-2 w ↦ subst (AreProductsOf c.args.module.now) (sym w.products-is) w.decide_numbered.ensures.products
      ];
      kept = elim c.if-number-eq0.branch [
        | then-number-eq0+then-not-few_points+in_ok-said w ↦ subst (IsKeptTranspose c.args.module.now) (sym w.kept-is) w.decide_zero.ensures.kept
        | else-number-eq0+in_ok-said-2 w ↦ subst (IsKeptTranspose c.args.module.now) (sym w.kept-is) w.decide_numbered.ensures.kept
      ];
      known = elim c.if-number-eq0.branch [
        | then-number-eq0+then-not-few_points+in_ok-said w ↦ subst (IsKnownOf c.args.module.now c.args.seed) (sym w.known-is) c.loop-number.invariant.known
        | else-number-eq0+in_ok-said-2 w ↦ subst (IsKnownOf c.args.module.now c.args.seed) (sym w.known-is) w.decide_numbered.ensures.known
      ];
      before = open_more c.args.module.now c.args.seed c.loop-number.number _ _
          (let e : c.loop-number.number + 1 ≡ suc c.loop-number.number = omega arith in e) c.loop-number.invariant.before refl (rw c.in-Left.is at says);
    }

pub returns-in-Irreducible-clause-decides : goal.returns-in-Irreducible-clause-decides
returns-in-Irreducible-clause-decides c =
    let says : Says c.args.module.now (word_of_seed c.args.module.now c.args.seed c.loop-number.number) c.if-number-eq0.said = elim c.if-number-eq0.branch [
      | then-number-eq0+then-not-few_points+in_ok-said w ↦
          subst (Says c.args.module.now (word_of_seed c.args.module.now c.args.seed c.loop-number.number)) (sym w.said-is)
          (said_by_word_zero c.args.module.now c.args.seed c.loop-number.number _ w.if-number-eq0.true w.in_ok-said.ensures.says)
      | else-number-eq0+in_ok-said-2 w ↦
          subst (Says c.args.module.now (word_of_seed c.args.module.now c.args.seed c.loop-number.number)) (sym w.said-is) w.in_ok-said-2.ensures.says
    ] in
    decided_here c.args.module.now c.args.seed c.args.words c.loop-number.number _ (omega (arith, c.loop-number-test.true)) c.loop-number.invariant.before
    (rw c.in-Irreducible.is at says)

pub returns-in-Irreducible-clause-known : goal.returns-in-Irreducible-clause-known
returns-in-Irreducible-clause-known c =
    elim c.if-number-eq0.branch [
      | then-number-eq0+then-not-few_points+in_ok-said w ↦ subst (IsKnownOf c.args.module.now c.args.seed) (sym w.known-is) c.loop-number.invariant.known
      | else-number-eq0+in_ok-said-2 w ↦ subst (IsKnownOf c.args.module.now c.args.seed) (sym w.known-is) w.decide_numbered.ensures.known
    ]

pub returns-in-Irreducible-clause-holds : goal.returns-in-Irreducible-clause-holds
returns-in-Irreducible-clause-holds c =
    let holds : IsTrueOf c.args.module.now c.if-number-eq0.said = elim c.if-number-eq0.branch [
      | then-number-eq0+then-not-few_points+in_ok-said w ↦ subst (IsTrueOf c.args.module.now) (sym w.said-is) w.in_ok-said.ensures.holds
      | else-number-eq0+in_ok-said-2 w ↦ subst (IsTrueOf c.args.module.now) (sym w.said-is) w.in_ok-said-2.ensures.holds
    ] in
    (rw c.in-Irreducible.is at holds)

pub returns-in-Reducible-clause-decides : goal.returns-in-Reducible-clause-decides
returns-in-Reducible-clause-decides c =
    let says : Says c.args.module.now (word_of_seed c.args.module.now c.args.seed c.loop-number.number) c.if-number-eq0.said = elim c.if-number-eq0.branch [
      | then-number-eq0+then-not-few_points+in_ok-said w ↦
          subst (Says c.args.module.now (word_of_seed c.args.module.now c.args.seed c.loop-number.number)) (sym w.said-is)
          (said_by_word_zero c.args.module.now c.args.seed c.loop-number.number _ w.if-number-eq0.true w.in_ok-said.ensures.says)
      | else-number-eq0+in_ok-said-2 w ↦
          subst (Says c.args.module.now (word_of_seed c.args.module.now c.args.seed c.loop-number.number)) (sym w.said-is) w.in_ok-said-2.ensures.says
    ] in (
      c.loop-number.number,
      decided_here c.args.module.now c.args.seed c.args.words c.loop-number.number _ (omega (arith, c.loop-number-test.true)) c.loop-number.invariant.before
          (rw c.in-Reducible.is at says),
    )

pub returns-in-Reducible-clause-known : goal.returns-in-Reducible-clause-known
returns-in-Reducible-clause-known c =
    elim c.if-number-eq0.branch [
      | then-number-eq0+then-not-few_points+in_ok-said w ↦ subst (IsKnownOf c.args.module.now c.args.seed) (sym w.known-is) c.loop-number.invariant.known
      | else-number-eq0+in_ok-said-2 w ↦ subst (IsKnownOf c.args.module.now c.args.seed) (sym w.known-is) w.decide_numbered.ensures.known
    ]

pub returns-in-Reducible-clause-holds : goal.returns-in-Reducible-clause-holds
returns-in-Reducible-clause-holds c =
    let holds : IsTrueOf c.args.module.now c.if-number-eq0.said = elim c.if-number-eq0.branch [
      | then-number-eq0+then-not-few_points+in_ok-said w ↦ subst (IsTrueOf c.args.module.now) (sym w.said-is) w.in_ok-said.ensures.holds
      | else-number-eq0+in_ok-said-2 w ↦ subst (IsTrueOf c.args.module.now) (sym w.said-is) w.in_ok-said-2.ensures.holds
    ] in
    (rw c.in-Reducible.is at holds)

pub returns-clause-holds : goal.returns-clause-holds
returns-clause-holds c =
    many_where_undecided c.args.module.now c.args.seed c.args.words c.field.ensures.well_formed
    (undecided c.args.module.now c.args.seed c.args.words c.loop-number.number (omega arith) c.loop-number.invariant.before)

pub returns-clause-decides : goal.returns-clause-decides
returns-clause-decides c =
    undecided c.args.module.now c.args.seed c.args.words c.loop-number.number (omega arith) c.loop-number.invariant.before
