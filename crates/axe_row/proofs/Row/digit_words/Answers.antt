use Rattle.std.proofs.Common.{rules, List, ℕ, ◌+◌, ◌*◌, get_or, ap, ◌∙◌}
use Rattle.axe_row.specs.HigherPlanes.{linear_of, quadratic_of}
use Rattle.axe_row.proofs.KeptPlanes.{kept_planes, kept_view}
use Rattle.axe_row.proofs.RowWords.{digits_are_coefficients, third_power}
use Rattle.axe_row.proofs.Row.digit_words.Goals as goal

pub returns-then-power-eq0 : goal.returns-then-power-eq0
returns-then-power-eq0 c = λ i low.
    let l = linear_of c.self.inside.field c.self.inside.higher in
    let q = quadratic_of c.self.inside.field c.self.inside.higher in
    c.digit_words.ensures i low
    ∙ ap (λ (x : List ℕ). get_or x (c.args.at * 64 + i) 0)
    (digits_are_coefficients _ _ c.self.inside.constant l q c.self.invariant.planes 0 c.args.power _ c.self.view_is c.if-power-eq0.true)

pub returns-then-power-eq1 : goal.returns-then-power-eq1
returns-then-power-eq1 c = λ i low.
    let planes = kept_planes _ _ _ _ c.self.invariant _ _ _ c.in-Some.is c.deref.ensures c.deref.ensures in
    let view_is = kept_view _ c.self.inside.constant _ _ _ _ _ c.self.view_is c.in-Some.is c.deref.ensures c.deref.ensures in
    c.digit_words-then-power-eq1.ensures i low
    ∙ ap (λ (x : List ℕ). get_or x (c.args.at * 64 + i) 0)
    (digits_are_coefficients _ _ c.self.inside.constant _ _ planes 1 c.args.power _ view_is c.if-power-eq1.true)

pub returns-else-power-eq1 : goal.returns-else-power-eq1
returns-else-power-eq1 c = λ i low.
    let d = c.deref-else-power-eq1 in
    let planes = kept_planes _ _ _ _ c.self.invariant _ _ _ c.in-Some.is d.ensures d.ensures in
    let view_is = kept_view _ c.self.inside.constant _ _ _ _ _ c.self.view_is c.in-Some.is d.ensures d.ensures in
    c.digit_words-else-power-eq1.ensures i low
    ∙ ap (λ (x : List ℕ). get_or x (c.args.at * 64 + i) 0)
    (digits_are_coefficients _ _ c.self.inside.constant _ _ planes 2 c.args.power _ view_is
    (third_power c.args.self.now.order c.args.power c.requires.power c.if-power-eq0.false c.if-power-eq1.false))

pub digit_words-requires : goal.digit_words-requires
digit_words-requires c = search rules

pub digit_words-requires-then-power-eq1 : goal.digit_words-requires-then-power-eq1
digit_words-requires-then-power-eq1 c = search rules

pub digit_words-requires-else-power-eq1 : goal.digit_words-requires-else-power-eq1
digit_words-requires-else-power-eq1 c = search rules

pub returns-in_default : goal.returns-in_default
returns-in_default c = search rules
