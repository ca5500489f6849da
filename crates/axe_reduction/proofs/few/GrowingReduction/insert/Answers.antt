use Rattle.std.proofs.Common.{rules, refl, sym, subst}
use Rattle.axe_reduction.specs.AugmentedRows.{AreReducedLike}
use Rattle.axe_reduction.proofs.Exits.{answers_more}
use Rattle.axe_reduction.proofs.GrowingLaws.{cleared_at, first_more_rest, first_more_reduced}
use Rattle.axe_reduction.proofs.few.GrowingReduction.insert.Goals as goal

pub clear-requires-clause-reduced : goal.clear-requires-clause-reduced
clear-requires-clause-reduced c =
    subst (λ l. AreReducedLike c.args.row l c.deref-2.result.now) (sym c.deref.ensures.value)
    (subst (λ l. AreReducedLike c.args.row c.args.self.now.pivots.items l) (sym c.deref-2.ensures.value) c.requires.reduced)

pub returns-in_default : goal.returns-in_default
returns-in_default c = λ a n fine before copied over.
    first_more_rest a n c.args.self.now _ c.args.row c.clear.new.row before copied over
    (cleared_at c.args.self.now c.args.row c.clear.new.row _ _ c.deref.ensures.value c.deref-2.ensures.value c.clear.ensures.cleared)
    c.clear.ensures.alike c.in_default.ensures refl refl c.in_ok-push.ensures.items

pub returns : goal.returns
returns c =
    answers_more c.insert_at.result _ _ c.insert_at.ensures (λ done inserted a n fine before copied over.
    first_more_reduced a n c.in-Some.pivot c.args.self.now c.insert_at.new.self c.args.row c.clear.new.row fine before copied over
    (cleared_at c.args.self.now c.args.row c.clear.new.row _ _ c.deref.ensures.value c.deref-2.ensures.value c.clear.ensures.cleared)
    c.clear.ensures.alike c.in-Some.ensures inserted)

pub insert_at-requires-clause-pivot : goal.insert_at-requires-clause-pivot
insert_at-requires-clause-pivot c = search rules
