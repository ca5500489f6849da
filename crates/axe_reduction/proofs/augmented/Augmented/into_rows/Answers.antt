use Rattle.std.proofs.Common.{arith, inl, inr, sym, ap, subst, ◌∙◌}
use Rattle.std.specs.Vec.Iter.{into_iter_items}
use Rattle.std.proofs.lemmas.List.{nil_from_length}
use Rattle.axe_matrix.specs.RowLists.{AreRowsOf}
use Rattle.axe_reduction.proofs.MovedRows.{paired_none, paired_more, paired_all}
use Rattle.axe_reduction.proofs.augmented.Augmented.into_rows.Goals as goal

pub loop-left-init : goal.loop-left-init
loop-left-init c =
    paired_none c.args.self c.self.inside.left c.self.inside.right (into_iter_items c.into_iter-left-iterator.result.a)
    (into_iter_items c.into_iter-left-iterator.result.b) c.in_ok-rows.rows.items c.self.view_is c.self.invariant
    (subst (AreRowsOf c.self.inside.left)
    (sym (ap (λ z. into_iter_items z.a) c.into_iter-left-iterator.ensures.into_iter_gives ∙ ap into_iter_items c.zip-left-items.ensures.first
    ∙ c.into_iter.ensures.rest)) c.into_rows.ensures.rows)
    (subst (AreRowsOf c.self.inside.right)
    (sym (ap (λ z. into_iter_items z.b) c.into_iter-left-iterator.ensures.into_iter_gives ∙ c.zip-left-items.ensures.second.0)) c.into_rows-2.ensures.rows)
    c.in_ok-rows.ensures.items

pub loop-left-preserved : goal.loop-left-preserved
loop-left-preserved c =
    paired_more c.args.self c.loop-left.rows.items c.push.new.self.items (into_iter_items c.loop-left.left-iterator.a)
    (into_iter_items c.loop-left.left-iterator.b) (into_iter_items c.next.new.self.a) (into_iter_items c.next.new.self.b)
    (record { left = c.in-Some.left; right = c.in-Some.right }) c.loop-left.invariant c.in-Some.ensures.steps.0.0 c.in-Some.ensures.steps.1.0
    c.in_ok-push.ensures.items

pub returns : goal.returns
returns c =
    paired_all c.args.self c.loop-left.rows.items (into_iter_items c.loop-left.left-iterator.a) (into_iter_items c.loop-left.left-iterator.b)
    c.loop-left.invariant (elim c.in-None.ensures.steps [
      | inl (rest, ended) ↦ inl (nil_from_length (into_iter_items c.loop-left.left-iterator.a) (omega (arith, ended.0, c.loop-left.left-iterator.a.rest.ok)))
      | inr (rest, ended) ↦ inr (nil_from_length (into_iter_items c.loop-left.left-iterator.b) (omega (arith, ended.0, c.loop-left.left-iterator.b.rest.ok)))
    ])
