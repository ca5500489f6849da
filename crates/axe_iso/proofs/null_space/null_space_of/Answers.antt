use Rattle.std.proofs.Common.{◌≡◌, length, option_copied, sym, ap, subst, ◌∙◌}
use Rattle.axe_algebra.specs.WordsOfLists.{IsWordOver}
use Rattle.axe_field.specs.Order.{order_number}
use Rattle.axe_field.specs.NumberFields.{number_field}
use Rattle.axe_word.specs.declared.tested.Tested.{Tested}
use Rattle.axe_word.specs.Drawing.{drawn_word}
use Rattle.axe_iso.specs.Forms.{IsTestedWith}
use Rattle.axe_iso.proofs.FormLaws.{null_space_given}
use Rattle.axe_iso.proofs.null_space.null_space_of.Goals as goal
use Rattle.axe_iso.proofs.null_space.null_space_of.Goals.{in-None+in_ok-tested-in-None, in-Some+in_ok-null_space-in-Some}

pub nth_word-word-requires-clause-order : goal.nth_word-word-requires-clause-order
nth_word-word-requires-clause-order c = record { order = c.field.result.now; is = sym c.order.ensures.value }

pub tested-requires : goal.tested-requires
tested-requires c = record {
  over =
      subst (λ k. IsWordOver (number_field c.args.module.now.order) k c.nth_word-word.result) c.gens.ensures.count
      (c.nth_word-word.ensures.over c.args.module.now.order (sym (c.order.ensures.value ∙ ap order_number c.field.ensures.order)));
}

pub tested_by_poly-requires-clause-word : goal.tested_by_poly-requires-clause-word
tested_by_poly-requires-clause-word c = record {
  over =
      subst (λ k. IsWordOver (number_field c.args.module.now.order) k c.nth_word-word.result) c.gens.ensures.count
      (c.nth_word-word.ensures.over c.args.module.now.order (sym (c.order.ensures.value ∙ ap order_number c.field.ensures.order)));
}

pub tested_by_poly-requires-clause-field : goal.tested_by_poly-requires-clause-field
tested_by_poly-requires-clause-field c = c.requires.field c.in-Some.poly.now (ap option_copied c.in-Some.is)

pub returns : goal.returns
returns c =
    let drawn : c.nth_word-word.result ≡ drawn_word c.args.seed c.args.word (order_number c.args.module.now.order) (length c.args.module.now.generators) =
    c.nth_word-word.ensures.drawn
    ∙ ap (λ q. drawn_word c.args.seed c.args.word q c.gens.result) (c.order.ensures.value ∙ ap order_number c.field.ensures.order)
    ∙ ap (λ k. drawn_word c.args.seed c.args.word (order_number c.args.module.now.order) k) c.gens.ensures.count in
    null_space_given c.args.module.now c.args.seed c.args.word (option_copied c.args.poly) c.nth_word-word.result c.match-poly.null_space drawn
    (elim c.match-poly.branch [
      | in-None+in_ok-tested-in-None w ↦
          subst (λ (t : Tested). IsTestedWith c.args.module.now c.nth_word-word.result (option_copied c.args.poly) t) (sym w.null_space-is)
          (subst (λ o. IsTestedWith c.args.module.now c.nth_word-word.result (option_copied o) w.in_ok-tested-in-None.field-0) (sym w.in-None.is)
          w.in_ok-tested-in-None.ensures)
      | in-Some+in_ok-null_space-in-Some w ↦
          subst (λ (t : Tested). IsTestedWith c.args.module.now c.nth_word-word.result (option_copied c.args.poly) t) (sym w.null_space-is)
          (subst (λ o. IsTestedWith c.args.module.now c.nth_word-word.result (option_copied o) w.in_ok-null_space-in-Some.field-0) (sym w.in-Some.is)
          w.in_ok-null_space-in-Some.ensures)
    ])
