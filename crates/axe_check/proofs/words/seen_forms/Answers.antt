use Rattle.std.proofs.Common.{◌+◌, [], ◌∷◌, length, sym, ap, ◌∙◌, length-append}
use Rattle.axe_iso.specs.Forms.{FormValue}
use Rattle.axe_check.specs.Steps.{IsSeenBy, IsFormOf, IsUnseenReason, IsFirstUnseenReason}
use Rattle.axe_check.proofs.StepLaws.{stopped}
use Rattle.axe_check.proofs.SeenLaws.{field_here, seen_more, forms_more, unseen_here}
use Rattle.axe_check.proofs.words.seen_forms.Goals as goal

pub seen_form-requires-clause-field : goal.seen_form-requires-clause-field
seen_form-requires-clause-field c =
    c.loop-number.invariant.field ∙ sym (field_here c.args.field c.args.factors.now c.loop-number.number c.index-factors-number.result c.requires.fields
    c.loop-number-test.true c.index-factors-number.is)

pub returns-in_err-form : goal.returns-in_err-form
returns-in_err-form c =
    stopped
    (λ (form : FormValue). IsSeenBy c.index-factors-number.result c.args.seed c.index-reported-number.result.witness × IsFormOf c.index-factors-number.result form)
    (IsUnseenReason c.index-factors-number.result c.args.seed c.index-reported-number.result)
    (IsFirstUnseenReason c.args.factors.now c.args.seed c.args.reported.now) _ c.from_residual.result c.in_err-form.field-0.0 c.from_residual.ensures.1
    c.in_err-form.ensures.seen
    (unseen_here c.args.factors.now c.args.seed c.args.reported.now c.loop-number.number c.index-factors-number.result c.index-reported-number.result
    c.loop-number-test.true c.requires.count c.index-factors-number.is c.index-reported-number.is c.loop-number.invariant.seen)

pub loop-number-preserved : goal.loop-number-preserved
loop-number-preserved c = record {
  field = c.seen_form.ensures.same_field ∙ field_here c.args.field c.args.factors.now c.loop-number.number c.index-factors-number.result c.requires.fields
      c.loop-number-test.true c.index-factors-number.is;
  seen =
      seen_more c.args.factors.now c.args.seed c.args.reported.now c.loop-number.number c.index-factors-number.result c.index-reported-number.result
      c.loop-number-test.true c.requires.count c.index-factors-number.is c.index-reported-number.is c.loop-number.invariant.seen c.in_ok-form.ensures.seen.0;
  forms_are =
      forms_more c.args.factors.now c.args.seed c.args.reported.now c.loop-number.number c.index-factors-number.result c.index-reported-number.result
      c.loop-number-test.true c.requires.count c.index-factors-number.is c.index-reported-number.is c.loop-number.forms.items c.push.new.self.items
      c.in_ok-form.form c.loop-number.invariant.forms_are c.loop-number.invariant.count c.in_ok-form.ensures.seen.1 c.in_ok-push.ensures.items;
  count = ap length c.in_ok-push.ensures.items ∙ length-append c.loop-number.forms.items (c.in_ok-form.form ∷ []) ∙ ap (λ n. n + 1) c.loop-number.invariant.count;
}
