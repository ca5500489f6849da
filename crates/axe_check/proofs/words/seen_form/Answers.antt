use Rattle.std.proofs.Common.{inl, inr, option_copied, refl}
use Rattle.axe_check.proofs.WordLaws.{word_within, left_open, seen_shown, seen_by, reducible_reason, form_of_itself}
use Rattle.axe_check.proofs.words.seen_form.Goals as goal

pub said-requires-clause-number : goal.said-requires-clause-number
said-requires-clause-number c =
    word_within c.args.factor.now.order c.args.reported.now.witness c.requires.witness c.word.result c.in-Some.number c.word.ensures c.in-Some.is

pub form_of-requires-clause-vector : goal.form_of-requires-clause-vector
form_of-requires-clause-vector c =
    (seen_shown c.args.factor.now c.args.seed c.args.reported.now.witness c.requires.witness c.word.result c.in-Some.number (option_copied c.poly.result)
    c.in_ok-poly.field-0 c.word.ensures c.in-Some.is c.poly.ensures c.in_ok-poly.ensures.says c.in-Irreducible.poly (option_copied c.as_ref.result)
    c.in-Irreducible.vector c.in-Irreducible.is c.as_ref.ensures.value).of_module

pub form_of-requires-clause-null : goal.form_of-requires-clause-null
form_of-requires-clause-null c =
    (seen_shown c.args.factor.now c.args.seed c.args.reported.now.witness c.requires.witness c.word.result c.in-Some.number (option_copied c.poly.result)
    c.in_ok-poly.field-0 c.word.ensures c.in-Some.is c.poly.ensures c.in_ok-poly.ensures.says c.in-Irreducible.poly (option_copied c.as_ref.result)
    c.in-Irreducible.vector c.in-Irreducible.is c.as_ref.ensures.value).null

pub form_of-requires-clause-generates : goal.form_of-requires-clause-generates
form_of-requires-clause-generates c =
    (seen_shown c.args.factor.now c.args.seed c.args.reported.now.witness c.requires.witness c.word.result c.in-Some.number (option_copied c.poly.result)
    c.in_ok-poly.field-0 c.word.ensures c.in-Some.is c.poly.ensures c.in_ok-poly.ensures.says c.in-Irreducible.poly (option_copied c.as_ref.result)
    c.in-Irreducible.vector c.in-Irreducible.is c.as_ref.ensures.value).generates

pub form_of-requires-clause-small : goal.form_of-requires-clause-small
form_of-requires-clause-small c =
    (seen_shown c.args.factor.now c.args.seed c.args.reported.now.witness c.requires.witness c.word.result c.in-Some.number (option_copied c.poly.result)
    c.in_ok-poly.field-0 c.word.ensures c.in-Some.is c.poly.ensures c.in_ok-poly.ensures.says c.in-Irreducible.poly (option_copied c.as_ref.result)
    c.in-Irreducible.vector c.in-Irreducible.is c.as_ref.ensures.value).small

pub returns-in-Irreducible-clause-seen : goal.returns-in-Irreducible-clause-seen
returns-in-Irreducible-clause-seen c = (
  seen_by c.args.factor.now c.args.seed c.args.reported.now.witness c.requires.witness c.word.result c.in-Some.number (option_copied c.poly.result)
      c.in_ok-poly.field-0 c.word.ensures c.in-Some.is c.poly.ensures c.in_ok-poly.ensures.says c.in-Irreducible.poly c.in-Irreducible.vector c.in-Irreducible.is
      c.in_ok-poly.ensures.holds,
  form_of_itself c.args.factor.now c.args.seed c.in-Some.number (option_copied c.as_ref.result) c.in-Irreducible.vector
      c.in_ok-form_of-in-Irreducible.field-0 c.in_ok-form_of-in-Irreducible.ensures.well_formed c.in_ok-form_of-in-Irreducible.ensures.form,
)

pub returns-in-Reducible-clause-seen : goal.returns-in-Reducible-clause-seen
returns-in-Reducible-clause-seen c =
    inr
    (reducible_reason c.args.factor.now c.args.seed c.args.reported.now.witness c.requires.witness c.word.result c.in-Some.number (option_copied c.poly.result)
    c.in_ok-poly.field-0 c.word.ensures c.in-Some.is c.poly.ensures c.in_ok-poly.ensures.says c.in-Reducible.field-0 c.args.reported.now
    c.in_ok-name_of-in-Reducible.field-0 refl c.in-Reducible.is c.in_ok-poly.ensures.holds c.in_ok-name_of-in-Reducible.ensures)

pub returns-clause-seen : goal.returns-clause-seen
returns-clause-seen c = inl (record {
  name = c.in_ok-name_of-in-Left.field-0;
  is = refl;
  named = c.in_ok-name_of-in-Left.ensures;
  wrong = left_open c.args.factor.now c.args.seed c.args.reported.now.witness c.requires.witness c.word.result c.in-Some.number (option_copied c.poly.result)
      c.in_ok-poly.field-0 c.word.ensures c.in-Some.is c.poly.ensures c.in_ok-poly.ensures.says c.in-Left.is;
})
