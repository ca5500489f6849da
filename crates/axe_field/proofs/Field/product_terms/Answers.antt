use Rattle.std.proofs.Common.{rules, ◌≡◌, ◌≢◌, ap, sym, ◌∙◌}
use Rattle.axe_field.specs.Order.{order_number}
use Rattle.axe_field.specs.declared.Field.TheInside.{Inside}
use Rattle.axe_field.proofs.FormLaws.{terms_of_prime, terms_of_four, terms_of_eight, terms_of_nine}
use Rattle.axe_field.proofs.Lookup.{inside-is}
use Rattle.axe_field.proofs.Field.product_terms.Goals as goal

pub returns-in-4 : goal.returns-in-4
returns-in-4 c =
    let number = ap (λ (s : Inside). s.order) (inside-is c.self.inside c.args.self.now c.self.invariant c.self.view_is) in
    terms_of_four c.args.self.now (sym number ∙ c.in-4.is)

pub returns-in-8 : goal.returns-in-8
returns-in-8 c =
    let number = ap (λ (s : Inside). s.order) (inside-is c.self.inside c.args.self.now c.self.invariant c.self.view_is) in
    terms_of_eight c.args.self.now (sym number ∙ c.in-8.is)

pub returns-in-9 : goal.returns-in-9
returns-in-9 c =
    let number = ap (λ (s : Inside). s.order) (inside-is c.self.inside c.args.self.now c.self.invariant c.self.view_is) in
    terms_of_nine c.args.self.now (sym number ∙ c.in-9.is)

pub returns-in_default : goal.returns-in_default
returns-in_default c =
    let number : c.self.inside.order ≡ order_number c.args.self.now =
    ap (λ (s : Inside). s.order) (inside-is c.self.inside c.args.self.now c.self.invariant c.self.view_is) in
    let not_four : order_number c.args.self.now ≢ 4 = λ e. search (rules, number, e) in
    let not_eight : order_number c.args.self.now ≢ 8 = λ e. search (rules, number, e) in
    let not_nine : order_number c.args.self.now ≢ 9 = λ e. search (rules, number, e) in
    terms_of_prime c.args.self.now not_four not_eight not_nine
