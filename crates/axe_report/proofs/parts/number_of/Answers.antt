use Rattle.std.proofs.Common.{◌≡◌, decimal, refl, ap, sym, ◌∙◌}
use Rattle.std.proofs.lemmas.Slice.Eq.{slice_eq-Decides}
use Rattle.std.proofs.lemmas.Bool.Decides.{Decides-eqb}
use Rattle.axe_report.proofs.Pieces.{not_utf8, parsed_number, same, differ}
use Rattle.axe_report.proofs.parts.number_of.Goals as goal

pub returns-in_default : goal.returns-in_default
returns-in_default c n lt e = not_utf8 c.args.digits.now n c.in_default.ensures.cases.0 lt e

pub returns-in_default-parse : goal.returns-in_default-parse
returns-in_default-parse c n lt e =
    let ok = parsed_number c.args.digits.now c.in-Ok.text.now n c.parse.result c.in-Ok.ensures.cases.0 c.parse.ensures.value.0 lt e in
    absurd (cc (ok, c.in_default-parse.is))

pub returns-then-ne : goal.returns-then-ne
returns-then-ne c n lt e =
    let ok = parsed_number c.args.digits.now c.in-Ok.text.now n c.parse.result c.in-Ok.ensures.cases.0 c.parse.ensures.value.0 lt e in
    let number : c.in-Ok-parse.number ≡ n = cc (ok, c.in-Ok-parse.is) in
    differ c.as_bytes.result.now c.args.digits.now _ c.ne.result (slice_eq-Decides Decides-eqb c.as_bytes.result.now c.args.digits.now _ refl) c.ne.ensures c.if-ne.true (c.as_bytes.ensures.value ∙ c.format.ensures.text ∙ ap (λ (k : _). decimal k) number ∙ sym e)

pub returns : goal.returns
returns c = sym (same c.as_bytes.result.now c.args.digits.now _ c.ne.result (slice_eq-Decides Decides-eqb c.as_bytes.result.now c.args.digits.now _ refl) c.ne.ensures c.if-ne.false) ∙ c.as_bytes.ensures.value ∙ c.format.ensures.text
