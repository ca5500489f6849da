use Rattle.std.proofs.Common.{◌≡◌, ◌<◌, get_or, subst, sym, List, ◌++◌, ℕ, length, ap, ap₂, ◌∙◌, arith}
use Rattle.axe_report.specs.Reports.{FactorValue, IsWitnessed}
use Rattle.axe_report.proofs.WitnessLaws.{poly_plain, witness_plain}
use Rattle.axe_report.specs.Spelling.{series_line}
use Rattle.axe_report.proofs.Lines.{report_ended}
use Rattle.axe_report.proofs.Members.{places_fit}
use Rattle.axe_report.proofs.writing.write_report.Goals as goal

pub factor_line-requires : goal.factor_line-requires
factor_line-requires c =
    let r = c.args.report.now in
    let is = c.header.ensures.relations in
    let fs = c.factors-factor-items.ensures.value in
    let within : c.loop-factor.factor-index < length r.factors = subst (λ (l : List FactorValue). c.loop-factor.factor-index < length l) fs c.loop-factor-test.true in
    let here : c.factor-item.result ≡ get_or r.factors c.loop-factor.factor-index c.factor-item.result =
    c.factor-item.is ∙ ap (λ (l : List FactorValue). get_or l c.loop-factor.factor-index c.factor-item.result) fs in
    poly_plain c.factor-item.result.witness (witness_plain r.header is.header r.header.version c.factor-item.result.witness
    (subst (IsWitnessed r.header) (sym here) (is.witnessed c.loop-factor.factor-index c.factor-item.result within)))

pub put_series-requires : goal.put_series-requires
put_series-requires c = rw (c.series.ensures.value, c.factors.ensures.value) (places_fit c.args.report.now.series _ c.header.ensures.relations.series.order)

pub returns-clause-bytes : goal.returns-clause-bytes
returns-clause-bytes c =
    let r = c.args.report.now in
    let same = ap₂ series_line c.factors.ensures.value c.series.ensures.value in
    let count = ap (λ (x : List FactorValue). length x) c.factors-factor-items.ensures.value in
    report_ended r c.loop-factor.factor-index c.loop-factor.text.items _ (omega (arith, count)) c.loop-factor.invariant
    (c.in_ok-put_series.ensures ∙ ap (λ (x : List ℕ). c.loop-factor.text.items ++ x) same)
