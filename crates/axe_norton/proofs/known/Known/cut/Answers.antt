use Rattle.std.proofs.Common.{IsTrue, false}
use Rattle.axe_norton.specs.Known.{AreValuesOf}
use Rattle.axe_echelon.proofs.Exits.{no_memory}
use Rattle.axe_norton.proofs.known.Known.cut.Goals as goal

none : IsTrue false → ⊥
none never = cc

pub returns-in_err-sub_values : goal.returns-in_err-sub_values
returns-in_err-sub_values c = λ m sub quotient seed is proper acts modulo last.
    no_memory _ c.from_residual.result _ c.from_residual.ensures.1 (c.in_err-sub_values.ensures m sub quotient seed is.values proper acts modulo)

pub returns : goal.returns
returns c = λ m sub quotient seed is proper acts modulo last.
    let values : AreValuesOf sub seed c.in_ok-sub_values.sub_values.items × AreValuesOf quotient seed c.in_ok-sub_values.quotient_values.items =
    c.in_ok-sub_values.ensures m sub quotient seed is.values proper acts modulo in
    (record { last = λ never. absurd (none never); values = values.0 }, record { last = last; values = values.1 })
