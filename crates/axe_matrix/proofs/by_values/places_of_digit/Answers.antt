use Rattle.std.proofs.Common.{cond, eqb, sym, ap, ◌∙◌}
use Rattle.axe_layer.specs.Words.{digit_of_words}
use Rattle.axe_matrix.proofs.by_values.places_of_digit.Goals as goal

pub returns-in-0 : goal.returns-in-0
returns-in-0 c = λ i low.
    c.places_of_zero.ensures i low ∙ ap (λ d. cond (eqb (digit_of_words c.args.words i) d) 1 0) (sym c.in-0.is)
