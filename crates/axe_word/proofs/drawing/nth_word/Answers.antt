use Rattle.std.proofs.Common.{◌≡◌, sym, ap, ◌∙◌, subst}
use Rattle.rand_pcg.specs.Lcg.{Lcg, started, increment_of}
use Rattle.rand_pcg.specs.Pcg.{multiplier_64}
use Rattle.axe_algebra.specs.WordsOfLists.{IsWordOver}
use Rattle.axe_field.specs.NumberFields.{number_field}
use Rattle.axe_word.specs.Words.{WordValue, IsWord}
use Rattle.axe_word.specs.Drawing.{word_from, drawn_word}
use Rattle.axe_word.proofs.DrawingLaws.{drawn_word-zero, drawn_word-drawn, drawn_word-over, drawn_word-IsWord}
use Rattle.axe_word.proofs.drawing.nth_word.Goals as goal

pub returns-then-number-eq0-clause-drawn : goal.returns-then-number-eq0-clause-drawn
returns-then-number-eq0-clause-drawn c =
    c.zero.ensures ∙ sym (drawn_word-zero c.args.seed c.args.number c.args.order c.args.gens c.if-number-eq0.true)

is_drawn : (c : goal.After-word_from) → c.word_from.result ≡ drawn_word c.args.seed c.args.number c.args.order c.args.gens
is_drawn c =
    c.word_from.ensures
    ∙ ap (λ (generator : Lcg). word_from c.args.order c.args.gens generator) c.new-generator.ensures
    ∙ ap (λ n. word_from c.args.order c.args.gens (started 64 multiplier_64 c.args.seed (increment_of 64 n))) c.from.ensures
    ∙ sym (drawn_word-drawn c.args.seed c.args.number c.args.order c.args.gens c.if-number-eq0.false)

pub returns-clause-drawn : goal.returns-clause-drawn
returns-clause-drawn c = is_drawn c

pub returns-clause-over : goal.returns-clause-over
returns-clause-over c =
    λ o is. subst (λ (w : WordValue). IsWordOver (number_field o) c.args.gens w) (sym (is_drawn c))
    (drawn_word-over c.args.seed c.args.number c.args.order c.args.gens o is c.requires.some_generator)

pub returns-clause-well_formed : goal.returns-clause-well_formed
returns-clause-well_formed c = subst IsWord (sym (is_drawn c)) (drawn_word-IsWord c.args.seed c.args.number c.args.order c.args.gens)
