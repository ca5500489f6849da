use Rattle.std.proofs.Common.{◌≡◌, true, length, [], refl, arith}
use Rattle.std.proofs.lemmas.List.Elements.{All-more}
use Rattle.axe_word.specs.Words.{IsTermIn}
use Rattle.axe_word.proofs.MembershipLaws.{term_of_word, term_at, word_of_terms-in}
use Rattle.axe_word.proofs.word.Word.is_word_in.Goals as goal

pub returns-then-not-is_term_in : goal.returns-then-not-is_term_in
returns-then-not-is_term_in c = (
  λ e. cc,
  λ h.
      let is : c.is_term_in.result ≡ true =
      c.is_term_in.ensures.1 (term_of_word c.args.module.now c.args.self.now c.loop-index.index c.term.result.coefficient c.term.result.gens.now h
      (omega (arith, c.loop-index-test.true, c.len-index-end.ensures.count)) c.term.ensures.coefficient c.term.ensures.numbers) in
      let not = c.if-not-is_term_in.true in
      cc,
)

pub loop-index-preserved : goal.loop-index-preserved
loop-index-preserved c =
    All-more (IsTermIn c.args.module.now) c.args.self.now c.loop-index.index (0, []) (omega (arith, c.loop-index-test.true, c.len-index-end.ensures.count))
    c.loop-index.invariant
    (term_at c.args.module.now c.args.self.now c.loop-index.index c.term.result.coefficient c.term.result.gens.now
    (c.is_term_in.ensures.0 c.if-not-is_term_in.false) c.term.ensures.coefficient c.term.ensures.numbers)

pub returns : goal.returns
returns c =
    let all : c.loop-index.index ≡ length c.args.self.now = omega (arith, c.loop-index-test.false, c.len-index-end.ensures.count) in
    (λ _. word_of_terms-in c.args.module.now c.args.self.now c.loop-index.index c.loop-index.invariant all, λ _. refl)
