use Rattle.std.proofs.Common.{◌≡◌, ◌≤◌, true, length, take, ap, ◌∙◌, arith}
use Rattle.std.proofs.Math.Seq.{take-length}
use Rattle.axe_word.specs.Limits.{most_terms}
use Rattle.axe_word.specs.Terms.{word_of_terms}
use Rattle.axe_word.proofs.TermLaws.{All-IsTerm, IsWord-terms, length-terms, length-word_of_terms}
use Rattle.axe_word.proofs.word.Word.from_terms.Goals as goal
use Rattle.axe_word.proofs.word.Word.from_terms.Goals.{then-terms-gt-MAX_TERMS-via-then-terms-gt-MAX_TERMS, then-terms-gt-MAX_TERMS-via-else-terms-gt-MAX_TERMS+then-not-all_fit}

pub returns-then-terms-gt-MAX_TERMS : goal.returns-then-terms-gt-MAX_TERMS
returns-then-terms-gt-MAX_TERMS c =
    elim c.then-terms-gt-MAX_TERMS.branch [
      | then-terms-gt-MAX_TERMS-via-then-terms-gt-MAX_TERMS w ↦ λ h. absurd (omega (arith, w.if-terms-gt-MAX_TERMS.true, length-terms c.args.terms.now h))
      | then-terms-gt-MAX_TERMS-via-else-terms-gt-MAX_TERMS+then-not-all_fit w ↦ λ h.
          let fit : w.all_fit.result ≡ true = w.all_fit.ensures.1 (All-IsTerm c.args.terms.now h) in
          let unfit = w.if-not-all_fit.true in
          cc
    ]

pub returns : goal.returns
returns c =
    let all : c.loop-term.term-index ≡ length (word_of_terms c.args.terms.now) = omega (arith, length-word_of_terms c.args.terms.now) in
    let few : length c.args.terms.now ≤ most_terms = c.if-terms-gt-MAX_TERMS.false in (
      c.loop-term.invariant ∙ ap (λ n. take n (word_of_terms c.args.terms.now)) all ∙ take-length (word_of_terms c.args.terms.now),
      IsWord-terms c.args.terms.now few (c.all_fit.ensures.0 c.if-not-all_fit.false),
    )
