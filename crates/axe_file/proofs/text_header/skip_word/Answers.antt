use Rattle.std.proofs.Common.{◌≡◌, ◌+◌, drop, refl, ap, ◌∙◌, ne_eqb, eq-eqb, ℕ, arith}
use Rattle.axe_file.proofs.TextScans.{word_more, word_differs, word_cut, word_ended}
use Rattle.axe_file.proofs.text_header.skip_word.Goals as goal
use Rattle.axe_file.proofs.text_header.skip_word.Goals.{then-at-bytes-via-then-at-bytes, then-at-bytes-via-else-at-bytes+then-bytes-at}

pub returns-then-at-bytes-clause-read : goal.returns-then-at-bytes-clause-read
returns-then-at-bytes-clause-read c next = elim c.then-at-bytes.branch [
  | then-at-bytes-via-then-at-bytes w ↦
      (c.args.start + c.loop-index.index, refl, word_cut c.args.word.now c.args.bytes.now c.args.start c.loop-index.index c.loop-index.invariant c.loop-index-test.true w.if-at-bytes.true next)
  | then-at-bytes-via-else-at-bytes+then-bytes-at w ↦ (
    c.args.start + c.loop-index.index,
    refl,
    word_differs c.args.word.now c.args.bytes.now c.args.start c.loop-index.index c.loop-index.invariant c.loop-index-test.true w.if-at-bytes.false (ne_eqb _ _ w.if-bytes-at.true) next,
  )
]

pub loop-index-preserved : goal.loop-index-preserved
loop-index-preserved c =
    word_more c.args.word.now c.args.bytes.now c.args.start c.loop-index.index c.loop-index.invariant c.loop-index-test.true c.if-at-bytes.false (eq-eqb _ _ c.if-bytes-at.false)

pub returns-clause-read : goal.returns-clause-read
returns-clause-read c next =
    let same : c.loop-index.index ≡ _ = omega arith in
    word_ended c.args.word.now c.args.bytes.now c.args.start c.loop-index.index c.loop-index.invariant c.loop-index-test.false next
    ∙ ap (λ (n : ℕ). next (drop (c.args.start + n) c.args.bytes.now) (c.args.start + n)) same
