use Rattle.std.proofs.Common.{ap, ◌+◌, ◌∙◌, arith}
use Rattle.axe_file.proofs.TextRuns.{run_at_most}
use Rattle.axe_file.proofs.text_reading.end_of_digits.Goals as goal

pub returns : goal.returns
returns c =
    c.end_of_run.ensures
    ∙ ap (λ n. c.args.start + n) (run_at_most c.args.order c.args.bytes.now c.args.start c.args.most _ (omega (arith, c.min.ensures)))
