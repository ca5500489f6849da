use Rattle.std.proofs.Common.{drop, ◌∙◌}
use Rattle.std.proofs.lemmas.Result.{err_from_is_err_and}
use Rattle.axe_file.specs.TextReading.{read_word, read_numeral}
use Rattle.axe_file.proofs.TextScans.{goes_on}
use Rattle.axe_file.proofs.text_header.setting.Goals as goal

pub returns-in_err-at-clause-read : goal.returns-in_err-at-clause-read
returns-in_err-at-clause-read c next =
    let p = err_from_is_err_and c.from_residual.result c.from_residual.ensures.1 in
    let e = c.in_err-at.ensures.read (read_word c.args.name.now (read_numeral next)) in
    rw p.1 (e.0, p.2 ∙ e.1, e.2)

pub returns-in_err-at-2-clause-read : goal.returns-in_err-at-2-clause-read
returns-in_err-at-2-clause-read c next =
    let p = err_from_is_err_and c.from_residual-in_err-at-2.result c.from_residual-in_err-at-2.ensures.1 in
    let gap = c.in_ok-at.ensures.read (read_word c.args.name.now (read_numeral next)) in
    let e = c.in_err-at-2.ensures.read (read_numeral next) in
    rw p.1 (e.0, p.2 ∙ e.1, gap ∙ e.2)

pub returns-clause-read : goal.returns-clause-read
returns-clause-read c next =
    let gap = c.in_ok-at.ensures.read (read_word c.args.name.now (read_numeral next)) in
    let word = c.in_ok-at-2.ensures.read (read_numeral next) in
    goes_on c.numeral.result _ _ (λ found. next found.0 (drop found.1 c.args.bytes.now) found.1) (gap ∙ word) (c.numeral.ensures.read next)
