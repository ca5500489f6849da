use Rattle.axe_report.proofs.Pieces.{setting_from}
use Rattle.axe_report.proofs.parts.setting.Goals as goal

pub returns : goal.returns
returns c =
    setting_from (λ (found : _). found.0) (λ (found : _). found.1.now) c.number.result c.args.text.now c.args.word.now c.in-Some.rest.now c.in-Some.ensures c.number.ensures

pub returns-in_default : goal.returns-in_default
returns-in_default c n rest lt stops = c.in_default.ensures _
