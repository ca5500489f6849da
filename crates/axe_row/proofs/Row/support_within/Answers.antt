use Rattle.axe_layer.proofs.SupportLaws.{support_of_restricted}
use Rattle.axe_row.proofs.Row.support_within.Goals as goal

pub returns : goal.returns
returns c =
    support_of_restricted c.args.places.now c.args.self.now.entries c.args.at c.support_word.result c.word.result c.support_word.ensures
    c.word.ensures
