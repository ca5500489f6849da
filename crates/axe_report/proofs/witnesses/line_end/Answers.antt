use Rattle.std.proofs.Common.{rules}
use Rattle.axe_report.proofs.WitnessLaws.{no_feed, feed_there}
use Rattle.axe_report.proofs.witnesses.line_end.Goals as goal

pub returns-in_default : goal.returns-in_default
returns-in_default c = no_feed c.args.header.now c.args.text.now (search rules) c.in_default.ensures

pub returns-then-eq : goal.returns-then-eq
returns-then-eq c = feed_there c.args.header.now c.args.text.now c.in-Some.rest.now (search rules) c.in-Some.ensures
