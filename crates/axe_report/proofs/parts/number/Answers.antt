use Rattle.std.proofs.Common.{arith}
use Rattle.std.proofs.lemmas.List.Sums.{prefix_len-le-length}
use Rattle.axe_report.specs.Fronts.{is_digit}
use Rattle.axe_report.proofs.Pieces.{no_number, number_there}
use Rattle.axe_report.proofs.parts.number.Goals as goal

pub split_at-requires : goal.split_at-requires
split_at-requires c = omega (arith, c.digits_len.ensures, prefix_len-le-length is_digit c.args.text.now)

pub returns-in_default : goal.returns-in_default
returns-in_default c n rest lt stops =
    no_number c.args.text.now c.split_at.result.0.now c.digits_len.result n rest c.digits_len.ensures c.split_at.ensures.front c.in_default.ensures lt stops

pub returns : goal.returns
returns c =
    number_there c.args.text.now c.split_at.result.0.now c.split_at.result.1.now c.digits_len.result c.in-Some.number c.digits_len.ensures c.split_at.ensures.front c.split_at.ensures.back c.in-Some.ensures
