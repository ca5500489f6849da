use Rattle.std.proofs.Common.{◌∙◌}
use Rattle.axe_report.proofs.Lines.{nothing_written, word_written, poly_written}
use Rattle.axe_report.proofs.writing.put_witness.Goals as goal

pub returns-in_default : goal.returns-in_default
returns-in_default c = nothing_written c.args.factor.now.witness c.args.text.now.items c.in_default.ensures

pub returns-in_default-poly : goal.returns-in_default-poly
returns-in_default-poly c =
    word_written c.args.factor.now.witness c.in-Some.word c.args.text.now.items c.as_bytes.result.now c.extend_from_slice.new.self.items c.in-Some.ensures c.in_default-poly.ensures
    (c.as_bytes.ensures.value ∙ c.in_ok-setting.ensures.ok) c.in_ok-extend_from_slice.ensures.items

pub returns : goal.returns
returns c =
    poly_written c.args.factor.now.witness c.in-Some.word c.in-Some-poly.digits.now c.args.text.now.items c.as_bytes.result.now c.extend_from_slice.new.self.items c.extend_from_slice-2.new.self.items
    c.put_digits.new.text.items c.in-Some.ensures c.in-Some-poly.ensures (c.as_bytes.ensures.value ∙ c.in_ok-setting.ensures.ok) c.in_ok-extend_from_slice.ensures.items c.in_ok-extend_from_slice-2.ensures.items
    c.in_ok-put_digits.ensures
