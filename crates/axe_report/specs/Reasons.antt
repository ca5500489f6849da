-- How a reason is told for which a report does not certify a series.
use Rattle.std.specs.Prelude.{ℕ, List, ◌++◌, codes, string_bytes}
use Rattle.axe_report.specs.declared.reasons.Reason.{Reason}
use Rattle.axe_report.specs.declared.reasons.Reason.TheVariants.{Header, Basis, Shape, Blocks, Open, Reducible, Same}

-- the text of a reason: a word, and the names that it speaks of
abbrev pub reason_text : Reason → List ℕ
reason_text Header = codes "header"
reason_text Basis = codes "basis"
reason_text (Shape name) = codes "shape " ++ string_bytes name
reason_text Blocks = codes "blocks"
reason_text (Open name) = codes "open " ++ string_bytes name
reason_text (Reducible name) = codes "reducible " ++ string_bytes name
reason_text (Same a b) = codes "same " ++ string_bytes a ++ codes " " ++ string_bytes b
