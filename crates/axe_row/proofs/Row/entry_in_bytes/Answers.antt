use Rattle.std.proofs.Common.{List, ℕ, get_or, ap, ◌∙◌}
use Rattle.axe_row.proofs.NextEntries.{first_place_found}
use Rattle.axe_row.proofs.Row.entry_in_bytes.Goals as goal

pub returns-then-entry-ne0 : goal.returns-then-entry-ne0
returns-then-entry-ne0 c =
    first_place_found c.args.places.now c.args.self.now.entries c.args.start _ c.in-Some.first c.get-entry.result c.word.ensures c.in-Some.ensures
    (c.get-entry.ensures ∙ ap (λ (x : List ℕ). get_or x c.in-Some.first 0) c.requires.plane) c.if-entry-ne0.true
