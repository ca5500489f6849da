use Rattle.std.proofs.Common.{rules}
use Rattle.axe_matrix.proofs.vectors.next_four_by_entries.Goals as goal

pub next_entry-requires-2-clause-word : goal.next_entry-requires-2-clause-word
next_entry-requires-2-clause-word c = search rules

pub next_entry-requires-3-clause-word : goal.next_entry-requires-3-clause-word
next_entry-requires-3-clause-word c = search rules

pub next_entry-requires-4-clause-word : goal.next_entry-requires-4-clause-word
next_entry-requires-4-clause-word c = search rules

pub returns : goal.returns
returns c = search rules
