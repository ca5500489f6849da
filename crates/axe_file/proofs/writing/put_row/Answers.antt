use Rattle.std.proofs.Common.{rules}
use Rattle.axe_file.proofs.writing.put_row.Goals as goal

pub pack_row-requires-clause-room : goal.pack_row-requires-clause-room
pack_row-requires-clause-room c = search rules

pub pack_row-requires-clause-bytes : goal.pack_row-requires-clause-bytes
pack_row-requires-clause-bytes c = search rules
