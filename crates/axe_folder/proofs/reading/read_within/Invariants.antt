use Rattle.std.proofs.Common.{◌≤◌, vec_len}
use Rattle.std.specs.Io.KnownBytes.{Consumes}
use Rattle.axe_folder.proofs.reading.read_within.Given as goal

-- the bytes so far keep the limit, and they are what the source has lost
abbrev pub invariant-loop : goal.invariant-loop
invariant-loop g l = record {
  within : vec_len l.bytes ≤ l.limit;
  taken : Consumes (g.R.Read.remaining l.initial.source) (g.R.Read.remaining l.source) l.bytes.items;
}
