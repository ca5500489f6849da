use Rattle.std.proofs.Common.{sym, ◌∙◌, ap}
use Rattle.axe_plane.specs.Planes.{digits_of}
use Rattle.axe_row.proofs.KeptPlanes.{prime_entries}
use Rattle.axe_row.proofs.NextEntries.{bits_hold_alone, trits_hold_alone}
use Rattle.axe_row.proofs.Row.entry_of_plane.Goals as goal

pub entry_in_bits-requires-clause-words : goal.entry_in_bits-requires-clause-words
entry_in_bits-requires-clause-words c =
    bits_hold_alone _ _ _ _ _ (prime_entries _ _ _ _ c.self.invariant c.self.view_is c.requires.prime) c.in-Bits.is c.word.ensures

pub entry_in_trits-requires-clause-words : goal.entry_in_trits-requires-clause-words
entry_in_trits-requires-clause-words c =
    trits_hold_alone _ _ _ _ c.words_of_trits.result (prime_entries _ _ _ _ c.self.invariant c.self.view_is c.requires.prime) c.in-Trits.is c.words_of_trits.ensures

pub entry_in_bytes-requires-clause-plane : goal.entry_in_bytes-requires-clause-plane
entry_in_bytes-requires-clause-plane c =
    sym (ap digits_of c.in-Bytes.is) ∙ prime_entries _ _ _ _ c.self.invariant c.self.view_is c.requires.prime
