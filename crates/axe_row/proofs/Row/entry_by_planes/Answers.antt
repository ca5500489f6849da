use Rattle.axe_row.proofs.KeptPlanes.{kept_planes, kept_view}
use Rattle.axe_row.proofs.NextEntries.{planes_hold_bits, planes_hold_trits}
use Rattle.axe_row.proofs.Row.entry_by_planes.Goals as goal

pub entry_in_bits-requires-clause-words : goal.entry_in_bits-requires-clause-words
entry_in_bits-requires-clause-words c =
    planes_hold_bits _ c.self.inside.constant _ _ _
    (kept_planes _ _ _ _ c.self.invariant _ _ _ c.in-Some.is c.deref.ensures c.deref-2.ensures)
    (kept_view _ c.self.inside.constant _ _ _ _ _ c.self.view_is c.in-Some.is c.deref.ensures c.deref-2.ensures)
    _ _ _ _ _ _ _ c.in-Bits-Bits-Bits.is-0 c.in-Bits-Bits-Bits.is-1 c.in-Bits-Bits-Bits.is-2 c.word-c.ensures c.word-l.ensures c.word-q.ensures

pub entry_in_trits-requires-clause-words : goal.entry_in_trits-requires-clause-words
entry_in_trits-requires-clause-words c =
    planes_hold_trits _ c.self.inside.constant _ _ _
    (kept_planes _ _ _ _ c.self.invariant _ _ _ c.in-Some.is c.deref.ensures c.deref-2.ensures)
    (kept_view _ c.self.inside.constant _ _ _ _ _ c.self.view_is c.in-Some.is c.deref.ensures c.deref-2.ensures)
    _ _ _ c.words_of_trits-c.result c.words_of_trits-l.result c.in-Trits-Trits-default.is-0 c.in-Trits-Trits-default.is-1 c.words_of_trits-c.ensures c.words_of_trits-l.ensures
