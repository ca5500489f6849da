use Rattle.std.proofs.Common.{◌≡◌, ◌+◌, ◌*◌, ◌%◌, ◌-◌, ◌<◌, ◌≤◌, ◌++◌, List, ℕ, [], length, get_or, set, take, drop, ap, subst, sym, ◌∙◌, arith}
use Rattle.std.specs.Simd.Lanes.{chunk, put_chunk, zip2}
use Rattle.std.proofs.lemmas.Simd.{length-chunk}
use Rattle.axe_layer.specs.Digits.{digits_with_multiple}
use Rattle.axe_plane.specs.FlatTables.{byte_entries, HoldsDigits}
use Rattle.axe_plane.specs.Primes.{byte_prime, ByteEntries}
use Rattle.axe_layer.proofs.DigitLaws.{AreDigits-sum, zip2-sum, length-digits_with_multiple}
use Rattle.axe_bits.proofs.PieceLaws.{piece_within, written_piece}
use Rattle.axe_plane.proofs.PlaneLaws.{byte_prime-positive}
use Rattle.axe_plane.proofs.TableLaws.{byte_index, byte_entry-at, byte_entry-long, byte_entries-after, digits_held, entry_bytes}
use Rattle.axe_plane.proofs.byte_table.ByteTable.add_to_entry.Goals as goal

pub start_of-start-requires-clause-within : goal.start_of-start-requires-clause-within
start_of-start-requires-clause-within c = byte_index _ _ _ _ _ (ap (λ (t : ByteEntries). t.entries) c.self.view_is) c.requires.to

pub add_scaled_bytes-requires-clause-fits : goal.add_scaled_bytes-requires-clause-fits
add_scaled_bytes-requires-clause-fits c =
    let mine = entry_bytes _ _ c.args.to _ _ _ _ (ap (λ (t : ByteEntries). t.entries) c.self.view_is) c.requires.to c.start_of-start.ensures.start c.deref_mut.ensures.value in
    ap length c.bytes.ensures.value ∙ c.requires.fits ∙ sym (ap length mine)

-- the table's bytes after
after : (n count to start k r p m : ℕ) (bytes v other dst : List ℕ) → HoldsDigits p n count bytes → to < count →
    v ≡ bytes → k ≡ length bytes → start ≡ to * n → start + n ≤ count * n → r ≡ p → length other ≡ n →
    dst ≡ zip2 (λ x y. (x + m * y) % r) (take (start + n - start) (drop start v)) other →
    take k ((take start v ++ (dst ++ drop (start + n - start) (drop start v))) ++ drop (length (take start v ++ (dst ++ drop (start + n - start) (drop start v)))) bytes)
    ≡ put_chunk (to * n) bytes (digits_with_multiple p (chunk (to * n) n bytes) m other)
after n count to start k r p m bytes v other dst h below same all at room er long e =
    let wide : start + n - start ≡ n = omega arith in
    let mine : length (chunk (to * n) n bytes) ≡ n = length-chunk (to * n) n bytes (omega (arith, h.long, at)) in
    let new : dst ≡ digits_with_multiple p (chunk (to * n) n bytes) m other =
    e ∙ ap (λ s. zip2 (λ x y. (x + m * y) % s) (take (start + n - start) (drop start v)) other) er
    ∙ ap (λ (l : List ℕ). zip2 (λ x y. (x + m * y) % p) l other)
    (ap (λ k. take k (drop start v)) wide ∙ ap (λ s. take n (drop s v)) at ∙ ap (λ (l : List ℕ). take n (drop (to * n) l)) same)
    ∙ zip2-sum p (chunk (to * n) n bytes) m other (long ∙ sym mine) in
    let whole : length dst ≡ n = ap length new ∙ length-digits_with_multiple p (chunk (to * n) n bytes) m other ∙ mine in
    written_piece k start n v bytes dst same all (omega (arith, h.long)) whole
    ∙ ap (λ s. put_chunk s bytes dst) at ∙ ap (put_chunk (to * n) bytes) new

pub invariant_of-self : goal.invariant_of-self
invariant_of-self c =
    let n = c.self.inside.len in
    let p = byte_prime c.self.inside.prime in
    let count = c.self.inside.count in
    let bytes = c.self.inside.bytes.items in
    let entries = ap (λ (t : ByteEntries). t.entries) c.self.view_is in
    let to = byte_index _ _ c.args.to _ _ entries c.requires.to in
    let long = ap length c.bytes.ensures.value ∙ c.requires.fits ∙ byte_entry-long p _ _ c.args.to _ _ c.self.invariant entries c.requires.to in
    let other : List ℕ = c.bytes.result.now in
    let mine = length-chunk (c.args.to * n) n bytes (omega (arith, c.self.invariant.long, piece_within n count c.args.to to)) in
    subst (HoldsDigits p n count)
    (sym (after n count c.args.to _ _ _ p c.args.factor bytes _ other _ c.self.invariant to c.deref_mut.ensures.value c.self.inside.bytes.ok.0
    c.start_of-start.ensures.start c.start_of-start.ensures.end c.number-prime.ensures long c.add_scaled_bytes.ensures.sum))
    (digits_held p n count c.args.to bytes _ to c.self.invariant
    (length-digits_with_multiple p (chunk (c.args.to * n) n bytes) c.args.factor other ∙ mine)
    (AreDigits-sum p (chunk (c.args.to * n) n bytes) c.args.factor other (byte_prime-positive c.self.inside.prime)))

pub returns : goal.returns
returns c =
    let n = c.self.inside.len in
    let p = byte_prime c.self.inside.prime in
    let count = c.self.inside.count in
    let bytes = c.self.inside.bytes.items in
    let entries = ap (λ (t : ByteEntries). t.entries) c.self.view_is in
    let to = byte_index _ _ c.args.to _ _ entries c.requires.to in
    let long = ap length c.bytes.ensures.value ∙ c.requires.fits ∙ byte_entry-long p _ _ c.args.to _ _ c.self.invariant entries c.requires.to in
    let other : List ℕ = c.bytes.result.now in
    let mine = length-chunk (c.args.to * n) n bytes (omega (arith, c.self.invariant.long, piece_within n count c.args.to to)) in
    let all : List (List ℕ) = byte_entries n count bytes in
    let changed =
    ap (byte_entries n count)
    (after n count c.args.to _ _ _ p c.args.factor bytes _ other _ c.self.invariant to c.deref_mut.ensures.value c.self.inside.bytes.ok.0
    c.start_of-start.ensures.start c.start_of-start.ensures.end c.number-prime.ensures long c.add_scaled_bytes.ensures.sum)
    ∙ byte_entries-after p n count c.args.to bytes _ to c.self.invariant
    (length-digits_with_multiple p (chunk (c.args.to * n) n bytes) c.args.factor other ∙ mine)
    ∙ ap (λ (l : List ℕ). set all c.args.to (digits_with_multiple p l c.args.factor other)) (sym (byte_entry-at n count bytes c.args.to to))
    ∙ ap (λ (l : List ℕ). set all c.args.to (digits_with_multiple p (get_or all c.args.to []) c.args.factor l)) c.bytes.ensures.value in
    ap (λ (l : List (List ℕ)). record { prime = c.self.inside.prime; entries = l }) changed
    ∙ ap (λ (t : ByteEntries). record { prime = t.prime; entries = set t.entries c.args.to (digits_with_multiple (byte_prime t.prime) (get_or t.entries c.args.to []) c.args.factor c.args.plane.now.digits) }) c.self.view_is
