-- Tables of planes in one flat list: their entries, and what they are after one was written.
use Rattle.std.proofs.Common.{◌≡◌, ℕ, lit<, ◌+◌, ◌-◌, ◌*◌, ◌<◌, List, [], length, get_or, set, take, drop, replicate, sym, ap, subst, ◌∙◌, arith, get_or-set_same}
use Rattle.std.specs.Simd.Lanes.{chunk, put_chunk}
use Rattle.std.proofs.Math.Seq.{set-set}
use Rattle.std.proofs.lemmas.List.{length-replicate}
use Rattle.std.proofs.lemmas.Simd.{length-chunk, length-put_chunk}
use Rattle.axe_algebra.proofs.ListEntries.{listed_length, listed_at}
use Rattle.axe_lane.specs.Bytes.{AreDigits}
use Rattle.axe_layer.specs.Digits.{digits_with_multiple}
use Rattle.axe_plane.specs.FlatTables.{byte_entries, HoldsDigits}
use Rattle.axe_plane.specs.Tables.{prime_of_table, entries_of_table, IsTable}
use Rattle.axe_plane.specs.declared.tables.PlaneTable.{PlaneTable}
use Rattle.axe_plane.specs.declared.tables.PlaneTable.TheVariants.{Bits, Trits, Bytes}
use Rattle.axe_plane.proofs.PlaneLaws.{byte_prime-positive}
use Rattle.axe_layer.proofs.DigitLaws.{AreDigits-zeros}
use Rattle.axe_bits.proofs.PieceLaws.{piece_within, pieces_after, All-written, zero_pieces}

-- ---- bytes

pub length-byte_entries : (n count : ℕ) (bytes : List ℕ) → length (byte_entries n count bytes) ≡ count
unfolding byte_entries
length-byte_entries n count bytes = listed_length count _

pub byte_entry-at : (n count : ℕ) (bytes : List ℕ) (x : ℕ) → x < count → get_or (byte_entries n count bytes) x [] ≡ chunk (x * n) n bytes
unfolding byte_entries
byte_entry-at n count bytes x below = listed_at count _ x [] below

pub byte_index : (n count x : ℕ) (bytes : List ℕ) (self : List (List ℕ)) → byte_entries n count bytes ≡ self → x < length self → x < count
byte_index n count x bytes self is inside = omega (arith, ap length is, length-byte_entries n count bytes)

-- the bytes of an entry
pub entry_bytes : (n count x start : ℕ) (bytes v : List ℕ) (self : List (List ℕ)) →
    byte_entries n count bytes ≡ self → x < length self → start ≡ x * n → v ≡ bytes →
    take (start + n - start) (drop start v) ≡ get_or self x []
entry_bytes n count x start bytes v self is inside at same =
    let wide : start + n - start ≡ n = omega arith in
    ap (λ k. take k (drop start v)) wide ∙ ap (λ s. take n (drop s v)) at
    ∙ ap (λ (l : List ℕ). take n (drop (x * n) l)) same
    ∙ sym (byte_entry-at n count bytes x (byte_index n count x bytes self is inside)) ∙ ap (λ (s : List (List ℕ)). get_or s x []) is

pub byte_entry-long : (p n count x : ℕ) (bytes : List ℕ) (self : List (List ℕ)) → HoldsDigits p n count bytes → byte_entries n count bytes ≡ self →
    x < length self → length (get_or self x []) ≡ n
byte_entry-long p n count x bytes self h is inside =
    let below = byte_index n count x bytes self is inside in
    ap (λ (s : List (List ℕ)). length (get_or s x [])) (sym is) ∙ ap length (byte_entry-at n count bytes x below)
    ∙ length-chunk (x * n) n bytes (omega (arith, h.long, piece_within n count x below))

pub digits_held : (p n count to : ℕ) (bytes new : List ℕ) → to < count → HoldsDigits p n count bytes → length new ≡ n → AreDigits p new →
    HoldsDigits p n count (put_chunk (to * n) bytes new)
digits_held p n count to bytes new below h long digits = record {
  long = length-put_chunk (to * n) bytes new ∙ h.long;
  digits = All-written (λ digit. digit < p) (to * n) bytes new (omega (arith, h.long, long, piece_within n count to below)) h.digits digits;
}

pub byte_entries-after : (p n count to : ℕ) (bytes new : List ℕ) → to < count → HoldsDigits p n count bytes → length new ≡ n →
    byte_entries n count (put_chunk (to * n) bytes new) ≡ set (byte_entries n count bytes) to new
unfolding byte_entries
byte_entries-after p n count to bytes new below h long = pieces_after (λ l. l) n count to bytes new below h.long long

pub zero_byte_entries : (n count : ℕ) → byte_entries n count (replicate (count * n) 0) ≡ replicate count (replicate n 0)
unfolding byte_entries
zero_byte_entries n count = zero_pieces (λ l. l) n count

pub zero_digits_held : (p n count : ℕ) → 0 < p → HoldsDigits p n count (replicate (count * n) 0)
zero_digits_held p n count positive = record {
  long = length-replicate (count * n) 0;
  digits = AreDigits-zeros p (count * n) positive;
}

-- ---- tables

pub prime_of_table-positive : (table : PlaneTable) → 0 < prime_of_table table
prime_of_table-positive (Bits entries) = lit< tt
prime_of_table-positive (Trits entries) = lit< tt
prime_of_table-positive (Bytes table) = byte_prime-positive table.prime

-- ---- an entry that was written

-- the digits there are those that were written
pub written_at : (p to : ℕ) (entries : List (List ℕ)) (digits : List ℕ) (after : PlaneTable) → to < length entries →
    IsTable p (set entries to digits) after → get_or (entries_of_table after) to [] ≡ digits
written_at p to entries digits after within h =
    ap (λ (s : List (List ℕ)). get_or s to []) h.entries_are ∙ get_or-set_same entries to digits [] within

-- a multiple of a plane may be added to it, where its length is right
pub written_fits : (p to : ℕ) (entries : List (List ℕ)) (digits other : List ℕ) (after : PlaneTable) → to < length entries →
    IsTable p (set entries to digits) after → length other ≡ length digits → length other ≡ length (get_or (entries_of_table after) to [])
written_fits p to entries digits other after within h long = long ∙ sym (ap length (written_at p to entries digits after within h))

pub written_digits : (p to : ℕ) (entries : List (List ℕ)) (digits : List ℕ) (after : PlaneTable) → to < length entries →
    IsTable p (set entries to digits) after → AreDigits p digits →
    AreDigits (prime_of_table after) (get_or (entries_of_table after) to [])
written_digits p to entries digits after within h all =
    subst (λ r. AreDigits r (get_or (entries_of_table after) to [])) (sym h.prime)
    (subst (AreDigits p) (sym (written_at p to entries digits after within h)) all)

-- what was written is what a multiple is added to
pub written_more : (p to f : ℕ) (entries : List (List ℕ)) (digits b : List ℕ) (one two : PlaneTable) → to < length entries →
    IsTable p (set entries to digits) one →
    IsTable (prime_of_table one)
    (set (entries_of_table one) to (digits_with_multiple (prime_of_table one) (get_or (entries_of_table one) to []) f b)) two →
    IsTable p (set entries to (digits_with_multiple p digits f b)) two
written_more p to f entries digits b one two within h e = record {
  prime = e.prime ∙ h.prime;
  entries_are =
      e.entries_are ∙ ap (λ r. set (entries_of_table one) to (digits_with_multiple r (get_or (entries_of_table one) to []) f b)) h.prime
      ∙ ap (λ (d : List ℕ). set (entries_of_table one) to (digits_with_multiple p d f b)) (written_at p to entries digits one within h)
      ∙ ap (λ (s : List (List ℕ)). set s to (digits_with_multiple p digits f b)) h.entries_are
      ∙ set-set entries to digits (digits_with_multiple p digits f b);
}
