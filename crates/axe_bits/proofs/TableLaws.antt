-- Tables of planes of bits in one flat list: their entries, and what they are after one was written.
use Rattle.std.proofs.Common.{◌≡◌, ℕ, ◌+◌, ◌-◌, ◌*◌, ◌/◌, ◌^◌, ◌<◌, List, [], length, get_or, set, take, drop, replicate, sym, ap, subst, ◌∙◌, arith, inl, inr}
use Rattle.std.specs.Simd.Lanes.{chunk, put_chunk}
use Rattle.std.proofs.lemmas.Bool.{cases_eq}
use Rattle.std.proofs.lemmas.List.{length-replicate}
use Rattle.std.proofs.lemmas.Simd.{length-put_chunk}
use Rattle.axe_algebra.proofs.ListEntries.{listed_length, listed_at}
use Rattle.axe_layer.specs.Bits.{bits, HoldsBits}
use Rattle.axe_bits.specs.FlatTables.{bit_entries, HoldsEntries}
use Rattle.axe_layer.proofs.BitLaws.{length-bits, bits-zeros, HoldsBits-zeros}
use Rattle.axe_bits.proofs.PieceLaws.{piece_within, same_piece, other_piece, pieces_after, zero_piece, zero_pieces}

pub length-bit_entries : (n w count : ℕ) (words : List ℕ) → length (bit_entries n w count words) ≡ count
unfolding bit_entries
length-bit_entries n w count words = listed_length count _

pub bit_entry-at : (n w count : ℕ) (words : List ℕ) (x : ℕ) → x < count → get_or (bit_entries n w count words) x [] ≡ bits n (chunk (x * w) w words)
unfolding bit_entries
bit_entry-at n w count words x below = listed_at count _ x [] below

-- which index is one
pub bit_index : (n w count x : ℕ) (words : List ℕ) (self : List (List ℕ)) → bit_entries n w count words ≡ self → x < length self → x < count
bit_index n w count x words self is inside = omega (arith, ap length is, length-bit_entries n w count words)

-- how long an entry is
pub bit_entry-long : (n w count x : ℕ) (words : List ℕ) (self : List (List ℕ)) → bit_entries n w count words ≡ self → x < length self →
    length (get_or self x []) ≡ n
bit_entry-long n w count x words self is inside =
    ap (λ (s : List (List ℕ)). length (get_or s x [])) (sym is)
    ∙ ap length (bit_entry-at n w count words x (bit_index n w count x words self is inside)) ∙ length-bits n _

-- the words of an entry
pub record AreWordsOf (self : List (List ℕ)) (x : ℕ) (words : List ℕ) : Type 0 where
  pub holds : HoldsBits (length (get_or self x [])) words
  pub digits : bits (length (get_or self x [])) words ≡ get_or self x []

pub entry_words : (n w count x start : ℕ) (words v : List ℕ) (self : List (List ℕ)) → HoldsEntries n w count words →
    bit_entries n w count words ≡ self → x < length self → start ≡ x * w → v ≡ words → AreWordsOf self x (take (start + w - start) (drop start v))
entry_words n w count x start words v self h is inside at same =
    subst (AreWordsOf self x) (sym piece) (record {
      holds = subst (λ m. HoldsBits m (chunk (x * w) w words)) (sym long) (h.held x below);
      digits =
          ap (λ m. bits m (chunk (x * w) w words)) long ∙ sym (bit_entry-at n w count words x below)
          ∙ ap (λ (s : List (List ℕ)). get_or s x []) is;
    })
  where
    below : x < count
    below = bit_index n w count x words self is inside

    long : length (get_or self x []) ≡ n
    long = bit_entry-long n w count x words self is inside

    wide : start + w - start ≡ w
    wide = omega arith

    piece : take (start + w - start) (drop start v) ≡ chunk (x * w) w words
    piece =
        ap (λ k. take k (drop start v)) wide ∙ ap (λ s. take w (drop s v)) at
        ∙ ap (λ (l : List ℕ). take w (drop (x * w) l)) same

-- the words of a plane of an entry's length, of which there are as many as an entry has
pub plane_held : (n w count x : ℕ) (words plane_words plane : List ℕ) (self : List (List ℕ)) → HoldsEntries n w count words →
    bit_entries n w count words ≡ self → x < length self → length plane ≡ length (get_or self x []) → HoldsBits (length plane) plane_words →
    HoldsBits n plane_words
plane_held n w count x words plane_words plane self h is inside fits ok =
    subst (λ m. HoldsBits m plane_words) (fits ∙ bit_entry-long n w count x words self is inside) ok

-- the words after those of another plane took the place of an entry
pub entries_held : (n w count to : ℕ) (words new : List ℕ) → to < count → HoldsEntries n w count words → HoldsBits n new →
    HoldsEntries n w count (put_chunk (to * w) words new)
entries_held n w count to words new below h held = record {
  counted = h.counted;
  wide = h.wide;
  long = length-put_chunk (to * w) words new ∙ h.long;
  held = λ x inside. elim (cases_eq x to) [
    | inl same ↦
        subst (λ k. HoldsBits n (chunk (k * w) w (put_chunk (to * w) words new))) (sym same)
        (subst (HoldsBits n) (sym (same_piece w to words new long (omega (arith, h.long, piece_within w count to below)))) held)
    | inr other ↦
        subst (HoldsBits n) (sym (other_piece w to x words new long (omega (arith, h.long, piece_within w count x inside)) other)) (h.held x inside)
  ];
}
  where
    long : length new ≡ w
    long = held.long ∙ sym h.wide

pub bit_entries-after : (n w count to : ℕ) (words new : List ℕ) → to < count → HoldsEntries n w count words → HoldsBits n new →
    bit_entries n w count (put_chunk (to * w) words new) ≡ set (bit_entries n w count words) to (bits n new)
unfolding bit_entries
bit_entries-after n w count to words new below h held = pieces_after (bits n) w count to words new below h.long (held.long ∙ sym h.wide)

-- zeros
pub zero_entries_held : (n w count : ℕ) → n < 2 ^ 64 → w ≡ (n + 63) / 64 → HoldsEntries n w count (replicate (count * w) 0)
zero_entries_held n w count counted wide = record {
  counted = counted;
  wide = wide;
  long = length-replicate (count * w) 0;
  held = λ x inside. subst (HoldsBits n) (sym (zero_piece w count x inside)) (HoldsBits-zeros n w counted wide);
}

pub zero_bit_entries : (n w count : ℕ) → bit_entries n w count (replicate (count * w) 0) ≡ replicate count (replicate n 0)
unfolding bit_entries
zero_bit_entries n w count = zero_pieces (bits n) w count ∙ ap (replicate count) (bits-zeros n w)

pub zeros_of : (n m : ℕ) → n ≡ m → ◌≡◌ {A = List ℕ} (replicate n 0) (replicate m 0)
zeros_of n m e = ap (λ k. replicate {A = ℕ} k 0) e
