use Rattle.std.proofs.Common.{rules, Fits, w64, ◌≡◌, ◌+◌, ◌*◌, ◌%◌, ◌-◌, ◌<◌, ◌≤◌, ◌++◌, List, ℕ, [], length, get_or, set, take, drop, ap, ap₂, subst, sym, ◌∙◌, arith}
use Rattle.std.specs.Simd.Lanes.{chunk, put_chunk, zip2}
use Rattle.std.proofs.lemmas.List.Elements.{All-take, All-drop}
use Rattle.std.proofs.lemmas.Nat.{mul-le}
use Rattle.std.proofs.lemmas.Simd.{length-chunk}
use Rattle.axe_lane.specs.Bytes.{AreDigits}
use Rattle.axe_layer.specs.Digits.{digits_with_multiple}
use Rattle.axe_layer.proofs.DigitLaws.{AreDigits-sum, zip2-sum, length-digits_with_multiple}
use Rattle.axe_bits.proofs.PieceLaws.{piece_before, piece_within, written_after}
use Rattle.axe_plane.specs.FlatTables.{byte_entries, HoldsDigits}
use Rattle.axe_plane.specs.Primes.{byte_prime, ByteEntries}
use Rattle.axe_plane.proofs.PlaneLaws.{byte_prime-positive}
use Rattle.axe_plane.proofs.TableLaws.{byte_index, byte_entry-at, byte_entries-after, digits_held}
use Rattle.axe_plane.proofs.byte_table.ByteTable.add_to_later.Goals as goal

pub start_of-from-requires-clause-within : goal.start_of-from-requires-clause-within
start_of-from-requires-clause-within c =
    omega (arith, byte_index _ _ _ _ _ (ap (λ (t : ByteEntries). t.entries) c.self.view_is) c.requires.within)

pub overflow_add-start : goal.overflow_add-start
overflow_add-start c =
    let counted : Fits w64 c.self.inside.count = search rules in
    omega (arith, byte_index _ _ _ _ _ (ap (λ (t : ByteEntries). t.entries) c.self.view_is) c.requires.within, counted)

pub start_of-to-requires-clause-within : goal.start_of-to-requires-clause-within
start_of-to-requires-clause-within c = byte_index _ _ _ _ _ (ap (λ (t : ByteEntries). t.entries) c.self.view_is) c.requires.within

-- where two entries stand in the table's bytes, cut in front of the later one
record IsCut (p n count from to source start : ℕ) (bytes v front back : List ℕ) (self : List (List ℕ)) : Type 0 where
  held : HoldsDigits p n count bytes
  view_is : byte_entries n count bytes ≡ self
  within : to < length self
  earlier : from < to
  same : v ≡ bytes
  source_is : source ≡ from * n
  start_is : start ≡ to * n
  room : start + n ≤ count * n
  front_is : front ≡ take start v
  back_is : back ≡ drop start v

-- the table's bytes after
record IsAdded (p n count from to : ℕ) (new : List ℕ) (self : List (List ℕ)) : Type 0 where
  held : HoldsDigits p n count new
  entries : byte_entries n count new ≡ set self to (digits_with_multiple p (get_or self to []) 1 (get_or self from []))

module _ (p n count from to source start : ℕ) (bytes v front back : List ℕ) (self : List (List ℕ))
    (cut : IsCut p n count from to source start bytes v front back self) where
  below : to < count
  below = byte_index n count to bytes self cut.view_is cut.within

  own : take n back ≡ chunk (to * n) n bytes
  own =
      ap (take n) (cut.back_is ∙ ap (drop start) cut.same) ∙ ap (λ s. take n (drop s bytes)) cut.start_is

  other : take (source + n - source) (drop source front) ≡ chunk (from * n) n bytes
  other =
      piece_before start source n v bytes front cut.same cut.front_is
      (omega (arith, cut.source_is, cut.start_is, mul-le (from + 1) n to n (omega (arith, cut.earlier)) (omega arith)))
      (omega (arith, cut.room, cut.held.long))
      ∙ ap (λ s. chunk s n bytes) cut.source_is

  piece_digits : (at : ℕ) → AreDigits p (chunk at n bytes)
  piece_digits at = All-take (λ digit. digit < p) n _ (All-drop (λ digit. digit < p) at bytes cut.held.digits)

  own_digits : (r : ℕ) → r ≡ p → AreDigits r (take n back)
  own_digits r is =
      subst (λ q. AreDigits q (take n back)) (sym is) (subst (AreDigits p) (sym own) (piece_digits (to * n)))

  other_digits : (r : ℕ) → r ≡ p → AreDigits r (take (source + n - source) (drop source front))
  other_digits r is =
      subst (λ q. AreDigits q (take (source + n - source) (drop source front))) (sym is)
      (subst (AreDigits p) (sym other) (piece_digits (from * n)))

  added : (k r : ℕ) (dst : List ℕ) → k ≡ length bytes → r ≡ p → 0 < p →
      dst ≡ zip2 (λ x y. (x + 1 * y) % r) (take n back) (take (source + n - source) (drop source front)) →
      IsAdded p n count from to
      (take k ((front ++ (dst ++ drop n back)) ++ drop (length (front ++ (dst ++ drop n back))) bytes)) self
  added k r dst all is positive e =
      subst (λ (x : List ℕ). IsAdded p n count from to x self) (sym after) (record {
        held = digits_held p n count to bytes sum below cut.held sum_long (AreDigits-sum p (chunk (to * n) n bytes) 1 (chunk (from * n) n bytes) positive);
        entries =
            byte_entries-after p n count to bytes sum below cut.held sum_long
            ∙ ap₂ (λ (x y : List ℕ). set (byte_entries n count bytes) to (digits_with_multiple p x 1 y))
            (sym (byte_entry-at n count bytes to below)) (sym (byte_entry-at n count bytes from before))
            ∙ ap (λ (s : List (List ℕ)). set s to (digits_with_multiple p (get_or s to []) 1 (get_or s from []))) cut.view_is;
      })
    where
      before : from < count
      before = omega (arith, below, cut.earlier)

      sum : List ℕ
      sum = digits_with_multiple p (chunk (to * n) n bytes) 1 (chunk (from * n) n bytes)

      to_long : length (chunk (to * n) n bytes) ≡ n
      to_long = length-chunk (to * n) n bytes (omega (arith, cut.held.long, piece_within n count to below))

      from_long : length (chunk (from * n) n bytes) ≡ n
      from_long = length-chunk (from * n) n bytes (omega (arith, cut.held.long, piece_within n count from before))

      sum_long : length sum ≡ n
      sum_long = length-digits_with_multiple p (chunk (to * n) n bytes) 1 (chunk (from * n) n bytes) ∙ to_long

      new : dst ≡ sum
      new =
          e ∙ ap (λ s. zip2 (λ x y. (x + 1 * y) % s) (take n back) (take (source + n - source) (drop source front))) is
          ∙ ap₂ (zip2 (λ x y. (x + 1 * y) % p)) own other
          ∙ zip2-sum p (chunk (to * n) n bytes) 1 (chunk (from * n) n bytes) (from_long ∙ sym to_long)

      after : take k ((front ++ (dst ++ drop n back)) ++ drop (length (front ++ (dst ++ drop n back))) bytes)
          ≡ put_chunk (to * n) bytes sum
      after =
          written_after k start n v bytes front back dst cut.same all cut.front_is cut.back_is (omega (arith, cut.room, cut.held.long))
          (ap length new ∙ sum_long)
          ∙ ap (λ s. put_chunk s bytes dst) cut.start_is ∙ ap (put_chunk (to * n) bytes) new

pub add_scaled_bytes-requires-clause-dst_below : goal.add_scaled_bytes-requires-clause-dst_below
add_scaled_bytes-requires-clause-dst_below c =
    own_digits _ _ _ c.args.start (c.args.start + c.args.index) _ _ _ _ _ _ _
    (record {
      held = c.self.invariant;
      view_is = ap (λ (t : ByteEntries). t.entries) c.self.view_is;
      within = c.requires.within;
      earlier = omega (arith, c.requires.some);
      same = c.deref_mut.ensures.value;
      source_is = c.start_of-from.ensures.start;
      start_is = c.start_of-to.ensures.start;
      room = c.start_of-to.ensures.end;
      front_is = c.split_at_mut-before.ensures.front;
      back_is = c.split_at_mut-before.ensures.back;
    }) _ c.number-modulus.ensures

pub add_scaled_bytes-requires-clause-src_below : goal.add_scaled_bytes-requires-clause-src_below
add_scaled_bytes-requires-clause-src_below c =
    other_digits _ _ _ c.args.start (c.args.start + c.args.index) _ _ _ _ _ _ _
    (record {
      held = c.self.invariant;
      view_is = ap (λ (t : ByteEntries). t.entries) c.self.view_is;
      within = c.requires.within;
      earlier = omega (arith, c.requires.some);
      same = c.deref_mut.ensures.value;
      source_is = c.start_of-from.ensures.start;
      start_is = c.start_of-to.ensures.start;
      room = c.start_of-to.ensures.end;
      front_is = c.split_at_mut-before.ensures.front;
      back_is = c.split_at_mut-before.ensures.back;
    }) _ c.number-modulus.ensures

pub invariant_of-self : goal.invariant_of-self
invariant_of-self c =
    (added _ _ _ c.args.start (c.args.start + c.args.index) _ _ _ _ _ _ _
    (record {
      held = c.self.invariant;
      view_is = ap (λ (t : ByteEntries). t.entries) c.self.view_is;
      within = c.requires.within;
      earlier = omega (arith, c.requires.some);
      same = c.deref_mut.ensures.value;
      source_is = c.start_of-from.ensures.start;
      start_is = c.start_of-to.ensures.start;
      room = c.start_of-to.ensures.end;
      front_is = c.split_at_mut-before.ensures.front;
      back_is = c.split_at_mut-before.ensures.back;
    })
    _ _ _ c.self.inside.bytes.ok.0 c.number-modulus.ensures (byte_prime-positive c.self.inside.prime) c.add_scaled_bytes.ensures.sum).held

pub returns-clause-sum : goal.returns-clause-sum
returns-clause-sum c =
    (added _ _ _ c.args.start (c.args.start + c.args.index) _ _ _ _ _ _ _
    (record {
      held = c.self.invariant;
      view_is = ap (λ (t : ByteEntries). t.entries) c.self.view_is;
      within = c.requires.within;
      earlier = omega (arith, c.requires.some);
      same = c.deref_mut.ensures.value;
      source_is = c.start_of-from.ensures.start;
      start_is = c.start_of-to.ensures.start;
      room = c.start_of-to.ensures.end;
      front_is = c.split_at_mut-before.ensures.front;
      back_is = c.split_at_mut-before.ensures.back;
    })
    _ _ _ c.self.inside.bytes.ok.0 c.number-modulus.ensures (byte_prime-positive c.self.inside.prime) c.add_scaled_bytes.ensures.sum).entries
    ∙ ap (λ q. set c.args.self.now.entries (c.args.start + c.args.index)
    (digits_with_multiple (byte_prime q) (get_or c.args.self.now.entries (c.args.start + c.args.index) []) 1
    (get_or c.args.self.now.entries c.args.start []))) (ap (λ (t : ByteEntries). t.prime) c.self.view_is)
