use Rattle.std.proofs.Common.{rules, Fits, w64, ◌≡◌, ◌+◌, ◌*◌, ◌-◌, ◌<◌, ◌++◌, List, ℕ, [], length, get_or, set, take, drop, ap, ap₂, subst, sym, ◌∙◌, arith, bit_xor}
use Rattle.std.specs.Simd.Lanes.{chunk, put_chunk, zip2}
use Rattle.std.proofs.lemmas.Simd.{length-zip2}
use Rattle.axe_layer.specs.Bits.{HoldsBits}
use Rattle.axe_layer.specs.Digits.{digits_with_multiple}
use Rattle.axe_bits.specs.FlatTables.{bit_entries, HoldsEntries}
use Rattle.axe_layer.proofs.BitLaws.{bits-xor, HoldsBits-xor}
use Rattle.axe_bits.proofs.EarlierEntries.{IsCut, earlier_piece}
use Rattle.axe_bits.proofs.PieceLaws.{written_after}
use Rattle.axe_bits.proofs.TableLaws.{bit_index, bit_entry-at, bit_entries-after, entries_held}
use Rattle.axe_bits.proofs.bit_table.BitTable.put_entry_sum.Goals as goal

pub start_of-one-requires-clause-within : goal.start_of-one-requires-clause-within
start_of-one-requires-clause-within c =
    omega (arith, bit_index _ _ _ _ _ _ c.self.view_is c.requires.within)

pub start_of-other-requires-clause-within : goal.start_of-other-requires-clause-within
start_of-other-requires-clause-within c =
    omega (arith, bit_index _ _ _ _ _ _ c.self.view_is c.requires.within, c.requires.some)

pub overflow_add-start : goal.overflow_add-start
overflow_add-start c =
    let counted : Fits w64 c.self.inside.count = search rules in
    omega (arith, bit_index _ _ _ _ _ _ c.self.view_is c.requires.within, counted)

pub start_of-to-requires-clause-within : goal.start_of-to-requires-clause-within
start_of-to-requires-clause-within c = bit_index _ _ _ _ _ _ c.self.view_is c.requires.within

-- the table's words after an entry became the sum of two earlier ones
record IsPutSum (n w count first second to : ℕ) (words new : List ℕ) (self : List (List ℕ)) : Type 0 where
  held : HoldsEntries n w count new
  entries : bit_entries n w count new
      ≡ set self to (digits_with_multiple 2 (get_or self first []) 1 (get_or self second []))

put_sum : (n w count first second to one other start k : ℕ) (words v front back dst : List ℕ) (self : List (List ℕ)) →
    IsCut n w count first to one start k words v front back self → IsCut n w count second to other start k words v front back self →
    dst ≡ zip2 bit_xor (take (one + w - one) (drop one front)) (take (other + w - other) (drop other front)) →
    IsPutSum n w count first second to words
    (take k ((front ++ (dst ++ drop w back)) ++ drop (length (front ++ (dst ++ drop w back))) words)) self
put_sum n w count first second to one other start k words v front back dst self a b e =
    subst (λ (new : List ℕ). IsPutSum n w count first second to words new self) (sym after) (record {
      held = entries_held n w count to words sum below a.held (HoldsBits-xor n _ _ mine its);
      entries =
          bit_entries-after n w count to words sum below a.held (HoldsBits-xor n _ _ mine its)
          ∙ ap (set (bit_entries n w count words) to)
          (bits-xor n _ _ mine its
          ∙ ap₂ (λ (x y : List ℕ). digits_with_multiple 2 x 1 y) (sym (bit_entry-at n w count words first (omega (arith, below, a.earlier))))
          (sym (bit_entry-at n w count words second (omega (arith, below, b.earlier)))))
          ∙ ap (λ (s : List (List ℕ)). set s to (digits_with_multiple 2 (get_or s first []) 1 (get_or s second []))) a.view_is;
    })
  where
    below : to < count
    below = bit_index n w count to words self a.view_is a.within

    mine : HoldsBits n (chunk (first * w) w words)
    mine = a.held.held first (omega (arith, below, a.earlier))

    its : HoldsBits n (chunk (second * w) w words)
    its = a.held.held second (omega (arith, below, b.earlier))

    sum : List ℕ
    sum = zip2 bit_xor (chunk (first * w) w words) (chunk (second * w) w words)

    new : dst ≡ sum
    new =
        e ∙ ap₂ (zip2 bit_xor) (earlier_piece n w count first to one start k words v front back self a)
        (earlier_piece n w count second to other start k words v front back self b)

    long : length dst ≡ w
    long =
        ap length new ∙ length-zip2 bit_xor (chunk (first * w) w words) (chunk (second * w) w words) (mine.long ∙ sym its.long)
        ∙ mine.long ∙ sym a.held.wide

    after : take k ((front ++ (dst ++ drop w back)) ++ drop (length (front ++ (dst ++ drop w back))) words)
        ≡ put_chunk (to * w) words sum
    after =
        written_after k start w v words front back dst a.same a.all a.front_is a.back_is (omega (arith, a.room, a.held.long)) long
        ∙ ap (λ s. put_chunk s words dst) a.start_is ∙ ap (put_chunk (to * w) words) new

pub invariant_of-self : goal.invariant_of-self
invariant_of-self c =
    (put_sum _ _ _ c.args.index c.args.start (c.args.start + c.args.index) _ _ _ _ _ _ _ _ _ _
    (record {
      held = c.self.invariant;
      view_is = c.self.view_is;
      within = c.requires.within;
      earlier = omega (arith, c.requires.earlier);
      same = c.deref_mut.ensures.value;
      all = c.self.inside.words.ok.0;
      source_is = c.start_of-one.ensures.start;
      start_is = c.start_of-to.ensures.start;
      room = c.start_of-to.ensures.end;
      front_is = c.split_at_mut-before.ensures.front;
      back_is = c.split_at_mut-before.ensures.back;
    })
    (record {
      held = c.self.invariant;
      view_is = c.self.view_is;
      within = c.requires.within;
      earlier = omega (arith, c.requires.some);
      same = c.deref_mut.ensures.value;
      all = c.self.inside.words.ok.0;
      source_is = c.start_of-other.ensures.start;
      start_is = c.start_of-to.ensures.start;
      room = c.start_of-to.ensures.end;
      front_is = c.split_at_mut-before.ensures.front;
      back_is = c.split_at_mut-before.ensures.back;
    }) c.put_xor.ensures).held

pub returns : goal.returns
returns c =
    (put_sum _ _ _ c.args.index c.args.start (c.args.start + c.args.index) _ _ _ _ _ _ _ _ _ _
    (record {
      held = c.self.invariant;
      view_is = c.self.view_is;
      within = c.requires.within;
      earlier = omega (arith, c.requires.earlier);
      same = c.deref_mut.ensures.value;
      all = c.self.inside.words.ok.0;
      source_is = c.start_of-one.ensures.start;
      start_is = c.start_of-to.ensures.start;
      room = c.start_of-to.ensures.end;
      front_is = c.split_at_mut-before.ensures.front;
      back_is = c.split_at_mut-before.ensures.back;
    })
    (record {
      held = c.self.invariant;
      view_is = c.self.view_is;
      within = c.requires.within;
      earlier = omega (arith, c.requires.some);
      same = c.deref_mut.ensures.value;
      all = c.self.inside.words.ok.0;
      source_is = c.start_of-other.ensures.start;
      start_is = c.start_of-to.ensures.start;
      room = c.start_of-to.ensures.end;
      front_is = c.split_at_mut-before.ensures.front;
      back_is = c.split_at_mut-before.ensures.back;
    }) c.put_xor.ensures).entries
