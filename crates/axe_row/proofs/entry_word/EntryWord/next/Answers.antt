use Rattle.std.proofs.Common.{◌<◌, arith}
use Rattle.axe_row.proofs.EntryWordLaws.{none_found, none_left, support_at_place}
use Rattle.axe_row.proofs.entry_word.EntryWord.next.Goals as goal

pub returns-then-place-ge-WORD : goal.returns-then-place-ge-WORD
returns-then-place-ge-WORD c = none_found c.args.self.now c.args.place c.support-support.ensures.long c.if-place-ge-WORD.true

pub returns-in_default : goal.returns-in_default
returns-in_default c =
    let inside : c.args.place < 64 = omega (arith, c.if-place-ge-WORD.false) in
    none_left c.args.self.now c.args.place c.support-support.ensures.long
    (c.in_default.ensures c.args.self.now (support_at_place c.args.self.now c.args.place _ inside c.support-support.ensures.support))

pub entry-requires : goal.entry-requires
entry-requires c =
    let inside : c.args.place < 64 = omega (arith, c.if-place-ge-WORD.false) in
    let next = c.in-Some.ensures c.args.self.now (support_at_place c.args.self.now c.args.place _ inside c.support-support.ensures.support) in
    omega (arith, next.within, c.support-support.ensures.long)

pub returns : goal.returns
returns c =
    let inside : c.args.place < 64 = omega (arith, c.if-place-ge-WORD.false) in
    record {
      next = c.in-Some.ensures c.args.self.now (support_at_place c.args.self.now c.args.place _ inside c.support-support.ensures.support);
      entry_is = c.entry.ensures;
    }
