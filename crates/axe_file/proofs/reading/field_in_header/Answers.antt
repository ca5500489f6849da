use Rattle.std.proofs.Common.{get_or, refl, sym, ◌∙◌, arith}
use Rattle.axe_file.specs.Packed.{order_offset}
use Rattle.axe_file.proofs.Checks.{short_header, bad_magic, bad_field, no_order, named_order, order_named}
use Rattle.axe_file.proofs.Soundness.{beginning_is_sound}
use Rattle.axe_file.proofs.Magic.{magic_found, magic_missed}
use Rattle.axe_file.proofs.reading.field_in_header.Goals as goal

pub returns-then-bytes-lt-HEADER_LENGTH-clause-fault : goal.returns-then-bytes-lt-HEADER_LENGTH-clause-fault
returns-then-bytes-lt-HEADER_LENGTH-clause-fault c = short_header c.args.magic.now c.args.bytes.now c.if-bytes-lt-HEADER_LENGTH.true

pub returns-then-not-starts_with-clause-fault : goal.returns-then-not-starts_with-clause-fault
returns-then-not-starts_with-clause-fault c =
    let missed = magic_missed c.args.magic.now c.args.bytes.now (omega arith) (omega arith) (sym c.starts_with.ensures.value ∙ c.if-not-starts_with.true) in
    bad_magic c.args.magic.now c.args.bytes.now c.if-bytes-lt-HEADER_LENGTH.false missed

pub returns-in_default-clause-fault : goal.returns-in_default-clause-fault
returns-in_default-clause-fault c =
    let found = magic_found c.args.magic.now c.args.bytes.now (omega arith) (sym c.starts_with.ensures.value ∙ c.if-not-starts_with.false) in
    bad_field c.args.magic.now c.args.bytes.now c.if-bytes-lt-HEADER_LENGTH.false found
    (no_order (get_or c.args.bytes.now order_offset 0) c.in_default.ensures.err)

pub returns-clause-faultless : goal.returns-clause-faultless
returns-clause-faultless c =
    beginning_is_sound c.args.magic.now c.args.bytes.now (record {
      long = c.if-bytes-lt-HEADER_LENGTH.false;
      magic_is = magic_found c.args.magic.now c.args.bytes.now (omega arith) (sym c.starts_with.ensures.value ∙ c.if-not-starts_with.false);
      field = rw (named_order c.args.bytes.now c.in-Ok.field c.in-Ok.ensures.ok) refl;
    })

pub returns-clause-names : goal.returns-clause-names
returns-clause-names c = order_named c.args.bytes.now c.in-Ok.field c.in-Ok.ensures.ok
