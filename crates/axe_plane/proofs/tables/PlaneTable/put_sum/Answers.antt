use Rattle.std.proofs.Common.{◌≡◌, ◌<◌, [], length, get_or, set, subst, sym, ◌∙◌, rules}
use Rattle.axe_layer.specs.Digits.{digits_with_multiple}
use Rattle.axe_plane.specs.Planes.{digits_of}
use Rattle.axe_plane.specs.Tables.{entries_of_table, prime_of_table, IsTable}
use Rattle.axe_plane.specs.declared.tables.PlaneTable.{PlaneTable}
use Rattle.axe_plane.proofs.TableLaws.{written_more}
use Rattle.axe_plane.proofs.tables.PlaneTable.put_sum.Goals.{in_default-via-in-Bits-Bits+else-factor-ne0, in_default-via-in-Bits+in_default, in_default-via-in_default}
use Rattle.axe_plane.proofs.tables.PlaneTable.put_sum.Goals as goal

pub returns-in_default : goal.returns-in_default
returns-in_default c =
    let table : PlaneTable = c.in_default.self in
    let same : table ≡ c.args.self.now = elim c.in_default.branch [
      | in_default-via-in-Bits-Bits+else-factor-ne0 w ↦ w.self-is ∙ sym w.in-Bits-Bits.is-0
      | in_default-via-in-Bits+in_default w ↦ w.self-is ∙ sym w.in_default.is-0
      | in_default-via-in_default w ↦ w.self-is
    ] in
    let within : c.args.to < length (entries_of_table table) =
    subst (λ (t : PlaneTable). c.args.to < length (entries_of_table t)) (sym same) c.requires.to in
    let sum : PlaneTable → Type 0 = λ t.
    IsTable (prime_of_table t) (set (entries_of_table t) c.args.to (digits_with_multiple (prime_of_table t) (get_or (entries_of_table t) c.args.from [])
    c.args.factor (digits_of c.args.plane.now))) c.add_to_entry.new.self in
    subst sum same
    (written_more (prime_of_table table) c.args.to c.args.factor (entries_of_table table) (get_or (entries_of_table table) c.args.from [])
    (digits_of c.args.plane.now) _ _ within c.copy_entry.ensures c.add_to_entry.ensures)

pub put_sum-requires-clause-fits : goal.put_sum-requires-clause-fits
put_sum-requires-clause-fits c =
    rw (c.in-Bits-Bits.is-0, c.in-Bits-Bits.is-1) at (c.requires.fits c.if-factor-ne0.true)

pub returns-in-Bits-Bits : goal.returns-in-Bits-Bits
returns-in-Bits-Bits c = search rules

pub add_to_entry-requires-clause-factor : goal.add_to_entry-requires-clause-factor
add_to_entry-requires-clause-factor c = search rules
