use Rattle.std.proofs.Common.{sym, ap, subst}
use Rattle.axe_matrix.specs.PieceTables.{AreTablesFor}
use Rattle.axe_matrix.specs.declared.products.FourTables.{FourTables}
use Rattle.axe_matrix.proofs.products.FourTables.new.Goals as goal

pub returns-in-Ok-clause-size : goal.returns-in-Ok-clause-size
returns-in-Ok-clause-size c = ap (λ (tables : FourTables). tables.size) c.of_pairs.ensures.tables

pub returns-in-Ok-clause-tables : goal.returns-in-Ok-clause-tables
returns-in-Ok-clause-tables c =
    subst (AreTablesFor c.args.field c.args.len) (sym c.of_pairs.ensures.tables)
    (record {
      some = c.requires.some;
      first = c.in_ok-front.ensures.first;
      second = c.in_ok-front.ensures.second;
      third = c.in-Ok.ensures.first;
      fourth = c.in-Ok.ensures.second;
    })
