-- Rows that are added to a row, by their planes.
use Rattle.std.proofs.Common.{◌≡◌, ℕ, sym, ap, ◌∙◌}
use Rattle.axe_field.specs.Order.{Order}
use Rattle.axe_plane.specs.Addends.{IsAddend}
use Rattle.axe_plane.specs.Planes.{IsPlaneOf}
use Rattle.axe_plane.specs.declared.Plane.{Plane}
use Rattle.axe_row.specs.Addends.{IsRowAddend}
use Rattle.axe_row.specs.Planes.{ArePlanes}
use Rattle.axe_row.specs.Rows.{RowValue}
use Rattle.axe_row.proofs.RowPlanes.{entries_of, along_order, length_of_row}
use Rattle.axe_row.proofs.TableSums.{IsRowOf}

-- the planes of the other row are of the first one's kind
pub row_added_to : {o r : Order} {n m : ℕ} {c l q c' l' q' : Plane} {self other : RowValue} →
    IsRowOf o n c l q self → ArePlanes r m c' l' q' → record { order = r; entries = entries_of r c' l' q' } ≡ other →
    IsRowAddend self other → IsRowOf o n c' l' q' other
row_added_to {o} {r} {n} {m} {c} {l} {q} {c'} {l'} {q'} {self} {other} row planes is h = record {
  planes = along_order o r n m c' l' q' same fits planes;
  is = ap (λ s. record { order = s; entries = entries_of s c' l' q' }) (sym same) ∙ is;
}
  where
    same : r ≡ o
    same = ap (λ (s : RowValue). s.order) is ∙ h.field ∙ sym (ap (λ (s : RowValue). s.order) row.is)

    fits : m ≡ n
    fits =
        sym (length_of_row r c' l' q' other is ∙ planes.constant.long) ∙ h.fits
        ∙ length_of_row o c l q self row.is ∙ row.planes.constant.long

-- two planes of one prime and one length
pub plane_added_to : {p n : ℕ} {plane other : Plane} → IsPlaneOf p n plane → IsPlaneOf p n other → IsAddend plane other
plane_added_to h h' = record { prime = h'.prime ∙ sym h.prime; fits = h'.long ∙ sym h.long }

-- what the planes may be given
pub constant_added_to : {o : Order} {n : ℕ} {c l q c' l' q' : Plane} {self other : RowValue} →
    IsRowOf o n c l q self → IsRowOf o n c' l' q' other → IsAddend c c'
constant_added_to h h' = plane_added_to h.planes.constant h'.planes.constant

pub linear_added_to : {o : Order} {n : ℕ} {c l q c' l' q' : Plane} {self other : RowValue} →
    IsRowOf o n c l q self → IsRowOf o n c' l' q' other → IsAddend l l'
linear_added_to h h' = plane_added_to h.planes.linear h'.planes.linear

pub quadratic_added_to : {o : Order} {n : ℕ} {c l q c' l' q' : Plane} {self other : RowValue} →
    IsRowOf o n c l q self → IsRowOf o n c' l' q' other → IsAddend q q'
quadratic_added_to h h' = plane_added_to h.planes.quadratic h'.planes.quadratic
