-- The next line of a constituent: what its reader says.
use Rattle.std.proofs.Common.{◌≡◌, ◌≢◌, ℕ, ◌+◌, ◌-◌, ◌*◌, ◌/◌, ◌^◌, ◌<◌, ◌≤◌, List, [], ◌∷◌, ◌++◌, decimal, codes, refl, sym, ap, ap₂, ◌∙◌, append_assoc, append-nil, le-div_iff_mul-le, mul_comm, arith}
use Rattle.std.specs.List.{flat_map}
use Rattle.std.proofs.lemmas.List.Elements.{All-push}
use Rattle.axe_report.specs.Fronts.{is_digit, Stops}
use Rattle.axe_report.specs.Limits.{most_dimension}
use Rattle.axe_report.specs.Names.{letters, constituent_name, count_of}
use Rattle.axe_report.specs.Reports.{FactorValue, dims, total_dim, AreFactors, IsFactorAfter, IsWitnessed, AreWitnessed}
use Rattle.axe_report.specs.Spelling.{witness_bytes, factor_line, factor_start}
use Rattle.axe_report.specs.declared.report.ReportHeader.{ReportHeader}
use Rattle.axe_report.proofs.Numerals.{letters_stop, setting_unique}
use Rattle.axe_report.proofs.Plain.{product_most, total_append, total_none, total_one, no_factors, factors_push}
use Rattle.axe_report.proofs.Unique.{factor_open}
use Rattle.axe_report.proofs.WitnessLaws.{witness_stops, none_witnessed}

start_shape : (a b : List ℕ) → codes "factor " ++ (a ++ (codes " dim=" ++ (b ++ codes " mult="))) ≡ codes "factor " ++ a ++ codes " dim=" ++ b ++ codes " mult="
start_shape a b = simp append_assoc

pub start_written : (name : List ℕ) (dim : ℕ) → codes "factor " ++ (name ++ (codes " dim=" ++ (decimal dim ++ codes " mult="))) ≡ factor_start name dim
unfolding factor_start
start_written name dim = start_shape name (decimal dim)

-- the line begins with the dimension, after which come letters
pub dim_first : (f : FactorValue) (k : ℕ) (rest : List ℕ) → f.name ≡ constituent_name f.dim k
    → factor_line f ++ rest ≡ codes "factor " ++ (decimal f.dim ++ (letters k ++ (codes " dim=" ++ (decimal f.dim ++ (codes " mult=" ++ (decimal f.multiplicity ++ (witness_bytes f.witness ++ (10 ∷ rest))))))))
unfolding constituent_name
dim_first f k rest e =
    factor_open f rest
    ∙ ap (λ (n : List ℕ). codes "factor " ++ (n ++ (codes " dim=" ++ (decimal f.dim ++ (codes " mult=" ++ (decimal f.multiplicity ++ (witness_bytes f.witness ++ (10 ∷ rest)))))))) e
    ∙ ap (λ (l : List ℕ). codes "factor " ++ l) (append_assoc (decimal f.dim) (letters k) (codes " dim=" ++ (decimal f.dim ++ (codes " mult=" ++ (decimal f.multiplicity ++ (witness_bytes f.witness ++ (10 ∷ rest)))))))

-- the line begins with its start, after which comes the multiplicity
pub multiplicity_next : (f : FactorValue) (rest : List ℕ) → factor_line f ++ rest ≡ factor_start f.name f.dim ++ (decimal f.multiplicity ++ (witness_bytes f.witness ++ (10 ∷ rest)))
unfolding factor_line factor_start
multiplicity_next f rest = simp append_assoc

below_quotient : (m d room : ℕ) → 1 ≤ d → m * d ≤ room → m ≤ room / d
below_quotient m d room some le =
    let positive : 0 < d = omega arith in
    (le-div_iff_mul-le positive).1 le

below_product : (m d room : ℕ) → 1 ≤ d → m ≤ room / d → d * m ≤ room
below_product m d room some le =
    let positive : 0 < d = omega arith in
    let swapped : d * m ≡ m * d = mul_comm d m in
    rw swapped ((le-div_iff_mul-le positive).0 le)

flat_map_push : (fs : List FactorValue) (f : FactorValue) → flat_map factor_line (fs ++ f ∷ []) ≡ flat_map factor_line fs ++ factor_line f
flat_map_push [] f = append-nil (factor_line f)
flat_map_push (g ∷ fs) f = ap (λ (l : List ℕ). factor_line g ++ l) (flat_map_push fs f) ∙ sym (append_assoc (factor_line g) (flat_map factor_line fs) (factor_line f))

-- what the numbers of a next constituent keep to
pub record Fits (earlier : List FactorValue) (room : ℕ) (f : FactorValue) : Type 0 where
  pub dim : f.dim ≤ room
  pub multiplicity : f.multiplicity ≤ room / f.dim
  pub most : f.multiplicity ≤ room

pub fits_from : (earlier : List FactorValue) (room : ℕ) (f : FactorValue) → IsFactorAfter (total_dim earlier + room) earlier f → Fits earlier room f
fits_from earlier room f h =
    let product : f.dim * f.multiplicity ≤ room = omega (arith, h.fits) in
    let swapped : f.multiplicity * f.dim ≡ f.dim * f.multiplicity = grind arith in
    let a = product_most f.multiplicity f.dim h.some_multiplicity in
    let b = product_most f.dim f.multiplicity h.some_dim in
    record { dim = omega arith; multiplicity = below_quotient f.multiplicity f.dim room h.some_dim (omega arith); most = omega arith }

-- no number is there, so no line
pub no_dim : (text : List ℕ) (earlier : List FactorValue) (room : ℕ) (f : FactorValue) (rest : List ℕ) → room ≤ most_dimension
    → ((n : ℕ) (x : List ℕ) → n < 2 ^ 64 → Stops is_digit x → text ≢ codes "factor " ++ (decimal n ++ x)) → IsFactorAfter (total_dim earlier + room) earlier f → text ≢ factor_line f ++ rest
no_dim text earlier room f rest small none h e =
    let fits = fits_from earlier room f h in
    none f.dim _ (omega (arith, fits.dim)) (letters_stop (count_of f.dim (dims earlier)) _) (e ∙ dim_first f (count_of f.dim (dims earlier)) rest h.name)

-- the number that is there is the dimension
pub dim_is : (text left : List ℕ) (earlier : List FactorValue) (room d : ℕ) (f : FactorValue) (rest : List ℕ) → room ≤ most_dimension → d < 2 ^ 64 → text ≡ codes "factor " ++ (decimal d ++ left) → Stops is_digit left
    → IsFactorAfter (total_dim earlier + room) earlier f → text ≡ factor_line f ++ rest → d ≡ f.dim
dim_is text left earlier room d f rest small fit there stops h e =
    let fits = fits_from earlier room f h in
    (setting_unique (codes "factor ") text d f.dim left _ fit (omega (arith, fits.dim)) stops (letters_stop (count_of f.dim (dims earlier)) _) there (e ∙ dim_first f (count_of f.dim (dims earlier)) rest h.name)).0

-- the start that is written is that of the line
pub start_is : (text start name : List ℕ) (earlier : List FactorValue) (room d : ℕ) (f : FactorValue) (rest : List ℕ) → d ≡ f.dim → name ≡ constituent_name d (count_of d (dims earlier)) → start ≡ factor_start name d
    → IsFactorAfter (total_dim earlier + room) earlier f → text ≡ factor_line f ++ rest → text ≡ start ++ (decimal f.multiplicity ++ (witness_bytes f.witness ++ (10 ∷ rest)))
start_is text start name earlier room d f rest same n s h e =
    let named : name ≡ f.name = n ∙ ap (λ (k : ℕ). constituent_name k (count_of k (dims earlier))) same ∙ sym h.name in
    e ∙ multiplicity_next f rest ∙ ap (λ (l : List ℕ). l ++ (decimal f.multiplicity ++ (witness_bytes f.witness ++ (10 ∷ rest)))) (sym (s ∙ ap₂ (λ (a : List ℕ) (k : ℕ). factor_start a k) named same))

-- the number after it is the multiplicity
pub multiplicity_is : (text start left : List ℕ) (m : ℕ) (earlier : List FactorValue) (room : ℕ) (f : FactorValue) (rest : List ℕ) → room ≤ most_dimension → m < 2 ^ 64 → text ≡ start ++ (decimal m ++ left) → Stops is_digit left
    → IsFactorAfter (total_dim earlier + room) earlier f → text ≡ start ++ (decimal f.multiplicity ++ (witness_bytes f.witness ++ (10 ∷ rest))) → (m ≡ f.multiplicity) × (left ≡ witness_bytes f.witness ++ (10 ∷ rest))
multiplicity_is text start left m earlier room f rest small fit there stops h e =
    let fits = fits_from earlier room f h in
    setting_unique start text m f.multiplicity left (witness_bytes f.witness ++ (10 ∷ rest)) fit (omega (arith, fits.most)) stops (witness_stops f.witness rest) there e

-- a whole line is there
pub line_there : (text start left rest : List ℕ) (earlier : List FactorValue) (room : ℕ) (f : FactorValue) → start ≡ factor_start f.name f.dim → text ≡ start ++ (decimal f.multiplicity ++ left) → left ≡ witness_bytes f.witness ++ (10 ∷ rest)
    → text ≡ factor_line f ++ rest
line_there text start left rest earlier room f s there l =
    there ∙ ap₂ (λ (a : List ℕ) (b : List ℕ). a ++ (decimal f.multiplicity ++ b)) s l ∙ sym (multiplicity_next f rest)

pub next_there : (earlier : List FactorValue) (room : ℕ) (f : FactorValue) → f.name ≡ constituent_name f.dim (count_of f.dim (dims earlier)) → 1 ≤ f.dim → 1 ≤ f.multiplicity → f.multiplicity ≤ room / f.dim
    → IsFactorAfter (total_dim earlier + room) earlier f
next_there earlier room f n d m le =
    let product = below_product f.multiplicity f.dim room d le in
    record { name = n; some_dim = d; some_multiplicity = m; fits = omega (arith, product) }

-- ---- the loop

pub lines_more : (fs : List FactorValue) (f : FactorValue) (text rest next : List ℕ) → text ≡ flat_map factor_line fs ++ rest → rest ≡ factor_line f ++ next → text ≡ flat_map factor_line (fs ++ f ∷ []) ++ next
lines_more fs f text rest next a b =
    a ∙ ap (λ (l : List ℕ). flat_map factor_line fs ++ l) b ∙ sym (append_assoc (flat_map factor_line fs) (factor_line f) next) ∙ ap (λ (l : List ℕ). l ++ next) (sym (flat_map_push fs f))

-- the state of the reader: some lines are read, and so much of the dimension is left
pub record LinesRead (text : List ℕ) (header : ReportHeader) (fs : List FactorValue) (rest : List ℕ) (room : ℕ) : Type 0 where
  pub factors : AreFactors header.dim fs
  pub witnessed : AreWitnessed header fs
  pub sum : room + total_dim fs ≡ header.dim
  pub read : text ≡ flat_map factor_line fs ++ rest

pub lines_read_more : (text : List ℕ) (header : ReportHeader) (fs gs : List FactorValue) (f : FactorValue) (rest next : List ℕ) (room left : ℕ) → LinesRead text header fs rest room → IsFactorAfter (total_dim fs + room) fs f → IsWitnessed header f
    → rest ≡ factor_line f ++ next → gs ≡ fs ++ f ∷ [] → left ≡ room - f.dim * f.multiplicity → LinesRead text header gs next left
lines_read_more text header fs gs f rest next room left h a seen b g l =
    let whole : total_dim fs + room ≡ header.dim = omega (arith, h.sum) in
    let after : IsFactorAfter header.dim fs f = rw whole at a in
    let total : total_dim (fs ++ f ∷ []) ≡ total_dim fs + f.dim * f.multiplicity = total_append fs (f ∷ []) ∙ ap (λ (n : ℕ). total_dim fs + n) (total_one f) in
    rw g (record { factors = factors_push header.dim fs f h.factors after; witnessed = All-push (IsWitnessed header) fs f h.witnessed seen; sum = omega (arith, h.sum, a.fits, total, l); read = lines_more fs f text rest next h.read b })

pub lines_begun : (text : List ℕ) (header : ReportHeader) (fs : List FactorValue) → fs ≡ [] → LinesRead text header fs text header.dim
lines_begun text header fs e =
    let none = total_none in
    rw e (record { factors = no_factors header.dim; witnessed = none_witnessed header; sum = omega (arith, none); read = refl })
