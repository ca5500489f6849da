-- The spelling of a module has no fault and gives the module back, and bytes without fault are the spelling of a module.
use Rattle.std.proofs.Common.{◌≡◌, ◌≢◌, ℕ, ◌+◌, ◌*◌, ◌<◌, ◌≤◌, true, false, List, [], ◌∷◌, ◌++◌, length, drop, get_or, All, Option, Some, None, Result, refl, sym, ap, ◌∙◌, subst, arith}
use Rattle.std.specs.List.{flat_map}
use Rattle.std.proofs.lemmas.List.{length-append}
use Rattle.std.proofs.lemmas.List.Elements.{All-head}
use Rattle.std.proofs.lemmas.Nat.{mul-le}
use Rattle.axe_algebra.specs.Lists.{listed, table}
use Rattle.axe_algebra.proofs.ListEntries.{listed_length}
use Rattle.axe_field.specs.Order.{Order}
use Rattle.axe_matrix.specs.Matrices.{MatrixValue}
use Rattle.axe_matrix.specs.Limits.{most_rows}
use Rattle.axe_file.specs.Limits.{most_module_bytes, most_generators}
use Rattle.axe_file.specs.Marks.{bytes_per_row}
use Rattle.axe_file.specs.Packed.{matrix_magic, header_length, packed, packed_header, packed_row, packed_rows, packed_fault, header_order, data_length, mark_at, data_faults, has_other_magic}
use Rattle.axe_file.specs.PackedModules.{module_magic, IsGenerator, first_order, first_columns, AreGenerators, module_header, packed_module, header_generators, header_dimension, generator_at, unpacked_module, module_header_faults, module_fault}
use Rattle.axe_file.specs.Headers.{SaysModule}
use Rattle.axe_file.specs.Answers.{AnswersFile}
use Rattle.axe_file.specs.declared.fault.FileFault.{FileFault}
use Rattle.axe_file.specs.declared.fault.FileFault.TheVariants.{BadMagic}
use Rattle.axe_file.proofs.Lists.{length-pieces}
use Rattle.axe_file.proofs.Bytes.{length-packed_row}
use Rattle.axe_file.proofs.Fours.{bytes_fit}
use Rattle.axe_file.proofs.RowBytes.{HasRows, rows_after, rows_again}
use Rattle.axe_file.proofs.Ranges.{both_nil, no_first}
use Rattle.axe_file.proofs.Soundness.{IsSoundData, sound_data, data_is_sound}
use Rattle.axe_file.proofs.Spellings.{rows_sound_at}
use Rattle.axe_file.proofs.Respelling.{data_again}
use Rattle.axe_file.proofs.Scans.{most_data, data_fits}
use Rattle.axe_file.specs.declared.layout.Layout.{Layout}
use Rattle.axe_file.proofs.ModuleLayouts.{all_faults}
use Rattle.axe_file.proofs.ModuleHeaders.{length-module_header, module_header_says, IsModuleHeader, module_header_sound, sound_module_header, module_header_is_sound, fault_in_module_beginning, module_header_again}
use Rattle.axe_file.proofs.Generators.{rows_of_all, length-rows_of_all, rows_of_generators, bytes_of_all, same_generators, rows_read, are_generators}
use Rattle.axe_file.proofs.Checks.{First, first_stays, bad_magic, fault_in_beginning, fault_in_header}
use Rattle.axe_file.proofs.Headers.{header_has_magic}
use Rattle.axe_file.proofs.Unpacking.{length-packed}

-- ---- generators

-- the first is one of them
pub first_generator : (matrices : List MatrixValue) → AreGenerators matrices → (1 ≤ first_columns matrices) × (first_columns matrices ≤ most_rows)
first_generator [] h = absurd (omega (arith, h.some))
first_generator (m ∷ rest) h =
    let first = All-head (IsGenerator m.order m.cols) m rest h.each in
    (first.well_formed.some_column, first.well_formed.columns_fit)

-- what is one of them first
pub first_is : (matrices : List MatrixValue) (first : MatrixValue) → 1 ≤ length matrices → first ≡ get_or matrices 0 first
    → (first_order matrices ≡ first.order) × (first_columns matrices ≡ first.cols)
first_is [] first some e = absurd (omega arith)
first_is (m ∷ rest) first some e = (ap (λ (x : MatrixValue). x.order) (sym e), ap (λ (x : MatrixValue). x.cols) (sym e))

-- ---- a spelling

pub packed_module_says : (matrices : List MatrixValue) → AreGenerators matrices
    → SaysModule (packed_module matrices) (first_order matrices) (length matrices) (first_columns matrices)
unfolding packed_module
packed_module_says matrices h =
    module_header_says (first_order matrices) (length matrices) (first_columns matrices) (flat_map packed_rows matrices) (first_generator matrices h).1

module_has_rows : (matrices : List MatrixValue) → AreGenerators matrices
    → HasRows (first_order matrices) (first_columns matrices) (rows_of_all matrices) (packed_module matrices) header_length
unfolding packed_module
module_has_rows matrices h =
    let o = first_order matrices in
    let n = first_columns matrices in
    let header = module_header o (length matrices) n in
    subst (λ bytes. HasRows o n (rows_of_all matrices) (header ++ bytes) header_length) (sym (bytes_of_all o n matrices h.each))
    (rows_after o n (rows_of_all matrices) header header_length (length-module_header o (length matrices) n))

pub length-packed_module : (matrices : List MatrixValue) → AreGenerators matrices
    → length (packed_module matrices) ≡ header_length + data_length (first_order matrices) (length matrices * first_columns matrices) (first_columns matrices)
unfolding packed_module data_length
length-packed_module matrices h =
    let o = first_order matrices in
    let n = first_columns matrices in
    let header = module_header o (length matrices) n in
    let all : length (flat_map packed_rows matrices) ≡ length matrices * n * bytes_per_row o n =
    ap (λ (bytes : List ℕ). length bytes) (bytes_of_all o n matrices h.each)
    ∙ length-pieces (packed_row o n) (bytes_per_row o n) (length-packed_row o n) (rows_of_all matrices)
    ∙ ap (λ (k : ℕ). k * bytes_per_row o n) (length-rows_of_all o n matrices h.each) in
    length-append header (flat_map packed_rows matrices) ∙ (λ i. length-module_header o (length matrices) n i + all i)

packed_module_data : (matrices : List MatrixValue) → AreGenerators matrices
    → IsSoundData (first_order matrices) (length matrices * first_columns matrices) (first_columns matrices) (packed_module matrices) header_length
packed_module_data matrices h =
    let o = first_order matrices in
    let n = first_columns matrices in
    let count = length-rows_of_all o n matrices h.each in
    record {
      whole = length-packed_module matrices h;
      sound_at = λ p lt. rows_sound_at o n (rows_of_all matrices) (packed_module matrices) header_length (rows_of_generators o n matrices h.each)
          (module_has_rows matrices h) p
          (subst (λ k. p < data_length o k n) (sym count) lt);
    }

packed_module_header : (matrices : List MatrixValue) → AreGenerators matrices → IsModuleHeader (packed_module matrices)
unfolding packed_module
packed_module_header matrices h =
    let first = first_generator matrices h in
    module_header_sound (first_order matrices) (length matrices) (first_columns matrices) (flat_map packed_rows matrices) h.some h.few first.0 first.1

-- ---- all of it

pub no_module_fault : (bytes : List ℕ) (o : Order) (g n : ℕ) → SaysModule bytes o g n → module_header_faults bytes ≡ []
    → data_faults o (g * n) n bytes header_length ≡ [] → module_fault bytes ≡ None
unfolding module_fault
no_module_fault bytes o g n says header inside = rw (header, says.order, says.count, says.dimension, inside) refl

-- the same by the layout of all rows
pub faultless_module : (bytes : List ℕ) (layout all : Layout) (r g : ℕ) → SaysModule bytes layout.field g layout.columns → module_header_faults bytes ≡ []
    → all ≡ layout → r ≡ g * layout.columns → data_faults all.field r all.columns bytes header_length ≡ [] → module_fault bytes ≡ None
faultless_module bytes layout all r g says header same rows inside =
    no_module_fault bytes layout.field g layout.columns says header (sym (all_faults layout all r g bytes same rows) ∙ inside)

pub fault_in_module_header : (bytes : List ℕ) (fault : FileFault) → First (module_header_faults bytes) fault → module_fault bytes ≡ Some fault
unfolding module_fault
fault_in_module_header bytes fault e = first_stays (module_header_faults bytes) _ fault e

pub fault_in_module_data : (bytes : List ℕ) (o : Order) (g n : ℕ) (fault : FileFault) → SaysModule bytes o g n → module_header_faults bytes ≡ []
    → First (data_faults o (g * n) n bytes header_length) fault → module_fault bytes ≡ Some fault
unfolding module_fault
fault_in_module_data bytes o g n fault says header e = rw (header, says.order, says.count, says.dimension) e

pub packed_module_faultless : (matrices : List MatrixValue) → AreGenerators matrices → module_fault (packed_module matrices) ≡ None
packed_module_faultless matrices h =
    let o = first_order matrices in
    let n = first_columns matrices in
    no_module_fault (packed_module matrices) o (length matrices) n (packed_module_says matrices h)
    (module_header_is_sound (packed_module matrices) (packed_module_header matrices h))
    (data_is_sound o (length matrices * n) n (packed_module matrices) header_length (packed_module_data matrices h))

pub module_said : (bytes : List ℕ) (o : Order) (g n : ℕ) → SaysModule bytes o g n → unpacked_module bytes ≡ listed g (generator_at o n bytes header_length)
unfolding unpacked_module
module_said bytes o g n says = rw (says.order, says.count, says.dimension) refl

pub unpacked_packed_module : (matrices : List MatrixValue) → AreGenerators matrices → unpacked_module (packed_module matrices) ≡ matrices
unpacked_packed_module matrices h =
    let o = first_order matrices in
    let n = first_columns matrices in
    let g = length matrices in
    let bytes = packed_module matrices in
    let first = first_generator matrices h in
    let read = listed g (generator_at o n bytes header_length) in
    let again : rows_of_all matrices ≡ table (length (rows_of_all matrices)) n (mark_at o n bytes header_length) =
    rows_again o n (rows_of_all matrices) bytes header_length (module_has_rows matrices h) (rows_of_generators o n matrices h.each) in
    let rows : rows_of_all read ≡ rows_of_all matrices =
    rows_read o n bytes header_length g
    ∙ ap (λ (k : ℕ). table k n (mark_at o n bytes header_length)) (sym (length-rows_of_all o n matrices h.each))
    ∙ sym again in
    module_said bytes o g n (packed_module_says matrices h)
    ∙ same_generators o n read matrices (are_generators o n bytes header_length first.0 first.1 g) h.each
    (listed_length g (generator_at o n bytes header_length)) rows

pub packed_module_within : (matrices : List MatrixValue) → AreGenerators matrices → length (packed_module matrices) ≤ most_module_bytes
unfolding data_length
packed_module_within matrices h =
    let o = first_order matrices in
    let n = first_columns matrices in
    let first = first_generator matrices h in
    let one : n * bytes_per_row o n ≤ most_data = data_fits o n n first.1 (omega (arith, first.1)) in
    let all : length matrices * (n * bytes_per_row o n) ≤ most_generators * most_data =
    mul-le (length matrices) (n * bytes_per_row o n) most_generators most_data h.few one in
    let whole : length (packed_module matrices) ≡ header_length + length matrices * n * bytes_per_row o n = length-packed_module matrices h in
    omega arith

pub packed_modules_apart : (a b : List MatrixValue) → AreGenerators a → AreGenerators b → packed_module a ≡ packed_module b → a ≡ b
packed_modules_apart a b ha hb e = sym (unpacked_packed_module a ha) ∙ ap (λ (bytes : List ℕ). unpacked_module bytes) e ∙ unpacked_packed_module b hb

-- ---- bytes without fault

pub sound_module : (bytes : List ℕ) → module_fault bytes ≡ None
    → IsModuleHeader bytes × IsSoundData (header_order bytes) (header_generators bytes * header_dimension bytes) (header_dimension bytes) bytes header_length
unfolding module_fault
sound_module bytes e =
    let o = header_order bytes in
    let n = header_dimension bytes in
    let size = header_generators bytes * n in
    let parts =
    both_nil (module_header_faults bytes) (data_faults o size n bytes header_length)
    (no_first (module_header_faults bytes ++ data_faults o size n bytes header_length) e) in
    (sound_module_header bytes parts.0, sound_data o size n bytes header_length parts.1)

-- the dimension that a faultless header names is not 0
pub some_dimension : (bytes : List ℕ) (o : Order) (g n : ℕ) → SaysModule bytes o g n → module_header_faults bytes ≡ [] → 1 ≤ n
some_dimension bytes o g n says e =
    let header = sound_module_header bytes e in
    omega (arith, header.some_dimension, says.dimension)

-- the first of generators that there are
first_of_all : (o : Order) (n : ℕ) (matrices : List MatrixValue) → 1 ≤ length matrices → All (IsGenerator o n) matrices
    → (first_order matrices ≡ o) × (first_columns matrices ≡ n)
first_of_all o n [] some h = absurd (omega arith)
first_of_all o n (m ∷ rest) some h =
    let first = All-head (IsGenerator o n) m rest h in
    (first.field, first.columns)

-- generators over one field and of one dimension, of whatever name
pub generators_over : (o : Order) (n : ℕ) (matrices : List MatrixValue) → 1 ≤ length matrices → length matrices ≤ most_generators
    → All (IsGenerator o n) matrices → AreGenerators matrices
generators_over o n matrices some few each =
    let first = first_of_all o n matrices some each in
    record {
      some = some;
      few = few;
      each =
          subst (λ q. All (IsGenerator q (first_columns matrices)) matrices) (sym first.0)
          (subst (λ k. All (IsGenerator o k) matrices) (sym first.1) each);
    }

-- so many generators that are read
module _ (o : Order) (g n : ℕ) (bytes : List ℕ) (some : 1 ≤ g) (few : g ≤ most_generators) (some_row : 1 ≤ n) (fits : n ≤ most_rows) where
  pub read_generators : AreGenerators (listed g (generator_at o n bytes header_length))
  read_generators =
      let generator = generator_at o n bytes header_length in
      let count : length (listed g generator) ≡ g = listed_length g generator in
      generators_over o n (listed g generator) (omega arith) (omega arith) (are_generators o n bytes header_length some_row fits g)

  pub read_spelling : bytes ≡ module_header o g n ++ drop header_length bytes → IsSoundData o (g * n) n bytes header_length
      → bytes ≡ packed_module (listed g (generator_at o n bytes header_length))
  unfolding packed_module
  read_spelling header sound =
      let read = listed g (generator_at o n bytes header_length) in
      let count : length read ≡ g = listed_length g (generator_at o n bytes header_length) in
      let each = are_generators o n bytes header_length some_row fits g in
      let first = first_of_all o n read (omega (arith, some, count)) each in
      let rest : drop header_length bytes ≡ flat_map packed_rows read =
      data_again o n bytes header_length (g * n) sound
      ∙ ap (λ (rows : List (List ℕ)). flat_map (packed_row o n) rows) (sym (rows_read o n bytes header_length g))
      ∙ sym (bytes_of_all o n read each) in
      header ∙ (λ i. module_header (sym first.0 i) (sym count i) (sym first.1 i) ++ rest i)

pub respelled_module : (bytes : List ℕ) → All (λ byte. byte < 256) bytes → module_fault bytes ≡ None → bytes ≡ packed_module (unpacked_module bytes)
unfolding unpacked_module
respelled_module bytes fits e =
    let sound = sound_module bytes e in
    let header = sound.0 in
    read_spelling (header_order bytes) (header_generators bytes) (header_dimension bytes) bytes header.some header.few header.some_dimension
    header.dimension_fits
    (module_header_again bytes (bytes_fit bytes fits) header) sound.1

pub unpacked_generators : (bytes : List ℕ) → IsModuleHeader bytes → AreGenerators (unpacked_module bytes)
unfolding unpacked_module
unpacked_generators bytes h =
    read_generators (header_order bytes) (header_generators bytes) (header_dimension bytes) bytes h.some h.few h.some_dimension h.dimension_fits

-- ---- matrices and modules

header_has_other_magic : (o : Order) (r c : ℕ) (rest : List ℕ) → has_other_magic module_magic (packed_header o r c ++ rest) ≡ true
unfolding has_other_magic packed_header
header_has_other_magic o r c rest = refl

module_header_has_other_magic : (o : Order) (g n : ℕ) (rest : List ℕ) → has_other_magic matrix_magic (module_header o g n ++ rest) ≡ true
unfolding has_other_magic module_header
module_header_has_other_magic o g n rest = refl

pub no_spelling_of_both : (m : MatrixValue) (matrices : List MatrixValue) → packed m ≢ packed_module matrices
unfolding packed packed_module
no_spelling_of_both m matrices e =
    let of_matrix : has_other_magic matrix_magic (packed m) ≡ false = header_has_magic m.order (length m.rows) m.cols (packed_rows m) in
    let of_module : has_other_magic matrix_magic (packed_module matrices) ≡ true =
    module_header_has_other_magic (first_order matrices) (length matrices) (first_columns matrices) (flat_map packed_rows matrices) in
    let same : has_other_magic matrix_magic (packed m) ≡ has_other_magic matrix_magic (packed_module matrices) =
    ap (λ (bytes : List ℕ). has_other_magic matrix_magic bytes) e in
    absurd cc

pub matrix_is_no_module : (m : MatrixValue) → module_fault (packed m) ≡ Some BadMagic
unfolding packed
matrix_is_no_module m =
    let header = packed_header m.order (length m.rows) m.cols in
    let long : header_length ≤ length (packed m) = omega (arith, length-packed m) in
    fault_in_module_header (packed m) BadMagic (fault_in_module_beginning (packed m) BadMagic
    (bad_magic module_magic (packed m) long (header_has_other_magic m.order (length m.rows) m.cols (packed_rows m))))

pub module_is_no_matrix : (matrices : List MatrixValue) → packed_fault (packed_module matrices) ≡ Some BadMagic
unfolding packed_module
module_is_no_matrix matrices =
    let o = first_order matrices in
    let n = first_columns matrices in
    let rest = flat_map packed_rows matrices in
    let long : header_length ≤ length (packed_module matrices) =
    omega (arith, length-append (module_header o (length matrices) n) rest, length-module_header o (length matrices) n) in
    fault_in_header (packed_module matrices) BadMagic (fault_in_beginning (packed_module matrices) BadMagic
    (bad_magic matrix_magic (packed_module matrices) long (module_header_has_other_magic o (length matrices) n rest)))

-- ---- what a reader answers to a spelling

pub answers_module : {V : Type 0} (items : V → List MatrixValue) (bytes : List ℕ) (a : List MatrixValue) (r : Result V FileFault) → AreGenerators a
    → bytes ≡ packed_module a
    → AnswersFile (module_fault bytes) (λ v. items v ≡ unpacked_module bytes) r → AnswersFile None (λ v. items v ≡ a) r
answers_module items bytes a r h e answer =
    let faultless : module_fault bytes ≡ None = ap (λ (xs : List ℕ). module_fault xs) e ∙ packed_module_faultless a h in
    let same : unpacked_module bytes ≡ a = ap (λ (xs : List ℕ). unpacked_module xs) e ∙ unpacked_packed_module a h in
    subst (λ (b : List MatrixValue). AnswersFile None (λ v. items v ≡ b) r) same
    (subst (λ (o : Option FileFault). AnswersFile o (λ v. items v ≡ unpacked_module bytes) r) faultless answer)
