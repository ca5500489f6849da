-- There are texts with the names of constituents.
use Rattle.std.proofs.Common.{◌≡◌, ℕ, zero, suc, ◌+◌, ◌^◌, ◌<◌, ◌≤◌, ltb, leb, eqb, List, [], ◌∷◌, ◌++◌, length, get_or, decimal, refl, ◌∙◌, length-append, string_bytes, String, Global, arith}
use Rattle.std.specs.List.{AllByRecursion}
use Rattle.std.specs.Str.{IsAscii}
use Rattle.std.proofs.lemmas.Bool.{and_parts, ltb-true}
use Rattle.std.proofs.lemmas.Fmt.{length-decimal-le}
use Rattle.std.proofs.lemmas.Grind.{merely}
use Rattle.std.proofs.lemmas.List.{length-map}
use Rattle.std.proofs.lemmas.List.Sums.{count_by-le-length}
use Rattle.std.proofs.lemmas.Str.{IsUtf8-from_ascii}
use denote.RawPtr.{null_ptr}
use Rattle.axe_report.specs.Fronts.{is_digit}
use Rattle.axe_report.specs.Limits.{most_dimension}
use Rattle.axe_report.specs.Names.{letters, constituent_name, count_of, names_after, names_of}
use Rattle.axe_report.specs.Reports.{FactorValue, names, dims, AreFactors, IsReport}
use Rattle.axe_report.proofs.Fronts.{Passes}
use Rattle.axe_report.proofs.Letters.{AreLetters, are_letters, three_letters}
use Rattle.axe_report.proofs.Numerals.{decimal_digits}
use Rattle.axe_report.proofs.Plain.{IsPlain, all_plain, names_more}
use Rattle.axe_report.proofs.Sizes.{few_factors}
use Rattle.axe_check.specs.Certificates.{Certificate}
use Rattle.axe_check.specs.Reasons.{IsNameOf}

-- ---- texts

-- bytes of ASCII
abbrev IsAsciiText : List ℕ → Type 0
IsAsciiText bytes = AllByRecursion (λ byte. byte < 128) bytes

ascii : (bytes : List ℕ) → IsAsciiText bytes → IsAscii bytes
ascii [] all i = omega arith
ascii (b ∷ bytes) all zero = all.0
ascii (b ∷ bytes) all (suc i) = ascii bytes all.1 i

pub some_text : (bytes : List ℕ) → IsAsciiText bytes → length bytes < 2 ^ 63 → (text : String Global) × (string_bytes text ≡ bytes)
some_text bytes all small = (
  record {
    bytes = record { ptr = null_ptr; len = length bytes; cap = length bytes; alloc = record { memory = record { seal = tt } }; items = bytes; ok = (refl, omega arith); small = small };
    ok = merely (IsUtf8-from_ascii bytes (ascii bytes all));
  },
  refl,
)

-- ---- names

digits_are_ascii : (bytes : List ℕ) → Passes is_digit bytes → IsAsciiText bytes
digits_are_ascii [] passes = tt
digits_are_ascii (b ∷ bytes) passes =
    let low = ltb-true b 58 (and_parts (leb 48 b) (ltb b 58) passes.0).1 in
    (omega (arith, low), digits_are_ascii bytes passes.1)

letters_are_ascii : (bytes : List ℕ) → AreLetters bytes → IsAsciiText bytes
letters_are_ascii [] are = tt
letters_are_ascii (b ∷ bytes) are = (omega (arith, are.1), letters_are_ascii bytes are.2)

both_ascii : (a b : List ℕ) → IsAsciiText a → IsAsciiText b → IsAsciiText (a ++ b)
both_ascii [] b first second = second
both_ascii (x ∷ a) b first second = (first.0, both_ascii a b first.1 second)

-- a name that a text may have
abbrev IsShortText : List ℕ → Type 0
IsShortText bytes = IsAsciiText bytes × (length bytes < 2 ^ 63)

short_name : (dim number : ℕ) → dim ≤ most_dimension → number < most_dimension → IsShortText (constituent_name dim number)
unfolding constituent_name
short_name dim number small few =
    let fits : dim < 2 ^ 64 = omega arith in
    let digits : length (decimal dim) ≤ 4 = length-decimal-le 4 dim (omega arith) (omega arith) fits in
    let more = three_letters number few in
    let both = length-append (decimal dim) (letters number) in (
      both_ascii (decimal dim) (letters number) (digits_are_ascii (decimal dim) (decimal_digits dim fits)) (letters_are_ascii (letters number) (are_letters number)),
      omega (arith, digits, more, both),
    )

count_small : (d : ℕ) (ds : List ℕ) → count_of d ds ≤ length ds
unfolding count_of
count_small d ds = count_by-le-length (λ other. eqb other d) ds

short_names : (fs : List FactorValue) (earlier : List ℕ) → names fs ≡ names_after earlier (dims fs) → AllByRecursion IsPlain fs → length earlier + length fs ≤ most_dimension →
    AllByRecursion IsShortText (names fs)
short_names [] earlier named plain few = tt
short_names (f ∷ fs) earlier named plain few =
    let whole : f.name ∷ names fs ≡ constituent_name f.dim (count_of f.dim earlier) ∷ names_after (earlier ++ f.dim ∷ []) (dims fs) = named ∙ names_more earlier f.dim (dims fs) in
    let one : f.name ≡ constituent_name f.dim (count_of f.dim earlier) = cc in
    let rest : names fs ≡ names_after (earlier ++ f.dim ∷ []) (dims fs) = cc in
    let number = count_small f.dim earlier in
    let longer = length-append earlier (f.dim ∷ []) in (
      rw one (short_name f.dim (count_of f.dim earlier) plain.0.dim (omega (arith, number, few))),
      short_names fs (earlier ++ f.dim ∷ []) rest plain.1 (omega (arith, longer, few)),
    )

short_at : (texts : List (List ℕ)) (i : ℕ) → AllByRecursion IsShortText texts → i < length texts → IsShortText (get_or texts i [])
short_at [] i all below = absurd (omega arith)
short_at (t ∷ texts) zero all below = all.0
short_at (t ∷ texts) (suc i) all below = short_at texts i all.1 (omega arith)

larger : (fs : List FactorValue) (dim : ℕ) → dim ≤ most_dimension → AreFactors dim fs → AreFactors most_dimension fs
larger fs dim small are = record { named = are.named; some_dims = are.some_dims; some_multiplicities = are.some_multiplicities; fits = omega (arith, are.fits) }

-- each constituent has a name that is a text
pub some_name : (c : Certificate) → IsReport c.report → (number : ℕ) → number < length c.report.factors → (name : String Global) × IsNameOf c number name
unfolding names_of
some_name c is number below =
    let fs = c.report.factors in
    let few = few_factors fs (larger fs c.report.header.dim is.header.dim is.factors) in
    let all = short_names fs [] is.factors.named (all_plain c.report.header.dim fs is.header.dim is.factors) (omega (arith, few)) in
    let short = short_at (names fs) number all (omega (arith, below, length-map fs (λ (f : FactorValue). f.name))) in
    some_text (get_or (names fs) number []) short.0 short.1
