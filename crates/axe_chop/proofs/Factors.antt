-- One more factor of an answer.
use Rattle.std.proofs.Common.{◌≡◌, ℕ, ◌+◌, ◌≤◌, Bool, false, if◌then◌else◌, List, [], ◌∷◌, ◌++◌, map, length, refl, sym, ap, ap₂, subst, ◌∙◌, string_bytes, String, length-append, arith}
use Rattle.std.specs.List.{AllByRecursion}
use Rattle.std.specs.String.{string_eq}
use Rattle.std.specs.Map.{keys_of, values_of}
use Rattle.std.specs.declared.alloc.Global.{Global}
use Rattle.std.proofs.lemmas.Bool.{false_from_ne_true}
use Rattle.std.proofs.lemmas.List.{map-append, length-map}
use Rattle.std.proofs.lemmas.List.Elements.{All-nil, All-push}
use Rattle.std.proofs.lemmas.List.FromFn.{map-range_with_len_more}
use Rattle.std.proofs.lemmas.Slice.Eq.{bytes_eq-Decides}
use Rattle.indexmap.specs.IndexMap.{insert_entry}
use Rattle.axe_iso.specs.Forms.{FormValue}
use Rattle.axe_report.specs.Names.{constituent_name, count_of, names_of}
use Rattle.axe_report.specs.Limits.{most_dimension}
use Rattle.axe_report.specs.Reports.{counts_in}
use Rattle.axe_report.proofs.Plain.{no_names, names_of_push, name_is_new}
use Rattle.axe_chop.specs.Chopped.{dims_of, AreFirst}
use Rattle.axe_chop.specs.declared.chopped.Factor.{Factor}

-- a key that is new goes last
new_key_last : (X : Type 0) (key : String Global) (value : X) (entries : List (String Global × X))
    → AllByRecursion (λ name. name ≡ string_bytes key → ⊥) (map string_bytes (keys_of entries))
    → insert_entry string_eq entries key value ≡ entries ++ (key, value) ∷ []
new_key_last X key value [] new = refl
new_key_last X key value (e ∷ es) new =
    let other : string_eq key e.0 ≡ false =
    false_from_ne_true (string_eq key e.0)
    (λ is. new.0 (sym ((bytes_eq-Decides (string_bytes key) (string_bytes e.0)).0 is))) in
    ap (λ (b : Bool). if b then (e.0, value) ∷ es else e ∷ insert_entry string_eq es key value) other
    ∙ ap (λ (l : List (String Global × X)). e ∷ l) (new_key_last X key value es new.1)

multiplicities_push : (places : List ℕ) (n : ℕ)
    → counts_in places (n + 1) ≡ counts_in places n ++ count_of n places ∷ []
unfolding counts_in
multiplicities_push places n = map-range_with_len_more (λ (number : ℕ). count_of number places) 0 n n (omega arith)

no_multiplicities : (places : List ℕ) → counts_in places 0 ≡ []
unfolding counts_in
no_multiplicities places = refl

pub none_first : (places : List ℕ) → AreFirst [] places [] []
none_first places = record {
  factors = record {
    forms_are = refl;
    names_are = sym no_names;
    multiplicities_are = sym (no_multiplicities places);
  };
  dims_are = refl;
  small = All-nil (λ d. d ≤ most_dimension);
}

-- one more factor stands last
first_push : (forms : List FormValue) (places dims : List ℕ) (entries : List (String Global × Factor))
    (form : FormValue) (name : String Global) (factor : Factor)
    → AreFirst forms places dims entries → form.matrices.dim ≤ most_dimension
    → string_bytes name ≡ constituent_name form.matrices.dim (count_of form.matrices.dim dims)
    → factor.form ≡ form → factor.multiplicity ≡ count_of (length dims) places
    → AreFirst (forms ++ form ∷ []) places (dims ++ form.matrices.dim ∷ []) (entries ++ (name, factor) ∷ [])
first_push forms places dims entries form name factor h fits named is counted =
    let all = entries ++ (name, factor) ∷ [] in
    let keys : keys_of all ≡ keys_of entries ++ name ∷ [] =
    map-append (λ (e : String Global × Factor). e.0) entries ((name, factor) ∷ []) in
    let values : values_of all ≡ values_of entries ++ factor ∷ [] =
    map-append (λ (e : String Global × Factor). e.1) entries ((name, factor) ∷ []) in
    let more_dims : dims_of (forms ++ form ∷ []) ≡ dims_of forms ++ form.matrices.dim ∷ [] =
    map-append (λ (f : FormValue). f.matrices.dim) forms (form ∷ []) in
    let count : length dims ≡ length forms =
    ap (λ (l : List ℕ). length l) h.dims_are ∙ length-map forms (λ (f : FormValue). f.matrices.dim) in
    let more : length (forms ++ form ∷ []) ≡ length forms + 1 = length-append forms (form ∷ []) in
    let next : string_bytes name ≡ constituent_name form.matrices.dim (count_of form.matrices.dim (dims_of forms)) =
    named ∙ ap (λ (l : List ℕ). constituent_name form.matrices.dim (count_of form.matrices.dim l)) h.dims_are in
    record {
      factors = record {
        forms_are = ap (λ (l : List Factor). map (λ (f : Factor). f.form) l) values
            ∙ map-append (λ (f : Factor). f.form) (values_of entries) (factor ∷ [])
            ∙ ap₂ (λ (l : List FormValue) (f : FormValue). l ++ f ∷ []) h.factors.forms_are is;
        names_are = ap (λ (l : List (String Global)). map string_bytes l) keys
            ∙ map-append string_bytes (keys_of entries) (name ∷ [])
            ∙ ap₂ (λ (l : List (List ℕ)) (n : List ℕ). l ++ n ∷ []) h.factors.names_are next
            ∙ sym (names_of_push (dims_of forms) form.matrices.dim) ∙ ap names_of (sym more_dims);
        multiplicities_are = ap (λ (l : List Factor). map (λ (f : Factor). f.multiplicity) l) values
            ∙ map-append (λ (f : Factor). f.multiplicity) (values_of entries) (factor ∷ [])
            ∙ ap₂ (λ (l : List ℕ) (n : ℕ). l ++ n ∷ []) h.factors.multiplicities_are
            (counted ∙ ap (λ (n : ℕ). count_of n places) count)
            ∙ sym (multiplicities_push places (length forms))
            ∙ ap (λ (n : ℕ). counts_in places n) (sym more);
      };
      dims_are = ap (λ (l : List ℕ). l ++ form.matrices.dim ∷ []) h.dims_are ∙ sym more_dims;
      small = All-push (λ d. d ≤ most_dimension) dims form.matrices.dim h.small fits;
    }

-- the bytes are none of those of the keys
abbrev IsNewName : List ℕ → List (List ℕ) → Type 0
IsNewName bytes names = AllByRecursion (λ name. name ≡ bytes → ⊥) names

-- one more factor is inserted: its name is new, so it goes last
pub first_more : (forms : List FormValue) (places dims : List ℕ) (entries : List (String Global × Factor))
    (form : FormValue) (name : String Global) (factor : Factor) (d : ℕ)
    → AreFirst forms places dims entries → d ≡ form.matrices.dim → form.matrices.dim ≤ most_dimension
    → string_bytes name ≡ constituent_name form.matrices.dim (count_of form.matrices.dim dims)
    → factor.form ≡ form → factor.multiplicity ≡ count_of (length dims) places
    → AreFirst (forms ++ form ∷ []) places (dims ++ d ∷ []) (insert_entry string_eq entries name factor)
first_more forms places dims entries form name factor d h is_dim fits named is counted =
    let pushed = first_push forms places dims entries form name factor h fits named is counted in
    let keys : map string_bytes (keys_of entries) ≡ names_of dims =
    h.factors.names_are ∙ ap names_of (sym h.dims_are) in
    let new : IsNewName (string_bytes name) (map string_bytes (keys_of entries)) =
    subst (λ (l : List (List ℕ)). IsNewName (string_bytes name) l) (sym keys)
    (subst (λ (n : List ℕ). IsNewName n (names_of dims)) (sym named) (name_is_new form.matrices.dim dims fits h.small)) in
    let last = new_key_last Factor name factor entries new in
    subst (λ (l : List (String Global × Factor)). AreFirst (forms ++ form ∷ []) places (dims ++ d ∷ []) l) (sym last)
    (subst (λ (n : ℕ). AreFirst (forms ++ form ∷ []) places (dims ++ n ∷ []) (entries ++ (name, factor) ∷ []))
    (sym is_dim) pushed)
