-- The shapes of constituents' matrices, one after the other, and the modules that they make.
use Rattle.std.proofs.Common.{◌≡◌, ℕ, ◌+◌, ◌<◌, List, [], ◌∷◌, ◌++◌, length, get_or, All, Result, Ok, None, refl, sym, ap, subst, ◌∙◌, arith}
use Rattle.std.proofs.lemmas.List.{get_or-map, length-map}
use Rattle.std.proofs.lemmas.List.FromFn.{map-range_with_len_more}
use Rattle.std.specs.declared.alloc.Global.{Global}
use Rattle.std.specs.declared.vec.Vec.{Vec}
use Rattle.axe_row.specs.Refusals.{Answers}
use Rattle.axe_row.specs.declared.refusals.Refusal.{Refusal}
use Rattle.axe_matrix.specs.Matrices.{MatrixValue, IsMatrix}
use Rattle.axe_spin.specs.Modules.{ModuleValue, IsModule, module_of_matrices}
use Rattle.axe_action.proofs.GeneratorLists.{module_of_generators}
use Rattle.axe_report.specs.Reports.{FactorValue, dims}
use Rattle.axe_check.specs.Certificates.{HasShape, IsSquareOfSize, module_with, lists_of}
use Rattle.axe_check.specs.Steps.{IsShapedAs, IsShapeReason, HasShapeAt, AreShapedTo, IsFirstShapeReason}
use Rattle.axe_report.specs.declared.reasons.Reason.{Reason}
use native.Mathlib.Decide.{ℕ_discrete}

-- matrices of a shape make their module
pub module_is_made : (m : ModuleValue) (dim : ℕ) (matrices copies : List MatrixValue) (result : Result ModuleValue Refusal) → IsModule m →
    HasShape m dim matrices → copies ≡ matrices → All IsMatrix copies → result ≡ module_of_matrices copies →
    Answers None (λ made. made ≡ module_with m.order dim matrices) result
module_is_made m dim matrices copies result is shape same formed made =
    subst (λ r. Answers None (λ made. made ≡ module_with m.order dim matrices) r) (sym all) refl
  where
    all : result ≡ Ok (module_with m.order dim matrices)
    all =
        made ∙ ap module_of_matrices same
        ∙ module_of_generators m.order dim matrices (omega (arith, shape.count, is.some_generator)) (λ i d inside.
        let square : IsSquareOfSize m.order dim (get_or matrices i d) = shape.squares i d inside in
        record {
          field = square.field;
          columns = square.columns;
          rows = square.rows;
          well_formed = subst (λ (l : List MatrixValue). All IsMatrix l) same formed i d inside;
        })

module _ (m : ModuleValue) (reported : List FactorValue) (lists : List (List MatrixValue)) where
  abbrev made : ℕ → ModuleValue
  made number = module_with m.order (get_or (dims reported) number 0) (get_or lists number [])

  -- one more
  pub shaped_more : (count : ℕ) (modules next : List ModuleValue) (one : ModuleValue) (dim : ℕ) (matrices : List MatrixValue) →
      dim ≡ get_or (dims reported) count 0 → matrices ≡ get_or lists count [] → AreShapedTo m reported lists count modules →
      IsShapedAs m dim matrices one → next ≡ modules ++ one ∷ [] → AreShapedTo m reported lists (count + 1) next
  shaped_more count modules next one dim matrices dim_is list_is are shaped pushed = record {
    shapes = λ number below. at number below (ℕ_discrete number count);
    are =
        pushed
        ∙ (λ i. are.are i ++ (shaped.is ∙ (λ j. module_with m.order (dim_is j) (list_is j))) i ∷ [])
        ∙ sym (map-range_with_len_more made 0 count count (omega arith));
  }
    where
      here : HasShapeAt m reported lists count
      here = subst (λ d. HasShape m d (get_or lists count [])) dim_is (subst (HasShape m dim) list_is shaped.shape)

      at : (number : ℕ) → number < count + 1 → Dec (number ≡ count) → HasShapeAt m reported lists number
      at number below (no earlier) = are.shapes number (omega arith)
      at number below (yes same) = subst (HasShapeAt m reported lists) (sym same) here

-- what stands at a number
pub list_at : (lists : List (Vec MatrixValue Global)) (number : ℕ) (one : Vec MatrixValue Global) → number < length lists → one ≡ get_or lists number one →
    one.items ≡ get_or (lists_of lists) number []
list_at lists number one below is =
    ap (λ (v : Vec MatrixValue Global). v.items) is ∙ sym (get_or-map (λ (list : Vec MatrixValue Global). list.items) lists number one [] below)

pub reported_dim : (reported : List FactorValue) (number : ℕ) (one : FactorValue) → number < length reported → one ≡ get_or reported number one →
    one.dim ≡ get_or (dims reported) number 0
reported_dim reported number one below is =
    ap (λ (f : FactorValue). f.dim) is ∙ sym (get_or-map (λ (f : FactorValue). f.dim) reported number one 0 below)

pub count_of_lists : (lists : List (Vec MatrixValue Global)) → length (lists_of lists) ≡ length lists
count_of_lists lists = length-map lists (λ (list : Vec MatrixValue Global). list.items)

-- why the next constituent has not its shape
module _ (m : ModuleValue) (reported : List FactorValue) (lists : List (Vec MatrixValue Global)) (number : ℕ) (one : FactorValue) (list : Vec MatrixValue Global)
    (there : number < length reported) (inside : number < length lists) (one_is : one ≡ get_or reported number one) (list_is : list ≡ get_or lists number list) where
  pub shape_here : (earlier : (i : ℕ) → i < number → HasShapeAt m reported (lists_of lists) i) (reason : Reason) → IsShapeReason m one list.items reason →
      IsFirstShapeReason m reported (lists_of lists) reason
  shape_here earlier reason found = record {
    name = found.name;
    is = found.is;
    number = number;
    below = omega (arith, inside, count_of_lists lists);
    named = found.named ∙ ap (λ (f : FactorValue). f.name) one_is ∙ sym (get_or-map (λ (f : FactorValue). f.name) reported number one [] there);
    earlier = earlier;
    wrong = λ shape. found.wrong
        (subst (λ d. HasShape m d list.items) (sym (reported_dim reported number one there one_is))
        (subst (HasShape m (get_or (dims reported) number 0)) (sym (list_at lists number list inside list_is)) shape));
  }
