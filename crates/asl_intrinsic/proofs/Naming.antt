-- Functions and their names.
use Rattle.std.proofs.Common.{◌≡◌, ℕ, Bool, true, false, cond, List, [], ◌∷◌, refl, sym, subst}
use Rattle.std.specs.Prelude.{Option, Some, None}
use Rattle.std.specs.Cmp.Lexicographic.{same_text}
use Rattle.asl_json.specs.Same.{bytes_eq}
use Rattle.asl_intrinsic_functions.specs.declared.function.Function.{Function}
use Rattle.asl_intrinsic_functions.specs.declared.function.Function.TheVariants.{Format, StringToJson, JsonToString, Array, ArrayPartition, ArrayContains, ArrayRange, ArrayGetItem, ArrayLength, ArrayUnique, Base64Encode, Base64Decode, Hash, JsonMerge, MathAdd, StringSplit}
use Rattle.asl_intrinsic_functions.specs.Names.{name_of, functions, first_named, function_named}

-- the function of a name has that name
named_first : (n : List ℕ) (fs : List Function) (g : Function) → first_named n fs ≡ Some g → name_of g ≡ n
named_first n [] g e = absurd cc
named_first n (f ∷ fs) g e = by (bytes_eq n (name_of f)) refl (named_first n fs g)
  where
    by : (b : Bool) → bytes_eq n (name_of f) ≡ b → (first_named n fs ≡ Some g → name_of g ≡ n) → name_of g ≡ n
    by true p rest =
        let same : Some f ≡ Some g = rw p at e in
        let is : f ≡ g = cc in
        subst (λ (h : Function). name_of h ≡ n) is (sym (same_text n (name_of f) (sym p)))
    by false p rest = rest (rw p at e)

pub has_its_name : (n : List ℕ) (g : Function) → function_named n ≡ Some g → name_of g ≡ n
has_its_name n g e = named_first n functions g e

-- and the name of a function is that of no other
pub is_named : (g : Function) → function_named (name_of g) ≡ Some g
unfolding name_of
is_named Format = refl
is_named StringToJson = refl
is_named JsonToString = refl
is_named Array = refl
is_named ArrayPartition = refl
is_named ArrayContains = refl
is_named ArrayRange = refl
is_named ArrayGetItem = refl
is_named ArrayLength = refl
is_named ArrayUnique = refl
is_named Base64Encode = refl
is_named Base64Decode = refl
is_named Hash = refl
is_named JsonMerge = refl
is_named MathAdd = refl
is_named StringSplit = refl
