-- The intrinsic functions: their names, and how many arguments each takes (Amazon States Language,
-- "Intrinsic Functions").
use Rattle.std.specs.Prelude.{ℕ, Bool, true, ◌==◌, nat_le, cond, List, [], ◌∷◌, Option, Some, None, codes}
use Rattle.asl_json.specs.Same.{bytes_eq}
use Rattle.asl_intrinsic_functions.specs.declared.function.Function.{Function}
use Rattle.asl_intrinsic_functions.specs.declared.function.Function.TheVariants.{Format, StringToJson, JsonToString, Array, ArrayPartition, ArrayContains, ArrayRange, ArrayGetItem, ArrayLength, ArrayUnique, Base64Encode, Base64Decode, Hash, JsonMerge, MathAdd, StringSplit}

-- the name behind `States.`
unfoldable pub name_of : Function → List ℕ
name_of Format = codes "Format"
name_of StringToJson = codes "StringToJson"
name_of JsonToString = codes "JsonToString"
name_of Array = codes "Array"
name_of ArrayPartition = codes "ArrayPartition"
name_of ArrayContains = codes "ArrayContains"
name_of ArrayRange = codes "ArrayRange"
name_of ArrayGetItem = codes "ArrayGetItem"
name_of ArrayLength = codes "ArrayLength"
name_of ArrayUnique = codes "ArrayUnique"
name_of Base64Encode = codes "Base64Encode"
name_of Base64Decode = codes "Base64Decode"
name_of Hash = codes "Hash"
name_of JsonMerge = codes "JsonMerge"
name_of MathAdd = codes "MathAdd"
name_of StringSplit = codes "StringSplit"

abbrev pub functions : List Function
functions =
    Format ∷ StringToJson ∷ JsonToString ∷ Array ∷ ArrayPartition ∷ ArrayContains ∷ ArrayRange
    ∷ ArrayGetItem ∷ ArrayLength ∷ ArrayUnique ∷ Base64Encode ∷ Base64Decode ∷ Hash ∷ JsonMerge
    ∷ MathAdd ∷ StringSplit ∷ []

abbrev pub first_named : List ℕ → List Function → Option Function
first_named n [] = None
first_named n (f ∷ fs) = cond (bytes_eq n (name_of f)) (Some f) (first_named n fs)

-- the function of a name
abbrev pub function_named : List ℕ → Option Function
function_named n = first_named n functions

-- whether it takes so many arguments
abbrev pub takes : Function → ℕ → Bool
takes Format n = nat_le 1 n
takes StringToJson n = n == 1
takes JsonToString n = n == 1
takes Array n = true
takes ArrayPartition n = n == 2
takes ArrayContains n = n == 2
takes ArrayRange n = n == 3
takes ArrayGetItem n = n == 2
takes ArrayLength n = n == 1
takes ArrayUnique n = n == 1
takes Base64Encode n = n == 1
takes Base64Decode n = n == 1
takes Hash n = n == 2
takes JsonMerge n = n == 3
takes MathAdd n = n == 2
takes StringSplit n = n == 2
