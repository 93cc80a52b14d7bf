-- The functions on lists (Amazon States Language, "Intrinsic Functions"; Developer Guide,
-- "Intrinsics for arrays").
use Rattle.std.specs.Prelude.{ℕ, zero, suc, ℤ, pos, negsuc, ◌+ℤ◌, int_lt, Bool, List, [], ◌∷◌, ◌++◌, length, take, drop, Option, Some, None, Ok, if◌then◌else◌, slice_get, option_map}
use Rattle.std.specs.List.{list_any}
use Rattle.std.specs.Ordering.{int_eq}
use Rattle.asl_json_data.specs.Results.{◌>>=◌}
use Rattle.asl_json_data.specs.Data.{Data, boolean, list, chain}
use Rattle.asl_json.specs.Meaning.{same}
use Rattle.asl_intrinsic_functions.specs.Outcome.{Outcome, fails, or_fails}
use Rattle.asl_intrinsic_functions.specs.Converting.{list_in, number_in, whole, whole_number, computed}
use Rattle.asl_intrinsic_functions.specs.declared.fault.Reason.TheVariants.{Range}

-- `States.Array(a..)`: the list of the arguments
abbrev pub array : List Data → Outcome Data
array ds = Ok (list (chain ds))

-- at most so many pieces of n items; the last one may be shorter
abbrev pub pieces : ℕ → ℕ → List Data → List Data
pieces zero n ds = []
pieces (suc most) n [] = []
pieces (suc most) n (d ∷ ds) = list (chain (take n (d ∷ ds))) ∷ pieces most n (drop n (d ∷ ds))

-- a list has no more pieces than items
abbrev pub partition : List Data → ℤ → Outcome Data
partition ds (pos zero) = fails Range
partition ds (pos (suc n)) = Ok (list (chain (pieces (length ds) (suc n) ds)))
partition ds (negsuc n) = fails Range

-- `States.ArrayPartition(l, n)`: the pieces of n items, n at least 1
abbrev pub array_partition : Data → Data → Outcome Data
array_partition d e = do
  ds ← list_in d
  s ← number_in e
  whole s >>= partition ds

-- `States.ArrayContains(l, v)`: whether an item is the same as v
abbrev pub array_contains : Data → Data → Outcome Data
array_contains d e = do
  ds ← list_in d
  Ok (boolean (list_any (λ x. same x e) ds))

-- z has passed the end, in the direction of the stride
abbrev pub is_passed : ℤ → ℤ → ℤ → Bool
is_passed stride end z = if int_lt (pos 0) stride then int_lt end z else int_lt z end

-- z, z + stride, z + 2 * stride and so on, until the end is passed; None for more than `most`
-- (ASL: from the first element to the final one by an increment)
unfoldable pub counted : ℕ → ℤ → ℤ → ℤ → Option (List Data)
counted zero stride end z = if is_passed stride end z then Some [] else None
counted (suc most) stride end z =
    if is_passed stride end z then Some []
    else option_map (λ zs. whole_number z ∷ zs) (counted most stride end (z +ℤ stride))

-- the stride isn't 0, and there are at most 1,000 items (Developer Guide, "Intrinsics for arrays")
abbrev pub range : ℤ → ℤ → ℤ → Outcome Data
range first end stride =
    if int_eq stride (pos 0) then fails Range
    else or_fails Range (option_map (λ ds. list (chain ds)) (counted 1000 stride end first))

abbrev pub whole_range : List ℕ → List ℕ → List ℕ → Outcome Data
whole_range s t u = do
  a ← whole s
  b ← whole t
  c ← whole u
  range a b c

-- `States.ArrayRange(a, b, s)`: a, a + s and so on, none past b
abbrev pub array_range : Data → Data → Data → Outcome Data
array_range d e f = do
  s ← number_in d
  t ← number_in e
  u ← number_in f
  whole_range s t u

abbrev pub item_of : List Data → ℤ → Option Data
item_of ds (pos i) = slice_get ds i
item_of ds (negsuc i) = None

-- `States.ArrayGetItem(l, i)`: item i, from 0
abbrev pub array_get_item : Data → Data → Outcome Data
array_get_item d e = do
  ds ← list_in d
  s ← number_in e
  i ← whole s
  or_fails Range (item_of ds i)

-- `States.ArrayLength(l)`
abbrev pub array_length : Data → Outcome Data
array_length d = do
  ds ← list_in d
  computed (pos (length ds))

-- of the items behind `before`, each one that means the same as no item before it in the list
-- (Developer Guide, "Intrinsics for arrays": duplicate values are removed)
abbrev pub first_ones : List Data → List Data → List Data
first_ones before [] = []
first_ones before (d ∷ ds) =
    if list_any (λ x. same x d) before then first_ones (before ++ d ∷ []) ds
    else d ∷ first_ones (before ++ d ∷ []) ds

-- `States.ArrayUnique(l)`: of the items that mean the same the first, in order
abbrev pub array_unique : Data → Outcome Data
array_unique d = do
  ds ← list_in d
  Ok (list (chain (first_ones [] ds)))
