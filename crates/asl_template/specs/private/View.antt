-- What a clause sees of a template that was read: the value that it was read from, one level.
use Rattle.std.specs.Prelude.{◌≡◌, ℕ, List, [], ◌∷◌, ◌++◌, true, false, None, map}
use Rattle.asl_json_data.specs.Data as spec
use Rattle.asl_json_data.specs.Data.{Data, chain, pairs}
use Rattle.asl_json_data.specs.Distinct.{AreDistinct}
use Rattle.asl_template.specs.Names.{mark, name_before, named}
use Rattle.asl_template.specs.Filling.{is_path}
use Rattle.asl_template.specs.declared.part.Part.{Part}
use Rattle.asl_template.specs.declared.part.Part.TheVariants.{Null, Bool as Truth, Num, Text, List as PartList, Dict}
use Rattle.asl_template.specs.declared.part.Field.{Field}
use Rattle.asl_template.specs.declared.part.Field.TheVariants.{Kept, Path, Call}

abbrev pub part_data : Part → Data
part_data Null = spec.null
part_data (Truth b) = spec.boolean b
part_data (Num s) = spec.number s
part_data (Text s) = spec.text s
part_data (PartList ds) = spec.list (chain ds)
part_data (Dict ms) = spec.dict (pairs ms)

abbrev pub parts_data : List Part → List Data
parts_data ps = map part_data ps

abbrev pub field_data : Field → List ℕ × Data
field_data (Kept n p) = (n, part_data p)
field_data (Path n t) = (n ++ mark, spec.text t)
field_data (Call n t) = (n ++ mark, spec.text t)

abbrev pub fields_data : List Field → List (List ℕ × Data)
fields_data fs = map field_data fs

-- it is kept as what it is
abbrev pub Fits : Field → Type 0
Fits (Kept n p) = name_before n ≡ None
Fits (Path n t) = is_path t ≡ true
Fits (Call n t) = is_path t ≡ false

abbrev pub AllFit : List Field → Type 0
AllFit [] = Unit {0}
AllFit (f ∷ fs) = Fits f × AllFit fs

-- the members of an object, whose keys differ, also once it is filled
pub record IsObject (fs : List Field) : Type 0 where
  pub fit : AllFit fs
  pub distinct : AreDistinct [] (fields_data fs)
  pub distinct_names : AreDistinct [] (named (fields_data fs))
