-- Items linked by their marks, as code keeps them: all those of one mark are met from the latest
-- one backwards.
use Rattle.std.specs.Prelude.{◌≡◌, ℕ, suc, ◌==◌, List, [], ◌∷◌, ◌++◌, Option, Some, None, if◌then◌else◌}
use Rattle.asl_json_data.specs.Data.{Data, chain}
use Rattle.asl_intrinsic_functions.specs.private.Marks.{mark, AreApart}

-- the number of the later of two: one behind the first item, or the first item
abbrev pub later : Option ℕ → Option ℕ → Option ℕ
later (Some i) first = Some (suc i)
later None first = first

-- the number of the latest of these items that has a mark
abbrev pub latest_of : ℕ → List Data → Option ℕ
latest_of m [] = None
latest_of m (d ∷ ds) = later (latest_of m ds) (if m == mark d then Some 0 else None)

-- for each item behind others, the number of the latest one before it that has its mark
abbrev pub links_behind : List Data → List Data → List (Option ℕ)
links_behind front [] = []
links_behind front (d ∷ ds) = latest_of (mark d) front ∷ links_behind (front ++ d ∷ []) ds

pub record AreLinked (latest : ℕ → Option ℕ) (links : List (Option ℕ)) (ds : List Data) : Type 0
  where
    -- from a mark to the latest item that has it
    pub from_mark : (m : ℕ) → latest m ≡ latest_of m ds
    -- from each item to the one before it
    pub from_item : links ≡ links_behind [] ds
    -- no object has a key twice
    pub apart : AreApart (chain ds)
