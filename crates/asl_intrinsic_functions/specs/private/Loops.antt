-- What loops of the code do step by step. The proofs tie it to the definitions.
use Rattle.std.specs.Prelude.{ℕ, List, [], ◌∷◌, ◌++◌, if◌then◌else◌}
use Rattle.std.specs.Char.{encode_utf8}
use Rattle.std.specs.List.{list_any}
use Rattle.asl_json_data.specs.Data.{Data}
use Rattle.asl_json_data.specs.Distinct.{Members}
use Rattle.asl_json.specs.Meaning.{same}
use Rattle.asl_json.specs.Same.{bytes_eq}
use Rattle.asl_intrinsic_functions.specs.Texts.{is_among, unless_empty}

-- an item is put behind the kept ones, if it is the same as none of them
abbrev pub kept_with : List Data → Data → List Data
kept_with kept d = if list_any (λ x. same x d) kept then kept else kept ++ d ∷ []

-- the items one after another
abbrev pub kept_of : List Data → List Data → List Data
kept_of kept [] = kept
kept_of kept (d ∷ ds) = kept_of (kept_with kept d) ds

-- these members with a value at a key: in place of the one that is there, or behind the others
abbrev pub with_member : Members → List ℕ → Data → Members
with_member [] k d = (k, d) ∷ []
with_member (m ∷ ms) k d = if bytes_eq k m.0 then (m.0, d) ∷ ms else m ∷ with_member ms k d

-- these members with the others put in, one after another
abbrev pub put_in : Members → Members → Members
put_in ms [] = ms
put_in ms (n ∷ ns) = put_in (with_member ms n.0 n.1) ns

-- the texts between separators; the first one begins with this piece
abbrev pub split_behind : List ℕ → List ℕ → List ℕ → List Data
split_behind separators piece [] = unless_empty piece
split_behind separators piece (c ∷ cs) =
    if is_among c separators then unless_empty piece ++ split_behind separators [] cs
    else split_behind separators (piece ++ encode_utf8 c) cs
