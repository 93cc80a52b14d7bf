-- Places in a mock file by the numbers of the members on the way, from 0, and the keys that they have.
use Rattle.std.specs.Prelude.{◌≡◌, ℕ, List, [], ◌∷◌, get_or, map}
use Rattle.std.specs.declared.vec.Vec.{Vec}
use Rattle.asl_json_data.specs.Data.{Data, null}
use Rattle.asl_json_data.specs.Distinct.{Members}
use Rattle.asl_mock.specs.Places.{Place}
use Rattle.asl_json.specs.Access.{member_list}

-- places as the code has them
abbrev pub numbers_of : {Z : Type 0} → List (Vec ℕ Z) → List (List ℕ)
numbers_of {Z = Z} vs = map (λ (v : Vec ℕ Z). v.items) vs

-- a member that no object has: 256 is no byte
abbrev pub nowhere : List ℕ × Data
nowhere = (256 ∷ [], null)

-- the keys on the way through the members of these numbers
abbrev pub keys_of : Members → List ℕ → Place
keys_of ms [] = []
keys_of ms (i ∷ is) = (get_or ms i nowhere).0 ∷ keys_of (member_list (get_or ms i nowhere).1) is

-- these places by numbers, one after another, are those places by keys
abbrev pub AreAt : Members → List (List ℕ) → List Place → Type 0
AreAt ms ns ps = map (keys_of ms) ns ≡ ps
