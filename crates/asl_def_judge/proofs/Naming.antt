-- The names of a machine's states, by its members.
use Rattle.std.proofs.Common.{◌≡◌, ℕ, Bool, true, false, ◌||◌, List, [], ◌∷◌, refl, sym, ap, ◌∙◌}
use Rattle.std.specs.Prelude.{Some, Option, is_some}
use Rattle.asl_json_data.specs.Data.{Data, Pairs, dict, pairs}
use Rattle.asl_json.specs.Same.{bytes_eq}
use Rattle.asl_json_data.specs.Distinct.{has_key}
use Rattle.asl_json.specs.Meaning.{value_at}
use Rattle.std.specs.Prelude.{codes}
use Rattle.asl_json.specs.Access.{members_of_any}
use Rattle.asl_def_schema.specs.Claims.{names_in}

pub key_is_there : (k : List ℕ) (xs : List (List ℕ × Data)) → has_key k xs ≡ is_some (value_at k (pairs xs))
key_is_there k [] = refl
key_is_there k (x ∷ xs) = by (bytes_eq k x.0) refl (key_is_there k xs)
  where
    by : (b : Bool) → bytes_eq k x.0 ≡ b → has_key k xs ≡ is_some (value_at k (pairs xs)) → (bytes_eq k x.0 || has_key k xs) ≡ is_some (value_at k (pairs (x ∷ xs)))
    by true e rest = rw e refl
    by false e rest = rw e rest

pub states_are : (k : List ℕ) (xs own : List (List ℕ × Data)) (ms : Pairs) → value_at (codes "States") ms ≡ Some (dict (pairs own)) → xs ≡ own → has_key k xs ≡ names_in ms k
states_are k xs own ms e same = rw same (key_is_there k own ∙ ap (λ (o : Option Data). is_some (value_at k (members_of_any o))) (sym e))
