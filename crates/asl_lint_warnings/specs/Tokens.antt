-- Whether a Task hands out the token that it waits for (Developer Guide, "Wait for a Callback with
-- the Task Token").
use Rattle.std.specs.Prelude.{ℕ, List, [], ◌∷◌, Bool, false, ◌||◌, ◌&&◌, Option, Some, None, codes}
use Rattle.asl_json_data.specs.Data.{Data, text, list, dict, Chain, no_items, item, Pairs, no_members, member}
use Rattle.asl_json.specs.Same.{bytes_eq}
use Rattle.asl_json.specs.Meaning.{value_at}
use Rattle.asl_lint_warnings.specs.Texts.{begins}

-- a path on the Context Object stands in a call
abbrev pub has_context : List ℕ → Bool
has_context [] = false
has_context (c ∷ cs) = begins (c ∷ cs) (codes "$$") || has_context cs

-- a path or a call takes the token, or what it is in; a step in brackets may lead to it
abbrev pub is_token_text : List ℕ → Bool
is_token_text t =
    bytes_eq t (codes "$$") || begins t (codes "$$.Task") || begins t (codes "$$[")
    || (begins t (codes "States.") && has_context t)

-- such a text stands in a value; under a key without `.$` it is `forgotten-dollar`, and one mistake
-- is told once
abbrev mutual
  pub has_token : Data → Bool
  has_token (text t) = is_token_text t
  has_token (list ds) = items_have_token ds
  has_token (dict ms) = members_have_token ms
  has_token d = false

  pub items_have_token : Chain → Bool
  items_have_token no_items = false
  items_have_token (item d ds) = has_token d || items_have_token ds

  pub members_have_token : Pairs → Bool
  members_have_token no_members = false
  members_have_token (member k d ms) = has_token d || members_have_token ms

abbrev pub template_has_token : Option Data → Bool
template_has_token (Some d) = has_token d
template_has_token None = false

-- the effective input is made of the Context Object
abbrev pub is_on_context : Option Data → Bool
is_on_context (Some (text t)) = begins t (codes "$$")
is_on_context _ = false

-- the input that the service gets may have the token
abbrev pub sends_token : Pairs → Bool
sends_token ms =
    is_on_context (value_at (codes "InputPath") ms)
    || template_has_token (value_at (codes "Parameters") ms)
