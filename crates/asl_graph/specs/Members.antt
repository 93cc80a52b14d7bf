-- What is read off a value by the name of a member.
use Rattle.std.specs.Prelude.{ℕ, List, [], Option, Some, None}
use Rattle.asl_json_data.specs.Data.{Data, text, Chain, no_items}
use Rattle.asl_json.specs.Access.{items_in}
use Rattle.asl_json.specs.Meaning.{value_in}

abbrev pub text_in : Option Data → List ℕ
text_in (Some (text t)) = t
text_in _ = []

abbrev pub text_at : List ℕ → Data → List ℕ
text_at k d = text_in (value_in k d)

abbrev pub items_of_any : Option Data → Chain
items_of_any None = no_items
items_of_any (Some d) = items_in d

abbrev pub items_at : List ℕ → Data → Chain
items_at k d = items_of_any (value_in k d)
