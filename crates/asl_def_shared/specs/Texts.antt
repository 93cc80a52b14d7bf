-- Members that are texts.
use Rattle.std.specs.Prelude.{ℕ, List, Option, Some, None}
use Rattle.asl_json_data.specs.Data.{Data, text}

-- a text that is there
abbrev pub text_in : Option Data → Option (List ℕ)
text_in (Some (text t)) = Some t
text_in _ = None
