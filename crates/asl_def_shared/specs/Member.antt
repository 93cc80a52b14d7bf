-- What a state's own members are compiled to: paths and templates.
use Rattle.std.specs.Prelude.{ℕ, List, [], ◌∷◌, Option, Some, None, if◌then◌else◌, codes}
use Rattle.asl_json_data.specs.Data.{Data, text}
use Rattle.asl_json.specs.Meaning.{value_in}
use Rattle.asl_template.specs.Filling.{is_path}
use Rattle.asl_def_schema.specs.Members.{is_among}
use Rattle.asl_def_shared.specs.declared.completion.Completion.{Completion}
use Rattle.asl_def_shared.specs.Parts.{object}
use Rattle.asl_def_shared.specs.Parts.{completion_members}

-- the members whose value may be a path
abbrev pub path_names : List (List ℕ)
path_names =
    codes "InputPath"
    ∷ codes "ResultPath"
    ∷ codes "OutputPath"
    ∷ codes "ItemsPath"
    ∷ codes "TimeoutSecondsPath"
    ∷ codes "HeartbeatSecondsPath"
    ∷ codes "SecondsPath"
    ∷ codes "TimestampPath"
    ∷ codes "ErrorPath"
    ∷ codes "CausePath"
    ∷ []

-- the members whose value is a template
abbrev pub template_names : List (List ℕ)
template_names = codes "Parameters" ∷ codes "ItemSelector" ∷ codes "ResultSelector" ∷ []

-- the members by which a state says what becomes of its result or its error
abbrev pub completion_names : List (List ℕ)
completion_names =
    codes "ResultSelector" ∷ codes "ResultPath" ∷ codes "OutputPath" ∷ codes "Retry" ∷ codes "Catch"
    ∷ codes "Next" ∷ codes "End" ∷ []

-- an object of those members alone
abbrev pub completion_object : Completion → Data
completion_object o = object (completion_members o)

-- the path that a value is: a text that begins with `$`. A null names nothing, and another text is
-- a call
abbrev pub path_of : Option Data → Option (List ℕ)
path_of (Some (text t)) = if is_path t then Some t else None
path_of _ = None

-- the path that an object has as this member
abbrev pub path_member : List ℕ → Data → Option (List ℕ)
path_member k d = if is_among k path_names then path_of (value_in k d) else None

-- the template that an object has as this member
abbrev pub template_member : List ℕ → Data → Option Data
template_member k d = if is_among k template_names then value_in k d else None
