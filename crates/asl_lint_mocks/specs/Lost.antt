-- M5: the name of a response that isn't there. Where a case has another value than a text, that it doesn't fit is told alone.
use Rattle.std.specs.Prelude.{List, Bool, true, is_some}
use Rattle.asl_json_data.specs.Data.{Data, text}
use Rattle.asl_mock.specs.Answers.{Response}
use Rattle.asl_mock.specs.Faults.{lost_but}
use Rattle.asl_mock.specs.Places.{Place}
use Rattle.asl_mock.specs.Tables.{Named, value_for}

abbrev pub is_known : List (Named Response) → Data → Bool
is_known rs (text t) = is_some (value_for t rs)
is_known rs _ = true

abbrev pub lost_names : Data → List Place
lost_names d = lost_but is_known d
