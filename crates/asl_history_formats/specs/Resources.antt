-- What the resource of a Task names: the service that is called, and what of it (Step Functions API
-- Reference, TaskScheduledEventDetails; Developer Guide, "Integrating services").
use Rattle.std.specs.Prelude.{ℕ, zero, suc, Bool, ◌==◌, List, ◌++◌, codes, if◌then◌else◌}
use Rattle.std.specs.List.{before_first, after_first}
use Rattle.asl_json.specs.Same.{bytes_eq}

abbrev pub is_colon : ℕ → Bool
is_colon b = b == 58

-- what stands behind so many colons
abbrev pub behind : ℕ → List ℕ → List ℕ
behind zero t = t
behind (suc n) t = behind n (after_first is_colon t)

-- the service in an ARN, as in `arn:aws:SERVICE:region:account:name`
abbrev pub service_in : List ℕ → List ℕ
service_in t = before_first is_colon (behind 2 t)

-- its name, as `lambda:invoke` or `aws-sdk:s3:getObject` in `arn:aws:states:::lambda:invoke`
abbrev pub name_in : List ℕ → List ℕ
name_in t = behind 5 t

-- an integration of the service's own; any other resource is a function of Lambda, or of whatever
-- service it names
abbrev pub is_integration : List ℕ → Bool
is_integration t = bytes_eq (service_in t) (codes "states")

-- an API of the SDK
abbrev pub is_sdk : List ℕ → Bool
is_sdk t = bytes_eq (before_first is_colon t) (codes "aws-sdk")

-- of a name such as `lambda:invoke` or `aws-sdk:s3:getObject`
abbrev pub type_named : List ℕ → List ℕ
type_named t =
    if is_sdk t then codes "aws-sdk:" ++ before_first is_colon (after_first is_colon t)
    else before_first is_colon t

abbrev pub action_named : List ℕ → List ℕ
action_named t =
    if is_sdk t then after_first is_colon (after_first is_colon t) else after_first is_colon t

-- what `resourceType` tells
unfoldable pub resource_type : List ℕ → List ℕ
resource_type t = if is_integration t then type_named (name_in t) else service_in t

-- what `resource` tells
unfoldable pub resource_name : List ℕ → List ℕ
resource_name t = if is_integration t then action_named (name_in t) else t
