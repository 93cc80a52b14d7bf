-- What a definition says of its Tasks.
use Rattle.std.specs.Prelude.{List, ℕ, [], Option, Some, None, unwrap_or, if◌then◌else◌, codes}
use Rattle.std.specs.Borrow.{Bor}
use Rattle.asl_json_data.specs.Data.{Data}
use Rattle.asl_json.specs.Meaning.{value_in}
use Rattle.asl_def_fields.specs.Retries.{whole_in}
use Rattle.asl_def_shared.specs.Texts.{text_in}
use Rattle.asl_def.specs.Machines.{state_object}
use Rattle.asl_kinds.specs.Table.{invokes}
use Rattle.asl_history_formats.specs.declared.tasks.Limits.{Limits}
use Rattle.asl_history_formats.specs.Tasks.{TaskTable}

-- the resource of a state, by its object; empty where it is no Task
abbrev pub resource_of : Data → List ℕ
resource_of d = if invokes d then unwrap_or (text_in (value_in (codes "Resource") d)) [] else []

abbrev pub resource_by : Option Data → List ℕ
resource_by None = []
resource_by (Some d) = resource_of d

abbrev pub unlimited : Limits
unlimited = record { timeout = None; heartbeat = None }

-- the limits of a Task, by its object
abbrev pub own_limits : Data → Limits
own_limits d = record {
  timeout = whole_in (value_in (codes "TimeoutSeconds") d);
  heartbeat = whole_in (value_in (codes "HeartbeatSeconds") d);
}

-- those of a state; none where it is no Task
abbrev pub limits_of : Data → Limits
limits_of d = if invokes d then own_limits d else unlimited

abbrev pub limits_by : Option Data → Limits
limits_by None = unlimited
limits_by (Some d) = limits_of d

-- the region that is named; the emulator is in none, so it is always the same where none is
abbrev pub region_of : Option (Bor (List ℕ)) → List ℕ
region_of None = codes "us-east-1"
region_of (Some region) = region.now

-- of the Tasks of a definition, by their names, which are called in this region
abbrev pub tasks_in : List ℕ → Data → TaskTable
tasks_in region m = record {
  resource = λ n. resource_by (state_object n m);
  limits = λ n. limits_by (state_object n m);
  region = region;
}
