-- A machine with all its states.
use Rattle.std.specs.Prelude.{◌≡◌, List, length}
use Rattle.asl_json_data.specs.Data.{Data}
use Rattle.asl_def_schema.specs.Canon.{Named, canonical}
use Rattle.asl_def_schema.specs.Faults.{Accepted}
use Rattle.asl_def_shared.specs.declared.heading.Heading.{Heading}
use Rattle.asl_def_shared.specs.declared.body.Body.{Body}
use Rattle.asl_def_shared.specs.Bodies.{machine_of, IsWithin}
use Rattle.asl_def.specs.declared.machine.Parts.{Parts}
use Rattle.asl_def.specs.Machines.{states_of}

-- the table has the states of the machine, and no others; its own stand in it. Its definition is a
-- canonical one without faults
pub record IsWhole (t : List Named) (h : Heading) (b : Body) : Type 0 where
  pub all : t ≡ states_of (machine_of t h b)
  pub within : IsWithin (length t) b
  pub accepted : Accepted (machine_of t h b)
  pub stays : canonical (machine_of t h b) ≡ machine_of t h b

-- the definition that its parts show
abbrev pub shown_by : Parts → Data
shown_by p = machine_of p.table p.heading p.root

abbrev pub IsWholeIn : Parts → Type 0
IsWholeIn p = IsWhole p.table p.heading p.root
