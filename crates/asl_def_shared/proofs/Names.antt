-- Members of a canonical object by their names.
pub use Rattle.asl_def_fields.proofs.Names.{or_else, chosen, present_at, named, lent}
use Rattle.std.proofs.Common.{◌≡◌, List, refl}
use Rattle.std.specs.Prelude.{Some, codes, option_map}
use Rattle.asl_json_data.specs.Data.{number, text}
use Rattle.asl_json.specs.Meaning.{value_in}
use Rattle.asl_def_schema.specs.Canon.{Named}
use Rattle.asl_def_shared.specs.declared.body.Body.{Body}
use Rattle.asl_def_shared.specs.declared.heading.Heading.{Heading}
use Rattle.asl_def_shared.specs.Bodies.{machine_members, machine_of}

pub start_named : (t : List Named) (h : Heading) (b : Body) → Some (text b.start.name) ≡ value_in (codes "StartAt") (machine_of t h b)
start_named t h b = named (codes "StartAt") (Some (text b.start.name)) (machine_members t h b) refl

pub timeout_named : (t : List Named) (h : Heading) (b : Body) → option_map number h.timeout ≡ value_in (codes "TimeoutSeconds") (machine_of t h b)
timeout_named t h b = named (codes "TimeoutSeconds") (option_map number h.timeout) (machine_members t h b) refl
