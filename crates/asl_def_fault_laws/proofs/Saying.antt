-- Each kind of fault by its sentence.
use Rattle.std.specs.Prelude.{Option, Some, None}
use Rattle.asl_json_data.specs.Data.{Data}
use Rattle.asl_def_schema.specs.declared.fault.FaultKind.{FaultKind}
use Rattle.asl_def_schema.specs.declared.fault.FaultKind.TheVariants as kind
use Rattle.asl_def_schema.specs.First.{Found, Answers}
use Rattle.asl_def_schema.specs.Faults.{claims_of}
use Rattle.asl_def_fault_laws.specs.Laws.{HasItWhere, Tells}
use Rattle.asl_def_fault_laws.proofs.Telling.{rivalled_out, rivalled_in, lost_out, lost_in, not_last_out, not_last_in, deep_out, deep_in}
use Rattle.asl_def_fault_laws.proofs.Valued.{no_object_out, no_object_in, wrong_type_out, wrong_type_in, range_out, range_in, no_path_out, no_path_in, no_call_out, no_call_in}
use Rattle.asl_def_fault_laws.proofs.Listing.{missing_out, missing_in, unlisted_out, unlisted_in, unsupported_told, unsupported_meant, undecided_out, undecided_in}
use Rattle.asl_def_fault_laws.proofs.First.{namesake_out, namesake_in, first_told, none_told}

pub said : (k : FaultKind) → HasItWhere k
said kind.NotObject d place = (no_object_out d place, no_object_in d place)
said kind.Missing d place = (missing_out d place, missing_in d place)
said kind.UnknownField d place = (unlisted_out d place, unlisted_in d place)
said kind.Unsupported d place = (unsupported_told d place, unsupported_meant d place)
said kind.WrongType d place = (wrong_type_out d place, wrong_type_in d place)
said kind.Range d place = (range_out d place, range_in d place)
said kind.Both d place = (rivalled_out d place, rivalled_in d place)
said kind.Neither d place = (undecided_out d place, undecided_in d place)
said kind.NoTarget d place = (lost_out d place, lost_in d place)
said kind.DuplicateState d place = (namesake_out d place, namesake_in d place)
said kind.AllNotLast d place = (not_last_out d place, not_last_in d place)
said kind.Path d place = (no_path_out d place, no_path_in d place)
said kind.Expression d place = (no_call_out d place, no_call_in d place)
said kind.Nesting d place = (deep_out d place, deep_in d place)

pub answers_told : (d : Data) (o : Option Found) → Answers (claims_of d) o → Tells d o
answers_told d None h = λ k place u. none_told d k place h ((said k d place).1 u)
answers_told d (Some f) h =
    let least = first_told d f h in
    ((said f.0 d f.1).0 least.0, λ k place u. least.1 k place ((said k d place).1 u))
