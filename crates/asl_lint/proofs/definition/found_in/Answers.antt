use Rattle.std.proofs.Common.{◌∙◌, ap}
use Rattle.std.specs.Prelude.{map}
use Rattle.asl_json.specs.View.{data_of}
use Rattle.asl_lint.specs.Findings.{is_faulty, of_fault}
use Rattle.asl_lint.specs.private.Founds.{noted}
use Rattle.asl_lint.proofs.Telling.{are_found}
use Rattle.asl_lint.proofs.definition.found_in.Goals as goal

pub returns : goal.returns
returns c = are_found (data_of c.args.definition.now) c.in_ok-faults.faults.items c.is_faulty.result (map noted c.in_ok-found.found.items) (map noted c.add_warnings.new.found.items) c.in_ok-faults.ensures (c.is_faulty.ensures ∙ ap is_faulty c.deref-2.ensures.value) (c.in_ok-found.ensures ∙ ap (map of_fault) c.deref.ensures.value) c.in_ok-add_warnings.ensures
