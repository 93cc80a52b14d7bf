use Rattle.std.proofs.Common.{◌∙◌}
use Rattle.asl_template.specs.Faults.{IsTemplate}
use Rattle.asl_def_schema.proofs.Templates.{is_template}
use Rattle.asl_def_fields.specs.Readable.{IsPathOrNull}
use Rattle.asl_def_fields.proofs.Fitting.{place_or_null_fits, path_or_null_fits}
use Rattle.asl_def_shared.proofs.Fits.{selector_fits, result_path_fits, output_path_fits, retry_fits, catch_fits, completion_next, map_same, canon_found}
use Rattle.asl_def_schema.specs.declared.sort.Sort.TheVariants.{Retriers, Catchers}
use Rattle.asl_def_shared.proofs.completion.Completion.read.Goals as goal

pub read_optional-requires : goal.read_optional-requires
read_optional-requires c = selector_fits c.args.members.now IsTemplate _ is_template c.requires c.find.ensures

pub read-requires : goal.read-requires
read-requires c = result_path_fits c.args.members.now IsPathOrNull _ place_or_null_fits c.requires c.find-2.ensures

pub read-requires-2 : goal.read-requires-2
read-requires-2 c = output_path_fits c.args.members.now IsPathOrNull _ path_or_null_fits c.requires c.find-3.ensures

pub read_optional-requires-2 : goal.read_optional-requires-2
read_optional-requires-2 c = retry_fits c.args.members.now _ c.requires c.find-4.ensures

pub read_optional-requires-3 : goal.read_optional-requires-3
read_optional-requires-3 c = catch_fits c.args.members.now _ c.requires c.find-5.ensures

pub read-requires-3 : goal.read-requires-3
read-requires-3 c = completion_next c.args.members.now c.requires

pub returns : goal.returns
returns c = record { result_selector = map_same _ ∙ c.in_ok-read_optional.ensures ∙ c.find.ensures; result_path = c.in_ok-read.ensures ∙ c.find-2.ensures; output_path = c.in_ok-read-2.ensures ∙ c.find-3.ensures; retry = c.in_ok-read_optional-2.ensures ∙ canon_found Retriers _ _ c.find-4.ensures; catch = c.in_ok-read_optional-3.ensures ∙ canon_found Catchers _ _ c.find-5.ensures; next = c.in_ok-read-3.ensures.next; ends = c.in_ok-read-3.ensures.end }
