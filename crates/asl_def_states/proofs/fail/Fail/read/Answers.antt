use Rattle.std.proofs.Common.{◌∙◌, refl}
use Rattle.std.specs.Prelude.{codes}
use Rattle.asl_json.specs.View.{data_of}
use Rattle.asl_def_schema.specs.declared.sort.Sort.TheVariants.{Text, PathOrCall}
use Rattle.asl_def_schema.specs.declared.sort.Kind.TheVariants.{Fail as FailKind}
use Rattle.asl_def_schema.specs.Members.{fail_rows}
use Rattle.asl_def_shared.specs.Built.{of_any_type}
use Rattle.asl_def_states.proofs.Canonical.{fail_shows}
use Rattle.asl_def_shared.proofs.Fits.{of_any, found_fits, error_at_most, cause_at_most}
use Rattle.asl_def_states.proofs.fail.Fail.read.Goals as goal

pub read-requires : goal.read-requires
read-requires c = of_any of_any_type FailKind c.args.members.now refl c.requires

pub read-requires-2-clause-told : goal.read-requires-2-clause-told
unfolding fail_rows
read-requires-2-clause-told c = found_fits FailKind c.args.members.now (codes "Error") Text _ refl c.requires c.find.ensures

pub read-requires-2-clause-at : goal.read-requires-2-clause-at
unfolding fail_rows
read-requires-2-clause-at c = found_fits FailKind c.args.members.now (codes "ErrorPath") PathOrCall _ refl c.requires c.find-2.ensures

pub read-requires-2-clause-one : goal.read-requires-2-clause-one
read-requires-2-clause-one c = error_at_most (λ v. data_of v.now) (λ v. data_of v.now) c.args.members.now _ _ c.requires c.find.ensures c.find-2.ensures

pub read-requires-3-clause-told : goal.read-requires-3-clause-told
unfolding fail_rows
read-requires-3-clause-told c = found_fits FailKind c.args.members.now (codes "Cause") Text _ refl c.requires c.find-3.ensures

pub read-requires-3-clause-at : goal.read-requires-3-clause-at
unfolding fail_rows
read-requires-3-clause-at c = found_fits FailKind c.args.members.now (codes "CausePath") PathOrCall _ refl c.requires c.find-4.ensures

pub read-requires-3-clause-one : goal.read-requires-3-clause-one
read-requires-3-clause-one c = cause_at_most (λ v. data_of v.now) (λ v. data_of v.now) c.args.members.now _ _ c.requires c.find-3.ensures c.find-4.ensures

pub returns : goal.returns
returns c = fail_shows c.args.members.now _ c.requires c.in_ok-read.ensures.comment c.in_ok-read.ensures.language (c.in_ok-read-2.ensures.told ∙ c.find.ensures) (c.in_ok-read-2.ensures.at ∙ c.find-2.ensures) (c.in_ok-read-3.ensures.told ∙ c.find-3.ensures) (c.in_ok-read-3.ensures.at ∙ c.find-4.ensures)
