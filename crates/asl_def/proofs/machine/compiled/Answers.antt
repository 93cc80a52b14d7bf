use Rattle.std.proofs.Common.{◌∙◌, ap, sym, subst, refl}
use Rattle.std.specs.Prelude.{List, Option, Some, IfSome}
use Rattle.asl_json_data.specs.Data.{Data, dict, pairs}
use Rattle.asl_json.specs.View.{data_of}
use Rattle.asl_def_schema.specs.declared.sort.Sort.TheVariants.{Text, Target, States}
use Rattle.asl_def_schema.specs.Clean.{IsClean, IsThere}
use Rattle.asl_def_schema.proofs.Accepting.{accepted_object}
use Rattle.asl_def_schema.proofs.Kept.{form_fits}
use Rattle.asl_def_fields.specs.Readable.{IsText}
use Rattle.asl_def_fields.proofs.Fitting.{fit, text_fits}
use Rattle.asl_def_fields.proofs.Retrying.{not_none, value_there}
use Rattle.asl_def.specs.private.Built.{Grows}
use Rattle.asl_def_schema.specs.Canon.{Named}
use Rattle.asl_def_shared.proofs.Heads.{comment_fits}
use Rattle.asl_def.proofs.Wholes.{members_clean, start_is_there, states_are_there, empty_room, definition_shows, whole}
use Rattle.asl_def.proofs.machine.compiled.Goals as goal

pub object_in-members-requires : goal.object_in-members-requires
object_in-members-requires c = accepted_object (data_of c.args.definition.now) c.requires

pub read-requires : goal.read-requires
read-requires c = (members_clean (data_of c.args.definition.now) c.object_in-members.result.now c.requires c.object_in-members.ensures)

pub read_optional-requires : goal.read_optional-requires
read_optional-requires c = subst (λ (o : Option Data). IfSome o IsText) (sym c.find.ensures) (fit Text IsText (λ d. text_fits Text d refl) _ (comment_fits (pairs c.object_in-members.result.now) (members_clean (data_of c.args.definition.now) c.object_in-members.result.now c.requires c.object_in-members.ensures)))

pub read-requires-2 : goal.read-requires-2
read-requires-2 c = subst (IsThere Target) (sym c.find-2.ensures) (start_is_there (pairs c.object_in-members.result.now) (members_clean (data_of c.args.definition.now) c.object_in-members.result.now c.requires c.object_in-members.ensures))

pub unreachable-requires : goal.unreachable-requires
unreachable-requires c = not_none States _ (rw c.in_default.is at c.find-3.ensures) (states_are_there (pairs c.object_in-members.result.now) (members_clean (data_of c.args.definition.now) c.object_in-members.result.now c.requires c.object_in-members.ensures))

pub object_in-requires : goal.object_in-requires
object_in-requires c = form_fits (value_there States _ (data_of c.in-Some.own.now) (rw c.in-Some.is at c.find-3.ensures) (states_are_there (pairs c.object_in-members.result.now) (members_clean (data_of c.args.definition.now) c.object_in-members.result.now c.requires c.object_in-members.ensures)))

pub states-requires-clause-clean : goal.states-requires-clause-clean
states-requires-clause-clean c = subst (IsClean States) c.object_in.ensures (value_there States _ (data_of c.in-Some.own.now) (rw c.in-Some.is at c.find-3.ensures) (states_are_there (pairs c.object_in-members.result.now) (members_clean (data_of c.args.definition.now) c.object_in-members.result.now c.requires c.object_in-members.ensures)))

pub states-requires-clause-room : goal.states-requires-clause-room
states-requires-clause-room c = rw c.new-table.ensures (empty_room (data_of c.args.definition.now) c.object_in-members.result.now (dict (pairs c.object_in.result.now)) c.requires c.object_in-members.ensures (sym (rw c.in-Some.is at c.find-3.ensures) ∙ ap Some c.object_in.ensures))

pub returns-clause-shown : goal.returns-clause-shown
returns-clause-shown c = definition_shows (data_of c.args.definition.now) c.states.new.table c.object_in-members.result.now c.object_in.result.now _ _ c.in_ok-span.span c.object_in-members.ensures (c.in_ok-comment.ensures ∙ c.find.ensures) c.in_ok-heading.ensures.language c.in_ok-heading.ensures.version (c.in_ok-start.ensures ∙ c.find-2.ensures) c.in_ok-heading.ensures.timeout (sym (rw c.in-Some.is at c.find-3.ensures) ∙ ap Some c.object_in.ensures) c.in_ok-span.ensures.span refl refl

pub returns-clause-whole : goal.returns-clause-whole
returns-clause-whole c =
    let made = subst (λ (t : List Named). Grows States (dict (pairs c.object_in.result.now)) t c.states.new.table) c.new-table.ensures c.in_ok-span.ensures.grows in
    whole (data_of c.args.definition.now) c.states.new.table c.object_in-members.result.now c.object_in.result.now _ _ c.object_in-members.ensures (sym (rw c.in-Some.is at c.find-3.ensures) ∙ ap Some c.object_in.ensures) (definition_shows (data_of c.args.definition.now) c.states.new.table c.object_in-members.result.now c.object_in.result.now _ _ c.in_ok-span.span c.object_in-members.ensures (c.in_ok-comment.ensures ∙ c.find.ensures) c.in_ok-heading.ensures.language c.in_ok-heading.ensures.version (c.in_ok-start.ensures ∙ c.find-2.ensures) c.in_ok-heading.ensures.timeout (sym (rw c.in-Some.is at c.find-3.ensures) ∙ ap Some c.object_in.ensures) c.in_ok-span.ensures.span refl refl) made c.in_ok-span.ensures.span.within c.every_value_is_sound.ensures.keys c.requires
