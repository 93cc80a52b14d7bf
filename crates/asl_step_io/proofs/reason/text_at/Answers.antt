use Rattle.std.proofs.Common.{◌≡◌, refl}
use Rattle.asl_def_fields.specs.declared.path.PathOrCall.TheVariants.{Path, Call}
use Rattle.asl_def_states.proofs.Begins.{path_begins, call_begins}
use Rattle.asl_step_io.proofs.Texts.{shown_text}
use Rattle.asl_step_io.proofs.reason.text_at.Goals as goal

pub returns-in-Path-clause-given : goal.returns-in-Path-clause-given
returns-in-Path-clause-given c t e =
    let same = shown_text c.args.at.now (Path c.in-Path.path) c.in-Path.path t c.in-Path.is refl e in
    rw (same, path_begins c.in-Path.path c.text-begins_with_a_dollar.ensures.path) c.at_path.ensures.given

pub returns-in-Call-clause-given : goal.returns-in-Call-clause-given
returns-in-Call-clause-given c t e =
    let same = shown_text c.args.at.now (Call c.in-Call.call) c.in-Call.call t c.in-Call.is refl e in
    rw (same, call_begins c.in-Call.call c.text-begins_with_a_name.ensures.call) c.at_call.ensures.given
