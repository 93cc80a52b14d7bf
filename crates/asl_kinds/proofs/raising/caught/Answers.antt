use Rattle.std.proofs.Common.{sym}
use Rattle.asl_def_fields.specs.Shown.{path_shown}
use Rattle.asl_step_io.specs.Paths.{put_into}
use Rattle.asl_kinds.proofs.raising.caught.Goals as goal

pub returns : goal.returns
returns c =
    let gives = c.passed.ensures (put_into (path_shown c.result_path.result.now) c.args.input.now c.in_ok-output.output) c.put_into-given.ensures in
    let told = rw (c.in_ok-output.ensures.ok, c.in_ok-error_output.ensures, c.result_path.ensures, c.as_str-next.ensures) at gives in
    rw (sym c.next.ensures) told
