-- What may cross threads: paths, calls of intrinsic functions and templates.
use denote.Param.Send.{IsSend, IsSync, sendable}
use Rattle.std.proofs.Crossing.{crosses}
use Rattle.asl_intrinsic.proofs.call.Arguments.TheLaws.TheKnot as call
use Rattle.asl_template.proofs.part.Fields.TheLaws.TheKnot as part
use Rattle.asl_threads_base.proofs.Values.{values}
use Rattle.asl_path.specs.contracts.path.RefPath.{the_row as ref_path_row}
use Rattle.asl_intrinsic.specs.contracts.call.Arguments.{the_row as arguments_row}
use Rattle.asl_intrinsic.specs.contracts.call.Argument.{the_field as argument_field}
use Rattle.asl_intrinsic.specs.contracts.expr.Expr.{the_row as expr_row}
use Rattle.asl_template.specs.contracts.part.Parts.{the_row as parts_row}
use Rattle.asl_template.specs.contracts.part.Fields.{the_row as fields_row}
use Rattle.asl_template.specs.contracts.part.Part.{the_field as part_field}
use Rattle.asl_template.specs.contracts.template.Template.{the_row as template_row}

pub ref_path_send : IsSend ref_path_row
ref_path_send = search (crosses, sendable) depth 60 fits 20000

pub ref_path_sync : IsSync ref_path_row
ref_path_sync = search (crosses, sendable) depth 60 fits 20000

pub arguments_send : IsSend arguments_row
arguments_send = search (values, ref_path_send, crosses, call.crosses, sendable) depth 60 fits 20000

pub arguments_sync : IsSync arguments_row
arguments_sync = search (values, ref_path_sync, crosses, call.crosses, sendable) depth 60 fits 20000

pub argument_field_send : IsSend argument_field.row
argument_field_send = search (values, ref_path_send, arguments_send, sendable) depth 60 fits 20000

pub argument_field_sync : IsSync argument_field.row
argument_field_sync = search (values, ref_path_sync, arguments_sync, sendable) depth 60 fits 20000

pub expr_send : IsSend expr_row
expr_send = search (values, argument_field_send, sendable) depth 60 fits 20000

pub expr_sync : IsSync expr_row
expr_sync = search (values, argument_field_sync, sendable) depth 60 fits 20000

pub parts_send : IsSend parts_row
parts_send = search (values, ref_path_send, expr_send, crosses, part.crosses, sendable) depth 60 fits 20000

pub parts_sync : IsSync parts_row
parts_sync = search (values, ref_path_sync, expr_sync, crosses, part.crosses, sendable) depth 60 fits 20000

pub fields_send : IsSend fields_row
fields_send = search (values, ref_path_send, expr_send, crosses, part.crosses, sendable) depth 60 fits 20000

pub fields_sync : IsSync fields_row
fields_sync = search (values, ref_path_sync, expr_sync, crosses, part.crosses, sendable) depth 60 fits 20000

pub part_field_send : IsSend part_field.row
part_field_send = search (values, parts_send, fields_send, sendable) depth 60 fits 20000

pub part_field_sync : IsSync part_field.row
part_field_sync = search (values, parts_sync, fields_sync, sendable) depth 60 fits 20000

pub template_send : IsSend template_row
template_send = search (part_field_send, sendable) depth 60 fits 20000

pub template_sync : IsSync template_row
template_sync = search (part_field_sync, sendable) depth 60 fits 20000

pub ruleset paths = (
  ref_path_send,
  ref_path_sync,
  arguments_send,
  arguments_sync,
  argument_field_send,
  argument_field_sync,
  expr_send,
  expr_sync,
  parts_send,
  parts_sync,
  fields_send,
  fields_sync,
  part_field_send,
  part_field_sync,
  template_send,
  template_sync,
)
