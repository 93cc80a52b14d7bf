use Rattle.std.proofs.Common.{ap}
use Rattle.asl_template.specs.private.View.{field_data}
use Rattle.asl_template.proofs.Equality.{computed_kept, named_apart}
use Rattle.asl_template.proofs.equal.is_computed.Goals as goal

pub returns-else-eq-2 : goal.returns-else-eq-2
returns-else-eq-2 c = named_apart c.args.field.now c.args.name.now c.in-Call.other c.args.text.now c.in-Call.call c.eq-in-Call.result (ap field_data c.in-Call.is) c.eq-in-Call.ensures c.if-eq-2.false

pub returns-else-eq : goal.returns-else-eq
returns-else-eq c = named_apart c.args.field.now c.args.name.now c.in-Path.other c.args.text.now c.in-Path.path c.eq.result (ap field_data c.in-Path.is) c.eq.ensures c.if-eq.false

pub returns-in-Kept : goal.returns-in-Kept
returns-in-Kept c = computed_kept c.args.field.now c.in-Kept.field-0 c.args.name.now c.args.text.now c.in-Kept.field-1 c.in-Kept.is c.requires
