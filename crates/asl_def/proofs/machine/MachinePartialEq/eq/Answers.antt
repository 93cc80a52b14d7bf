use Rattle.std.proofs.Common.{◌∙◌}
use Rattle.asl_json.specs.Same.{equal}
use Rattle.asl_def.proofs.Alike.{says_same}
use Rattle.asl_def.proofs.machine.MachinePartialEq.eq.Goals as goal

pub returns-clause-same : goal.returns-clause-same
returns-clause-same c = says_same c.equals_parts.result c.args.self.now c.args.other.now (c.equals_parts.ensures ∙ (λ i. equal (c.parts.ensures.shown i) (c.parts-2.ensures.shown i)))
