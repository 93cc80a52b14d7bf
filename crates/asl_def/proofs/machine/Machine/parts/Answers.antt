use Rattle.std.proofs.Common.{◌∙◌, ap, sym, subst}
use Rattle.asl_def.specs.Whole.{shown_by, IsWholeIn}
use Rattle.asl_def.proofs.machine.Machine.parts.Goals as goal

pub returns-clause-shown : goal.returns-clause-shown
returns-clause-shown c = ap shown_by c.deref.ensures ∙ c.self.view_is

pub returns-clause-whole : goal.returns-clause-whole
returns-clause-whole c = subst IsWholeIn (sym c.deref.ensures) c.self.invariant
