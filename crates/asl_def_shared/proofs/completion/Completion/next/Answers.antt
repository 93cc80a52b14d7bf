use Rattle.std.proofs.Common.{refl}
use Rattle.std.specs.Prelude.{codes}
use Rattle.asl_def_shared.proofs.Names.{named}
use Rattle.asl_def_shared.specs.Parts.{next_shown, end_shown}
use Rattle.asl_def_shared.specs.Parts.{completion_members}
use Rattle.asl_def_shared.proofs.completion.Completion.next.Goals as goal

pub returns-clause-next : goal.returns-clause-next
returns-clause-next c = named (codes "Next") (next_shown c.args.self.now.next) (completion_members c.args.self.now) refl

pub returns-clause-end : goal.returns-clause-end
returns-clause-end c = named (codes "End") (end_shown c.args.self.now.next) (completion_members c.args.self.now) refl
