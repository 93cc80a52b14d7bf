use Rattle.std.proofs.Common.{◌∙◌}
use Rattle.asl_json.specs.View.{data_of}
use Rattle.asl_def_shared.proofs.Fits.{next_clean, next_so, no_end, an_end}
use Rattle.asl_def_shared.proofs.target.Transition.read.Goals as goal

pub read-requires : goal.read-requires
read-requires c = next_clean c.args.members.now (data_of c.in-Some.name.now) c.requires (rw c.in-Some.is at c.find.ensures)

pub returns-in_ok-read-in-Some-clause-next : goal.returns-in_ok-read-in-Some-clause-next
returns-in_ok-read-in-Some-clause-next c = next_so c.args.members.now _ (c.in_ok-read-in-Some.ensures ∙ rw c.in-Some.is at c.find.ensures)

pub returns-in_ok-read-in-Some-clause-end : goal.returns-in_ok-read-in-Some-clause-end
returns-in_ok-read-in-Some-clause-end c = no_end c.args.members.now (data_of c.in-Some.name.now) c.requires (rw c.in-Some.is at c.find.ensures)

pub returns-in-None-clause-next : goal.returns-in-None-clause-next
returns-in-None-clause-next c = next_so c.args.members.now _ (rw c.in-None.is at c.find.ensures)

pub returns-in-None-clause-end : goal.returns-in-None-clause-end
returns-in-None-clause-end c = an_end c.args.members.now c.requires (rw c.in-None.is at c.find.ensures)
