use Rattle.asl_def_fields.specs.private.EqualLaws.{items_exact}
use Rattle.asl_def_shared.proofs.Exact.{target_exact, transition_exact, catcher_exact, common_exact, limits_exact, completion_exact, body_exact, bodies_exact, heading_exact}
use Rattle.asl_def_shared.proofs.laws.equal_parts_are_one.Goals as goal

pub returns-clause-target : goal.returns-clause-target
returns-clause-target c = target_exact

pub returns-clause-transition : goal.returns-clause-transition
returns-clause-transition c = transition_exact

pub returns-clause-catcher : goal.returns-clause-catcher
returns-clause-catcher c = catcher_exact

pub returns-clause-catchers : goal.returns-clause-catchers
returns-clause-catchers c = items_exact

pub returns-clause-common : goal.returns-clause-common
returns-clause-common c = common_exact

pub returns-clause-limits : goal.returns-clause-limits
returns-clause-limits c = limits_exact

pub returns-clause-completion : goal.returns-clause-completion
returns-clause-completion c = completion_exact

pub returns-clause-body : goal.returns-clause-body
returns-clause-body c = body_exact

pub returns-clause-bodies : goal.returns-clause-bodies
returns-clause-bodies c = bodies_exact

pub returns-clause-heading : goal.returns-clause-heading
returns-clause-heading c = heading_exact
