use Rattle.std.proofs.Common.{◌∙◌, ap, sym}
use Rattle.asl_def_states.specs.declared.state.State.{State}
use Rattle.asl_def_states.specs.Show.{state_of}
use Rattle.asl_def_shared.specs.Member.{path_member}
use Rattle.asl_def_states.proofs.state.State.path.Goals as goal

pub returns-in-Map : goal.returns-in-Map
returns-in-Map c t = c.path-in-Map.ensures t ∙ ap (λ (s : State). path_member c.args.member.now (state_of t s)) (sym c.in-Map.is)
