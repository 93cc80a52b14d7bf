-- How a run ended, as a graph shows it.
use Rattle.std.specs.Prelude.{ℕ, List, [], ◌∷◌}
use Rattle.asl_history.specs.declared.event.Event.{Event}
use Rattle.asl_graph.specs.declared.marking.RunEnd.{RunEnd}
use Rattle.asl_graph.specs.declared.marking.RunEnd.TheVariants as end
use Rattle.asl_run_state.specs.declared.outcome.Outcome.{Outcome}
use Rattle.asl_run_state.specs.declared.outcome.Outcome.TheVariants.{Running, Succeeded, Failed, TimedOut}

-- a name, or that one where it is empty
abbrev pub or_name : List ℕ → List ℕ → List ℕ
or_name [] n = n
or_name (c ∷ cs) n = c ∷ cs

-- the name of the last of these events that tells of a state; n, where none does
abbrev pub last_name : List ℕ → List Event → List ℕ
last_name n [] = n
last_name n (e ∷ es) = last_name (or_name e.name n) es

-- a run fails in the state of which its history told last
abbrev pub end_of : Outcome → List Event → RunEnd
end_of (Succeeded x) es = end.Succeeded
end_of (Failed e) es = end.Failed (last_name [] es)
end_of Running es = end.Open
end_of TimedOut es = end.Open
