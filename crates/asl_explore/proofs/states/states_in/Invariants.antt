use Rattle.std.proofs.Common.{◌≡◌, take}
use Rattle.std.specs.Prelude.{map}
use Rattle.std.specs.List.{All}
use Rattle.asl_explore.specs.States.{IsStated, names_told}
use Rattle.asl_explore.proofs.states.states_in.Given as goal

-- those of the names so far are told
abbrev pub invariant-loop-member : goal.invariant-loop-member
invariant-loop-member l = record {
  each : All (IsStated l.machine) l.states.items;
  named : names_told l.states.items ≡ map (λ m. m.now.key) (take l.member-index l.member-items);
}
