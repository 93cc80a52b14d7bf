use Rattle.std.proofs.Common.{◌≡◌, ◌++◌, drop}
use Rattle.std.specs.Prelude.{option_map}
use Rattle.asl_json_data.specs.Data.{pairs}
use Rattle.asl_json.specs.View.{members_of}
use Rattle.asl_cli.specs.Cases.{in_machines}
use Rattle.asl_cli.proofs.cases.add_machines.Given as goal

abbrev pub invariant-loop-machine : goal.invariant-loop-machine
invariant-loop-machine l = l.out.items ++ in_machines (option_map (λ w. w.now) l.wanted) (pairs (members_of (drop l.machine-index l.machine-items))) ≡ l.fn.out.items ++ in_machines (option_map (λ w. w.now) l.wanted) (pairs (members_of l.machine-items))
