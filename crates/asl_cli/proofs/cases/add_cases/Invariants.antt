use Rattle.std.proofs.Common.{◌≡◌, ◌++◌, drop}
use Rattle.asl_json_data.specs.Data.{pairs}
use Rattle.asl_json.specs.View.{members_of}
use Rattle.asl_cli.specs.Cases.{in_cases}
use Rattle.asl_cli.proofs.cases.add_cases.Given as goal

abbrev pub invariant-loop-case : goal.invariant-loop-case
invariant-loop-case l = l.out.items ++ in_cases l.machine (pairs (members_of (drop l.case-index l.case-items))) ≡ l.fn.out.items ++ in_cases l.machine (pairs (members_of l.case-items))
