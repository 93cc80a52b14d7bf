use Rattle.std.proofs.Common.{◌≡◌, ◌++◌, drop}
use Rattle.std.specs.Prelude.{string_bytes}
use Rattle.asl_lint.specs.Sarif.{result_object}
use Rattle.asl_lint.specs.private.Writing.{more_items}
use Rattle.asl_lint.proofs.sarif_log.put_each_result.Given as goal

-- the results so far and those that are left are all
abbrev pub invariant-loop-finding : goal.invariant-loop-finding
invariant-loop-finding l = string_bytes l.out ++ more_items (result_object l.uri) l.is_begun (drop l.finding-index l.findings) ≡ string_bytes l.fn.out ++ more_items (result_object l.uri) l.fn.is_begun l.findings
