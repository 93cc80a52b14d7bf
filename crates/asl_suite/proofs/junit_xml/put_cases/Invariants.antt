use Rattle.std.proofs.Common.{◌≡◌, ◌++◌, drop}
use Rattle.std.specs.Prelude.{string_bytes}
use Rattle.std.specs.List.{flat_map}
use Rattle.asl_suite.specs.Junit.{case_element}
use Rattle.asl_suite.proofs.junit_xml.put_cases.Given as goal

-- what was appended and what is left are that of all
abbrev pub invariant-loop-finding : goal.invariant-loop-finding
invariant-loop-finding l = string_bytes l.out ++ flat_map case_element (drop l.finding-index l.findings) ≡ string_bytes l.fn.out ++ flat_map case_element l.findings
