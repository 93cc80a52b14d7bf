use Rattle.std.proofs.Common.{◌≡◌, drop}
use Rattle.asl_suite_coverage.specs.Views.{points_of, mocks_of}
use Rattle.asl_cli.specs.Covers.{with_tests}
use Rattle.asl_cli.proofs.covering.cover_all.Given as goal

-- what is covered so far, with what is left, is what all cover
abbrev pub invariant-loop-test : goal.invariant-loop-test
invariant-loop-test l = record {
  points : with_tests l.suite (mocks_of l.coverage) (drop l.test-index l.tests) (points_of l.coverage) ≡ with_tests l.suite (mocks_of l.fn.coverage) l.tests (points_of l.fn.coverage);
}
