use Rattle.std.proofs.Common.{ℕ, List, ◌++◌}
use Rattle.std.specs.Vec.Iter.{into_iter_items}
use Rattle.asl_host.specs.declared.files.Unreadable.{Unreadable}
use Rattle.asl_cli.specs.declared.fault.CommandFault.{CommandFault}
use Rattle.asl_suite_file.specs.declared.expectation.Expectation.{Expectation}
use Rattle.asl_cli.specs.Inputs.{AreTestsOn, IsFirstLost}
use Rattle.asl_cli.proofs.Held.{AreKnownOf}
use Rattle.asl_cli.proofs.inputs.with_inputs.Given as goal

-- what is known holds; the tests of what is left go on with those so far, and so does what is lost
abbrev pub invariant-loop-draft : goal.invariant-loop-draft
invariant-loop-draft g l = record {
  kept : (n b : List ℕ) → g.F.Files.gives l.files n b → g.F.Files.gives l.fn.files n b;
  lacking : (n : List ℕ) (u : Unreadable) → g.F.Files.lacks l.files n u → g.F.Files.lacks l.fn.files n u;
  known : AreKnownOf (g.F.Files.gives l.fn.files) l.file l.known.items;
  tests : (ts : List Expectation) → AreTestsOn (g.F.Files.gives l.fn.files) l.file (into_iter_items l.draft-iterator) ts
      → AreTestsOn (g.F.Files.gives l.fn.files) l.file l.fn.drafts.list.items (l.list.items ++ ts);
  first : (r : CommandFault) → IsFirstLost (g.F.Files.gives l.fn.files) (g.F.Files.lacks l.fn.files) l.file (into_iter_items l.draft-iterator) r
      → IsFirstLost (g.F.Files.gives l.fn.files) (g.F.Files.lacks l.fn.files) l.file l.fn.drafts.list.items r;
}
