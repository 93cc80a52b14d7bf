use Rattle.std.proofs.Common.{◌≡◌, List, drop}
use Rattle.asl_cli.specs.Projects.{Added, together, together_seen}
use Rattle.asl_cli.proofs.Parts.{GoesOn}
use Rattle.asl_cli.proofs.suites.together_of.Given as goal

-- what was added so far, and behind it what those add that are left
abbrev pub invariant-loop-suite : goal.invariant-loop-suite
invariant-loop-suite g l = (done : List Added) × (together_seen l.together ≡ together done)
    × GoesOn l.quiet l.words g.F.Files.gives g.F.Files.lacks l.fn.files l.files l.suites (drop l.suite-index l.suites) done
