use Rattle.std.proofs.Common.{◌≡◌, ◌+◌, drop}
use Rattle.asl_project.specs.Places.{blanks}
use Rattle.asl_project.proofs.places.blanks.Given as goal

-- all so far are blank
abbrev pub invariant-loop-i : goal.invariant-loop-i
invariant-loop-i l = blanks l.text ≡ l.i + blanks (drop l.i l.text)
