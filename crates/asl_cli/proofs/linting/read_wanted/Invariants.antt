use Rattle.std.proofs.Common.{ℕ, List, drop}
use Rattle.asl_host.specs.declared.files.Unreadable.{Unreadable}
use Rattle.asl_cli.proofs.Lints.{LostIn, ReadSoFar}
use Rattle.asl_cli.proofs.linting.read_wanted.Given as goal

-- what was read goes on with what is left, and so does what can't be read; what may be given later might have been given before
abbrev pub invariant-loop-one : goal.invariant-loop-one
invariant-loop-one g l = record {
  kept : (n b : List ℕ) → g.F.Files.gives l.files n b → g.F.Files.gives l.fn.files n b;
  lacking : (n : List ℕ) (u : Unreadable) → g.F.Files.lacks l.files n u → g.F.Files.lacks l.fn.files n u;
  read : ReadSoFar (g.F.Files.gives l.fn.files) l.wanted (drop l.one-index l.wanted) l.all.items;
  lost : LostIn (g.F.Files.gives l.fn.files) (g.F.Files.lacks l.fn.files) l.wanted (drop l.one-index l.wanted);
}
