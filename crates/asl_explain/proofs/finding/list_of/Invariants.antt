use Rattle.std.proofs.Common.{◌≡◌, ◌++◌, drop}
use Rattle.std.specs.Prelude.{string_bytes}
use Rattle.std.specs.List.{flat_map}
use Rattle.asl_explain.specs.Codes.{family_lines}
use Rattle.asl_explain.proofs.finding.list_of.Given as goal

abbrev pub invariant-loop-family : goal.invariant-loop-family
invariant-loop-family l = string_bytes l.out ++ flat_map (λ f. family_lines f.now) (drop l.family-index l.families) ≡ flat_map (λ f. family_lines f.now) l.families
