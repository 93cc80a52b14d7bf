use Rattle.std.proofs.Common.{◌≡◌, ◌++◌, drop}
use Rattle.std.specs.Prelude.{map}
use Rattle.asl_cli.specs.Linting.{seen, words_from}
use Rattle.asl_cli.proofs.linting.words_of.Given as goal

-- those so far and those that are left are all
abbrev pub invariant-loop-number : goal.invariant-loop-number
invariant-loop-number l =
    map seen l.all.items ++ words_from l.number (map (λ n. n.now) (drop l.number l.names)) ≡ words_from 0 (map (λ n. n.now) l.names)
