use Rattle.std.proofs.Common.{◌≡◌, drop, length}
use Rattle.std.specs.Prelude.{option_map}
use Rattle.asl_step.specs.Seen.{seen}
use Rattle.asl_kinds.specs.Forks.{iterations}
use Rattle.asl_kinds.proofs.Mapping.{behind}
use Rattle.asl_kinds.proofs.map.iterations.Given as goal

-- the iterations so far, then those over the rest, are those over all
abbrev pub invariant-loop-number : goal.invariant-loop-number
invariant-loop-number l = record {
  made : behind l.list.items (iterations l.start (option_map (λ t. t.now) l.template) l.effective l.context.facts (seen l.visit) l.number (drop l.number l.fn.items)) ≡ iterations l.start (option_map (λ t. t.now) l.template) l.effective l.context.facts (seen l.visit) 0 l.fn.items;
  long : length l.list.items ≡ l.number;
  facts : l.context.facts ≡ l.fn.context.facts;
}
