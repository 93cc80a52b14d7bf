use Rattle.std.proofs.Common.{◌≡◌, drop, length}
use Rattle.asl_json.specs.View.{items_of}
use Rattle.asl_step.specs.Seen.{seen}
use Rattle.asl_trace_data.specs.Kinds.{inputs}
use Rattle.asl_trace_data.proofs.Inputs.{behind}
use Rattle.asl_trace_data.proofs.mapping.inputs.Given as goal

-- the inputs so far, then those over the rest, are those over all
abbrev pub invariant-loop-number : goal.invariant-loop-number
invariant-loop-number l = record {
  made : behind (items_of l.list.items) (inputs l.template l.effective l.context.facts (seen l.visit) l.number (drop l.number (items_of l.fn.items))) ≡ inputs l.template l.effective l.context.facts (seen l.visit) 0 (items_of l.fn.items);
  facts : l.context.facts ≡ l.fn.context.facts;
}
