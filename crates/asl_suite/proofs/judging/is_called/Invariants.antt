use Rattle.std.proofs.Common.{◌≡◌, drop}
use Rattle.asl_json_data.specs.Data.{chain}
use Rattle.asl_json.specs.Meaning.{same_items}
use Rattle.asl_json.specs.View.{items_of}
use Rattle.asl_suite.specs.Cases.{inputs_of}
use Rattle.asl_suite.proofs.judging.is_called.Given as goal

-- what is left decides
abbrev pub invariant-loop-event : goal.invariant-loop-event
invariant-loop-event l = same_items (chain (items_of l.left)) (chain (inputs_of l.wanted.state (drop l.event-index l.events))) ≡ same_items (chain l.wanted.inputs) (chain (inputs_of l.wanted.state l.events))
