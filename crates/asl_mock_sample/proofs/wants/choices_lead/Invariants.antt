use Rattle.std.proofs.Common.{◌≡◌, drop}
use Rattle.asl_json_data.specs.Data.{chain}
use Rattle.asl_json.specs.View.{data_of, items_of, members_of}
use Rattle.asl_mock_sample.specs.Wants.{choices_lead}
use Rattle.asl_mock_sample.proofs.wants.choices_lead.Given as goal

abbrev pub invariant-loop-choice : goal.invariant-loop-choice
invariant-loop-choice l = choices_lead (members_of l.inputs) (data_of l.wants) (chain (items_of (drop l.choice-index l.choices))) ≡ choices_lead (members_of l.inputs) (data_of l.fn.so_far) (chain (items_of l.choices))
