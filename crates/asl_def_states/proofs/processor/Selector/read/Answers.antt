use Rattle.asl_json.specs.View.{data_of}
use Rattle.asl_def_schema.proofs.Templates.{is_template}
use Rattle.asl_def_states.proofs.processor.Selector.read.Goals as goal

pub read-requires : goal.read-requires
read-requires c = is_template (data_of c.in-Some.template.now) (rw c.in-Some.is at c.requires.parameters)

pub read-requires-in-Some-item_selector : goal.read-requires-in-Some-item_selector
read-requires-in-Some-item_selector c = is_template (data_of c.in-Some-item_selector.template.now) (rw c.in-Some-item_selector.is at c.requires.item_selector)
