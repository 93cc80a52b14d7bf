use Rattle.std.proofs.Common.{◌≡◌, take}
use Rattle.asl_template.proofs.part.+clone.Given as goal

abbrev pub invariant-Parts::try_clone-loop-part : goal.invariant-Parts::try_clone-loop-part
invariant-Parts::try_clone-loop-part l = l.parts.items ≡ take l.part-index l.part-items

abbrev pub invariant-Fields::try_clone-loop-field : goal.invariant-Fields::try_clone-loop-field
invariant-Fields::try_clone-loop-field l = l.fields.items ≡ take l.field-index l.field-items
