use Rattle.std.specs.Str.{chars}
use Rattle.std.proofs.Common.{◌++◌, ◌∙◌}
use Rattle.asl_json.specs.View.{items_of}
use Rattle.asl_intrinsic_functions.specs.private.Loops.{split_behind}
use Rattle.asl_intrinsic_functions.proofs.Splitting.{split_texts}
use Rattle.asl_intrinsic_functions.proofs.split.split.Goals as goal

pub loop-character-init : goal.loop-character-init
loop-character-init c = (λ cs h. (λ i. items_of (c.new-pieces.ensures.items i) ++ split_behind cs (c.new-piece.ensures.bytes i) (chars c.args.text.now)) ∙ split_texts cs (chars c.args.text.now), c.utf8.text)
