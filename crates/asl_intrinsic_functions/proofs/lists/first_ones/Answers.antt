use Rattle.std.proofs.Common.{◌∙◌, ap, List}
use Rattle.asl_json_data.specs.Data.{Data}
use Rattle.asl_json.specs.View.{items_of}
use Rattle.asl_intrinsic_functions.specs.private.Loops.{kept_of}
use Rattle.asl_intrinsic_functions.proofs.Firsts.{first_kept}
use Rattle.asl_intrinsic_functions.proofs.lists.first_ones.Goals as goal

pub loop-item-init : goal.loop-item-init
loop-item-init c = ap (λ (kept : List Data). kept_of kept (items_of c.args.items.now)) c.new-kept.ensures ∙ first_kept (items_of c.args.items.now)
