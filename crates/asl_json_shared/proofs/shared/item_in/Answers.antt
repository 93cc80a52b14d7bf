use Rattle.asl_json_shared.proofs.Sharing.{read_is_part}
use Rattle.asl_json_shared.proofs.shared.item_in.Goals as goal

pub returns : goal.returns
returns c = read_is_part c.args.list.now c.in-List.items c.values.result.now c.args.number c.index-values-number.result c.in-List.is c.values.ensures c.requires c.index-values-number.is
