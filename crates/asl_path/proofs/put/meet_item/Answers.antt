use Rattle.std.proofs.Common.{refl, arith, ap, sym, ◌∙◌, Some}
use Rattle.asl_json.specs.View.{data_of}
use Rattle.asl_path.proofs.Opening.{item_out, no_item}
use Rattle.asl_path.proofs.put.meet_item.Goals as goal

pub returns-then-i-len : goal.returns-then-i-len
returns-then-i-len c = (refl, λ f. no_item c.args.items c.args.i f (omega (arith, c.len.ensures)))

pub returns : goal.returns
returns c = item_out c.args.items c.args.i (data_of c.replace-part.new.dest) (data_of c.replace-part.result) (omega (arith, c.len.ensures)) (c.item_mut.ensures.value ∙ ap (λ z. Some (data_of z)) (sym c.replace-part.ensures.value))
