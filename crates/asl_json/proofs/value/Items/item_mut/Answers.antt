use Rattle.std.proofs.Common.{◌≡◌, length, ◌∙◌, ap, refl, sym, arith}
use Rattle.std.proofs.lemmas.List.{length-map, map-set}
use Rattle.asl_json.specs.View.{data_of}
use Rattle.asl_json.proofs.Accessing.{item_here}
use Rattle.asl_json.proofs.value.Items.item_mut.Goals as goal

pub returns : goal.returns
returns c =
    let vs = c.self.inside.values.items in
    let len : length c.args.self.now ≡ length vs = ap length (sym c.self.view_is) ∙ length-map vs data_of in
    ((refl, λ w. rw (← c.self.view_is) (map-set data_of vs c.args.i w)), record { writes_back = tt; value = rw (← c.self.view_is) (item_here vs c.args.i c.index_mut.result.now (omega (arith, c.requires)) c.index_mut.ensures.value) })
