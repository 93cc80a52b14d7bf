use Rattle.std.proofs.Common.{◌≡◌, ◌∙◌, sym, ap}
use Rattle.asl_json.specs.Same.{items_equal}
use Rattle.asl_def_shared.specs.Parts.{catcher_objects}
use Rattle.asl_def_shared.proofs.Alike.{catchers_alike}
use Rattle.asl_def_shared.proofs.catcher.CatchersPartialEq.eq.Goals as goal

pub returns : goal.returns
returns c =
    let left : catcher_objects c.as_slice.result.now ≡ c.args.self.now = ap catcher_objects c.as_slice.ensures.value ∙ c.self.view_is in
    let right : catcher_objects c.as_slice-2.result.now ≡ c.args.other.now = ap catcher_objects c.as_slice-2.ensures.value ∙ c.other.view_is in
    c.eq.ensures ∙ sym (catchers_alike c.as_slice.result.now c.as_slice-2.result.now) ∙ (λ i. items_equal (left i) (right i))
