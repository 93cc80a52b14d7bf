use Rattle.std.proofs.Common.{◌≡◌, ◌∙◌, sym, ap}
use Rattle.asl_json.specs.Same.{items_equal}
use Rattle.asl_def_fields.specs.Shown.{retrier_objects}
use Rattle.asl_def_fields.proofs.AlikeRetriers.{retriers_alike}
use Rattle.asl_def_fields.proofs.retry.RetriersPartialEq.eq.Goals as goal

pub returns : goal.returns
returns c =
    let left : retrier_objects c.as_slice.result.now ≡ c.args.self.now = ap retrier_objects c.as_slice.ensures.value ∙ c.self.view_is in
    let right : retrier_objects c.as_slice-2.result.now ≡ c.args.other.now = ap retrier_objects c.as_slice-2.ensures.value ∙ c.other.view_is in
    c.eq.ensures ∙ sym (retriers_alike c.as_slice.result.now c.as_slice-2.result.now) ∙ (λ i. items_equal (left i) (right i))
