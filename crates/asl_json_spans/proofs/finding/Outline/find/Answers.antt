use Rattle.std.proofs.Common.{[], ap, sym, subst, ◌∙◌, List}
use Rattle.std.specs.Prelude.{Some}
use Rattle.asl_json_spans.specs.declared.span.Node.{Node}
use Rattle.asl_json_spans.specs.Places.{place, place_at}
use Rattle.asl_json_spans.specs.Standing.{Finds}
use Rattle.asl_json_spans.specs.private.Marks.{found, first_of}
use Rattle.asl_json_spans.proofs.Places.{place_found}
use Rattle.asl_json_spans.proofs.finding.Outline.find.Goals as goal

pub returns : goal.returns
returns c = λ b d h.
    let nodes = ap (λ (ns : List Node). first_of (found ns c.args.place.now)) (c.deref.ensures.value ∙ c.self.view_is) in
    subst (Finds b (place_at (Some (place [] d)) c.args.place.now)) (sym (c.first_of.ensures ∙ ap first_of c.found.ensures ∙ nodes)) (place_found b d c.args.self.now c.args.place.now h)
