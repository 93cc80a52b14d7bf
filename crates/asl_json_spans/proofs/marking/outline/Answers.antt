use Rattle.std.proofs.Common.{ℕ, List, length, ap, sym, subst, ◌∙◌, ◌++◌}
use Rattle.asl_json.specs.View.{data_of}
use Rattle.asl_json_spans.specs.declared.span.Span.{Span}
use Rattle.asl_json_spans.specs.declared.span.Node.{Node}
use Rattle.asl_json_spans.specs.Standing.{IsOutline}
use Rattle.asl_json_spans.specs.private.Marks.{marks, no_key}
use Rattle.asl_json_spans.proofs.Standing.{text_marked}
use Rattle.asl_json_spans.proofs.marking.outline.Goals as goal

pub returns : goal.returns
returns c = λ h.
    let text = c.args.text.now in
    let d = data_of c.args.value.now in
    let begin = c.behind_spaces-begin.result.now in
    let made =
    c.in_ok-mark_value.ensures.nodes
    ∙ ap (λ (ns : List Node). ns ++ marks (length text) c.span_of.result d begin) c.new-nodes.ensures.items
    ∙ ap (λ (s : Span). marks (length text) s d begin) c.span_of.ensures
    ∙ ap (λ (x : List ℕ). marks (length text) (no_key (length text) x) d x) c.behind_spaces-begin.ensures
    in
    subst (IsOutline text d) (sym made) (text_marked d text h)
