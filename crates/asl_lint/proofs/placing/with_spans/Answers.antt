use Rattle.std.proofs.Common.{◌∙◌, ap, sym, subst, List}
use Rattle.std.specs.Prelude.{map}
use Rattle.asl_json_spans.specs.Standing.{AllFind}
use Rattle.asl_lint.specs.declared.finding.Found.{Found}
use Rattle.asl_lint.specs.Findings.{pointed}
use Rattle.asl_lint.specs.Places.{AllPoint}
use Rattle.asl_lint.specs.private.Founds.{noted, with_nodes}
use Rattle.asl_lint.proofs.Telling.{nodes_point}
use Rattle.asl_lint.proofs.placing.with_spans.Goals as goal

pub returns : goal.returns
returns c = λ b d h.
    let found = c.args.found.items in
    let nodes = c.in_ok-nodes.nodes.items in
    let find = subst (λ (fs : List Found). AllFind b d (map (λ (f : Found). pointed (noted f)) fs) nodes) c.deref.ensures.value (c.in_ok-nodes.ensures b d h) in
    subst (AllPoint b d (map noted found)) (sym (c.in_ok-all.ensures ∙ ap (with_nodes found) c.deref-2.ensures.value)) (nodes_point b d found nodes find)
