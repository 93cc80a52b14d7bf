use Rattle.std.proofs.Common.{◌≡◌, ◌∙◌, ◌+◌, List, ◌∷◌, ◌++◌, drop, ap, sym, subst, append_assoc}
use Rattle.std.proofs.lemmas.List.{drop_more}
use Rattle.asl_suite_coverage.specs.declared.siting.Sited.{Sited}
use Rattle.asl_suite_coverage.specs.declared.tracefile.Line.{Line}
use Rattle.asl_suite_coverage.specs.LcovText.{line_at, lines_among}
use Rattle.asl_suite_coverage.proofs.tracefile.lines_of.Goals as goal

pub loop-i-preserved : goal.loop-i-preserved
loop-i-preserved c =
    let s = c.index-sites-i.result in
    let all = c.args.sites.now in
    let i = c.loop-i.i in
    let now = c.loop-i.lines.items in
    let rest = drop (i + 1) all in
    let parts : drop i all ≡ s ∷ rest = drop_more all i s c.loop-i-test.true ∙ ap (λ v. v ∷ rest) (sym c.index-sites-i.is) in
    let added : c.add_line.new.lines.items ≡ now ++ line_at all s rest = subst (λ (b : List Sited). c.add_line.new.lines.items ≡ now ++ line_at all s b) c.behind.ensures c.in_ok-add_line.ensures in
    ap (λ (ls : List Line). ls ++ lines_among all rest) added
    ∙ append_assoc now (line_at all s rest) (lines_among all rest)
    ∙ ap (λ (ss : List Sited). now ++ lines_among all ss) (sym parts)
    ∙ c.loop-i.invariant
