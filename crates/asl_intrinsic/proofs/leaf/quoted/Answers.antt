use Rattle.std.proofs.Common.{ℕ, List, subst, ◌∙◌}
use Rattle.asl_intrinsic.specs.private.Leads.{IsQuotedLen}
use Rattle.asl_intrinsic.proofs.Leaves.{quoted_boundary, text_split}
use Rattle.asl_intrinsic.proofs.leaf.quoted.Goals as goal

pub range_from-requires : goal.range_from-requires
range_from-requires c = λ lt.
    let t = c.args.text.now in
    let found = subst (λ (z : List ℕ). IsQuotedLen z c.in_ok-end.end) c.as_bytes.ensures.value c.in_ok-end.ensures.found in
    quoted_boundary t c.split_at.result.1.now c.in_ok-end.end c.utf8.text found c.split_at.ensures.back

pub returns-clause-run : goal.returns-clause-run
returns-clause-run c = λ st.
    let t = c.args.text.now in
    let found = subst (λ (z : List ℕ). IsQuotedLen z c.in_ok-end.end) c.as_bytes.ensures.value c.in_ok-end.ensures.found in
    text_split t c.in_ok-spelled.spelled c.split_at.result.1.now c.range_from.result.now c.in_ok-end.end found (c.in_ok-spelled.ensures ∙ c.split_at.ensures.front) c.split_at.ensures.back c.range_from.ensures.value st
