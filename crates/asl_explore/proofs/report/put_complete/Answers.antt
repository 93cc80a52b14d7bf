use Rattle.std.proofs.Common.{List, ℕ, ◌++◌, ◌∙◌, ap}
use Rattle.std.specs.Prelude.{codes, string_bytes}
use Rattle.std.proofs.lemmas.List.{append_assoc}
use Rattle.std.proofs.lemmas.Result.{on_ok_weaker}
use Rattle.asl_explore.specs.Reports.{scope_text}
use Rattle.asl_explore.proofs.report.put_complete.Goals as goal

pub returns : goal.returns
returns c =
    let scope : List ℕ = scope_text c.args.orders c.args.clock.now in
    on_ok_weaker c.put_scope.result (λ h. h ∙ ap (λ (t : List ℕ). t ++ scope) c.in_ok-push_str.ensures.bytes ∙ append_assoc (string_bytes c.args.out.now) (codes "search complete: ") scope) c.put_scope.ensures
