use Rattle.std.proofs.Common.{◌≡◌, ◌∙◌, ◌++◌, ap, append_assoc, codes, string_bytes}
use Rattle.std.proofs.lemmas.Result.{on_ok_weaker}
use Rattle.asl_json_write.proofs.Buffers.{keeps_more, keeps_on}
use Rattle.asl_exec.specs.ObstacleText.{reason_text}
use Rattle.asl_exec.proofs.obstacle.put_obstacle_parts.Goals as goal

pub returns-clause-ok : goal.returns-clause-ok
returns-clause-ok c =
    let reason = reason_text c.args.obstacle.now in
    let told : string_bytes c.push_str.new.self ++ reason ≡ string_bytes c.args.out.now ++ (codes "not exchangeable: " ++ reason) = ap (λ b. b ++ reason) c.in_ok-push_str.ensures.bytes ∙ append_assoc (string_bytes c.args.out.now) (codes "not exchangeable: ") reason in
    on_ok_weaker c.put_reason.result (λ e. e ∙ told) c.put_reason.ensures.ok

pub returns-clause-kept : goal.returns-clause-kept
returns-clause-kept c = keeps_on _ _ _ (keeps_more _ _ (codes "not exchangeable: ") c.in_ok-push_str.ensures.bytes) c.put_reason.ensures.kept
