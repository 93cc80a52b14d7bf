use Rattle.std.proofs.Common.{◌≡◌, ◌∙◌, ◌++◌, ap, append_assoc, codes, string_bytes, List, ℕ, Result, Ok, Err, cond}
use Rattle.std.proofs.lemmas.Result.{on_ok_weaker}
use Rattle.std.specs.Prelude.{OnOk, is_ok}
use Rattle.asl_json_data.specs.Compact.{quoted}
use Rattle.asl_exec.proofs.obstacle.put_reason.Goals as goal

pub returns-in_ok-push_str-in-OneTask-clause-ok : goal.returns-in_ok-push_str-in-OneTask-clause-ok
returns-in_ok-push_str-in-OneTask-clause-ok c =
    let out = string_bytes c.args.out.now in
    let told : string_bytes c.push_str-in-OneTask.new.self ++ quoted c.as_str.result.now ≡ out ++ (codes "both invoke " ++ quoted c.in-OneTask.name) =
    ap (λ b. b ++ quoted c.as_str.result.now) c.in_ok-push_str-in-OneTask.ensures.bytes
    ∙ append_assoc out (codes "both invoke ") (quoted c.as_str.result.now)
    ∙ ap (λ n. out ++ (codes "both invoke " ++ quoted n)) c.as_str.ensures in
    rw c.in-OneTask.is (on_ok_weaker c.put_quoted.result (λ e. e ∙ told) c.put_quoted.ensures.ok)

appended : {T E : Type 0} (r : Result T E) (x a b : List ℕ) → x ≡ cond (is_ok r) a b → OnOk r (x ≡ a)
appended (Ok y) x a b e = e
appended (Err y) x a b e = tt

pub returns-in-NoRoom-clause-ok : goal.returns-in-NoRoom-clause-ok
returns-in-NoRoom-clause-ok c = rw c.in-NoRoom.is (appended c.push_str-in-NoRoom.result _ _ (string_bytes c.args.out.now) c.push_str-in-NoRoom.ensures.bytes)
