use Rattle.std.proofs.Common.{subst, sym, ◌∙◌}
use Rattle.asl_path.specs.Faults.{IsFaultOf}
use Rattle.asl_intrinsic.proofs.Leaves.{path_stray, path_found, path_lost}
use Rattle.asl_intrinsic.proofs.leaf.path.Goals as goal

pub returns-then-is_stray-clause-run : goal.returns-then-is_stray-clause-run
returns-then-is_stray-clause-run c = λ st. path_stray c.args.text.now c.in_ok-end.end c.in_ok-end.ensures.found (sym c.is_stray.ensures ∙ c.if-is_stray.true) st

pub returns-in-Ok-clause-run : goal.returns-in-Ok-clause-run
returns-in-Ok-clause-run c = λ st. path_found c.args.text.now c.split_at.result.0.now c.in-Ok.path c.split_at.result.1.now c.in_ok-end.end c.in_ok-end.ensures.found c.split_at.ensures.front c.split_at.ensures.back c.in-Ok.ensures.text c.in-Ok.ensures.found st

pub returns-in-Err-PathProfile-clause-run : goal.returns-in-Err-PathProfile-clause-run
returns-in-Err-PathProfile-clause-run c = λ st.
    rw c.stuck.ensures (path_lost c.args.text.now c.split_at.result.0.now c.split_at.result.1.now c.in_ok-end.end c.in-Err-PathProfile.field-0-0 c.in_ok-end.ensures.found c.split_at.ensures.front c.split_at.ensures.back (subst (IsFaultOf c.split_at.result.0.now) c.in-Err-PathProfile.field-0-is c.in-Err-PathProfile.ensures.fault) st)
