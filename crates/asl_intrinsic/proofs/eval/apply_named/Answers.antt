use Rattle.std.proofs.Common.{sym, subst}
use Rattle.std.specs.Prelude.{Option, option_map}
use Rattle.asl_json.specs.View.{data_of}
use Rattle.asl_intrinsic_functions.specs.declared.function.Function.{Function}
use Rattle.asl_intrinsic_functions.specs.Gives.{Gives}
use Rattle.asl_intrinsic_functions.specs.Seen.{all_seen}
use Rattle.asl_intrinsic.specs.Calls.{apply_named}
use Rattle.asl_intrinsic.proofs.Naming.{is_named}
use Rattle.asl_intrinsic.proofs.eval.apply_named.Goals as goal

pub returns : goal.returns
returns c = subst (λ (f : Option Function). Gives data_of (apply_named f (option_map (λ t. t.now) c.args.written) (all_seen c.args.values.now)) c.apply.result) (sym (is_named c.args.function)) c.apply.ensures
