use Rattle.std.proofs.Common.{subst}
use Rattle.asl_path.specs.Faults.{IsFaultOf}
use Rattle.asl_intrinsic.proofs.Leaves.{whole_len, fault_len}
use Rattle.asl_intrinsic.proofs.leaf.path_len.Goals as goal

pub returns-in_default-clause-found : goal.returns-in_default-clause-found
returns-in_default-clause-found c = whole_len c.args.text.now c.in_default.ensures.found

pub returns-in-PathProfile-clause-found : goal.returns-in-PathProfile-clause-found
returns-in-PathProfile-clause-found c = fault_len c.args.text.now c.in-PathProfile.end (subst (IsFaultOf c.args.text.now) c.in-PathProfile.is c.in-Err.ensures.fault)
