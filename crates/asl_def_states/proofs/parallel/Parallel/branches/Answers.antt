use Rattle.std.proofs.Common.{refl}
use Rattle.std.specs.Prelude.{codes, Some}
use Rattle.asl_def_shared.proofs.Names.{named}
use Rattle.asl_json_data.specs.Data.{list, chain}
use Rattle.asl_def_shared.specs.Bodies.{bodies_of}
use Rattle.asl_def_states.specs.Show.{parallel_members}
use Rattle.asl_def_states.proofs.parallel.Parallel.branches.Goals as goal

pub returns : goal.returns
returns c t = named (codes "Branches") (Some (list (chain (bodies_of t c.args.self.now.branches)))) (parallel_members t c.args.self.now) refl
