use Rattle.std.proofs.Common.{List, ℕ}
use Rattle.asl_host.specs.Naming.{beside}
use Rattle.asl_cli.specs.Inputs.{IsHeld}
use Rattle.asl_cli.proofs.Held.{kept-held}
use Rattle.asl_cli.proofs.inputs.input_named.Goals as goal

pub returns-clause-known : goal.returns-clause-known
returns-clause-known g c = λ n v h. kept-held (λ (m : List ℕ). IsHeld (g.F.Files.gives c.args.files.now) (beside c.args.file.now m)) c.args.known.now.items c.args.name.now c.in_ok-input-2.input n v c.in_ok-input-2.ensures.held (c.in_ok-keep.ensures n v h)
