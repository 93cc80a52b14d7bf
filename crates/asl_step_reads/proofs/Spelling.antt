-- What a text reads, by the path or the call that it spells.
use Rattle.std.proofs.Common.{refl, ap}
use Rattle.asl_path.specs.declared.step.Root.TheVariants.{Context}
use Rattle.asl_path.proofs.Passing.{path_passes}
use Rattle.asl_intrinsic.proofs.Starting.{from_context, from_input}
use Rattle.asl_intrinsic.proofs.Passing.{fitting_heard}
use Rattle.asl_step_reads.specs.Reading.{path_reads, tree_reads, call_reads}
use Rattle.asl_step_reads.specs.Laws.{ContextPathsRead, InputPathsDont, CallsReadByTrees}

pub context_paths : ContextPathsRead
unfolding path_reads
context_paths ks ss t h = rw (from_context t (record { steps = ss; spelled = h }), path_passes Context ss t h) refl

pub input_paths : InputPathsDont
unfolding path_reads
input_paths ks ss t h = rw (from_input t (record { steps = ss; spelled = h })) refl

pub calls : CallsReadByTrees
unfolding call_reads
calls ks a t h fit = ap (tree_reads ks) (fitting_heard a t h fit)
