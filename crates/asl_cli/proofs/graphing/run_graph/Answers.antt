use Rattle.std.proofs.Common.{inr}
use Rattle.std.specs.Prelude.{None}
use Rattle.std.proofs.lemmas.Result.{IfOk-weaker, IfErr-weaker}
use Rattle.asl_cli.specs.Beginnings.{texts_in}
use Rattle.asl_cli.proofs.graphing.run_graph.Goals as goal

pub returns-in-Ok-clause-graph : goal.returns-in-Ok-clause-graph
returns-in-Ok-clause-graph g c = IfOk-weaker c.graph_from.result _ _ (λ t h. record {
  texts = texts_in c.in-Ok.beginning;
  given = c.in-Ok.ensures.given;
  is_run = h;
}) c.graph_from.ensures.run

pub returns-in-Ok-clause-refused : goal.returns-in-Ok-clause-refused
returns-in-Ok-clause-refused g c = IfErr-weaker c.graph_from.result _ _ (λ r h. inr (
  texts_in c.in-Ok.beginning,
  c.in-Ok.ensures.given,
  inr (None, tt, h),
)) c.graph_from.ensures.refused
