use Rattle.asl_step_reads.proofs.Agreeing.{path_agrees, tree_agrees, call_agrees, template_agrees}
use Rattle.asl_step_reads.proofs.laws.a_text_gives_by_what_it_reads.Goals as goal

pub returns-clause-paths : goal.returns-clause-paths
returns-clause-paths c = path_agrees

pub returns-clause-trees : goal.returns-clause-trees
returns-clause-trees c = tree_agrees

pub returns-clause-calls : goal.returns-clause-calls
returns-clause-calls c = call_agrees

pub returns-clause-templates : goal.returns-clause-templates
returns-clause-templates c = template_agrees
