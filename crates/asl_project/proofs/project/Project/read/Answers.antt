use Rattle.std.proofs.Common.{◌∙◌, sym}
use Rattle.toml.specs.View.{table_view}
use Rattle.asl_project.proofs.Keys.{wrong_shows}
use Rattle.asl_project.proofs.project.Project.read.Goals as goal

pub fault_of-requires : goal.fault_of-requires
fault_of-requires c = record {
  table = table_view c.in_ok-table.table;
  document = c.in_ok-table.ensures.table;
  is_shown = wrong_shows _ _ (sym c.first_wrong.ensures ∙ c.in-Some.is);
}
