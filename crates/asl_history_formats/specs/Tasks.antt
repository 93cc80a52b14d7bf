-- What a definition says of its Tasks (ASL, "Task State").
use Rattle.std.specs.Prelude.{ℕ, List}
use Rattle.asl_history_formats.specs.declared.tasks.Limits.{Limits}

-- by the names of their states: the resource, empty where no Task has the name, and the limits in
-- seconds, where they stand as numbers; and the region in which they are called
pub record TaskTable : Type 0 where
  pub resource : List ℕ → List ℕ
  pub limits : List ℕ → Limits
  pub region : List ℕ
