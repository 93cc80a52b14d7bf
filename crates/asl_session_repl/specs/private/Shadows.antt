-- An execution that is as far as a session was behind some of its steps.
use Rattle.std.specs.Prelude.{ℕ, ◌≡◌}
use Rattle.asl_exec.specs.declared.execution.Execution.{Execution}
use Rattle.asl_exec.specs.Views.{setup_of, world_of}
use Rattle.asl_session.specs.Sessions.{Session}
use Rattle.asl_session_repl.specs.Telling.{world_behind}

-- it began with what the session began with, and is where the first so many steps lead
pub record IsBehind (n : ℕ) (s : Session) (x : Execution) : Type 0 where
  pub setup_is : setup_of x ≡ s.setup
  pub world_is : world_of x ≡ world_behind n s
