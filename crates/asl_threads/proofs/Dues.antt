-- What is due is what the session's execution picks.
use Rattle.std.proofs.Common.{◌≡◌, ◌∙◌, ◌<◌, ◌≤◌, ℕ, List, [], ◌∷◌, Option, refl, ap}
use Rattle.std.proofs.lemmas.Bool.{lt-ltb, le-ltb}
use Rattle.asl_run_branches.specs.Turns.{Limits}
use Rattle.asl_run_state.specs.World.{World}
use Rattle.asl_run_state.specs.Picking.{Pick, Moment, pick, first_at}
use Rattle.asl_run_input.specs.declared.setup.Setup.{Setup}
use Rattle.asl_exec.specs.Steps.{limits_in}
use Rattle.asl_session.specs.Sessions.{Session, opened, world_in, next_session, session_after}
use Rattle.asl_threads.specs.declared.row.Row.{Row}
use Rattle.asl_threads.specs.Runs.{SharedView, session_of, commands_of}
use Rattle.asl_threads.specs.Turns.{Later, due_at, due_by, due_in}
use Rattle.asl_threads.proofs.Replays.{setup-next}

setup-after : (s : Session) (rows : List Row) → (session_after s (commands_of rows)).setup ≡ s.setup
setup-after s [] = refl
setup-after s (r ∷ rows) = setup-after (next_session s r.command) rows ∙ setup-next s r.command

pub due-is : (shared : SharedView) (s : Session) (setup : Setup) (w : World) (now : ℕ) (p : Pick) → s ≡ session_of shared → setup ≡ s.setup → w ≡ world_in s → p ≡ pick (limits_in setup.machine) w → due_by (limits_in setup.machine) w now p ≡ due_in shared.setup (world_in (session_of shared)) now
due-is shared s setup w now p here setup-is world-is picked =
    let same : setup ≡ shared.setup = setup-is ∙ (ap (λ (t : Session). t.setup) here ∙ setup-after (opened shared.setup) shared.rows) in
    let world : w ≡ world_in (session_of shared) = world-is ∙ ap world_in here in
    ap (due_by (limits_in setup.machine) w now) picked ∙ λ i. due_in (same i) (world i) now

pub not-yet : (limits : Limits) (w : World) (now t : ℕ) → now < t → Later ≡ due_by limits w now (Moment t)
not-yet limits w now t before = rw (lt-ltb now t before) refl

pub has-come : (limits : Limits) (w : World) (now t : ℕ) (first : Option (List ℕ)) → t ≤ now → first ≡ first_at limits w t → due_at first ≡ due_by limits w now (Moment t)
has-come limits w now t first after is = rw (le-ltb now t after) (ap due_at is)
