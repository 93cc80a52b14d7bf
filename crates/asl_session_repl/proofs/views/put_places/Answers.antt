use Rattle.std.proofs.Common.{◌∙◌, ap, List}
use Rattle.std.specs.List.{flat_map}
use Rattle.asl_run_branches.specs.Branches.{Branch}
use Rattle.asl_run_state.specs.World.{World}
use Rattle.asl_session_repl.specs.Views.{branch_line}
use Rattle.asl_session_repl.proofs.Trees.{lines-family}
use Rattle.asl_session_repl.proofs.views.put_places.Goals as goal

pub returns : goal.returns
returns c =
    let s = c.args.session.now in
    let placed = c.root.ensures.placed in
    let lines = lines-family s c.root.result.now placed.0 placed.1 ∙ ap (λ (bs : List Branch). flat_map (λ b. branch_line s b.place b.current) bs) (c.root.ensures.branches ∙ ap (λ (w : World). w.branches) c.execution.ensures.world) in
    rw lines at c.put_frame.ensures
