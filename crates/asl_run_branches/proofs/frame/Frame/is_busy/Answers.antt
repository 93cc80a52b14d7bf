use Rattle.std.proofs.Common.{refl, []}
use Rattle.asl_run_branches.specs.Trees.{Held}
use Rattle.asl_run_branches.proofs.Reading.{busy-root}
use Rattle.asl_run_branches.proofs.frame.Frame.is_busy.Goals as goal

pub returns : goal.returns
returns c =
    let h : Held = record { place = c.self.inside.place; current = c.self.inside.held; at = c.self.inside.at; under = c.self.inside.under } in
    let b = busy-root c.args.self.now h c.self.inside.children.items [] c.self.view_is refl in
    rw (b, ← c.self.invariant.counts.undone_is, ← c.self.invariant.counts.failed_is) c.is_waiting.ensures
