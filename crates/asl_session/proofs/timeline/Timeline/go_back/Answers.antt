use Rattle.std.proofs.Common.{ℕ, ◌≡◌, ◌≤◌, ◌<◌, ◌-◌, ◌*◌, ◌/◌, ◌∙◌, List, Some, length, take, drop, ap, sym, refl, arith}
use Rattle.std.specs.Prelude.{slice_get}
use Rattle.std.proofs.lemmas.Option.{slice_get_read}
use Rattle.asl_run_input.specs.declared.setup.Setup.{Setup}
use Rattle.asl_run_input.specs.declared.step_at.StepAt.{StepAt}
use Rattle.asl_run_state.specs.Checkpoints.{world_at}
use Rattle.asl_exec.specs.Steps.{opening, world_after}
use Rattle.asl_exec.specs.Views.{setup_of, world_of}
use Rattle.asl_session.specs.private.Marks.{Course}
use Rattle.asl_session.proofs.Marking.{mark-is, mark-shows, marks-back, anew}
use Rattle.asl_session.proofs.timeline.Timeline.go_back.Goals as goal

-- the checkpoint before what is left is there
within : (left n m : ℕ) → left < n → n ≤ 64 * m → left / 64 < m
within left n m l h = omega (arith, l, h)

pub replay_from-requires : goal.replay_from-requires
replay_from-requires c =
    let x = c.self.inside.execution in
    let steps = c.self.inside.steps.items in
    let cs = c.self.inside.checkpoints.items in
    let i : ℕ = c.args.left / 64 in
    let same : length steps ≡ length c.args.self.now.steps = ap (λ (k : Course). length k.steps) c.self.view_is in
    let less : c.args.left < length steps = omega (arith, same, c.requires, c.len.ensures, c.if-left-len.false) in
    let found : slice_get cs i ≡ Some c.index.result.now = slice_get_read cs (length cs) i c.index.result.now refl (within c.args.left (length steps) (length cs) less c.self.invariant.marks.cover) c.index.ensures in
    mark-is (setup_of x) (world_of x) steps (64 * i) c.index.result.now c.self.invariant.world (c.self.invariant.marks.each i c.index.result.now found)

pub invariant_of-self-2 : goal.invariant_of-self-2
invariant_of-self-2 c =
    let x = c.self.inside.execution in
    let s = setup_of x in
    let steps = c.self.inside.steps.items in
    let cs = c.self.inside.checkpoints.items in
    let left = c.args.left in
    let i : ℕ = left / 64 in
    let same : length steps ≡ length c.args.self.now.steps = ap (λ (k : Course). length k.steps) c.self.view_is in
    let less : left < length steps = omega (arith, same, c.requires, c.len.ensures, c.if-left-len.false) in
    let there : i < length cs = within left (length steps) (length cs) less c.self.invariant.marks.cover in
    let found : slice_get cs i ≡ Some c.index.result.now = slice_get_read cs (length cs) i c.index.result.now refl there c.index.ensures in
    let mark = c.self.invariant.marks.each i c.index.result.now found in
    let m : i * 64 ≡ 64 * i = omega arith in
    let some : take (left - i * 64) (drop (i * 64) c.as_slice.result.now) ≡ take (left - 64 * i) (drop (64 * i) steps) =
    ap (λ (ys : List StepAt). take (left - i * 64) (drop (i * 64) ys)) c.as_slice.ensures.value ∙ ap (λ (k : ℕ). take (left - k) (drop k steps)) m in
    let shown = mark-shows s (world_of x) steps (64 * i) c.index.result.now c.self.invariant.world mark in
    let world : world_of c.replay_from.new.self ≡ world_after s (opening s) (take left steps) =
    c.in_ok-replay_from.ensures.ok ∙ anew s (world_at c.index.result.now (world_of x).events) steps _ left (64 * i) (omega arith) some shown in
    rw (c.truncate.ensures.items, c.truncate-2.ensures.items) (record {
      world = world ∙ ap (λ (u : Setup). world_after u (opening u) (take left steps)) (sym c.in_ok-replay_from.ensures.setup);
      marks = rw c.in_ok-replay_from.ensures.setup (marks-back s steps cs left i c.self.invariant.marks (omega (arith, less)) (omega arith) (omega arith) there);
    })
