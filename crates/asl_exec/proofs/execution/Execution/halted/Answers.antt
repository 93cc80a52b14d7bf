use Rattle.std.proofs.Common.{◌≡◌, ◌∙◌, true, false, refl, sym, max}
use Rattle.std.proofs.lemmas.Result.{IfOk-weaker}
use Rattle.asl_run_branches.specs.Branches.{forker_at}
use Rattle.asl_run_branches.specs.Turns.{limit_of}
use Rattle.asl_run_state.specs.World.{World, is_late}
use Rattle.asl_run_state.proofs.Accepting.{has_place}
use Rattle.asl_exec.specs.Steps.{limits_in}
use Rattle.asl_exec.proofs.Going.{halted-late, halted-is}
use Rattle.asl_exec.proofs.execution.Execution.halted.Goals as goal

pub returns-then-is_late-clause-halted : goal.returns-then-is_late-clause-halted
returns-then-is_late-clause-halted c =
    let w : World = c.args.self.now.world in
    let late : is_late (max w.last c.args.at.now.moment) w.deadline ≡ true = sym c.is_late.ensures ∙ c.if-is_late.true in
    rw c.in_ok-try_clone.ensures (halted-late c.args.self.now.setup w c.args.at.now c.requires.accepted late)

pub unreachable-requires : goal.unreachable-requires
unreachable-requires c =
    let w : World = c.args.self.now.world in
    let early : is_late (max w.last c.args.at.now.moment) w.deadline ≡ false = sym c.is_late.ensures ∙ c.if-is_late.false in
    has_place w c.args.at.now.place c.args.at.now.moment (limit_of (limits_in c.args.self.now.setup.machine) (forker_at c.args.at.now.place w.branches)) early c.requires.accepted (sym c.in_default.ensures.record)

pub returns-clause-halted : goal.returns-clause-halted
returns-clause-halted c =
    let w : World = c.args.self.now.world in
    let r = c.in-Some.frame.now.head.current in
    let early : is_late (max w.last c.args.at.now.moment) w.deadline ≡ false = sym c.is_late.ensures ∙ c.if-is_late.false in
    let is = halted-is c.args.self.now.setup w c.args.at.now r c.in_ok-effect.effect c.requires.accepted early (sym c.in-Some.ensures.record) (rw (c.in_ok-effect.ensures.effect, c.present-now.ensures, c.requires.facts) refl) in
    IfOk-weaker c.halt_by.result _ _ (λ o e. e ∙ is) c.halt_by.ensures
