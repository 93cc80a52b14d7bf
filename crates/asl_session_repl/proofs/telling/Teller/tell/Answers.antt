use Rattle.std.proofs.Common.{◌≡◌, ◌≤◌, ◌∙◌, Option, List, length, ap, subst, sym, arith}
use Rattle.std.specs.Prelude.{IfSome}
use Rattle.std.proofs.lemmas.Bool.{eqb-true}
use Rattle.asl_exec.specs.declared.execution.Execution.{Execution}
use Rattle.asl_run_input.specs.declared.step_at.StepAt.{StepAt}
use Rattle.asl_session.specs.Sessions.{Session}
use Rattle.asl_session_repl.specs.private.Shadows.{IsBehind}
use Rattle.asl_session_repl.proofs.Keeping.{kept_behind, kept_there}
use Rattle.asl_session_repl.proofs.Told.{told_more, told_no_more}
use Rattle.asl_session_repl.proofs.telling.Teller.tell.Goals as goal

pub tell_steps-requires-clause-kept : goal.tell_steps-requires-clause-kept
tell_steps-requires-clause-kept c =
    let old = c.self.inside.console in
    let new = c.answer.new.self in
    let shadow : IfSome c.take-shadow.result (IsBehind (length old.session.steps) old.session) = subst (λ (o : Option Execution). IfSome o (IsBehind (length old.session.steps) old.session)) (sym c.take-shadow.ensures.value) c.self.invariant in
    let before : c.steps-before.result.now ≡ old.session.steps = c.steps-before.ensures ∙ ap (λ (s : Session). s.steps) c.session.ensures in
    let after : c.steps-after.result.now ≡ new.session.steps = c.steps-after.ensures ∙ ap (λ (s : Session). s.steps) c.session-2.ensures in
    let less : length c.steps-before.result.now ≤ length new.session.steps = subst (λ (l : List StepAt). length c.steps-before.result.now ≤ length l) after (omega (arith, c.if-before-after.true)) in
    kept_behind old new c.args.line.now _ c.in_ok-answer.answer.quits c.is_settled.result c.take-shadow.result c.kept_where-kept.result c.steps-before.result.now shadow c.is_settled.ensures c.kept_where-kept.ensures before c.in_ok-answer.ensures.answer less

pub returns-then-before-after-clause-told : goal.returns-then-before-after-clause-told
returns-then-before-after-clause-told c =
    let old = c.self.inside.console in
    let new = c.answer.new.self in
    let before : c.steps-before.result.now ≡ old.session.steps = c.steps-before.ensures ∙ ap (λ (s : Session). s.steps) c.session.ensures in
    let after : c.steps-after.result.now ≡ new.session.steps = c.steps-after.ensures ∙ ap (λ (s : Session). s.steps) c.session-2.ensures in
    told_more c.args.look old c.args.self.now new c.tell_steps.new.self c.args.line.now _ _ c.in_ok-answer.answer.quits c.steps-before.result.now c.steps-after.result.now c.self.view_is c.tell_steps.ensures.console before after c.if-before-after.true c.in_ok-answer.ensures.answer c.in_ok-text.ensures.text

pub invariant_of-self-2 : goal.invariant_of-self-2
invariant_of-self-2 c =
    let old = c.self.inside.console in
    let new = c.answer.new.self in
    let shadow : IfSome c.take-shadow.result (IsBehind (length old.session.steps) old.session) = subst (λ (o : Option Execution). IfSome o (IsBehind (length old.session.steps) old.session)) (sym c.take-shadow.ensures.value) c.self.invariant in
    let before : c.steps-before.result.now ≡ old.session.steps = c.steps-before.ensures ∙ ap (λ (s : Session). s.steps) c.session.ensures in
    let after : c.steps-after.result.now ≡ new.session.steps = c.steps-after.ensures ∙ ap (λ (s : Session). s.steps) c.session-2.ensures in
    kept_there (length c.steps-before.result.now) new.session _ c.kept_where-kept.result c.kept_where.result c.kept_where.ensures
    (λ e. eqb-true (length c.steps-before.result.now) (length c.steps-after.result.now) e ∙ ap length after)
    (λ e. let same : length c.steps-before.result.now ≡ length new.session.steps = eqb-true (length c.steps-before.result.now) (length c.steps-after.result.now) e ∙ ap length after in
    kept_behind old new c.args.line.now _ c.in_ok-answer.answer.quits c.is_settled.result c.take-shadow.result c.kept_where-kept.result c.steps-before.result.now shadow c.is_settled.ensures c.kept_where-kept.ensures before c.in_ok-answer.ensures.answer (omega (arith, same)))

pub invariant_of-self-in_err-put_places_if : goal.invariant_of-self-in_err-put_places_if
invariant_of-self-in_err-put_places_if c =
    let old = c.self.inside.console in
    let new = c.answer.new.self in
    let shadow : IfSome c.take-shadow.result (IsBehind (length old.session.steps) old.session) = subst (λ (o : Option Execution). IfSome o (IsBehind (length old.session.steps) old.session)) (sym c.take-shadow.ensures.value) c.self.invariant in
    let before : c.steps-before.result.now ≡ old.session.steps = c.steps-before.ensures ∙ ap (λ (s : Session). s.steps) c.session.ensures in
    let after : c.steps-after.result.now ≡ new.session.steps = c.steps-after.ensures ∙ ap (λ (s : Session). s.steps) c.session-2.ensures in
    kept_there (length c.steps-before.result.now) new.session _ c.kept_where-kept.result c.kept_where.result c.kept_where.ensures
    (λ e. eqb-true (length c.steps-before.result.now) (length c.steps-after.result.now) e ∙ ap length after)
    (λ e. let same : length c.steps-before.result.now ≡ length new.session.steps = eqb-true (length c.steps-before.result.now) (length c.steps-after.result.now) e ∙ ap length after in
    kept_behind old new c.args.line.now _ c.in_ok-answer.answer.quits c.is_settled.result c.take-shadow.result c.kept_where-kept.result c.steps-before.result.now shadow c.is_settled.ensures c.kept_where-kept.ensures before c.in_ok-answer.ensures.answer (omega (arith, same)))

pub returns-clause-told : goal.returns-clause-told
returns-clause-told c =
    let old = c.self.inside.console in
    let new = c.answer.new.self in
    let before : c.steps-before.result.now ≡ old.session.steps = c.steps-before.ensures ∙ ap (λ (s : Session). s.steps) c.session.ensures in
    let after : c.steps-after.result.now ≡ new.session.steps = c.steps-after.ensures ∙ ap (λ (s : Session). s.steps) c.session-2.ensures in
    told_no_more c.args.look old c.args.self.now new c.args.line.now _ _ c.in_ok-answer.answer.quits c.steps-before.result.now c.steps-after.result.now c.session-3.result.now c.self.view_is before after c.session-3.ensures (omega (arith, c.if-before-after.false)) c.in_ok-answer.ensures.answer c.in_ok-put_places_if.ensures
