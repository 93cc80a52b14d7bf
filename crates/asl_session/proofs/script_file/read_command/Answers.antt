use Rattle.std.proofs.Common.{◌∙◌, None, Some, sym}
use Rattle.asl_session.proofs.Commanding.{only-step, only-break, only-clear, only-resume, only-show, only-back}
use Rattle.asl_session.proofs.script_file.read_command.Goals as goal

pub returns-in_default-2-clause-only : goal.returns-in_default-2-clause-only
returns-in_default-2-clause-only c = only-step c.args.line.now c.in-Some.text.now None c.in-Some.ensures.found (rw c.in_default-2.is at c.in_ok-at.ensures.only)

pub returns-in-Some-clause-only : goal.returns-in-Some-clause-only
returns-in-Some-clause-only c = only-step c.args.line.now c.in-Some.text.now (Some c.in-Some-2.at) c.in-Some.ensures.found (rw c.in-Some-2.is at c.in_ok-at.ensures.only)

pub returns-in_default-3-clause-only : goal.returns-in_default-3-clause-only
returns-in_default-3-clause-only c = only-break c.args.line.now c.in-Some-behind.text.now None c.in-Some-behind.ensures.found (rw c.in_default-3.is at c.in_ok-name.ensures.only)

pub returns-in-Some-behind-clause-only : goal.returns-in-Some-behind-clause-only
returns-in-Some-behind-clause-only c = only-break c.args.line.now c.in-Some-behind.text.now (Some c.in-Some-3.name) c.in-Some-behind.ensures.found (rw c.in-Some-3.is at c.in_ok-name.ensures.only)

pub returns-in_default-4-clause-only : goal.returns-in_default-4-clause-only
returns-in_default-4-clause-only c = only-clear c.args.line.now c.in-Some-behind-2.text.now None c.in-Some-behind-2.ensures.found (rw c.in_default-4.is at c.in_ok-name-2.ensures.only)

pub returns-in-Some-behind-2-clause-only : goal.returns-in-Some-behind-2-clause-only
returns-in-Some-behind-2-clause-only c = only-clear c.args.line.now c.in-Some-behind-2.text.now (Some c.in-Some-4.name) c.in-Some-behind-2.ensures.found (rw c.in-Some-4.is at c.in_ok-name-2.ensures.only)

pub returns-in_default-5-clause-only : goal.returns-in_default-5-clause-only
returns-in_default-5-clause-only c = only-resume c.args.line.now c.in-Some-behind-3.text.now None c.in-Some-behind-3.ensures.found (rw c.in_default-5.is at c.in_ok-place.ensures.only)

pub returns-in-Some-behind-3-clause-only : goal.returns-in-Some-behind-3-clause-only
returns-in-Some-behind-3-clause-only c = only-resume c.args.line.now c.in-Some-behind-3.text.now (Some c.in-Some-5.place) c.in-Some-behind-3.ensures.found (rw c.in-Some-5.is at c.in_ok-place.ensures.only)

pub returns-in_default-6-clause-only : goal.returns-in_default-6-clause-only
returns-in_default-6-clause-only c = only-show c.args.line.now c.in-Some-behind-4.text.now None c.in-Some-behind-4.ensures.found (rw c.in_default-6.is at c.in_ok-place-2.ensures.only)

pub returns-in-Some-behind-4-clause-only : goal.returns-in-Some-behind-4-clause-only
returns-in-Some-behind-4-clause-only c = only-show c.args.line.now c.in-Some-behind-4.text.now (Some c.in-Some-6.place) c.in-Some-behind-4.ensures.found (rw c.in-Some-6.is at c.in_ok-place-2.ensures.only)

pub returns-in_default-read_count-clause-only : goal.returns-in_default-read_count-clause-only
returns-in_default-read_count-clause-only c = only-back c.args.line.now c.in-Some-behind-5.text.now None c.in-Some-behind-5.ensures.found (λ n k. sym c.in_default-read_count.is ∙ c.read_count.ensures ∙ k)

pub returns-in-Some-behind-5-clause-only : goal.returns-in-Some-behind-5-clause-only
returns-in-Some-behind-5-clause-only c = only-back c.args.line.now c.in-Some-behind-5.text.now (Some c.in-Some-read_count.count) c.in-Some-behind-5.ensures.found (λ n k. sym c.in-Some-read_count.is ∙ c.read_count.ensures ∙ k)
