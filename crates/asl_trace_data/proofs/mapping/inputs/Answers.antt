use Rattle.std.proofs.Common.{ℕ, ◌+◌, ◌∙◌, sym, ap, subst}
use Rattle.std.specs.Prelude.{Some, Err}
use Rattle.std.proofs.lemmas.Result.{err_from_is_err_and}
use Rattle.asl_json.specs.View.{data_of, items_of}
use Rattle.asl_step.specs.Seen.{seen}
use Rattle.asl_step.specs.declared.facts.Facts.{Facts}
use Rattle.asl_step_io.specs.Gives.{Gives}
use Rattle.asl_kinds.specs.Forks.{item_input}
use Rattle.asl_trace_data.specs.Kinds.{inputs}
use Rattle.asl_trace_data.proofs.Inputs.{made-from, fails-from, fault_told}
use Rattle.asl_trace_data.proofs.mapping.inputs.Goals as goal

pub returns-in_err-input-clause-given : goal.returns-in_err-input-clause-given
returns-in_err-input-clause-given c =
    let t = c.args.template.now in
    let f = c.loop-number.context.facts in
    let v = seen c.args.visit.now in
    let n = c.loop-number.number in
    let d = data_of c.item_at-item.result.now in
    let fault = c.in_err-input.field-0.0 in
    let told = err_from_is_err_and c.from_residual-in_err-input.result c.from_residual-in_err-input.ensures.1 in
    let all : Gives (inputs t c.args.effective.now f v 0 (items_of c.args.items.now)) (Err fault) =
    fault_told (item_input (Some t) c.args.effective.now f v n d) _ fault
    (λ e is. sym c.loop-number.invariant.made ∙ fails-from (items_of c.loop-number.list.items) t c.args.effective.now f v n d (items_of c.args.items.now) e c.item_at-item.ensures is)
    c.in_err-input.ensures.given in
    rw (told.1, told.2) (subst (λ (g : Facts). Gives (inputs t c.args.effective.now g v 0 (items_of c.args.items.now)) (Err fault)) c.loop-number.invariant.facts all)

pub loop-number-preserved : goal.loop-number-preserved
loop-number-preserved c =
    let t = c.args.template.now in
    let f = c.loop-number.context.facts in
    let v = seen c.args.visit.now in
    let n = c.loop-number.number in
    let d = data_of c.item_at-item.result.now in
    let made = made-from (items_of c.loop-number.list.items) t c.args.effective.now f v n d (items_of c.args.items.now) c.in_ok-input.input c.item_at-item.ensures c.in_ok-input.ensures.given in
    record {
      made = rw (c.in_ok-push_input.ensures, c.item_input.ensures.facts) (sym made ∙ c.loop-number.invariant.made);
      facts = c.item_input.ensures.facts ∙ c.loop-number.invariant.facts;
    }
