use Rattle.std.proofs.Common.{ℕ, ◌+◌, ◌∙◌, sym, ap, subst}
use Rattle.std.specs.Prelude.{option_map, Err}
use Rattle.std.proofs.lemmas.List.{length_push}
use Rattle.std.proofs.lemmas.Result.{err_from_is_err_and}
use Rattle.asl_json.specs.View.{data_of}
use Rattle.asl_step.specs.declared.record.Record.TheVariants.{New}
use Rattle.asl_step.specs.Seen.{seen}
use Rattle.asl_step.specs.declared.facts.Facts.{Facts}
use Rattle.asl_step_io.specs.Gives.{Gives}
use Rattle.asl_kinds.specs.Forks.{item_input, iterations}
use Rattle.asl_kinds.proofs.Mapping.{made-from, fails-from, fault_told}
use Rattle.asl_kinds.proofs.map.iterations.Goals as goal

pub returns-in_err-input-clause-given : goal.returns-in_err-input-clause-given
returns-in_err-input-clause-given c =
    let over = option_map (λ t. t.now) c.args.template in
    let f = c.loop-number.context.facts in
    let v = seen c.args.visit.now in
    let n = c.loop-number.number in
    let fault = c.in_err-input.field-0.0 in
    let told = err_from_is_err_and c.from_residual-in_err-input.result c.from_residual-in_err-input.ensures.1 in
    let all : Gives (iterations c.args.start.now over c.args.effective.now f v 0 c.args.items.now) (Err fault) =
    fault_told (item_input over c.args.effective.now f v n (data_of c.in_ok-item.item)) _ fault
    (λ e is. sym c.loop-number.invariant.made ∙ fails-from c.loop-number.list.items c.args.start.now over c.args.effective.now f v n (data_of c.in_ok-item.item) c.args.items.now e c.in_ok-item.ensures is)
    c.in_err-input.ensures.given in
    rw (told.1, told.2) (subst (λ (g : Facts). Gives (iterations c.args.start.now over c.args.effective.now g v 0 c.args.items.now) (Err fault)) c.loop-number.invariant.facts all)

pub loop-number-preserved : goal.loop-number-preserved
loop-number-preserved c =
    let over = option_map (λ t. t.now) c.args.template in
    let f = c.loop-number.context.facts in
    let v = seen c.args.visit.now in
    let n = c.loop-number.number in
    let made = made-from c.loop-number.list.items c.args.start.now over c.args.effective.now f v n (data_of c.in_ok-item.item) c.args.items.now c.in_ok-input.input c.in_ok-item.ensures c.in_ok-input.ensures.given in
    record {
      made = rw (c.in_ok-add.ensures, c.input_of.ensures.facts) (sym made ∙ c.loop-number.invariant.made);
      long = rw c.in_ok-add.ensures (length_push c.loop-number.list.items (New c.args.start.now c.in_ok-input.input) ∙ ap (λ (z : ℕ). z + 1) c.loop-number.invariant.long);
      facts = c.input_of.ensures.facts ∙ c.loop-number.invariant.facts;
    }
