use Rattle.std.proofs.Common.{ℕ, List, ◌∙◌, ap, map, subst}
use Rattle.std.specs.Borrow.{Bor}
use Rattle.std.specs.Prelude.{option_map, string_bytes}
use Rattle.std.proofs.lemmas.Result.{IfOk-weaker}
use Rattle.asl_explore.specs.declared.orders.Orders.{Orders}
use Rattle.asl_explore_errors.specs.Searches.{AreAllFound, names_in, tasks_failing}
use Rattle.asl_cli.specs.Injecting.{IsShownOf}
use Rattle.asl_cli.specs.Ruling.{accepts}
use Rattle.asl_cli.specs.declared.injecting.Tried.{Tried}
use Rattle.asl_cli.proofs.injecting.try_setup.Goals as goal

pub returns : goal.returns
returns g c named =
    let filled = c.in_ok-filled.filled in
    let found = c.in_ok-found.found in
    let w = c.args.words.now in
    IfOk-weaker c.shown_of_all.result _ _ (λ (r : Tried) e. record {
      setup = filled;
      filled = c.in_ok-filled.ensures;
      rules = c.args.rules.now;
      are_rules = named;
      found = found;
      are_found = subst (λ (o : Orders). AreAllFound accepts c.args.rules.now w.errors (tasks_failing (names_in c.args.lists.now.errors.items) filled.machine) o w.limit filled found) c.orders_for-orders.ensures
          (subst (λ (ns : List (Bor (List ℕ))). AreAllFound accepts c.args.rules.now w.errors (tasks_failing (names_in ns) filled.machine) c.orders_for-orders.result w.limit filled found) c.deref.ensures.value c.in_ok-found.ensures);
      shown = subst (λ (ts : List (List ℕ)). IsShownOf w.shown w.coloured c.args.chosen.now filled found ts (option_map string_bytes r.text) r.good) (ap (map string_bytes) c.deref-2.ensures.value ∙ c.in_ok-told.ensures) e;
    }) c.shown_of_all.ensures
