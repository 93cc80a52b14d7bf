use Rattle.std.proofs.Common.{◌≡◌, ◌∙◌, List, [], ℕ, Result, Ok, ap, sym, subst}
use Rattle.std.specs.Prelude.{IfErr}
use Rattle.std.specs.Borrow.{Bor}
use Rattle.asl_explore_errors.specs.Searches.{names_in}
use Rattle.asl_rules.specs.declared.atom.Task.{Task}
use Rattle.asl_rules.specs.declared.fault.RuleFault.{RuleFault}
use Rattle.asl_cli.specs.Ruling.{IsRuleReason, rules_behind, tasks_of}
use Rattle.asl_cli.specs.declared.ruling.Kind.TheVariants.{Always, Undo}
use Rattle.asl_cli.specs.declared.ruling.Ruled.{Ruled}
use Rattle.asl_cli.proofs.ruling.rules_of.Goals as goal

pub returns-clause-refused : goal.returns-clause-refused
returns-clause-refused c =
    let ts = tasks_of c.args.machine.now in
    let l = c.args.lists.now in
    let read = c.in_ok-always.always.items in
    let first : rules_behind Always ts (Ok []) (names_in l.always.items) ≡ Ok read =
    ap (λ (xs : List Task). rules_behind Always xs (Ok []) (names_in l.always.items)) (sym (c.deref.ensures.value ∙ c.in_ok-tasks.ensures))
    ∙ ap (λ (rs : List Ruled). rules_behind Always c.deref.result.now (Ok rs) (names_in l.always.items)) (sym c.new-none.ensures.items)
    ∙ ap (λ (ns : List (Bor (List ℕ))). rules_behind Always c.deref.result.now (Ok c.new-none.result.items) (names_in ns)) (sym c.deref-2.ensures.value)
    ∙ c.in_ok-always.ensures.rules in
    subst (λ (r : Result (List Ruled) RuleFault). IfErr c.read_each-2.result (IsRuleReason r))
    (ap (λ (xs : List Task). rules_behind Undo xs (Ok read) (names_in c.deref-4.result.now)) (c.deref-3.ensures.value ∙ c.in_ok-tasks.ensures)
    ∙ ap (λ (ns : List (Bor (List ℕ))). rules_behind Undo ts (Ok read) (names_in ns)) c.deref-4.ensures.value
    ∙ ap (λ (r : Result (List Ruled) RuleFault). rules_behind Undo ts r (names_in l.undo.items)) (sym first))
    c.read_each-2.ensures.refused
