use Rattle.std.proofs.Common.{◌≡◌, ◌∙◌, List, refl, sym, ap, subst}
use Rattle.std.specs.Prelude.{map}
use Rattle.asl_explore_errors.specs.Searches.{text_of}
use Rattle.asl_explore_errors.specs.Under.{IsUnder}
use Rattle.asl_error_plans.specs.declared.injected.InjectedError.{InjectedError}
use Rattle.asl_explore_errors.proofs.trying.try_plan.Goals as goal

pub returns-clause-found : goal.returns-clause-found
returns-clause-found g c =
    let s = c.args.search.now in
    let all : c.replace-list.result.items ≡ c.in_ok-judged.judged.explored.found.items = ap (λ v. v.items) c.replace-list.ensures.value in
    record {
      under = c.in_ok-setup.setup;
      is_under = subst (λ (p : List InjectedError). IsUnder s.setup.now p c.in_ok-setup.setup) c.deref.ensures.value c.in_ok-setup.ensures;
      calls = ap (λ v. v.items) c.replace-calls.ensures.value;
      explored = c.in_ok-judged.judged.explored;
      found = c.in_ok-judged.ensures.found;
      all = all;
      outcomes = c.in_ok-outcomes.ensures ∙ ap (map text_of) (c.deref-2.ensures.value ∙ sym all);
      complete = refl;
      endless = c.is_some.ensures;
      judged = c.in_ok-judged.ensures.judged;
    }
