use Rattle.std.proofs.Common.{sym, subst, List, rules}
use Rattle.std.specs.Prelude.{map}
use Rattle.std.specs.List.Sorted.{IsNonDecreasingBy, IsPermutation, IsStableByKey}
use Rattle.std.specs.Ordering.{nat_cmp}
use Rattle.std.proofs.lemmas.List.Sorted.{IsNonDecreasingBy-from_sort_by_key, IsPermutation-map, answers_always, length_permutation}
use Rattle.asl_lint.specs.Places.{Ruled, begin_of}
use Rattle.asl_lint.specs.private.Founds.{spanned}
use Rattle.asl_lint.proofs.Sorting.{rises_mapped, stays_mapped}
use Rattle.asl_lint.proofs.placing.placed.Goals as goal

pub returns-clause-placed : goal.returns-clause-placed
returns-clause-placed c = λ text.
    let before = c.in_ok-all.all.items in
    let moved = c.sort_by_key.ensures.permutation in
    let same = sym c.in_ok-findings.ensures.same in
    let rises = IsNonDecreasingBy-from_sort_by_key (λ s. s.span.begin) _ c.in_ok-sort_by_key.ensures.sorted (λ a r q k. search rules) in
    let stays = c.sort_by_key.ensures.stable (λ s. s.span.begin) (answers_always _ _ _ (λ f a r g h. search rules)) in
    record {
      pointed = map spanned before;
      point = c.in_ok-all.ensures _ _ (c.in_ok-outline.ensures text);
      same = subst (IsPermutation (map spanned before)) same (IsPermutation-map spanned _ _ moved);
      sorted = subst (λ (rs : List Ruled). IsNonDecreasingBy begin_of rs) same (rises_mapped spanned begin_of _ rises);
      stable = subst (λ (rs : List Ruled). IsStableByKey begin_of nat_cmp (map spanned before) rs) same (stays_mapped before _ stays (length_permutation _ _ moved));
    }
