-- What is told of an And is so.
use Rattle.std.proofs.Common.{◌≡◌, ℕ, zero, suc, ◌+◌, ◌<◌, ◌≤◌, Bool, true, false, List, [], ◌∷◌, length, refl, sym, ap, subst, ◌∙◌, arith}
use Rattle.std.specs.Prelude.{Option, None, Some, option_map, Ok, Err, if◌then◌else◌}
use Rattle.std.specs.List.{slice_get}
use Rattle.std.proofs.lemmas.Option.{slice_get_within}
use Rattle.asl_json_data.specs.Data.{Data, dict, chain, pairs}
use Rattle.asl_json_data.specs.Distinct.{Members}
use Rattle.asl_choice.specs.Truth.{Verdict, holds, each_holds, and_also}
use Rattle.asl_lint_choices.specs.Conditions.{condition, all_conditions}
use Rattle.asl_lint_choices.specs.Contradictions.{exclude, first_against, against, contradiction_from, first_contradiction}
use Rattle.asl_lint_choices.specs.Laws.{verdict, NeverHoldBoth, ContradictionsAreSo, ContradictoryAndsNeverHold}
use Rattle.asl_lint_choices.specs.declared.contradictions.Contradiction.{Contradiction}
use Rattle.asl_lint_choices.proofs.Asking.{asked_alone}
use Rattle.asl_lint_choices.proofs.Excluding.{never_both}
use Rattle.asl_lint_choices.proofs.Standing.{StandsAt, stands_all, stands_on, stands_first, has_condition}

-- ---- where the two stand

record Against (all : List Members) (c : Members) (n j : ℕ) : Type 0 where
  there : Members
  at : slice_get all j ≡ Some there
  out : exclude c there ≡ true
  behind : n ≤ j

later : (all : List Members) (c : Members) (n j : ℕ) → Against all c (n + 1) j → Against all c n j
later all c n j g = record { there = g.there; at = g.at; out = g.out; behind = omega (arith, g.behind) }

found_against : (c : Members) (all ds : List Members) (n j : ℕ) → StandsAt all n ds → first_against c n ds ≡ Some j → Against all c n j
found_against c all [] n j h e = absurd (cc e)
found_against c all (d ∷ ds) n j h e =
    by (exclude c d) refl e (λ g. later all c n j (found_against c all ds (n + 1) j (stands_on all ds n d h) g))
  where
    by : (b : Bool) → exclude c d ≡ b → (if b then Some n else first_against c (n + 1) ds) ≡ Some j
        → (first_against c (n + 1) ds ≡ Some j → Against all c n j) → Against all c n j
    by true is e next =
        subst (λ (k : ℕ). Against all c n k) (cc e)
        (record { there = d; at = stands_first all ds n d h; out = is; behind = omega (arith) })
    by false is e next = next e

record Two (all : List Members) (t : Contradiction) : Type 0 where
  one : Members
  first_at : slice_get all t.first ≡ Some one
  second_at : Against all one (t.first + 1) t.second

two : (all cs : List Members) (n : ℕ) (t : Contradiction) → StandsAt all n cs → contradiction_from n cs ≡ Some t → Two all t
two all [] n t h e = absurd (cc e)
two all (c ∷ cs) n t h e =
    by (first_against c (n + 1) cs) refl e (two all cs (n + 1) t (stands_on all cs n c h))
  where
    by : (o : Option ℕ) → first_against c (n + 1) cs ≡ o → against n o (contradiction_from (n + 1) cs) ≡ Some t
        → (contradiction_from (n + 1) cs ≡ Some t → Two all t) → Two all t
    by (Some j) is e next =
        let same : record { first = n; second = j } ≡ t = cc e in
        subst (λ (u : Contradiction). Two all u) same
        (record {
          one = c;
          first_at = stands_first all cs n c h;
          second_at = found_against c all cs (n + 1) j (stands_on all cs n c h) is;
        })
    by None is e next = next e

-- ---- they never hold both

-- a rule of this number that has this verdict
said_at : (rules : List Data) (n : ℕ) (x c : Data) (d : Data) (v : Verdict) → slice_get rules n ≡ Some d → verdict rules n x c ≡ Some v
    → holds d x c ≡ v
said_at rules n x c d v at e = cc (ap (option_map (λ (r : Data). holds r x c)) at, e)

both_of : (rules : List Data) (t : Contradiction) → Two (all_conditions rules) t → NeverHoldBoth rules t
both_of rules t g =
    let s = g.second_at in
    let a = has_condition rules t.first g.one g.first_at in
    let b = has_condition rules t.second s.there s.at in
    let out : exclude (condition a.rule) (condition b.rule) ≡ true = (λ i. exclude (a.asks i) (b.asks i)) ∙ s.out in (
      omega (arith, s.behind),
      slice_get_within rules t.second b.rule b.at,
      λ x c e f. never_both a.rule b.rule x c out (said_at rules t.first x c a.rule (Ok true) a.at e)
          (said_at rules t.second x c b.rule (Ok true) b.at f),
    )

pub so : ContradictionsAreSo
unfolding first_contradiction
so rules t e = both_of rules t (two (all_conditions rules) (all_conditions rules) 0 t (stands_all (all_conditions rules)) e)

-- ---- the And

first_true : (v w : Verdict) → and_also v w ≡ Ok true → (v ≡ Ok true) × (w ≡ Ok true)
first_true (Ok true) w e = (refl, e)
first_true (Ok false) w e = absurd (cc e)
first_true (Err f) w e = absurd (cc e)

all_hold : (rules : List Data) (n : ℕ) (x c : Data) → n < length rules → each_holds (chain rules) x c ≡ Ok true
    → verdict rules n x c ≡ Some (Ok true)
all_hold [] n x c lt e = absurd (omega (arith, lt))
all_hold (r ∷ rs) zero x c lt e = ap Some (first_true (holds r x c) (each_holds (chain rs) x c) e).0
all_hold (r ∷ rs) (suc n) x c lt e =
    all_hold rs n x c (omega (arith, lt)) (first_true (holds r x c) (each_holds (chain rs) x c) e).1

pub never_hold : ContradictoryAndsNeverHold
never_hold rules t e rule is x c h =
    let g = so rules t e in
    let each : each_holds (chain rules) x c ≡ Ok true =
    ap (λ (ms : Members). holds (dict (pairs ms)) x c) (sym is) ∙ sym (asked_alone rule x c) ∙ h in
    g.2 x c (all_hold rules t.first x c (omega (arith, g.0, g.1)) each) (all_hold rules t.second x c g.1 each)
