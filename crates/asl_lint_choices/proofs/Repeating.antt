-- What is told of repeated rules is so.
use Rattle.std.proofs.Common.{◌≡◌, ℕ, zero, suc, ◌+◌, ◌<◌, Bool, true, false, List, [], ◌∷◌, refl, sym, ap, subst, ◌∙◌, arith, nat_lt}
use Rattle.std.specs.Prelude.{Option, None, Some, option_map, Ok, if◌then◌else◌}
use Rattle.std.specs.List.{All, slice_get, slice_index_or}
use Rattle.std.proofs.lemmas.Bool.{ltb-true}
use Rattle.std.proofs.lemmas.List.Elements.{All-append}
use Rattle.std.proofs.lemmas.Option.{slice_get_within}
use Rattle.asl_json_data.specs.Data.{Data}
use Rattle.asl_json_data.specs.Distinct.{Members}
use Rattle.asl_choice.specs.Truth.{holds}
use Rattle.asl_lint_choices.specs.Conditions.{condition, all_conditions, is_same}
use Rattle.asl_lint_choices.specs.Repeats.{first_same, repeated_by, repeated_from, repeated_rules}
use Rattle.asl_lint_choices.specs.Laws.{verdict, IsAlike, RepeatedRulesAreAlike, Decides, RepeatedRulesNeverDecide}
use Rattle.asl_lint_choices.specs.declared.repeats.Repeated.{Repeated}
use Rattle.asl_lint_choices.proofs.Asking.{alike}
use Rattle.asl_lint_choices.proofs.Each.{all_none, all_one}
use Rattle.asl_lint_choices.proofs.Standing.{StandsAt, stands_all, stands_on, stands_first, has_condition}

-- a condition that is this one, at this number
record Found (all : List Members) (c : Members) (i : ℕ) : Type 0 where
  there : Members
  at : slice_get all i ≡ Some there
  same : is_same there c ≡ true

found : (c : Members) (all ds : List Members) (n i : ℕ) → StandsAt all n ds → first_same c n ds ≡ Some i → Found all c i
found c all [] n i h e = absurd (cc e)
found c all (d ∷ ds) n i h e = by (is_same d c) refl e (found c all ds (n + 1) i (stands_on all ds n d h))
  where
    by : (b : Bool) → is_same d c ≡ b → (if b then Some n else first_same c (n + 1) ds) ≡ Some i
        → (first_same c (n + 1) ds ≡ Some i → Found all c i) → Found all c i
    by true is e next = record {
      there = d;
      at = subst (λ (k : ℕ). slice_get all k ≡ Some d) (cc e) (stands_first all ds n d h);
      same = is;
    }
    by false is e next = next e

-- what is told of two conditions
record Told (all : List Members) (r : Repeated) : Type 0 where
  here : Members
  at : slice_get all r.rule ≡ Some here
  first : Found all here r.earlier
  before : r.earlier < r.rule

told : (all : List Members) (n : ℕ) (c : Members) → slice_get all n ≡ Some c → (o : Option ℕ)
    → ((i : ℕ) → o ≡ Some i → Found all c i) → All (Told all) (repeated_by n o)
told all n c at None f = all_none (Told all)
told all n c at (Some i) f = by (nat_lt i n) refl
  where
    by : (b : Bool) → nat_lt i n ≡ b → All (Told all) (if b then record { rule = n; earlier = i } ∷ [] else [])
    by true is =
        all_one (Told all) (record { rule = n; earlier = i })
        (record { here = c; at = at; first = f i refl; before = ltb-true i n is })
    by false is = all_none (Told all)

each_told : (all cs : List Members) (n : ℕ) → StandsAt all n cs → All (Told all) (repeated_from all n cs)
each_told all [] n h = all_none (Told all)
each_told all (c ∷ cs) n h =
    All-append (Told all) (repeated_by n (first_same c 0 all)) (repeated_from all (n + 1) cs)
    (told all n c (stands_first all cs n c h) (first_same c 0 all) (λ i e. found c all all 0 i (stands_all all) e))
    (each_told all cs (n + 1) (stands_on all cs n c h))

alike_of : (rules : List Data) (r : Repeated) → Told (all_conditions rules) r → IsAlike rules r
alike_of rules r t =
    let later = has_condition rules r.rule t.here t.at in
    let first = has_condition rules r.earlier (t.first.there) (t.first.at) in
    let same : is_same (condition first.rule) (condition later.rule) ≡ true =
    (λ i. is_same (first.asks i) (later.asks i)) ∙ t.first.same in (
      t.before,
      slice_get_within rules r.rule later.rule later.at,
      λ x c. ap (option_map (λ (y : Data). holds y x c)) later.at
          ∙ ap Some (sym (alike first.rule later.rule x c same))
          ∙ ap (option_map (λ (y : Data). holds y x c)) (sym first.at),
    )

all_alike : (rules : List Data) → All (IsAlike rules) (repeated_rules rules)
unfolding repeated_rules
all_alike rules k d lt =
    alike_of rules (slice_index_or (repeated_from (all_conditions rules) 0 (all_conditions rules)) k d)
    (each_told (all_conditions rules) (all_conditions rules) 0 (stands_all (all_conditions rules)) k d lt)

pub are_alike : RepeatedRulesAreAlike
are_alike rules = all_alike rules

-- ---- which rule decides

holds_there : (rules : List Data) (n : ℕ) (x c : Data) → Decides rules n x c → verdict rules n x c ≡ Some (Ok true)
holds_there [] n x c h = absurd h
holds_there (r ∷ rs) zero x c h = ap Some h
holds_there (r ∷ rs) (suc n) x c h = holds_there rs n x c h.1

failed_before : (rules : List Data) (i n : ℕ) (x c : Data) → i < n → Decides rules n x c → verdict rules i x c ≡ Some (Ok false)
failed_before [] i n x c lt h = absurd h
failed_before (r ∷ rs) i zero x c lt h = absurd (omega (arith, lt))
failed_before (r ∷ rs) zero (suc n) x c lt h = ap Some h.0
failed_before (r ∷ rs) (suc i) (suc n) x c lt h = failed_before rs i n x c (omega (arith, lt)) h.1

pub never_decide : RepeatedRulesNeverDecide
never_decide rules k d lt x c h =
    let t = all_alike rules k d lt in
    let r = slice_index_or (repeated_rules rules) k d in
    cc (holds_there rules r.rule x c h, failed_before rules r.earlier r.rule x c t.0 h, t.2 x c)
