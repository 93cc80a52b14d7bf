-- A test that is `ok` holds in each order that is tried.
use Rattle.std.specs.Prelude.{zero, suc, ◌<◌, ◌≤◌, length, get_or, not, ◌&&◌, nat_eq, Option, Some, None, Result, Ok, Err, IfOk, IfSome, is_some, is_none, if◌then◌else◌, slice_get, slice_index}
use Rattle.std.specs.Option.{option_map}
use Rattle.std.specs.Result.{result_ok}
use Rattle.std.specs.List.{All, list_all}
use Rattle.std.proofs.Common.{ℕ, ◌+◌, ◌≡◌, ◌⊎◌, inl, inr, ◌∙◌, ap, sym, refl, subst, arith, Bool, true, false, List, [], ◌∷◌}
use Rattle.std.proofs.lemmas.Bool.Decides.{Decides-eqb}
use Rattle.std.proofs.lemmas.List.{length-map}
use Rattle.std.proofs.lemmas.Option.{slice_get_cases, unwrap_or-slice_get}
use Rattle.std.proofs.lemmas.List.Elements.{All-nil, All-cons, All-map, All-contains}
use Rattle.asl_json_data.specs.Data.{Data}
use Rattle.asl_mock.specs.Answers.{Case}
use Rattle.asl_mock.specs.declared.fault.CaseFault.{CaseFault}
use Rattle.asl_run_state.specs.World.{World, is_over, count_of}
use Rattle.asl_run_state.specs.declared.outcome.Outcome.{Outcome}
use Rattle.asl_run_input.specs.Chosen.{name_or_run, case_or_empty}
use Rattle.asl_run_input.specs.Texts.{start_of}
use Rattle.asl_run_input.specs.declared.setup.Setup.{Setup}
use Rattle.asl_run_input.specs.declared.step_at.StepAt.{StepAt}
use Rattle.asl_exec.specs.Steps.{opening, world_after}
use Rattle.asl_def.specs.Machines.{state_count, state_number}
use Rattle.asl_def.proofs.Wholes.{found_within}
use Rattle.asl_explore.specs.Calls.{IsIn, AreIn, no_bounds}
use Rattle.asl_explore.specs.Finding.{IsFound}
use Rattle.asl_explore.specs.Orders.{AreTried, after_order}
use Rattle.asl_explore.specs.Searches.{outcomes_of}
use Rattle.asl_explore.specs.TimeOver.{IsWitnessed}
use Rattle.asl_explore.specs.declared.calls.Bounds.{Bounds}
use Rattle.asl_explore.specs.declared.calls.Calls.{Calls}
use Rattle.asl_explore.specs.declared.endless.Lasso.{Lasso}
use Rattle.asl_explore.specs.declared.found.Found.{Found}
use Rattle.asl_explore.specs.declared.found.Explored.{Explored}
use Rattle.asl_explore.specs.declared.orders.Orders.{Orders}
use Rattle.asl_suite_file.specs.declared.expectation.Expectation.{Expectation}
use Rattle.asl_suite_file.specs.declared.expectation.StateCount.{StateCount}
use Rattle.asl_suite_file.specs.declared.holding.Likeness.TheVariants.{Same, Holding}
use Rattle.asl_suite.specs.Cases.{is_wanted, is_output, has_error, has_cause, is_invoked, verdict_by_states, verdict_by_end, verdict_on, test_setup, setup_in, report_on}
use Rattle.asl_suite.specs.Orders.{for_orders, order_world, order_by, order_report}
use Rattle.asl_suite.specs.Reports.{is_good, is_passed}
use Rattle.asl_suite.specs.declared.suite.Suite.{Suite}
use Rattle.asl_suite.specs.declared.case_report.CaseReport.{CaseReport}
use Rattle.asl_suite.specs.declared.case_report.Unmet.{Unmet}
use Rattle.asl_suite.specs.declared.case_report.Verdict.{Verdict}
use Rattle.asl_suite.specs.declared.case_report.Verdict.TheVariants as verdict
use Rattle.asl_suite_orders.specs.Counting.{bounds_at, always_by, is_always, are_always}
use Rattle.asl_suite_orders.specs.Judging.{counts_any, counts, with_other_counts, unmet_from, met_verdict, judged_by, judged}
use Rattle.asl_suite_orders.specs.Testing.{IsPlain, IsSearched, IsReportedFrom, IsReported, is_met, HoldsFrom, Holds}
use Rattle.std.specs.declared.alloc.AllocError.{AllocError}

some_is : {A : Type 0} (x y : A) → Some x ≡ Some y → x ≡ y
some_is x y e = cc

-- what stands at a place of a list
there : (cs : List Calls) (i : ℕ) → i < length cs → (c : Calls) × ((slice_get cs i ≡ Some c) × (get_or cs i c ≡ c))
there cs i lt = from (slice_get_cases cs i).1
  where
    from : ((c : Calls) × (i < length cs) × (slice_get cs i ≡ Some c) × (get_or cs i c ≡ c)) ⊎ ((length cs ≤ i) × (slice_get cs i ≡ None)) → (c : Calls) × ((slice_get cs i ≡ Some c) × (get_or cs i c ≡ c))
    from (inl w) = (w.0, (w.2, w.3))
    from (inr p) = absurd (omega (arith, lt, p.0))

both-true : (a b : Bool) → (a && b) ≡ true → (a ≡ true) × (b ≡ true)
both-true true b h = (refl, h)
both-true false b h = absurd (cc)

and-true : (a b : Bool) → a ≡ true → b ≡ true → (a && b) ≡ true
and-true a b p q = rw p q

-- ---- a verdict that is `ok`

-- where a verdict that isn't `ok` stands for what doesn't hold, it holds
so : (b : Bool) (v w : Verdict) → is_good v ≡ false → is_good (if not b then v else w) ≡ true → (b ≡ true) × (is_good w ≡ true)
unfolding is_good
so true v w bad e = (refl, e)
so false v w bad e = let x : true ≡ false = sym e ∙ bad in absurd (cc)

met-of-verdict : (d : Data) (x : Expectation) (w : World) → is_good (verdict_on d (for_orders x) w) ≡ true → is_met x w.outcome ≡ true
unfolding is_good
met-of-verdict d x w h =
    let own = for_orders x in
    let cause = if not (has_cause x.end.cause w.outcome) then verdict.Cause else verdict_by_states d own w in
    let error = if not (has_error x.end.error w.outcome) then verdict.Error else cause in
    let part = if not (is_output Holding x.end.part w.outcome) then verdict.Match else error in
    let status = if not (is_wanted x.end.status w.outcome) then verdict.Status else verdict_by_end d own w in
    let over = so (is_over w.outcome) verdict.Limit status refl h in
    let ended = so (is_wanted x.end.status w.outcome) verdict.Status (verdict_by_end d own w) refl over.1 in
    let output = so (is_output Same x.end.output w.outcome) verdict.Output part refl ended.1 in
    let held = so (is_output Holding x.end.part w.outcome) verdict.Match error refl output.1 in
    let named = so (has_error x.end.error w.outcome) verdict.Error cause refl held.1 in
    let caused = so (has_cause x.end.cause w.outcome) verdict.Cause (verdict_by_states d own w) refl named.1 in
    and-true _ _ ended.0 (and-true _ _ output.0 (and-true _ _ held.0 (and-true _ _ named.0 caused.0)))

-- ---- an outcome that is found

-- what an execution of a test begins with that has these steps
abbrev setup-by : Suite → Expectation → Case → Option (List StepAt) → Setup
setup-by s x c ss = record {
  machine = s.machine;
  name_of_machine = x.machine;
  case = c;
  input = x.input;
  name = name_or_run x.case;
  start = start_of ss;
}

stepless : (s : Suite) (x : Expectation) (c : Case) (ss : Option (List StepAt)) → is_none ss ≡ true → setup-by s x c None ≡ setup-by s x c ss
stepless s x c None e = refl
stepless s x c (Some l) e = absurd (cc)

ends-so : (o : Orders) (t : Setup) (f : Found) → IsWitnessed o t f → (world_after t (opening t) f.steps.items).outcome ≡ f.outcome
ends-so o t f (inl h) = h.gives
ends-so o t f (inr h) = h.1.gives ∙ sym h.1.outcome_is

met-found : (o : Orders) (s : Suite) (x : Expectation) (t : Setup) (f : Found) (r : Result Case CaseFault)
    → option_map (test_setup s x) (result_ok r) ≡ Some t → is_none x.steps ≡ true
    → is_passed (order_by s (for_orders x) f.steps.items r) ≡ true → IsWitnessed o t f → is_met x f.outcome ≡ true
met-found o s x t f (Err e) begins none good h = absurd (cc)
met-found o s x t f (Ok c) begins none good h =
    let begun : setup-by s x c None ≡ t = stepless s x c x.steps none ∙ some_is (test_setup s x c) t begins in
    let met : is_met x (order_world s (for_orders x) c f.steps.items).outcome ≡ true = met-of-verdict s.machine x (order_world s (for_orders x) c f.steps.items) good in
    ap (is_met x) (sym (ends-so o t f h)) ∙ ap (λ (u : Setup). is_met x (world_after u (opening u) f.steps.items).outcome) (sym begun) ∙ met

-- ---- all that are found

-- what one says of the next ones
one-more : (s : Suite) (x : Expectation) (cs : List Calls) (n : ℕ) (f : Found) (fs : List Found) → unmet_from s x cs n (f ∷ fs) ≡ None
    → (is_passed (order_report s x f.steps.items) ≡ true) × ((are_always s.machine (slice_get cs n) x ≡ true) × (unmet_from s x cs (suc n) fs ≡ None))
one-more s x cs n f fs e = by (is_passed (order_report s x f.steps.items)) refl (are_always s.machine (slice_get cs n) x) refl e
  where
    by : (b : Bool) → is_passed (order_report s x f.steps.items) ≡ b → (c : Bool) → are_always s.machine (slice_get cs n) x ≡ c
        → (if b then (if c then unmet_from s x cs (suc n) fs else Some (None, with_other_counts (order_report s x f.steps.items))) else Some (Some (record { number = suc n; steps = f.steps }), order_report s x f.steps.items)) ≡ None
        → (is_passed (order_report s x f.steps.items) ≡ true) × ((are_always s.machine (slice_get cs n) x ≡ true) × (unmet_from s x cs (suc n) fs ≡ None))
    by true p true q r = (p, (q, r))
    by true p false q r = absurd (cc)
    by false p c q r = absurd (cc)

-- where none is first that isn't as expected, each is
all-passed : (s : Suite) (x : Expectation) (cs : List Calls) (n : ℕ) (fs : List Found) → unmet_from s x cs n fs ≡ None → All (λ (f : Found). is_passed (order_report s x f.steps.items) ≡ true) fs
all-passed s x cs n [] e = All-nil (λ (f : Found). is_passed (order_report s x f.steps.items) ≡ true)
all-passed s x cs n (f ∷ fs) e =
    let h = one-more s x cs n f fs e in
    All-cons (λ (g : Found). is_passed (order_report s x g.steps.items) ≡ true) f fs h.0 (all-passed s x cs (suc n) fs h.1.1)

-- and in all orders that end so Tasks are invoked as often as is expected
all-counted : (s : Suite) (x : Expectation) (cs : List Calls) (n : ℕ) (fs : List Found) → unmet_from s x cs n fs ≡ None → (k : ℕ) → k < length fs → are_always s.machine (slice_get cs (n + k)) x ≡ true
all-counted s x cs n [] e k lt = absurd (omega (arith, lt))
all-counted s x cs n (f ∷ fs) e zero lt = subst (λ (i : ℕ). are_always s.machine (slice_get cs i) x ≡ true) (omega arith) (one-more s x cs n f fs e).1.0
all-counted s x cs n (f ∷ fs) e (suc k) lt =
    subst (λ (i : ℕ). are_always s.machine (slice_get cs i) x ≡ true) (omega arith) (all-counted s x cs (suc n) fs (one-more s x cs n f fs e).1.1 k (omega (arith, lt)))

-- one that is first isn't
unmet-bad : (s : Suite) (x : Expectation) (cs : List Calls) (n : ℕ) (fs : List Found) (u : Option Unmet) (r : CaseReport) → unmet_from s x cs n fs ≡ Some (u, r) → is_passed r ≡ false
unfolding is_good
unmet-bad s x cs n [] u r e = absurd (cc)
unmet-bad s x cs n (f ∷ fs) u r e = by (is_passed (order_report s x f.steps.items)) refl (are_always s.machine (slice_get cs n) x) (unmet-bad s x cs (suc n) fs u r) e
  where
    by : (b : Bool) → is_passed (order_report s x f.steps.items) ≡ b → (c : Bool) → (unmet_from s x cs (suc n) fs ≡ Some (u, r) → is_passed r ≡ false)
        → (if b then (if c then unmet_from s x cs (suc n) fs else Some (None, with_other_counts (order_report s x f.steps.items))) else Some (Some (record { number = suc n; steps = f.steps }), order_report s x f.steps.items)) ≡ Some (u, r)
        → is_passed r ≡ false
    by true p true rest q = rest q
    by true p false rest q = ap (λ (z : Option Unmet × CaseReport). is_passed z.1) (sym (some_is _ _ q))
    by false p c rest q = ap (λ (z : Option Unmet × CaseReport). is_passed z.1) (sym (some_is _ _ q)) ∙ p

-- ---- how often Tasks are invoked

-- a number within bounds that are the same
between : (b : Bounds) (k n : ℕ) → IsIn b k → nat_eq b.least n ≡ true → nat_eq b.most n ≡ true → nat_eq k n ≡ true
between b k n h p q =
    let low : b.least ≡ n = (Decides-eqb b.least n).0 p in
    let high : b.most ≡ n = (Decides-eqb b.most n).0 q in
    (Decides-eqb k n).1 (omega (arith, low, high, h.low, h.high))

always-invoked : (d : Data) (c : Calls) (counts : List ℕ) (v : StateCount) → AreIn (state_count d) c counts → is_always d c v ≡ true → is_invoked d counts v ≡ true
always-invoked d c counts v within h = by (state_number v.state d) refl h
  where
    by : (o : Option ℕ) → state_number v.state d ≡ o → always_by o c v.count ≡ true → nat_eq (count_of counts o) v.count ≡ true
    by None e a = a
    by (Some k) e a =
        let lt : k < state_count d = found_within (λ (i : ℕ). i) (Some k) v.state d (sym e) in
        let is : bounds_at c k ≡ get_or c.bounds.items k no_bounds = unwrap_or-slice_get c.bounds.items k no_bounds in
        let two = both-true (nat_eq (bounds_at c k).least v.count) (nat_eq (bounds_at c k).most v.count) a in
        between (bounds_at c k) (slice_index counts k) v.count (subst (λ (b : Bounds). IsIn b (slice_index counts k)) (sym is) (within k no_bounds lt)) two.0 two.1

all-invoked : (d : Data) (c : Calls) (counts : List ℕ) → AreIn (state_count d) c counts → (vs : List StateCount) → list_all (is_always d c) vs ≡ true → list_all (is_invoked d counts) vs ≡ true
all-invoked d c counts within [] h = refl
all-invoked d c counts within (v ∷ vs) h =
    let two = both-true (is_always d c v) (list_all (is_always d c) vs) h in
    and-true _ _ (always-invoked d c counts v within two.0) (all-invoked d c counts within vs two.1)

-- ---- the report

-- a search after which a test is `ok` left out nothing, and found no order that is endless
met-whole : (e : Explored) → met_verdict e ≡ verdict.Passed → (e.complete ≡ true) × (is_none e.endless ≡ true)
met-whole e h = by e.endless e.complete refl refl h
  where
    by : (l : Option Lasso) (b : Bool) → e.endless ≡ l → e.complete ≡ b → (if is_some l then verdict.Endless else if b then verdict.Passed else verdict.Cut) ≡ verdict.Passed → (e.complete ≡ true) × (is_none e.endless ≡ true)
    by (Some l) b p q v = absurd (cc)
    by None true p q v = (q, ap is_none p)
    by None false p q v = absurd (cc)

-- what a search says of a test that is `ok`
passed-whole : (s : Suite) (x : Expectation) (o : Orders) (e : Explored) (d : CaseReport) (u : Option (Option Unmet × CaseReport)) → unmet_from s x e.calls.items 0 e.found.items ≡ u → (judged_by o x e d u).verdict ≡ verdict.Passed
    → (unmet_from s x e.calls.items 0 e.found.items ≡ None) × (met_verdict e ≡ verdict.Passed)
unfolding is_good
passed-whole s x o e d None is h = (is, h)
passed-whole s x o e d (Some (u, r)) is h = let y : true ≡ false = sym (ap is_good h) ∙ unmet-bad s x e.calls.items 0 e.found.items u r is in absurd (cc)

-- the machine is the suite's
machine-same : (s : Suite) (x : Expectation) (t : Setup) (r : Result Case CaseFault) → option_map (test_setup s x) (result_ok r) ≡ Some t → t.machine ≡ s.machine
machine-same s x t (Err e) begins = absurd (cc)
machine-same s x t (Ok c) begins = ap (λ (z : Setup). z.machine) (sym (some_is (test_setup s x c) t begins))

-- in each order that ends Tasks are invoked as often as is expected
invoked-whole : (o : Orders) (limit : ℕ) (s : Suite) (x : Expectation) (t : Setup) (e : Explored) → t.machine ≡ s.machine → IsFound o (counts x) limit t e → e.complete ≡ true
    → ((k : ℕ) → k < length e.found.items → are_always s.machine (slice_get e.calls.items k) x ≡ true)
    → (ps : List (List ℕ)) → AreTried o t (opening t) ps → is_over (after_order t (opening t) ps).outcome ≡ true
    → list_all (is_invoked t.machine (after_order t (opening t) ps).counts) x.states.invocations ≡ true
invoked-whole o limit s x t e same found complete each ps tried over = by x.states.invocations refl
  where
    by : (vs : List StateCount) → x.states.invocations ≡ vs → list_all (is_invoked t.machine (after_order t (opening t) ps).counts) vs ≡ true
    by [] is = refl
    by (v ∷ vs) is =
        let counted : counts x ≡ true = ap counts_any is in
        let h = found.calls counted complete ps tried over in
        let many : length (outcomes_of e.found.items) ≡ length e.found.items = length-map e.found.items (λ (f : Found). f.outcome) in
        let one = there e.calls.items h.number h.counted in
        let c = one.0 in
        let always : list_all (is_always s.machine c) x.states.invocations ≡ true =
        subst (λ (z : Option Calls). are_always s.machine z x ≡ true) one.1.0 (each h.number (omega (arith, h.there, many))) in
        all-invoked t.machine c (after_order t (opening t) ps).counts (subst (λ (z : Calls). AreIn (state_count t.machine) z (after_order t (opening t) ps).counts) one.1.1 (h.within c)) (v ∷ vs)
        (subst (λ (m : Data). list_all (is_always m c) (v ∷ vs) ≡ true) (sym same) (subst (λ (l : List StateCount). list_all (is_always s.machine c) l ≡ true) is always))

-- how often Tasks are to be invoked isn't changed for orders
same-counts : (s : Suite) (x : Expectation) (cs : List Calls) (k : ℕ) → are_always s.machine (slice_get cs k) (for_orders x) ≡ true → are_always s.machine (slice_get cs k) x ≡ true
same-counts s x cs k h = by (slice_get cs k) h
  where
    by : (c : Option Calls) → are_always s.machine c (for_orders x) ≡ true → are_always s.machine c x ≡ true
    by None h = h
    by (Some c) h = h

searched-holds : (o : Orders) (limit : ℕ) (s : Suite) (x : Expectation) (d r : CaseReport) → IsSearched o limit s x d r → r.verdict ≡ verdict.Passed → is_none x.steps ≡ true → (t : Setup) → setup_in s x ≡ Some t → HoldsFrom o x t
searched-holds o limit s x d r h passed none t begins =
    let e = h.explored in
    let own = for_orders x in
    let found = passed-whole s own o e d (unmet_from s own e.calls.items 0 e.found.items) refl (ap (λ (z : CaseReport). z.verdict) (sym h.report) ∙ passed) in
    let whole = met-whole e found.1 in
    let same : h.setup ≡ t = some_is h.setup t (sym h.is_setup ∙ begins) in
    let case = case_or_empty s.mocks x.machine x.case in
    let each : All (λ (f : Found). is_met x f.outcome ≡ true) e.found.items = λ k f lt. met-found o s x h.setup (get_or e.found.items k f) case h.is_setup none (all-passed s own e.calls.items 0 e.found.items found.0 k f lt) (h.found.shown k f lt) in
    let met : All (λ (z : Outcome). is_met x z ≡ true) (outcomes_of e.found.items) = All-map (λ (z : Outcome). is_met x z ≡ true) (λ (f : Found). f.outcome) e.found.items each in
    let all : HoldsFrom o x h.setup = record {
      met = λ ps tried over. All-contains (λ (z : Outcome). is_met x z ≡ true) (outcomes_of e.found.items) (after_order h.setup (opening h.setup) ps).outcome met (h.found.whole whole.0 ps tried over);
      ends = h.found.fills whole.0 whole.1;
      invoked = invoked-whole o limit s x h.setup e (machine-same s x h.setup case h.is_setup) h.found whole.0 (λ k lt. same-counts s x e.calls.items k (subst (λ (i : ℕ). are_always s.machine (slice_get e.calls.items i) own ≡ true) (omega arith) (all-counted s own e.calls.items 0 e.found.items found.0 k lt)));
    } in
    subst (HoldsFrom o x) same all

pub holds : (o : Orders) (limit : ℕ) (s : Suite) (x : Expectation) (r : CaseReport) → IsReported o limit s x r → r.verdict ≡ verdict.Passed → is_none x.steps ≡ true → (t : Setup) → setup_in s x ≡ Some t → HoldsFrom o x t
unfolding is_good
holds o limit s x r (inl h) passed none t begins = decided h.0
  where
    decided : (is_passed (report_on s x) ≡ false) ⊎ ((is_some x.steps ≡ true) ⊎ (setup_in s x ≡ None)) → HoldsFrom o x t
    decided (inl bad) = let y : true ≡ false = sym (ap is_good passed) ∙ ap is_passed h.1 ∙ bad in absurd (cc)
    decided (inr (inl some)) = absurd (both-ways x.steps none some)
      where
        both-ways : (ss : Option (List StepAt)) → is_none ss ≡ true → is_some ss ≡ true → ⊥
        both-ways None p q = cc
        both-ways (Some l) p q = cc
    decided (inr (inr lost)) = let y : None ≡ Some t = sym lost ∙ begins in absurd (cc)
holds o limit s x r (inr h) passed none t begins = searched-holds o limit s x (report_on s x) r h passed none t begins

-- ---- of the test of a number

pub reported-at : (o : Orders) (limit : ℕ) (s : Suite) (t : Option Expectation) (x : Expectation) (d : CaseReport) (r : Result CaseReport AllocError) → t ≡ Some x → option_map (report_on s) t ≡ Some d
    → IfOk r (IsReportedFrom o limit s x d) → IfOk r (λ q. IfSome t (λ y. IsReported o limit s y q))
reported-at o limit s t x d (Err e) at is h = tt
reported-at o limit s t x d (Ok q) at is h =
    let driven : report_on s x ≡ d = some_is (report_on s x) d (ap (option_map (report_on s)) (sym at) ∙ is) in
    subst (λ (z : Option Expectation). IfSome z (λ y. IsReported o limit s y q)) (sym at) (subst (λ (z : CaseReport). IsReportedFrom o limit s x z q) (sym driven) h)

pub holds-at : (o : Orders) (limit : ℕ) (s : Suite) (t : Option Expectation) (r : Result CaseReport AllocError) → IfOk r (λ q. IfSome t (λ y. IsReported o limit s y q)) → IfOk r (λ q. IfSome t (λ y. Holds o s y q))
holds-at o limit s t (Err e) h = tt
holds-at o limit s None (Ok q) h = tt
holds-at o limit s (Some x) (Ok q) h = holds o limit s x q h

-- ---- of a search

pub searched-by : (o : Orders) (limit : ℕ) (s : Suite) (x own : Expectation) (d : CaseReport) (t : Setup) (counted : Bool) (e : Explored) (r : Result CaseReport AllocError) → setup_in s x ≡ Some t → own ≡ for_orders x → counted ≡ counts own → IsFound o counted limit t e
    → IfOk r (λ q. q ≡ judged s own o e d) → IfOk r (IsReportedFrom o limit s x d)
searched-by o limit s x own d t counted e (Err z) begins is counts-is found h = tt
searched-by o limit s x own d t counted e (Ok q) begins is counts-is found h = inr (record {
  setup = t;
  is_setup = begins;
  explored = e;
  found = subst (λ (b : Bool). IsFound o b limit t e) (counts-is ∙ ap counts is) found;
  report = h ∙ ap (λ (y : Expectation). judged s y o e d) is;
})

-- ---- without orders

both-ways : (b : Bool) → b ≡ true → b ≡ false → ⊥
both-ways b p q = let x : true ≡ false = sym p ∙ q in absurd (cc)

pub never-plain : (x : Expectation) (d : CaseReport) → is_passed d ≡ true → is_some x.steps ≡ false → IsPlain x d → ⊥
never-plain x d good none (inl bad) = both-ways (is_passed d) good bad
never-plain x d good none (inr some) = both-ways (is_some x.steps) some none

pub all-plain : (x : Expectation) (d : CaseReport) (r : Result CaseReport AllocError) → is_passed d ≡ true → is_some x.steps ≡ false → IfOk r (λ q. IsPlain x d → q ≡ d)
all-plain x d (Err e) good none = tt
all-plain x d (Ok q) good none = λ plain. absurd (never-plain x d good none plain)

pub plain-at : (s : Suite) (t : Option Expectation) (x : Expectation) (d : CaseReport) (r : Result CaseReport AllocError) → t ≡ Some x → option_map (report_on s) t ≡ Some d
    → IfOk r (λ q. IsPlain x d → q ≡ d) → IfOk r (λ q. IfSome t (λ y. IsPlain y (report_on s y) → q ≡ report_on s y))
plain-at s t x d (Err e) at is h = tt
plain-at s t x d (Ok q) at is h =
    let driven : report_on s x ≡ d = some_is (report_on s x) d (ap (option_map (report_on s)) (sym at) ∙ is) in
    subst (λ (z : Option Expectation). IfSome z (λ y. IsPlain y (report_on s y) → q ≡ report_on s y)) (sym at) (subst (λ (z : CaseReport). IsPlain x z → q ≡ z) (sym driven) h)
