-- What is known of plans while they are tried.
use Rattle.std.proofs.Common.{◌≡◌, ◌≤◌, ◌<◌, ◌∙◌, ◌⊎◌, inl, inr, ℕ, zero, suc, ◌+◌, Bool, true, false, List, [], ◌∷◌, ◌++◌, length, get_or, refl, sym, ap, subst, arith, Option, Some, None}
use Rattle.std.specs.Prelude.{◌&&◌, ◌||◌, if◌then◌else◌}
use Rattle.std.specs.List.{All, AllPairs, Contains, list_any}
use Rattle.std.specs.Option.{option_eq}
use Rattle.std.proofs.lemmas.Bool.{ltb-true}
use Rattle.std.proofs.lemmas.Cmp.{nat_eq_equiv, nat_list_eq_equiv}
use Rattle.std.proofs.lemmas.List.{append-nil, append_assoc, get_or_append_left, length-append}
use Rattle.std.proofs.lemmas.List.Elements.{All-append, All-cons, All-contains, All-contains_itself, All-head, All-nil, All-push, All-tail, All-weaker, Contains-append_cases, Contains-append_left, Contains-append_right}
use Rattle.std.proofs.lemmas.List.Folds.{list_any-append, list_any-from_Any}
use Rattle.std.proofs.lemmas.List.Quantifiers.{Any-push, all_pairs_push}
use Rattle.asl_json.specs.Same.{bool_eq, bytes_eq}
use Rattle.asl_json_data.specs.Data.{Data}
use Rattle.asl_run_input.specs.declared.setup.Setup.{Setup}
use Rattle.asl_error_plans.specs.declared.injected.InjectedError.{InjectedError}
use Rattle.asl_error_plans.specs.declared.outcomes.PlanOutcomes.{PlanOutcomes}
use Rattle.asl_explore.specs.declared.calls.Calls.{Calls}
use Rattle.asl_explore.specs.declared.orders.Orders.{Orders}
use Rattle.asl_task_errors.specs.Tasks.{Told}
use Rattle.asl_explore_errors.specs.declared.points.Point.{Point}
use Rattle.asl_explore_errors.specs.declared.tried.ErrorsFound.{ErrorsFound}
use Rattle.asl_explore_errors.specs.declared.tried.Witnesses.{Witnesses}
use Rattle.asl_explore_errors.specs.Plans.{has_plan, is_same_error, is_same_plan}
use Rattle.asl_explore_errors.specs.Points.{errors_of, longer}
use Rattle.asl_explore_errors.specs.Searches.{Accepting, AreAllFound, AreLongerTold, AreMade, AreTried, IsFoundUnder, IsLonger, IsTried, Try, has_room, is_counted, is_told, try_of}
use Rattle.asl_explore_errors.specs.private.Levels.{AreLongerKnown, IsAdded, IsKnown, IsLevel, IsPending}
use Rattle.asl_explore_errors.proofs.Lengths.{all_longer}

-- ---- a plan is the same as itself

both : (a b : Bool) → a ≡ true → b ≡ true → (a && b) ≡ true
both true b x y = y
both false b x y = absurd (cc x)

same_bool : (b : Bool) → bool_eq b b ≡ true
same_bool true = refl
same_bool false = refl

same_cause : (o : Option (List ℕ)) → option_eq bytes_eq o o ≡ true
same_cause None = refl
same_cause (Some t) = nat_list_eq_equiv.refl t

same_error : (e : InjectedError) → is_same_error e e ≡ true
same_error e = both _ _ (nat_list_eq_equiv.refl e.state) (both _ _ (nat_eq_equiv.refl e.number) (both _ _ (nat_list_eq_equiv.refl e.error) (both _ _ (same_cause e.cause) (same_bool e.for_good))))

same_plan : (es : List InjectedError) → is_same_plan es es ≡ true
same_plan [] = refl
same_plan (e ∷ es) = both _ _ (same_error e) (same_plan es)

-- ---- what is told stays so

told_more : (ps : List PlanOutcomes) (p : PlanOutcomes) (plan : List Point) → is_told ps plan ≡ true → is_told (ps ++ p ∷ []) plan ≡ true
told_more ps p plan h = list_any-append (has_plan (errors_of plan)) ps (p ∷ []) ∙ ap (λ b. b || list_any (has_plan (errors_of plan)) (p ∷ [])) h

told_new : (ps : List PlanOutcomes) (p : PlanOutcomes) (plan : List Point) → p.plan.items ≡ errors_of plan → is_told (ps ++ p ∷ []) plan ≡ true
told_new ps p plan e = list_any-from_Any (has_plan (errors_of plan)) (ps ++ p ∷ []) (Any-push (λ (q : PlanOutcomes). has_plan (errors_of plan) q ≡ true) ps p (subst (λ (es : List InjectedError). is_same_plan es (errors_of plan) ≡ true) (sym e) (same_plan (errors_of plan))))

-- ---- what is pending

contains_tail : {X : Type 0} (x y : X) (xs : List X) → Contains (x ∷ xs) y → (x ≡ y) ⊎ Contains xs y
contains_tail x y xs c = by c.0 c.1 c.2
  where
    by : (k : ℕ) → k < length (x ∷ xs) → get_or (x ∷ xs) k y ≡ y → (x ≡ y) ⊎ Contains xs y
    by zero lt e = inl e
    by (suc k) lt e = inr (k, omega (arith, lt), e)

-- a plan that is told needn't be tried
known_without : (ps : List PlanOutcomes) (plan : List Point) (pending : List (List Point)) (q : List Point)
    → is_told ps plan ≡ true → IsKnown ps (plan ∷ pending) q → IsKnown ps pending q
known_without ps plan pending q told (inl h) = inl h
known_without ps plan pending q told (inr c) = by (contains_tail plan q pending c)
  where
    by : (plan ≡ q) ⊎ Contains pending q → IsKnown ps pending q
    by (inl e) = inl (subst (λ z. is_told ps z ≡ true) e told)
    by (inr d) = inr d

known_more : (ps : List PlanOutcomes) (p : PlanOutcomes) (pending : List (List Point)) (q : List Point)
    → IsKnown ps pending q → IsKnown (ps ++ p ∷ []) pending q
known_more ps p pending q (inl h) = inl (told_more ps p q h)
known_more ps p pending q (inr c) = inr c

known_beside : (ps : List PlanOutcomes) (left next extra : List (List Point)) (q : List Point)
    → IsKnown ps (left ++ next) q → IsKnown ps (left ++ (next ++ extra)) q
known_beside ps left next extra q (inl h) = inl h
known_beside ps left next extra q (inr c) = inr (by (Contains-append_cases left next q c))
  where
    by : Contains left q ⊎ Contains next q → Contains (left ++ (next ++ extra)) q
    by (inl d) = Contains-append_left left (next ++ extra) q d
    by (inr d) = Contains-append_right left (next ++ extra) q (Contains-append_left next extra q d)

-- ---- what was tried

tried_more : {J : Type 0} (accepts : Accepting J) (js : List J) (most : ℕ) (o : Orders) (limit : ℕ) (s : Setup) (ts : List Try) (ps : List PlanOutcomes) (ws : List Witnesses) (t : Try) (p : PlanOutcomes) (w : Witnesses)
    → AreTried accepts js most o limit s ts ps ws → IsTried accepts js most o limit s t p w → AreTried accepts js most o limit s (ts ++ t ∷ []) (ps ++ p ∷ []) (ws ++ w ∷ [])
tried_more accepts js most o limit s [] [] [] t p w h g = (g, tt)
tried_more accepts js most o limit s [] [] (w ∷ ws) t p v h g = absurd h
tried_more accepts js most o limit s [] (p ∷ ps) ws t q w h g = absurd h
tried_more accepts js most o limit s (t ∷ ts) [] ws u p w h g = absurd h
tried_more accepts js most o limit s (t ∷ ts) (p ∷ ps) [] u q w h g = absurd h
tried_more accepts js most o limit s (t ∷ ts) (p ∷ ps) (w ∷ ws) u q v h g = (h.0, tried_more accepts js most o limit s ts ps ws u q v h.1 g)

longer_more : (most : ℕ) (tasks : List Told) (m : Data) (ts us : List Try) (plan : List Point) → IsLonger most tasks m ts plan → IsLonger most tasks m (ts ++ us) plan
longer_more most tasks m ts us plan h = (h.0, h.1, omega (arith, h.2, length-append ts us), get_or_append_left ts us h.1 h.0 h.2 ∙ h.3, h.4)

made_more : (most : ℕ) (tasks : List Told) (m : Data) (before ts : List Try) (t : Try)
    → AreMade most tasks m before ts → (t.plan ≡ []) ⊎ IsLonger most tasks m (before ++ ts) t.plan → AreMade most tasks m before (ts ++ t ∷ [])
made_more most tasks m before [] t h (inl e) = (inl e, tt)
made_more most tasks m before [] t h (inr g) = (inr (subst (λ us. IsLonger most tasks m us t.plan) (append-nil before) g), tt)
made_more most tasks m before (u ∷ us) t h (inl e) = (h.0, made_more most tasks m (before ++ u ∷ []) us t h.1 (inl e))
made_more most tasks m before (u ∷ us) t h (inr g) = (h.0, made_more most tasks m (before ++ u ∷ []) us t h.1 (inr (subst (λ vs. IsLonger most tasks m vs t.plan) (sym (append_assoc before (u ∷ []) us)) g)))

pending_more : (most : ℕ) (tasks : List Told) (m : Data) (ts us : List Try) (number : ℕ) (plan : List Point) → IsPending most tasks m ts number plan → IsPending most tasks m (ts ++ us) number plan
pending_more most tasks m ts us number plan (long, inl e) = (long, inl e)
pending_more most tasks m ts us number plan (long, inr h) = (long, inr (longer_more most tasks m ts us plan h))

none_at : (plan : List InjectedError) (ps : List PlanOutcomes) (k : ℕ) (d : PlanOutcomes) → list_any (has_plan plan) ps ≡ false → k < length ps → is_same_plan (get_or ps k d).plan.items plan ≡ false
none_at plan [] k d h lt = absurd (omega (arith, lt))
none_at plan (p ∷ ps) k d h lt = by (has_plan plan p) refl k lt h (λ j g l. none_at plan ps j d g l)
  where
    by : (b : Bool) → has_plan plan p ≡ b → (k : ℕ) → k < length (p ∷ ps) → (b || list_any (has_plan plan) ps) ≡ false
        → ((j : ℕ) → list_any (has_plan plan) ps ≡ false → j < length ps → is_same_plan (get_or ps j d).plan.items plan ≡ false)
        → is_same_plan (get_or (p ∷ ps) k d).plan.items plan ≡ false
    by true e k lt h rest = absurd (cc h)
    by false e zero lt h rest = e
    by false e (suc k) lt h rest = rest k h (omega (arith, lt))

-- ---- a level

module _ {J : Type 0} (accepts : Accepting J) (js : List J) (most : ℕ) (tasks : List Told) (o : Orders) (limit : ℕ) (s : Setup) where
  -- a plan that is told is left out
  pub level_told : (number : ℕ) (plan : List Point) (left next : List (List Point)) (x : ErrorsFound)
      → is_told x.plans.items plan ≡ true
      → IsLevel accepts js most tasks o limit s number (plan ∷ left) next x → IsLevel accepts js most tasks o limit s number left next x
  level_told number plan left next x told h = record {
    tries = h.tries;
    each = h.each;
    none = known_without x.plans.items plan (left ++ next) [] told h.none;
    longer = All-weaker (AreLongerKnown most tasks s.machine x.plans.items (plan ∷ (left ++ next))) (AreLongerKnown most tasks s.machine x.plans.items (left ++ next))
        (λ (t : Try) g room. All-weaker (IsKnown x.plans.items (plan ∷ (left ++ next))) (IsKnown x.plans.items (left ++ next)) (λ q k. known_without x.plans.items plan (left ++ next) q told k) (longer tasks s.machine t.calls t.plan) (g room))
        h.tries h.longer;
    only = h.only;
    once = h.once;
    wanted = All-tail (IsPending most tasks s.machine h.tries number) plan left h.wanted;
    beyond = h.beyond;
  }

  -- the plans of one error more, where there is room
  abbrev extra_of : Bool → List Calls → List Point → List (List Point)
  extra_of room cs plan = if room then longer tasks s.machine cs plan else []

  extra_holds : (room : Bool) (cs : List Calls) (plan : List Point) → room ≡ true → All (Contains (extra_of room cs plan)) (longer tasks s.machine cs plan)
  extra_holds true cs plan e = All-contains_itself (longer tasks s.machine cs plan)
  extra_holds false cs plan e = absurd (cc e)

  -- each of them is pending
  extra_pending : (ts : List Try) (room : Bool) (number : ℕ) (cs : List Calls) (plan : List Point) → has_room most plan ≡ room → length plan ≡ number
      → All (IsPending most tasks s.machine (ts ++ try_of plan cs ∷ []) (number + 1)) (extra_of room cs plan)
  extra_pending ts false number cs plan e long = All-nil (IsPending most tasks s.machine (ts ++ try_of plan cs ∷ []) (number + 1))
  extra_pending ts true number cs plan e long =
      let P : Try → List Point → Type 0 = λ t q. (has_room most t.plan ≡ true) × Contains (longer tasks s.machine t.calls t.plan) q in
      λ k d lt.
      let q = get_or (longer tasks s.machine cs plan) k d in (
        all_longer tasks s.machine cs plan k d lt ∙ ap (λ n. n + 1) long,
        inr (Any-push (λ (t : Try). P t q) ts (try_of plan cs) (e, All-contains_itself (longer tasks s.machine cs plan) k d lt)),
      )

  -- a plan that wasn't told is tried
  pub level_added : (number : ℕ) (plan : List Point) (left next next2 : List (List Point)) (x y : ErrorsFound) (room : Bool) (cs : List Calls)
      → number ≤ most → is_told x.plans.items plan ≡ false → room ≡ has_room most plan
      → IsAdded accepts js o limit s (is_counted js room) (errors_of plan) x y cs → next2 ≡ next ++ (if room then longer tasks s.machine cs plan else [])
      → IsLevel accepts js most tasks o limit s number (plan ∷ left) next x → IsLevel accepts js most tasks o limit s number left next2 y
  level_added number plan left next next2 x y room cs le new is_room a more h =
      let t = try_of plan cs in
      let ts = h.tries ++ t ∷ [] in
      let extra = extra_of room cs plan in
      let first = All-head (IsPending most tasks s.machine h.tries number) plan left h.wanted in
      let known : (q : List Point) → IsKnown x.plans.items (plan ∷ (left ++ next)) q → IsKnown y.plans.items (left ++ next2) q = λ q k.
      subst (λ ps. IsKnown ps (left ++ next2) q) (sym a.plans) (subst (λ n. IsKnown (x.plans.items ++ a.tried ∷ []) (left ++ n) q) (sym more)
      (known_beside (x.plans.items ++ a.tried ∷ []) left next extra q
      (known_without (x.plans.items ++ a.tried ∷ []) plan (left ++ next) q (told_new x.plans.items a.tried plan a.is_plan) (known_more x.plans.items a.tried (plan ∷ (left ++ next)) q k)))) in
      let old : All (AreLongerKnown most tasks s.machine y.plans.items (left ++ next2)) h.tries =
      All-weaker (AreLongerKnown most tasks s.machine x.plans.items (plan ∷ (left ++ next))) (AreLongerKnown most tasks s.machine y.plans.items (left ++ next2))
      (λ (u : Try) g r. All-weaker (IsKnown x.plans.items (plan ∷ (left ++ next))) (IsKnown y.plans.items (left ++ next2)) known (longer tasks s.machine u.calls u.plan) (g r))
      h.tries h.longer in
      let own : AreLongerKnown most tasks s.machine y.plans.items (left ++ next2) t = λ r.
      All-weaker (Contains extra) (IsKnown y.plans.items (left ++ next2))
      (λ q c. inr (subst (λ n. Contains (left ++ n) q) (sym more) (Contains-append_right left (next ++ extra) q (Contains-append_right next extra q c))))
      (longer tasks s.machine cs plan) (extra_holds room cs plan (is_room ∙ r)) in
      record {
        tries = ts;
        each = subst (λ (ps : List PlanOutcomes). AreTried accepts js most o limit s ts ps y.found.items) (sym a.plans) (subst (AreTried accepts js most o limit s ts (x.plans.items ++ a.tried ∷ [])) (sym a.found)
            (tried_more accepts js most o limit s h.tries x.plans.items x.found.items t a.tried a.witnesses h.each (record {
              few = omega (arith, le, first.0);
              plan = a.is_plan;
              found = subst (λ (b : Bool). IsFoundUnder accepts js o limit s (is_counted js b) a.tried a.witnesses cs) is_room a.is_found;
            })));
        none = known [] h.none;
        longer = All-push (AreLongerKnown most tasks s.machine y.plans.items (left ++ next2)) h.tries t old own;
        only = made_more most tasks s.machine [] h.tries t h.only first.1;
        once = subst (AllPairs (λ (b c : PlanOutcomes). is_same_plan b.plan.items c.plan.items ≡ false)) (sym a.plans)
            (all_pairs_push (λ (b c : PlanOutcomes). is_same_plan b.plan.items c.plan.items ≡ false) x.plans.items a.tried h.once
            (λ k d lt. subst (λ (es : List InjectedError). is_same_plan (get_or x.plans.items k d).plan.items es ≡ false) (sym a.is_plan) (none_at (errors_of plan) x.plans.items k d new lt)));
        wanted = All-weaker (IsPending most tasks s.machine h.tries number) (IsPending most tasks s.machine ts number) (λ q p. pending_more most tasks s.machine h.tries (t ∷ []) number q p) left (All-tail (IsPending most tasks s.machine h.tries number) plan left h.wanted);
        beyond = subst (All (IsPending most tasks s.machine ts (number + 1))) (sym more) (All-append (IsPending most tasks s.machine ts (number + 1)) next extra
            (All-weaker (IsPending most tasks s.machine h.tries (number + 1)) (IsPending most tasks s.machine ts (number + 1)) (λ q p. pending_more most tasks s.machine h.tries (t ∷ []) (number + 1) q p) next h.beyond)
            (extra_pending h.tries room number cs plan (sym is_room) first.0));
      }

  -- what has one error more comes next
  pub level_next : (number : ℕ) (next : List (List Point)) (x : ErrorsFound)
      → IsLevel accepts js most tasks o limit s number [] next x → IsLevel accepts js most tasks o limit s (number + 1) next [] x
  level_next number next x h = record {
    tries = h.tries;
    each = h.each;
    none = subst (λ pending. IsKnown x.plans.items pending []) (sym (append-nil next)) h.none;
    longer = subst (λ pending. All (AreLongerKnown most tasks s.machine x.plans.items pending) h.tries) (sym (append-nil next)) h.longer;
    only = h.only;
    once = h.once;
    wanted = h.beyond;
    beyond = All-nil (IsPending most tasks s.machine h.tries (number + 1 + 1));
  }

  -- the plan without errors is tried first
  pub level_first : (plans : List (List Point)) (x : ErrorsFound) → x.plans.items ≡ [] → x.found.items ≡ [] → plans ≡ [] ∷ []
      → IsLevel accepts js most tasks o limit s 0 plans [] x
  level_first plans x no_plans no_found e = record {
    tries = [];
    each = subst (λ (ps : List PlanOutcomes). AreTried accepts js most o limit s [] ps x.found.items) (sym no_plans) (subst (AreTried accepts js most o limit s [] []) (sym no_found) tt);
    none = subst (λ ps. IsKnown x.plans.items (ps ++ []) []) (sym e) (inr (0, omega arith, refl));
    longer = All-nil (AreLongerKnown most tasks s.machine x.plans.items (plans ++ []));
    only = tt;
    once = subst (AllPairs (λ (b c : PlanOutcomes). is_same_plan b.plan.items c.plan.items ≡ false)) (sym no_plans) (λ i j d lt within. absurd (omega (arith, within)));
    wanted = subst (All (IsPending most tasks s.machine [] 0)) (sym e) (All-cons (IsPending most tasks s.machine [] 0) [] [] (refl, inl refl) (All-nil (IsPending most tasks s.machine [] 0)));
    beyond = All-nil (IsPending most tasks s.machine [] (0 + 1));
  }

  -- no plan has more errors
  none_beyond : (ts : List Try) (plans : List (List Point)) → All (IsPending most tasks s.machine ts (most + 1)) plans → plans ≡ []
  none_beyond ts [] h = refl
  none_beyond ts (plan ∷ plans) h = absurd (by (All-head (IsPending most tasks s.machine ts (most + 1)) plan plans h))
    where
      by : IsPending most tasks s.machine ts (most + 1) plan → ⊥
      by (long, inl e) = omega (arith, long, ap length e)
      by (long, inr g) =
          let t = g.1 in
          let one = All-contains (λ (q : List Point). length q ≡ length t.plan + 1) (longer tasks s.machine t.calls t.plan) plan (all_longer tasks s.machine t.calls t.plan) g.4.1 in
          omega (arith, long, one, ltb-true (length t.plan) most g.4.0)

  pub level_last : (plans : List (List Point)) (x : ErrorsFound) → IsLevel accepts js most tasks o limit s (most + 1) plans [] x → AreAllFound accepts js most tasks o limit s x
  level_last plans x h =
      let e = none_beyond h.tries plans h.wanted in
      let told : (q : List Point) → IsKnown x.plans.items (plans ++ []) q → is_told x.plans.items q ≡ true = λ q k. all_told q (subst (λ ps. IsKnown x.plans.items (ps ++ []) q) e k) in
      record {
        tries = h.tries;
        each = h.each;
        none = told [] h.none;
        longer = All-weaker (AreLongerKnown most tasks s.machine x.plans.items (plans ++ [])) (AreLongerTold most tasks s.machine x.plans.items)
            (λ (t : Try) g room. All-weaker (IsKnown x.plans.items (plans ++ [])) (λ plan. is_told x.plans.items plan ≡ true) told (longer tasks s.machine t.calls t.plan) (g room))
            h.tries h.longer;
        only = h.only;
        once = h.once;
      }
    where
      all_told : (q : List Point) → IsKnown x.plans.items [] q → is_told x.plans.items q ≡ true
      all_told q (inl k) = k
      all_told q (inr c) = absurd (omega (arith, c.1))
