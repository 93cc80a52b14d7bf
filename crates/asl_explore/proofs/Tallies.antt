-- How often states are invoked in the orders that end in an outcome.
use Rattle.std.specs.Prelude.{slice_index, nat_eq}
use Rattle.std.proofs.Common.{ℕ, ◌≡◌, ◌<◌, ◌≤◌, ◌+◌, ◌∙◌, ap, sym, refl, subst, arith, Bool, true, false, List, length, get_or, set, Option}
use Rattle.std.specs.List.{All, AllWithin}
use Rattle.std.proofs.lemmas.Bool.Decides.{nat_tests}
use Rattle.std.proofs.lemmas.List.{get_or_read, get_or-set_other, length-set}
use Rattle.std.proofs.lemmas.Grind.{get_or-set_at}
use Rattle.std.proofs.lemmas.List.Elements.{AllWithin-more}
use Rattle.asl_run_branches.specs.declared.earliest.Earliest.{Earliest}
use Rattle.asl_run_state.specs.World.{World}
use Rattle.asl_run_state.specs.Bare.{bare}
use Rattle.asl_run_state.specs.declared.outcome.Outcome.{Outcome}
use Rattle.asl_run_input.specs.declared.setup.Setup.{Setup}
use Rattle.asl_def.specs.Machines.{state_count}
use Rattle.asl_exec.specs.Steps.{step}
use Rattle.asl_explore.specs.declared.calls.Bounds.{Bounds}
use Rattle.asl_explore.specs.declared.calls.Calls.{Calls}
use Rattle.asl_explore.specs.declared.found.Found.{Found}
use Rattle.asl_explore.specs.declared.met.Node.{Node}
use Rattle.asl_explore.specs.declared.orders.Orders.{Orders}
use Rattle.asl_explore.specs.Orders.{due}
use Rattle.asl_explore.specs.Searches.{outcomes_of, worlds_of}
use Rattle.asl_explore.specs.Calls.{IsIn, AreWider, IsCounted, AreKept, AreEndsCounted, AllAreExpanded, AreCounted}
use Rattle.asl_explore.proofs.Expanding.{node-at}
use Rattle.asl_explore.proofs.Ends.{IsTurnIn, all-end-in}

-- ---- bounds that are written over others

pub not-same : (k i : ℕ) → nat_eq k i ≡ false → k ≡ i → ⊥
not-same k i e q = grind (arith, nat_tests, e, q)

-- what is within the bounds that are written over
pub written : (bs : List Bounds) (i k : ℕ) (b d : Bounds) (n : ℕ) → i < length bs → ((e : Bounds) → IsIn (get_or bs i e) n → IsIn b n) → IsIn (get_or bs k d) n → IsIn (get_or (set bs i b) k d) n
written bs i k b d n l new h = by (nat_eq k i) refl
  where
    by : (c : Bool) → nat_eq k i ≡ c → IsIn (get_or (set bs i b) k d) n
    by true e =
        let q : k ≡ i = grind (arith, nat_tests, e) in
        subst (λ (x : Bounds). IsIn x n) (sym (get_or-set_at bs i k b d q l)) (new d (subst (λ (j : ℕ). IsIn (get_or bs j d) n) q h))
    by false e = subst (λ (x : Bounds). IsIn x n) (sym (get_or-set_other bs i k b d (not-same k i e))) h

pub wider-more : (bs cs : List Bounds) (i : ℕ) (x b : Bounds) → AreWider bs cs → i < length cs → x ≡ get_or cs i x → ((n : ℕ) → IsIn x n → IsIn b n) → AreWider bs (set cs i b)
wider-more bs cs i x b w l at new k d n h = written cs i k b d n l (λ e g. new n (subst (λ (z : Bounds). IsIn z n) (sym (get_or_read cs i x l at e)) g)) (w k d n h)

-- so far each count is within its bounds
abbrev pub AreInSoFar : List Bounds → List ℕ → ℕ → Type 0
AreInSoFar bs counts i = (k : ℕ) (d : Bounds) → k < i → IsIn (get_or bs k d) (slice_index counts k)

pub in-more : (bs : List Bounds) (counts : List ℕ) (i : ℕ) (x b : Bounds) → AreInSoFar bs counts i → i < length bs → x ≡ get_or bs i x → ((n : ℕ) → IsIn x n → IsIn b n) → IsIn b (slice_index counts i) → AreInSoFar (set bs i b) counts (i + 1)
in-more bs counts i x b h l at new here k d lt = by (nat_eq k i) refl
  where
    by : (c : Bool) → nat_eq k i ≡ c → IsIn (get_or (set bs i b) k d) (slice_index counts k)
    by true e =
        let q : k ≡ i = grind (arith, nat_tests, e) in
        subst (λ (z : Bounds). IsIn z (slice_index counts k)) (sym (get_or-set_at bs i k b d q l)) (subst (λ (j : ℕ). IsIn b (slice_index counts j)) (sym q) here)
    by false e =
        let less : k < i = grind (arith, nat_tests, e, lt) in
        written bs i k b d (slice_index counts k) l (λ z g. new (slice_index counts k) (subst (λ (y : Bounds). IsIn y (slice_index counts k)) (sym (get_or_read bs i x l at z)) g)) (h k d less)

-- ---- the bounds of an outcome that are written over

pub kept-then : (cs ds es : List Calls) → AreKept cs ds → AreKept ds es → AreKept cs es
kept-then cs ds es a b = record { many = b.many ∙ a.many; wider = λ i d k e n h. b.wider i d k e n (a.wider i d k e n h) }

pub kept-set : (cs : List Calls) (i : ℕ) (x c : Calls) → i < length cs → x ≡ get_or cs i x → AreWider x.bounds.items c.bounds.items → AreKept cs (set cs i c)
kept-set cs i x c l at w = record { many = length-set cs i c; wider = λ j d. by j d (nat_eq j i) refl }
  where
    by : (j : ℕ) (d : Calls) (b : Bool) → nat_eq j i ≡ b → AreWider (get_or cs j d).bounds.items (get_or (set cs i c) j d).bounds.items
    by j d true e =
        let q : j ≡ i = grind (arith, nat_tests, e) in
        let here : x ≡ get_or cs j d = get_or_read cs i x l at d ∙ ap (λ (z : ℕ). get_or cs z d) (sym q) in
        subst (λ (z : Calls). AreWider (get_or cs j d).bounds.items z.bounds.items) (sym (get_or-set_at cs i j c d q l)) (subst (λ (z : Calls). AreWider z.bounds.items c.bounds.items) here w)
    by j d false e = subst (λ (z : Calls). AreWider (get_or cs j d).bounds.items z.bounds.items) (sym (get_or-set_other cs i j c d (not-same j i e))) (λ k f n h. h)

pub counted-set : (states : ℕ) (os : List Outcome) (cs : List Calls) (i : ℕ) (x c : Calls) (o : Outcome) (counts : List ℕ) → i < length os → ((d : Outcome) → get_or os i d ≡ o) → i < length cs → states ≤ length x.bounds.items
    → ((k : ℕ) (d : Bounds) → k < length x.bounds.items → IsIn (get_or c.bounds.items k d) (slice_index counts k)) → IsCounted states os (set cs i c) o counts
counted-set states os cs i x c o counts lo at lc le has = record {
  number = i;
  there = lo;
  outcome = at;
  counted = let long = length-set cs i c in omega (arith, lc, long);
  within = λ d k e lt. subst (λ (z : Calls). IsIn (get_or z.bounds.items k e) (slice_index counts k)) (sym (get_or-set_at cs i i c d refl lc)) (has k e (omega (arith, lt, le)));
}

-- ---- what was counted stays counted

pub counted-kept : (states : ℕ) (os : List Outcome) (cs ds : List Calls) (o : Outcome) (counts : List ℕ) → AreKept cs ds → IsCounted states os cs o counts → IsCounted states os ds o counts
counted-kept states os cs ds o counts kept h = record {
  number = h.number;
  there = h.there;
  outcome = h.outcome;
  counted = let lt = h.counted in let many = kept.many in omega (arith, lt, many);
  within = λ d k e lt. kept.wider h.number d k e (slice_index counts k) (h.within d k e lt);
}

-- ---- each step of a world

pub turns-more : (s : Setup) (states : ℕ) (os : List Outcome) (cs ds : List Calls) (w : World) (bound : Option ℕ) (turns : List Earliest) (i : ℕ) (turn : Earliest) → AreKept cs ds → AllWithin (IsTurnIn (IsCounted states os cs) s w bound) turns 0 i → i < length turns → turn ≡ get_or turns i turn → IsTurnIn (IsCounted states os ds) s w bound turn
    → AllWithin (IsTurnIn (IsCounted states os ds) s w bound) turns 0 (i + 1)
turns-more s states os cs ds w bound turns i turn kept h l at new =
    AllWithin-more (IsTurnIn (IsCounted states os ds) s w bound) turns 0 i
    (λ k d z lt inside over. let v = step s w (get_or turns k d).place (get_or turns k d).moment in counted-kept states os cs ds v.outcome v.counts kept (h k d z lt inside over))
    (λ d. subst (IsTurnIn (IsCounted states os ds) s w bound) (get_or_read turns i turn l at d) new)

-- ---- each world that was met

pub worlds-more : (o : Orders) (s : Setup) (states : ℕ) (os : List Outcome) (cs ds : List Calls) (ns : List Node) (i : ℕ) (n : Node) → AreKept cs ds → AllWithin (AreEndsCounted o s states os cs) (worlds_of ns) 0 i → i < length ns → n ≡ get_or ns i n → AreEndsCounted o s states os ds (bare n.world)
    → AllWithin (AreEndsCounted o s states os ds) (worlds_of ns) 0 (i + 1)
worlds-more o s states os cs ds ns i n kept h l at new =
    AllWithin-more (AreEndsCounted o s states os ds) (worlds_of ns) 0 i
    (λ k d z lt p tried over. let v = step s (get_or (worlds_of ns) k d) p (due (get_or (worlds_of ns) k d) p) in counted-kept states os cs ds v.outcome v.counts kept (h k d z lt p tried over))
    (λ d. subst (AreEndsCounted o s states os ds) (sym (node-at ns i n d l at)) new)

-- ---- each order

pub counted-all : (o : Orders) (s z : Setup) (ns ms : List Node) (fs gs : List Found) (cs : List Calls) (states : ℕ) → ms ≡ ns → gs ≡ fs → z ≡ s → states ≡ state_count z.machine → AllAreExpanded o s (worlds_of ns) (outcomes_of fs) → All (AreEndsCounted o s states (outcomes_of gs) cs) (worlds_of ms) → AreCounted o s (outcomes_of fs) cs
counted-all o s z ns ms fs gs cs states en ef ez es closed ends =
    let count : states ≡ state_count s.machine = es ∙ ap (λ (x : Setup). state_count x.machine) ez in
    all-end-in (IsCounted (state_count s.machine) (outcomes_of fs) cs) o s (worlds_of ns) (outcomes_of fs) closed
    (subst (λ (n : ℕ). All (AreEndsCounted o s n (outcomes_of fs) cs) (worlds_of ns)) count
    (subst (λ (xs : List Found). All (AreEndsCounted o s states (outcomes_of xs) cs) (worlds_of ns)) ef
    (subst (λ (xs : List Node). All (AreEndsCounted o s states (outcomes_of gs) cs) (worlds_of xs)) en ends)))
