-- What the environment of a place says of what stands around it.
use Rattle.std.proofs.Common.{◌≡◌, ℕ, zero, suc, ◌+◌, ◌<◌, Bool, true, false, cond, List, [], ◌∷◌, ◌++◌, length, refl, sym, ap, subst, ◌∙◌, arith}
use Rattle.std.specs.Prelude.{Option, Some, None, option_and_then, filter, nat_lt, if◌then◌else◌}
use Rattle.std.specs.Option.{option_map_or}
use Rattle.std.proofs.lemmas.Bool.Decides.{nat_tests}
use Rattle.asl_json_data.specs.Data.{Data, list, dict, Chain, no_items, item, Pairs}
use Rattle.asl_def_schema.specs.declared.fault.Step.{Step}
use Rattle.asl_def_schema.specs.declared.sort.Sort.{Sort}
use Rattle.asl_def_schema.specs.declared.sort.Sort.TheVariants as sort
use Rattle.asl_def_schema.specs.Claims.{Spot, inside, is_list, item_count, one_deeper, max_machines}
use Rattle.asl_def_fault_laws.specs.Parts.{Part, part, item_at, part_in, next, part_at, parts_around, is_machine, machines_around, innermost, has_state}
use Rattle.asl_def_fault_laws.proofs.Reaching.{is_end, spot_in, spot_at, item_found}

-- no list is a machine
not_machine : (s : Sort) → is_list s ≡ true → is_machine s ≡ false
not_machine sort.Definition e = absurd cc
not_machine sort.Machine e = absurd cc
not_machine sort.ItemProcessor e = absurd cc
not_machine s e = refl

-- ---- names of states

abbrev names_of : Part → List ℕ → Bool
names_of m k = has_state (Some m) k

abbrev last_names : (List ℕ → Bool) → List Part → List ℕ → Bool
last_names f [] = f
last_names f (m ∷ ms) = last_names (names_of m) ms

abbrev known : (List ℕ → Bool) → Option Part → List ℕ → Bool
known f None k = f k
known f (Some m) k = has_state (Some m) k

known_there : (f g : List ℕ → Bool) (m : Part) (ms : List Part) (k : List ℕ) → known f (innermost (m ∷ ms)) k ≡ known g (innermost (m ∷ ms)) k
known_there f g m [] k = refl
known_there f g m (n ∷ ns) k = known_there f g n ns k

last_known : (f : List ℕ → Bool) (ms : List Part) (k : List ℕ) → last_names f ms k ≡ known f (innermost ms) k
last_known f [] k = refl
last_known f (m ∷ []) k = refl
last_known f (m ∷ n ∷ ns) k = last_known (names_of m) (n ∷ ns) k ∙ known_there (names_of m) f n ns k

names_inside : (p : Spot) (s : Sort) (ms : Pairs) (rest : List Part) (k : List ℕ)
    → last_names (inside p s ms).names rest k ≡ last_names p.names (cond (is_machine s) (part s (dict ms) ∷ rest) rest) k
names_inside p sort.Definition ms rest k = refl
names_inside p sort.Machine ms rest k = refl
names_inside p sort.ItemProcessor ms rest k = refl
names_inside p s ms rest k = refl

names_step : (p : Spot) (s : Sort) (d : Data) (t : Step) (y : Part) (v : Data) (rest : List Part) (k : List ℕ) → part_in s d t ≡ Some y
    → last_names (spot_in p s d t v).names rest k ≡ last_names p.names (cond (is_machine s) (part s d ∷ rest) rest) k
names_step p s (list ds) t y v rest k e = subst (λ (b : Bool). last_names p.names rest k ≡ last_names p.names (cond b (part s (list ds) ∷ rest) rest) k) (sym (not_machine s (item_found s ds t y e).searched)) refl
names_step p s (dict ms) t y v rest k e = names_inside p s ms rest k
names_step p s x t y v rest k e = absurd cc

names_last : (place : List Step) (p : Spot) (x to : Part) (k : List ℕ) → part_at x place ≡ Some to → (spot_at p x place).names k ≡ last_names p.names (machines_around x place) k
names_last [] p x to k e = refl
names_last (t ∷ ts) p x to k e = by (next x t) refl (λ y f. names_last ts (spot_in p x.sort x.value t y.value) y to k f) e
  where
    by : (o : Option Part) → next x t ≡ o → ((y : Part) → part_at y ts ≡ Some to → (spot_at (spot_in p x.sort x.value t y.value) y ts).names k ≡ last_names (spot_in p x.sort x.value t y.value).names (machines_around y ts) k) → option_and_then (λ (y : Part). part_at y ts) o ≡ Some to
        → (option_map_or (λ (y : Part). spot_at (spot_in p x.sort x.value t y.value) y ts) o p).names k ≡ last_names p.names (filter (λ (y : Part). is_machine y.sort) (x ∷ option_map_or (λ (y : Part). parts_around y ts) o [])) k
    by None f further e = absurd cc
    by (Some y) f further e = further y e ∙ names_step p x.sort x.value t y y.value (machines_around y ts) k f

-- the names of the innermost machine
pub names_at : (place : List Step) (p : Spot) (x to : Part) (k : List ℕ) → part_at x place ≡ Some to → p.names k ≡ false → (spot_at p x place).names k ≡ has_state (innermost (machines_around x place)) k
names_at place p x to k e none = names_last place p x to k e ∙ last_known p.names (machines_around x place) k ∙ by (innermost (machines_around x place))
  where
    by : (o : Option Part) → known p.names o k ≡ has_state o k
    by None = none
    by (Some m) = refl

-- ---- how many machines

deeper : (n l : ℕ) → nat_lt (one_deeper l + n) max_machines ≡ nat_lt (l + suc n) max_machines
deeper n l = by (nat_lt max_machines l) refl
  where
    by : (b : Bool) → nat_lt max_machines l ≡ b → nat_lt ((if b then l else suc l) + n) max_machines ≡ nat_lt (l + suc n) max_machines
    by true e = grind (arith, nat_tests)
    by false e = ap (λ (m : ℕ). nat_lt m max_machines) (omega arith)

level_inside : (p : Spot) (s : Sort) (ms : Pairs) (rest : List Part)
    → nat_lt ((inside p s ms).level + length rest) max_machines ≡ nat_lt (p.level + length (cond (is_machine s) (part s (dict ms) ∷ rest) rest)) max_machines
level_inside p sort.Definition ms rest = deeper (length rest) p.level
level_inside p sort.Machine ms rest = deeper (length rest) p.level
level_inside p sort.ItemProcessor ms rest = deeper (length rest) p.level
level_inside p s ms rest = refl

level_step : (p : Spot) (s : Sort) (d : Data) (t : Step) (y : Part) (v : Data) (rest : List Part) → part_in s d t ≡ Some y
    → nat_lt ((spot_in p s d t v).level + length rest) max_machines ≡ nat_lt (p.level + length (cond (is_machine s) (part s d ∷ rest) rest)) max_machines
level_step p s (list ds) t y v rest e = subst (λ (b : Bool). nat_lt (p.level + length rest) max_machines ≡ nat_lt (p.level + length (cond b (part s (list ds) ∷ rest) rest)) max_machines) (sym (not_machine s (item_found s ds t y e).searched)) refl
level_step p s (dict ms) t y v rest e = level_inside p s ms rest
level_step p s x t y v rest e = absurd cc

pub level_at : (place : List Step) (p : Spot) (x to : Part) → part_at x place ≡ Some to → nat_lt (spot_at p x place).level max_machines ≡ nat_lt (p.level + length (machines_around x place)) max_machines
level_at [] p x to e = ap (λ (n : ℕ). nat_lt n max_machines) (omega arith)
level_at (t ∷ ts) p x to e = by (next x t) refl (λ y f. level_at ts (spot_in p x.sort x.value t y.value) y to f) e
  where
    by : (o : Option Part) → next x t ≡ o → ((y : Part) → part_at y ts ≡ Some to → nat_lt (spot_at (spot_in p x.sort x.value t y.value) y ts).level max_machines ≡ nat_lt ((spot_in p x.sort x.value t y.value).level + length (machines_around y ts)) max_machines) → option_and_then (λ (y : Part). part_at y ts) o ≡ Some to
        → nat_lt (option_map_or (λ (y : Part). spot_at (spot_in p x.sort x.value t y.value) y ts) o p).level max_machines ≡ nat_lt (p.level + length (filter (λ (y : Part). is_machine y.sort) (x ∷ option_map_or (λ (y : Part). parts_around y ts) o []))) max_machines
    by None f further e = absurd cc
    by (Some y) f further e = further y e ∙ level_step p x.sort x.value t y y.value (machines_around y ts) f

-- ---- the last step to a place

pub record IsCut (ts : List Step) : Type 0 where
  pub outer : List Step
  pub own : Step
  pub is : ts ≡ outer ++ own ∷ []

-- a place that isn't the root
pub cut : (t : Step) (ts : List Step) → IsCut (t ∷ ts)
cut t [] = record { outer = []; own = t; is = refl }
cut t (u ∷ us) =
    let r = cut u us in
    record { outer = t ∷ r.outer; own = r.own; is = ap (λ (vs : List Step). t ∷ vs) r.is }

pub record IsLastStep (outer : List Step) (own : Step) (p : Spot) (x to : Part) : Type 0 where
  pub from : Part
  pub leads : part_at x outer ≡ Some from
  pub step : next from own ≡ Some to
  pub spot : spot_at p x (outer ++ own ∷ []) ≡ spot_in (spot_at p x outer) from.sort from.value own to.value

pub last_step : (outer : List Step) (own : Step) (p : Spot) (x to : Part) → part_at x (outer ++ own ∷ []) ≡ Some to → IsLastStep outer own p x to
last_step [] own p x to e = by (next x own) refl e
  where
    by : (o : Option Part) → next x own ≡ o → option_and_then (λ (y : Part). part_at y []) o ≡ Some to → IsLastStep [] own p x to
    by None f e = absurd cc
    by (Some y) f e =
        let led : next x own ≡ Some to = f ∙ e in
        record {
          from = x;
          leads = refl;
          step = led;
          spot = ap (λ (o : Option Part). option_map_or (λ (z : Part). spot_at (spot_in p x.sort x.value own z.value) z []) o p) led;
        }
last_step (t ∷ ts) own p x to e = by (next x t) refl (λ y f. last_step ts own (spot_in p x.sort x.value t y.value) y to f) e
  where
    by : (o : Option Part) → next x t ≡ o → ((y : Part) → part_at y (ts ++ own ∷ []) ≡ Some to → IsLastStep ts own (spot_in p x.sort x.value t y.value) y to) → option_and_then (λ (y : Part). part_at y (ts ++ own ∷ [])) o ≡ Some to → IsLastStep (t ∷ ts) own p x to
    by None f further e = absurd cc
    by (Some y) f further e =
        let r = further y e in
        record {
          from = r.from;
          leads = subst (λ (o : Option Part). option_and_then (λ (z : Part). part_at z ts) o ≡ Some r.from) (sym f) r.leads;
          step = r.step;
          spot = subst (λ (o : Option Part). option_map_or (λ (z : Part). spot_at (spot_in p x.sort x.value t z.value) z (ts ++ own ∷ [])) o p ≡ spot_in (option_map_or (λ (z : Part). spot_at (spot_in p x.sort x.value t z.value) z ts) o p) r.from.sort r.from.value own to.value) (sym f) r.spot;
        }

pub then_step : (outer : List Step) (own : Step) (x from to : Part) → part_at x outer ≡ Some from → next from own ≡ Some to → part_at x (outer ++ own ∷ []) ≡ Some to
then_step [] own x from to e f =
    let same : from ≡ x = let y : x ≡ from = cc in sym y in
    let led : next x own ≡ Some to = subst (λ (y : Part). next y own ≡ Some to) same f in
    ap (λ (o : Option Part). option_and_then (λ (z : Part). part_at z []) o) led
then_step (t ∷ ts) own x from to e f = by (next x t) refl (λ y g. then_step ts own y from to g f) e
  where
    by : (o : Option Part) → next x t ≡ o → ((y : Part) → part_at y ts ≡ Some from → part_at y (ts ++ own ∷ []) ≡ Some to) → option_and_then (λ (y : Part). part_at y ts) o ≡ Some from → option_and_then (λ (y : Part). part_at y (ts ++ own ∷ [])) (next x t) ≡ Some to
    by None g further e = absurd cc
    by (Some y) g further e = rw g (further y e)

-- ---- the last item

pub end_is : (i : ℕ) (ds : Chain) (v : Data) → item_at i ds ≡ Some v → is_end i ds ≡ true → suc i ≡ item_count ds
end_is i no_items v e f = absurd cc
end_is zero (item d no_items) v e f = refl
end_is zero (item d (item c cs)) v e f = absurd cc
end_is (suc i) (item d ds) v e f = ap suc (end_is i ds v e f)

pub not_end : (i : ℕ) (ds : Chain) (v : Data) → item_at i ds ≡ Some v → is_end i ds ≡ false → suc i < item_count ds
not_end i no_items v e f = absurd cc
not_end zero (item d no_items) v e f = absurd cc
not_end zero (item d (item c cs)) v e f = omega arith
not_end (suc i) (item d ds) v e f = omega (arith, not_end i ds v e f)

pub end_not : (i : ℕ) (ds : Chain) → suc i < item_count ds → is_end i ds ≡ false
end_not i no_items h = absurd (omega arith)
end_not zero (item d no_items) h = absurd (omega arith)
end_not zero (item d (item c cs)) h = refl
end_not (suc i) (item d ds) h = end_not i ds (omega arith)
