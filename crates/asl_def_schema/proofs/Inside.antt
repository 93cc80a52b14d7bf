-- What a value without faults holds is without faults.
use Rattle.std.proofs.Common.{◌≡◌, ℕ, suc, List, [], ◌∷◌, ◌++◌, Bool, true, false, ◌||◌, refl, sym, subst}
use Rattle.std.specs.Prelude.{Option, Some, None, is_some, map, if◌then◌else◌}
use Rattle.std.specs.Cmp.Lexicographic.{same_text}
use Rattle.asl_json_data.specs.Data.{Data, null, boolean, number, text, list, dict, Pairs, no_members, member}
use Rattle.asl_json.specs.Same.{bytes_eq}
use Rattle.asl_json.specs.Meaning.{value_at, count}
use Rattle.asl_json_data.specs.Distinct.{Members}
use Rattle.asl_def_schema.specs.declared.fault.Step.{Step}
use Rattle.asl_def_schema.specs.declared.sort.Sort.{Sort}
use Rattle.asl_def_schema.specs.declared.sort.Sort.TheVariants as sort
use Rattle.asl_def_schema.specs.Members.{Row, Shape, sort_at, shape_in, is_among}
use Rattle.asl_def_schema.specs.Demands.{there}
use Rattle.asl_def_schema.specs.Claims.{Claim, Spot, under, heres, step, demands, claims, at_member, member_claims, row_claims, group_demands, inside, has_any, is_object, is_needed, object_claims}
use Rattle.asl_def_schema.specs.First.{Each, Hold}
use Rattle.asl_def_schema.specs.Clean.{IsCleanAmong, IsCleanInside, IsClean, Fits, FitsAmong, IsThereAmong, is_required, is_beside, names_within}

pub each_left : (P : Claim → Type 0) (xs ys : List Claim) → Each P (xs ++ ys) → Each P xs
each_left P [] ys h = tt
each_left P (x ∷ xs) ys h = (h.0, each_left P xs ys h.1)

pub each_right : (P : Claim → Type 0) (xs ys : List Claim) → Each P (xs ++ ys) → Each P ys
each_right P [] ys h = h
each_right P (x ∷ xs) ys h = each_right P xs ys h.1

pub each_under : (s : Step) (xs : List Claim) → Each Hold (map (under s) xs) → Each Hold xs
each_under s [] h = tt
each_under s (x ∷ xs) h = (h.0, each_under s xs h.1)

pub clean : {names : List ℕ → Bool} {s : Sort} {d : Data} → IsCleanAmong names s d → IsClean s d
clean c = record { names = _; is = c }

member_clean : (names : List ℕ → Bool) (p : Spot) (sh : Shape) (seen : Members) (i : ℕ) (ms : Pairs) (k : List ℕ) (d : Data) → ((l : List ℕ) → p.names l ≡ names l) → Each Hold (member_claims p sh seen i ms) → value_at k ms ≡ Some d → IsCleanAmong names (sort_at sh k) d
member_clean names p sh seen i no_members k d named h at = absurd cc
member_clean names p sh seen i (member l v ms) k d named h at =
    let part = map (under (step i l)) (claims (at_member p sh seen l v) (sort_at sh l) v) in
    let rest = member_claims p sh (seen ++ (l, v) ∷ []) (suc i) ms in
    let here_is : IsCleanAmong names (sort_at sh l) v = record { spot = at_member p sh seen l v; named = named; hold = each_under (step i l) _ (each_left Hold part rest h) } in
    by (bytes_eq k l) refl here_is (λ e. member_clean names p sh (seen ++ (l, v) ∷ []) (suc i) ms k d named (each_right Hold part rest h) e)
  where
    by : (b : Bool) → bytes_eq k l ≡ b → IsCleanAmong names (sort_at sh l) v → (value_at k ms ≡ Some d → IsCleanAmong names (sort_at sh k) d) → IsCleanAmong names (sort_at sh k) d
    by true e here_is rest =
        let same : v ≡ d = let x = rw e at at in cc in
        let named : k ≡ l = same_text k l (sym e) in
        rw (← same, named) here_is
    by false e here_is rest = rest (rw e at at)

-- the value of a member
pub each_at : (names : List ℕ → Bool) (sh : Shape) (ms : Pairs) (k : List ℕ) (d : Data) → IsCleanInside names sh ms → value_at k ms ≡ Some d → IsCleanAmong names (sort_at sh k) d
each_at names sh ms k d c at = member_clean names c.spot sh [] 0 ms k d c.named c.members at

pub fits_among_at : (names : List ℕ → Bool) (sh : Shape) (ms : Pairs) (k : List ℕ) → IsCleanInside names sh ms → FitsAmong names (sort_at sh k) (value_at k ms)
fits_among_at names sh ms k c = by (value_at k ms) refl
  where
    by : (o : Option Data) → value_at k ms ≡ o → FitsAmong names (sort_at sh k) o
    by None e = tt
    by (Some d) e = each_at names sh ms k d c e

pub fits : (names : List ℕ → Bool) (s : Sort) (o : Option Data) → FitsAmong names s o → Fits s o
fits names s None f = tt
fits names s (Some d) f = clean f

pub fits_at : (names : List ℕ → Bool) (sh : Shape) (ms : Pairs) (k : List ℕ) → IsCleanInside names sh ms → Fits (sort_at sh k) (value_at k ms)
fits_at names sh ms k c = fits names (sort_at sh k) (value_at k ms) (fits_among_at names sh ms k c)

-- what is needed is there

needed_there : (n : ℕ) (r : Row) (rs : List Row) (ms : Pairs) → Each Hold (row_claims n (r ∷ rs) ms) → is_needed r ms ≡ true → is_some (value_at r.name ms) ≡ true
needed_there n r rs ms h e = (rw e at h).0

row_rest : (n : ℕ) (r : Row) (rs : List Row) (ms : Pairs) → Each Hold (row_claims n (r ∷ rs) ms) → Each Hold (row_claims (suc n) rs ms)
row_rest n r rs ms h = each_right Hold (if is_needed r ms then (there (value_at r.name ms), step n r.name ∷ []) ∷ [] else []) (row_claims (suc n) rs ms) h

pub is_there : (names : List ℕ → Bool) (s : Sort) (o : Option Data) → FitsAmong names s o → is_some o ≡ true → IsThereAmong names s o
is_there names s None f e = absurd cc
is_there names s (Some d) f e = f

required_there : (k : List ℕ) (n : ℕ) (rs : List Row) (ms : Pairs) → is_required k rs ≡ true → Each Hold (row_claims n rs ms) → is_some (value_at k ms) ≡ true
required_there k n [] ms e h = absurd cc
required_there k n (r ∷ rs) ms e h = by (bytes_eq k r.name) r.required refl refl (λ f. required_there k (suc n) rs ms f (row_rest n r rs ms h))
  where
    by : (a b : Bool) → bytes_eq k r.name ≡ a → r.required ≡ b → (is_required k rs ≡ true → is_some (value_at k ms) ≡ true) → is_some (value_at k ms) ≡ true
    by true true p q rest = subst (λ (l : List ℕ). is_some (value_at l ms) ≡ true) (sym (same_text k r.name (sym p))) (needed_there n r rs ms h (rw q refl))
    by true false p q rest = rest (rw (p, q) at e)
    by false b p q rest = rest (rw p at e)

pub or_right : (a b : Bool) → b ≡ true → (a || b) ≡ true
or_right true b e = refl
or_right false b e = e

pub any_there : (l : List ℕ) (ks : List (List ℕ)) (ms : Pairs) → is_among l ks ≡ true → is_some (value_at l ms) ≡ true → has_any ks ms ≡ true
any_there l [] ms e h = absurd cc
any_there l (k ∷ ks) ms e h = by (bytes_eq l k) refl (λ f. any_there l ks ms f h)
  where
    by : (b : Bool) → bytes_eq l k ≡ b → (is_among l ks ≡ true → has_any ks ms ≡ true) → has_any (k ∷ ks) ms ≡ true
    by true p rest = rw (← same_text l k (sym p), h) refl
    by false p rest = or_right (is_some (value_at k ms)) (has_any ks ms) (rest (rw p at e))

beside_there : (k l : List ℕ) (n : ℕ) (rs : List Row) (ms : Pairs) → is_beside k l rs ≡ true → is_some (value_at l ms) ≡ true → Each Hold (row_claims n rs ms) → is_some (value_at k ms) ≡ true
beside_there k l n [] ms e u h = absurd cc
beside_there k l n (r ∷ rs) ms e u h = by (bytes_eq k r.name) (is_among l r.users) refl refl (λ f. beside_there k l (suc n) rs ms f u (row_rest n r rs ms h))
  where
    by : (a b : Bool) → bytes_eq k r.name ≡ a → is_among l r.users ≡ b → (is_beside k l rs ≡ true → is_some (value_at k ms) ≡ true) → is_some (value_at k ms) ≡ true
    by true true p q rest = subst (λ (m : List ℕ). is_some (value_at m ms) ≡ true) (sym (same_text k r.name (sym p))) (needed_there n r rs ms h (or_right r.required (has_any r.users ms) (any_there l r.users ms q u)))
    by true false p q rest = rest (rw (p, q) at e)
    by false b p q rest = rest (rw p at e)

-- a required member
pub there_at : (names : List ℕ → Bool) (sh : Shape) (ms : Pairs) (k : List ℕ) → is_required k sh.rows ≡ true → IsCleanInside names sh ms → IsThereAmong names (sort_at sh k) (value_at k ms)
there_at names sh ms k e c = is_there names (sort_at sh k) (value_at k ms) (fits_among_at names sh ms k c) (required_there k (count ms) sh.rows ms e c.rows)

-- one that is required beside `l`
pub there_beside : (names : List ℕ → Bool) (sh : Shape) (ms : Pairs) (k l : List ℕ) → is_beside k l sh.rows ≡ true → is_some (value_at l ms) ≡ true → IsCleanInside names sh ms → IsThereAmong names (sort_at sh k) (value_at k ms)
there_beside names sh ms k l e u c = is_there names (sort_at sh k) (value_at k ms) (fits_among_at names sh ms k c) (beside_there k l (count ms) sh.rows ms e u c.rows)

-- what is demanded of the value by itself
pub own_hold : (p : Spot) (s : Sort) (d : Data) → Each Hold (claims p s d) → Each Hold (heres (demands p s d))
own_hold p s null h = h
own_hold p s (boolean b) h = h
own_hold p s (number n) h = h
own_hold p s (text t) h = h
own_hold p s (list ds) h = each_left Hold (heres (demands p s (list ds))) _ h
own_hold p s (dict ms) h = each_left Hold (heres (demands p s (dict ms))) _ h

-- the members of an object

named_within : (p : Spot) (names : List ℕ → Bool) (s : Sort) (ms : Pairs) → ((k : List ℕ) → p.names k ≡ names k) → (k : List ℕ) → (inside p s ms).names k ≡ names_within s names ms k
named_within p names sort.Definition ms named k = refl
named_within p names sort.Machine ms named k = refl
named_within p names sort.ItemProcessor ms named k = refl
named_within p names s ms named k = named k

pub object_hold : (p : Spot) (s : Sort) (ms : Pairs) → is_object s ≡ true → Each Hold (claims p s (dict ms)) → Each Hold (object_claims p s ms)
object_hold p s ms e h = each_right Hold (heres (demands p s (dict ms))) (object_claims p s ms) (rw e at h)

pub object_inside : (names : List ℕ → Bool) (s : Sort) (ms : Pairs) → is_object s ≡ true → IsCleanAmong names s (dict ms) → IsCleanInside (names_within s names ms) (shape_in s ms) ms
object_inside names s ms e c =
    let sh = shape_in s ms in
    let all = object_hold c.spot s ms e c.hold in
    let others = each_right Hold (heres (group_demands sh.groups ms)) _ all in
    record {
      spot = inside c.spot s ms;
      named = named_within c.spot names s ms c.named;
      groups = each_left Hold (heres (group_demands sh.groups ms)) _ all;
      members = each_left Hold (member_claims (inside c.spot s ms) sh [] 0 ms) (row_claims (count ms) sh.rows ms) others;
      rows = each_right Hold (member_claims (inside c.spot s ms) sh [] 0 ms) (row_claims (count ms) sh.rows ms) others;
    }
