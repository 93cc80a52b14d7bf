-- What is wrong with a table is something that it has.
use Rattle.std.proofs.Common.{◌≡◌, ◌<◌, ℕ, ◌+◌, Bool, true, false, nat_lt, Option, List, [], ◌∷◌, length, refl, sym, ap, subst, arith, inl, inr}
use Rattle.std.specs.Prelude.{Some, None, unwrap_or, if◌then◌else◌}
use Rattle.std.proofs.lemmas.Bool.{cases_Bool}
use Rattle.std.proofs.lemmas.Bool.Decides.{nat_tests}
use Rattle.toml.specs.Data.{Items, no_items, item, Members}
use Rattle.toml.specs.View.{items_view}
use Rattle.toml.specs.declared.value.Value.{Value}
use Rattle.asl_project.specs.Form.{lacks_key, lacking_from, lacking_or, count_of, first_wrong, shows, workflows, has_unknown_key, has_misfit, has_same_machine}
use Rattle.asl_project.specs.declared.spot.Spot.{Spot}
use Rattle.asl_project.specs.declared.spot.Spot.TheVariants.{UnknownKey, Misfit, SameMachine}

-- ---- values as they are seen

pub count_seen : (vs : List Value) → count_of (items_view vs) ≡ length vs
count_seen [] = refl
count_seen (v ∷ vs) = grind (arith, count_seen vs)

-- ---- what is wrong

the_number : {n m : ℕ} → Some n ≡ Some m → n ≡ m
the_number h = ap (λ o. unwrap_or o 0) h

the_spot : {s t : Spot} → Some s ≡ Some t → s ≡ t
the_spot h = ap (λ o. unwrap_or o Misfit) h

-- one that lacks a key is among those that there are
lacking_below : (ds : Items) (i n : ℕ) → lacking_from i ds ≡ Some n → n < count_of ds + i
lacking_below no_items i n h = absurd (cc)
lacking_below (item d ds) i n h =
    elim (cases_Bool (lacks_key d)) [
      | inl lacks ↦ let here : i ≡ n = the_number (rw lacks at h) in omega (arith, here)
      | inr has ↦ let later = lacking_below ds (i + 1) n (rw has at h) in omega (arith, later)
    ]

-- the first of these
abbrev first_of : Bool → Option ℕ → Bool → Bool → Option Spot
first_of unknown lacking misfit same =
    if unknown then Some UnknownKey
    else lacking_or lacking (if misfit then Some Misfit else if same then Some SameMachine else None)

module _ (ms : Members) (s : Spot) where
  shown : (unknown misfit same : Bool) (lacking : Option ℕ) → unknown ≡ has_unknown_key ms → lacking ≡ lacking_from 0 (workflows ms)
      → misfit ≡ has_misfit ms → same ≡ has_same_machine (workflows ms) → first_of unknown lacking misfit same ≡ Some s → shows s ms ≡ true
  shown true misfit same lacking u l m e h = subst (λ t. shows t ms ≡ true) (the_spot h) (sym u)
  shown false misfit same (Some n) u l m e h =
      let below : n < count_of (workflows ms) + 0 = lacking_below (workflows ms) 0 n (sym l) in
      let has : nat_lt n (count_of (workflows ms)) ≡ true = grind (arith, nat_tests, below) in
      subst (λ t. shows t ms ≡ true) (the_spot h) has
  shown false true same None u l m e h = subst (λ t. shows t ms ≡ true) (the_spot h) (sym m)
  shown false false true None u l m e h = subst (λ t. shows t ms ≡ true) (the_spot h) (sym e)
  shown false false false None u l m e h = absurd (cc)

pub wrong_shows : (ms : Members) (s : Spot) → first_wrong ms ≡ Some s → shows s ms ≡ true
wrong_shows ms s h = shown ms s _ _ _ _ refl refl refl refl h
