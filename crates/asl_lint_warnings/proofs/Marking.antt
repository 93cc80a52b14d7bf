-- How the states of a machine stand, from the marks that a search makes.
use Rattle.std.proofs.Common.{◌≡◌, inl, inr, ◌<◌, ◌+◌, ℕ, zero, suc, List, [], ◌∷◌, Bool, true, false, ◌&&◌, length, refl, sym, ap, subst, ◌∙◌, arith, Option}
use Rattle.std.specs.Prelude.{◌↔◌, nat_lt, if◌then◌else◌, codes}
use Rattle.std.specs.List.{list_any}
use Rattle.std.proofs.lemmas.Bool.{ltb-true, lt-ltb}
use Rattle.asl_json_data.specs.Data.{Data, Pairs, no_members, member, pairs}
use Rattle.asl_json.specs.Meaning.{count, value_at}
use Rattle.asl_json.specs.View.{members_of}
use Rattle.asl_json.specs.declared.value.Member.{Member}
use Rattle.asl_lint_warnings.specs.Ways.{IsIn, Reaches}
use Rattle.asl_lint_warnings.specs.Graphs.{joins, place_of, edges_from, edges_of, ends_from, ends_of, is_end, states_of, this_or_all, place_named, starts_of, is_reached, is_ending}
use Rattle.asl_lint_warnings.specs.private.Marks.{is_marked}
use Rattle.asl_lint_warnings.specs.private.Places.{AreTurned}
use Rattle.asl_lint_warnings.proofs.Growing.{in_either, in_one}
use Rattle.asl_lint_warnings.proofs.Joining.{and_true, and_both, same_bool, any_in, in_any, walked, reaches, reached, to_turned, from_turned}

marked_within : (marks : List Bool) (i : ℕ) → is_marked marks i ≡ true → i < length marks
marked_within [] i h = absurd (cc)
marked_within (b ∷ bs) zero h = omega arith
marked_within (b ∷ bs) (suc i) h = let r = marked_within bs i h in omega (arith, r)

marked_is : (es : List (List ℕ)) (starts : List ℕ) (marks : List Bool) (n : ℕ) (p : ℕ → Bool) → length es ≡ n → length marks ≡ n → ((i : ℕ) → i < n → (is_marked marks i ≡ true ↔ Reaches es starts i)) → ((i : ℕ) → i < n → (Reaches es starts i ↔ (p i ≡ true))) → (i : ℕ) → is_marked marks i ≡ (nat_lt i n && p i)
marked_is es starts marks n p size many search tells i =
    same_bool (is_marked marks i) (nat_lt i n && p i)
    (λ h. let lt : i < n = subst (λ (x : ℕ). i < x) many (marked_within marks i h) in
    and_both (nat_lt i n) (p i) (lt-ltb i n lt) ((tells i lt).0 ((search i lt).0 h)))
    (λ h. let both = and_true (nat_lt i n) (p i) h in
    let lt : i < n = ltb-true i n both.0 in
    (search i lt).1 ((tells i lt).1 both.1))

pub edges_size : (place : List ℕ → Option ℕ) (ms : Pairs) → length (edges_from place ms) ≡ count ms
edges_size place no_members = refl
edges_size place (member k d ms) = ap suc (edges_size place ms)

end_within : (b : Bool) (i e : ℕ) → IsIn (if b then i ∷ [] else []) e → e ≡ i
end_within true i e h = in_one i e h
end_within false i e h = absurd h

pub ends_within : (place : List ℕ → Option ℕ) (i : ℕ) (ms : Pairs) (e : ℕ) → IsIn (ends_from place i ms) e → e < i + count ms
ends_within place i no_members e h = absurd h
ends_within place i (member k d ms) e h =
    elim (in_either (if is_end place d then i ∷ [] else []) (ends_from place (suc i) ms) e h) as (λ _. e < i + suc (count ms)) [
      | inl a ↦ let f = end_within (is_end place d) i e a in omega (arith, f)
      | inr a ↦ let f = ends_within place (suc i) ms e a in omega (arith, f)
    ]

pub stands_reached : (es : List (List ℕ)) (starts : List ℕ) (marks : List Bool) (n : ℕ) → length es ≡ n → length marks ≡ n → ((i : ℕ) → i < n → (is_marked marks i ≡ true ↔ Reaches es starts i)) → (i : ℕ) → is_marked marks i ≡ (nat_lt i n && list_any (λ s. joins es n s i) starts)
stands_reached es starts marks n size many search i =
    marked_is es starts marks n (λ i. list_any (λ s. joins es n s i) starts) size many search
    (λ i lt. (
      λ r. subst (λ (x : ℕ). list_any (λ s. joins es x s i) starts ≡ true) size (reached es starts i r),
      λ h. reaches es starts n i h,
    )) i

pub stands_ending : (es fs : List (List ℕ)) (ends : List ℕ) (marks : List Bool) (n : ℕ) → length es ≡ n → AreTurned es fs → ((e : ℕ) → IsIn ends e → e < n) → length marks ≡ n → ((i : ℕ) → i < n → (is_marked marks i ≡ true ↔ Reaches fs ends i)) → (i : ℕ) → is_marked marks i ≡ (nat_lt i n && list_any (λ e. joins es n i e) ends)
stands_ending es fs ends marks n size turned within many search i =
    let wide : (x : ℕ) → x < n → x < length es = λ x lt. subst (λ (m : ℕ). x < m) (sym size) lt in
    marked_is fs ends marks n (λ i. list_any (λ e. joins es n i e) ends) (turned.0 ∙ size) many search
    (λ i lt. (
      λ r. let e = any_in (λ e. joins fs (length fs) e i) ends (reached fs ends i r) in
          let way : joins fs (length es) e.0 i ≡ true = subst (λ (x : ℕ). joins fs x e.0 i ≡ true) turned.0 e.2 in
          let back : joins es n i e.0 ≡ true = subst (λ (x : ℕ). joins es x i e.0 ≡ true) size (to_turned es fs turned e.0 i (wide e.0 (within e.0 e.1)) (wide i lt) way) in
          in_any (λ e. joins es n i e) ends e.0 e.1 back,
      λ h. let e = any_in (λ e. joins es n i e) ends h in
          let way : joins es (length es) i e.0 ≡ true = subst (λ (x : ℕ). joins es x i e.0 ≡ true) (sym size) e.2 in
          walked fs ends (length es) e.0 i (from_turned es fs turned i e.0 (wide i lt) (wide e.0 (within e.0 e.1)) way) (zero, e.1),
    )) i

-- ---- of a machine

count_members : (xs : List Member) → count (pairs (members_of xs)) ≡ length xs
count_members [] = refl
count_members (x ∷ xs) = ap suc (count_members xs)

pub many_members : (xs : List Member) → length xs ≡ count (pairs (members_of xs))
many_members xs = sym (count_members xs)

pub standing_reached : (machine ms : Pairs) (place : List ℕ → Option ℕ) (es : List (List ℕ)) (starts : List ℕ) (n m : ℕ) (start : Option ℕ) (o : Option Data) (marks : List Bool) → ms ≡ states_of machine → ((k : List ℕ) → place k ≡ place_of ms k) → es ≡ edges_from place ms → n ≡ count ms → start ≡ place_named place o → o ≡ value_at (codes "StartAt") machine → starts ≡ this_or_all n start → length es ≡ m → length marks ≡ m
    → ((i : ℕ) → i < m → (is_marked marks i ≡ true ↔ Reaches es starts i)) → (i : ℕ) → is_marked marks i ≡ is_reached machine i
standing_reached machine ms place es starts n m start o marks named are edges many begin at begins size sized search i =
    let p : place ≡ place_of ms = λ j k. are k j in
    let es_are : es ≡ edges_of ms = edges ∙ ap (λ (q : List ℕ → Option ℕ). edges_from q ms) p in
    let starts_are : starts ≡ starts_of ms (value_at (codes "StartAt") machine) = begins ∙ ap (λ (x : ℕ). this_or_all x start) many ∙ ap (this_or_all (count ms)) (begin ∙ ap (λ (q : List ℕ → Option ℕ). place_named q o) p ∙ ap (place_named (place_of ms)) at) in
    let whole : length es ≡ count ms = ap length edges ∙ edges_size place ms in
    stands_reached es starts marks (count ms) whole (sized ∙ sym size ∙ whole) (λ i lt. search i (subst (λ (x : ℕ). i < x) (sym whole ∙ size) lt)) i
    ∙ ap (λ (x : List (List ℕ)). nat_lt i (count ms) && list_any (λ s. joins x (count ms) s i) starts) es_are
    ∙ ap (λ (x : List ℕ). nat_lt i (count ms) && list_any (λ s. joins (edges_of ms) (count ms) s i) x) starts_are
    ∙ ap (λ (x : Pairs). nat_lt i (count x) && list_any (λ s. joins (edges_of x) (count x) s i) (starts_of x (value_at (codes "StartAt") machine))) named

pub standing_ending : (machine ms : Pairs) (place : List ℕ → Option ℕ) (es fs : List (List ℕ)) (ends : List ℕ) (m : ℕ) (marks : List Bool) → ms ≡ states_of machine → ((k : List ℕ) → place k ≡ place_of ms k) → es ≡ edges_from place ms → AreTurned es fs → ends ≡ ends_from place 0 ms → length fs ≡ m → length marks ≡ m
    → ((i : ℕ) → i < m → (is_marked marks i ≡ true ↔ Reaches fs ends i)) → (i : ℕ) → is_marked marks i ≡ is_ending machine i
standing_ending machine ms place es fs ends m marks named are edges turned end size sized search i =
    let p : place ≡ place_of ms = λ j k. are k j in
    let es_are : es ≡ edges_of ms = edges ∙ ap (λ (q : List ℕ → Option ℕ). edges_from q ms) p in
    let ends_are : ends ≡ ends_of ms = end ∙ ap (λ (q : List ℕ → Option ℕ). ends_from q 0 ms) p in
    let whole : length es ≡ count ms = ap length edges ∙ edges_size place ms in
    let within : (e : ℕ) → IsIn ends e → e < count ms = λ e h. let f = ends_within place 0 ms e (subst (λ (x : List ℕ). IsIn x e) end h) in omega (arith, f) in
    let all : m ≡ count ms = sym size ∙ turned.0 ∙ whole in
    stands_ending es fs ends marks (count ms) whole turned within (sized ∙ all) (λ i lt. search i (subst (λ (x : ℕ). i < x) (sym all) lt)) i
    ∙ ap (λ (x : List (List ℕ)). nat_lt i (count ms) && list_any (λ e. joins x (count ms) i e) ends) es_are
    ∙ ap (λ (x : List ℕ). nat_lt i (count ms) && list_any (λ e. joins (edges_of ms) (count ms) i e) x) ends_are
    ∙ ap (λ (x : Pairs). nat_lt i (count x) && list_any (λ e. joins (edges_of x) (count x) i e) (ends_of x)) named
