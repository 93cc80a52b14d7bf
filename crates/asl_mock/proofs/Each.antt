-- Going through the members of an object up to the first place.
use Rattle.std.proofs.Common.{◌≡◌, ◌<◌, ◌≤◌, ◌+◌, ℕ, List, [], ◌∷◌, ◌++◌, length, get_or, take, drop, refl, sym, ap, ◌∙◌}
use Rattle.std.specs.Prelude.{map, Option, Some, None}
use Rattle.std.proofs.lemmas.List.{map_more, map-append, take-append-drop, drop_more, take_all}
use Rattle.asl_json_data.specs.Data.{Data}
use Rattle.asl_json_data.specs.Distinct.{Members}
use Rattle.asl_json.specs.View.{member_of, members_of}
use Rattle.asl_json.specs.declared.value.Member.{Member}
use Rattle.asl_mock.specs.Places.{Place, under, in_each, first_of}

pub none_there : {A : Type 0} (xs : List A) → first_of xs ≡ None → xs ≡ []
none_there [] e = refl
none_there (x ∷ xs) e = absurd (cc e)

pub first-under : (k : List ℕ) (ps : List Place) (p : Place) → first_of ps ≡ Some p → first_of (under k ps) ≡ Some (k ∷ p)
first-under k [] p e = absurd (cc e)
first-under k (q ∷ ps) p e = ap (λ (o : Option Place). Rattle.std.specs.Prelude.option_map (λ (r : Place). k ∷ r) o) e

pub first-append : {A : Type 0} (xs ys : List A) (x : A) → first_of xs ≡ Some x → first_of (xs ++ ys) ≡ Some x
first-append [] ys x e = absurd (cc e)
first-append (z ∷ xs) ys x e = e

-- one member more, with none

pub in_each-last : (f : List ℕ × Data → List Place) (ms : Members) (m : List ℕ × Data) → in_each f ms ≡ [] → f m ≡ [] → in_each f (ms ++ m ∷ []) ≡ []
in_each-last f [] m e none = ap (λ (ps : List Place). under m.0 ps ++ []) none
in_each-last f (x ∷ ms) m e none = rest (under x.0 (f x)) (λ h. in_each-last f ms m h none) e
  where
    rest : (ps : List Place) → (in_each f ms ≡ [] → in_each f (ms ++ m ∷ []) ≡ []) → ps ++ in_each f ms ≡ [] → ps ++ in_each f (ms ++ m ∷ []) ≡ []
    rest [] go h = go h
    rest (p ∷ ps) go h = absurd (cc h)

pub none_more : (f : List ℕ × Data → List Place) (ms : List Member) (i : ℕ) (m : Member) → i < length ms → m ≡ get_or ms i m → first_of (f (member_of m)) ≡ None → in_each f (members_of (take i ms)) ≡ [] → in_each f (members_of (take (i + 1) ms)) ≡ []
none_more f ms i m lt at none so_far =
    let more : members_of (take (i + 1) ms) ≡ members_of (take i ms) ++ member_of m ∷ [] = map_more member_of ms i m lt ∙ ap (λ (x : Member). members_of (take i ms) ++ member_of x ∷ []) (sym at) in
    ap (in_each f) more ∙ in_each-last f (members_of (take i ms)) (member_of m) so_far (none_there (f (member_of m)) none)

-- the first one, behind members with none

in_each-behind : (f : List ℕ × Data → List Place) (ms ns : Members) → in_each f ms ≡ [] → in_each f (ms ++ ns) ≡ in_each f ns
in_each-behind f [] ns e = refl
in_each-behind f (x ∷ ms) ns e = rest (under x.0 (f x)) (λ h. in_each-behind f ms ns h) e
  where
    rest : (ps : List Place) → (in_each f ms ≡ [] → in_each f (ms ++ ns) ≡ in_each f ns) → ps ++ in_each f ms ≡ [] → ps ++ in_each f (ms ++ ns) ≡ in_each f ns
    rest [] go h = go h
    rest (p ∷ ps) go h = absurd (cc h)

pub found_there : (f : List ℕ × Data → List Place) (ms : List Member) (i : ℕ) (m : Member) (p : Place) → i < length ms → m ≡ get_or ms i m → first_of (f (member_of m)) ≡ Some p → in_each f (members_of (take i ms)) ≡ [] → first_of (in_each f (members_of ms)) ≡ Some (m.key ∷ p)
found_there f ms i m p lt at found so_far =
    let front : drop i ms ≡ m ∷ drop (i + 1) ms = drop_more ms i m lt ∙ ap (λ (x : Member). x ∷ drop (i + 1) ms) (sym at) in
    let all : members_of ms ≡ members_of (take i ms) ++ (member_of m ∷ members_of (drop (i + 1) ms)) = ap members_of (sym (take-append-drop i ms) ∙ ap (λ (x : List Member). take i ms ++ x) front) ∙ map-append member_of (take i ms) (m ∷ drop (i + 1) ms) in
    ap first_of (ap (in_each f) all ∙ in_each-behind f (members_of (take i ms)) (member_of m ∷ members_of (drop (i + 1) ms)) so_far)
    ∙ first-append (under m.key (f (member_of m))) (in_each f (members_of (drop (i + 1) ms))) (m.key ∷ p) (first-under m.key (f (member_of m)) p found)

-- the same, as a loop tells it

pub found_at : (f : List ℕ × Data → List Place) (ms : List Member) (i : ℕ) (m : Member) (k : List ℕ) (p q : Place) → i < length ms → m ≡ get_or ms i m → k ≡ m.key → first_of (f (member_of m)) ≡ Some p → q ≡ k ∷ p → in_each f (members_of (take i ms)) ≡ [] → first_of (in_each f (members_of ms)) ≡ Some q
found_at f ms i m k p q lt at key found place so_far = found_there f ms i m p lt at found so_far ∙ ap (λ (z : List ℕ). Some (z ∷ p)) (sym key) ∙ ap Some (sym place)

pub none_at_end : (f : List ℕ × Data → List Place) (ms : List Member) (i : ℕ) → length ms ≤ i → in_each f (members_of (take i ms)) ≡ [] → in_each f (members_of ms) ≡ []
none_at_end f ms i end so_far = ap (λ (x : List Member). in_each f (members_of x)) (sym (take_all i ms end)) ∙ so_far

-- something is built of each member meanwhile

abbrev pub Built : {Y : Type 0} → (List ℕ × Data → Y) → (List ℕ × Data → List Place) → Members → List Y → Type 0
Built g f ms ys = (ys ≡ map g ms) × (in_each f ms ≡ [])

pub built_more : {Y : Type 0} (g : List ℕ × Data → Y) (f : List ℕ × Data → List Place) (ms : List Member) (i : ℕ) (m : Member) (old new : List Y) (y : Y) → i < length ms → m ≡ get_or ms i m → f (member_of m) ≡ [] → y ≡ g (member_of m) → new ≡ old ++ y ∷ [] → Built g f (members_of (take i ms)) old → Built g f (members_of (take (i + 1) ms)) new
built_more {Y = Y} g f ms i m old new y lt at none is all so_far =
    let more : members_of (take (i + 1) ms) ≡ members_of (take i ms) ++ member_of m ∷ [] = map_more member_of ms i m lt ∙ ap (λ (x : Member). members_of (take i ms) ++ member_of x ∷ []) (sym at) in (
      all ∙ ap (λ (ys : List Y). ys ++ y ∷ []) so_far.0 ∙ ap (λ (z : Y). map g (members_of (take i ms)) ++ z ∷ []) is ∙ sym (map-append g (members_of (take i ms)) (member_of m ∷ [])) ∙ ap (map g) (sym more),
      none_more f ms i m lt at (ap first_of none) so_far.1,
    )

pub built_all : {Y : Type 0} (g : List ℕ × Data → Y) (f : List ℕ × Data → List Place) (ms : List Member) (i : ℕ) (ys : List Y) → length ms ≤ i → Built g f (members_of (take i ms)) ys → (in_each f (members_of ms) ≡ []) × (ys ≡ map g (members_of ms))
built_all g f ms i ys end so_far = (none_at_end f ms i end so_far.1, so_far.0 ∙ ap (λ (x : List Member). map g (members_of x)) (take_all i ms end))
