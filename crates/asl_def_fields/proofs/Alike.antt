-- Two canonical objects of the same names are equal where their members are.
use Rattle.std.proofs.Common.{◌≡◌, ℕ, Bool, true, false, List, [], ◌∷◌, ◌++◌, refl, sym, ap, subst, ◌∙◌}
use Rattle.std.specs.Prelude.{◌&&◌, not, Option, Some, None, option_map, map}
use Rattle.std.specs.Option.{option_eq}
use Rattle.std.specs.Cmp.Lexicographic.{pointwise, same_text}
use Rattle.std.proofs.lemmas.Cmp.{nat_list_eq_equiv}
use Rattle.asl_json_data.specs.Data.{Data, Pairs, member, text, dict, chain, pairs}
use Rattle.asl_json.specs.Same.{bytes_eq, equal, equal_items, equal_members, items_equal}
use Rattle.asl_def_schema.specs.Canon.{opt, present}
use Rattle.asl_def_fields.specs.Shown.{names_shown, path_shown}
use Rattle.asl_def_fields.specs.declared.path.PathField.{PathField}
use Rattle.asl_def_fields.specs.declared.path.PathField.TheVariants.{Whole, Nowhere, At}
use Rattle.asl_def_fields.specs.contracts.path.PathFieldPartialEq.TheImpl as paths
use Rattle.asl_def_fields.specs.Equal.{names_equal}

abbrev Slots : Type 0
Slots = List (List ℕ × Option Data)

abbrev pub lacks : List ℕ → Slots → Bool
lacks k [] = true
lacks k (m ∷ ms) = not (bytes_eq k m.0) && lacks k ms

abbrev pub apart : Slots → Bool
apart [] = true
apart (m ∷ ms) = lacks m.0 ms && apart ms

abbrev pub same_names : Slots → Slots → Bool
same_names [] [] = true
same_names (m ∷ ms) (n ∷ ns) = bytes_eq m.0 n.0 && same_names ms ns
same_names a b = false

-- the values of two lists of members, one after another
abbrev pub slots_eq : Slots → Slots → Bool
slots_eq [] [] = true
slots_eq (m ∷ ms) (n ∷ ns) = option_eq equal m.1 n.1 && slots_eq ms ns
slots_eq a b = false

split : (a b : Bool) → (a && b) ≡ true → (a ≡ true) × (b ≡ true)
split true b e = (refl, e)
split false b e = absurd cc

both_true : {a b : Bool} → a ≡ true → b ≡ true → (a && b) ≡ true
both_true e f = λ i. e i && f i

is_false : (a : Bool) → not a ≡ true → a ≡ false
is_false true e = absurd cc
is_false false e = refl

at_right : (k l : List ℕ) (d : Data) (rest : Pairs) (o : Option Data) (ns : Slots) → bytes_eq k l ≡ false → equal_members (member k d rest) (pairs (present ns)) ≡ false → equal_members (member k d rest) (pairs (opt l o ++ present ns)) ≡ false
at_right k l d rest None ns e h = h
at_right k l d rest (Some x) ns e h = rw e refl

off_right : (k : List ℕ) (d : Data) (rest : Pairs) (ns : Slots) → lacks k ns ≡ true → equal_members (member k d rest) (pairs (present ns)) ≡ false
off_right k d rest [] e = refl
off_right k d rest (n ∷ ns) e = at_right k n.0 d rest n.1 ns (is_false (bytes_eq k n.0) (split _ _ e).0) (off_right k d rest ns (split _ _ e).1)

at_left : (k l : List ℕ) (d : Data) (rest : Pairs) (o : Option Data) (ns : Slots) → bytes_eq l k ≡ false → equal_members (pairs (present ns)) (member k d rest) ≡ false → equal_members (pairs (opt l o ++ present ns)) (member k d rest) ≡ false
at_left k l d rest None ns e h = h
at_left k l d rest (Some x) ns e h = rw e refl

off_left : (k : List ℕ) (d : Data) (rest : Pairs) (ns : Slots) → lacks k ns ≡ true → equal_members (pairs (present ns)) (member k d rest) ≡ false
off_left k d rest [] e = refl
off_left k d rest (n ∷ ns) e = at_left k n.0 d rest n.1 ns (nat_list_eq_equiv.symm n.0 k ∙ is_false (bytes_eq k n.0) (split _ _ e).0) (off_left k d rest ns (split _ _ e).1)

lacks_too : (k : List ℕ) (ms ns : Slots) → same_names ms ns ≡ true → lacks k ms ≡ true → lacks k ns ≡ true
lacks_too k [] [] s e = refl
lacks_too k (m ∷ ms) [] s e = absurd cc
lacks_too k [] (n ∷ ns) s e = absurd cc
lacks_too k (m ∷ ms) (n ∷ ns) s e =
    let is = same_text m.0 n.0 (sym (split (bytes_eq m.0 n.0) (same_names ms ns) s).0) in
    let h = split (not (bytes_eq k m.0)) (lacks k ms) e in
    both_true (ap (λ (l : List ℕ). not (bytes_eq k l)) (sym is) ∙ h.0) (lacks_too k ms ns (split (bytes_eq m.0 n.0) (same_names ms ns) s).1 h.1)

one : (k l : List ℕ) (o p : Option Data) (ms ns : Slots) (r : Bool) → bytes_eq k l ≡ true → lacks k ns ≡ true → lacks l ms ≡ true → equal_members (pairs (present ms)) (pairs (present ns)) ≡ r → equal_members (pairs (opt k o ++ present ms)) (pairs (opt l p ++ present ns)) ≡ (option_eq equal o p && r)
one k l None None ms ns r e f g rest = rest
one k l (Some d) None ms ns r e f g rest = off_right k d (pairs (present ms)) ns f
one k l None (Some d) ms ns r e f g rest = off_left l d (pairs (present ns)) ms g
one k l (Some d) (Some x) ms ns r e f g rest = λ i. e i && (equal d x && rest i)

pub members_alike : (ms ns : Slots) → same_names ms ns ≡ true → apart ms ≡ true → equal_members (pairs (present ms)) (pairs (present ns)) ≡ slots_eq ms ns
members_alike [] [] s a = refl
members_alike (m ∷ ms) [] s a = absurd cc
members_alike [] (n ∷ ns) s a = absurd cc
members_alike (m ∷ ms) (n ∷ ns) s a =
    let is = same_text m.0 n.0 (sym (split _ _ s).0) in
    one m.0 n.0 m.1 n.1 ms ns (slots_eq ms ns) (split _ _ s).0 (lacks_too m.0 ms ns (split _ _ s).1 (split _ _ a).0)
    (subst (λ (k : List ℕ). lacks k ms ≡ true) is (split _ _ a).0)
    (members_alike ms ns (split _ _ s).1 (split _ _ a).1)

-- objects
pub alike : (ms ns : Slots) → same_names ms ns ≡ true → apart ms ≡ true → equal (dict (pairs (present ms))) (dict (pairs (present ns))) ≡ slots_eq ms ns
alike ms ns s a = members_alike ms ns s a

pub and_true : (a : Bool) → (a && true) ≡ a
and_true true = refl
and_true false = refl

pub and_and : (a b c : Bool) → (a && (b && c)) ≡ ((a && b) && c)
and_and true b c = refl
and_and false b c = refl

-- the last member
pub last : {a b : Bool} → a ≡ b → (a && true) ≡ b
last {a} e = and_true a ∙ e

-- ---- values

-- what may be there, by what it shows
pub shows : {A : Type 0} (E : A → A → Bool) (f : A → Data) → ((x y : A) → equal (f x) (f y) ≡ E x y) → (a b : Option A) → option_eq equal (option_map f a) (option_map f b) ≡ option_eq E a b
shows E f h None None = refl
shows E f h None (Some y) = refl
shows E f h (Some x) None = refl
shows E f h (Some x) (Some y) = h x y

pub chains : (ds es : List Data) → equal_items (chain ds) (chain es) ≡ items_equal ds es
chains [] [] = refl
chains [] (e ∷ es) = refl
chains (d ∷ ds) [] = refl
chains (d ∷ ds) (e ∷ es) = ap (λ (r : Bool). equal d e && r) (chains ds es)

-- lists, by what their items show
pub listed : {A : Type 0} (E : A → A → Bool) (f : A → Data) → ((x y : A) → equal (f x) (f y) ≡ E x y) → (xs ys : List A) → items_equal (map f xs) (map f ys) ≡ pointwise E xs ys
listed E f h [] [] = refl
listed E f h [] (y ∷ ys) = refl
listed E f h (x ∷ xs) [] = refl
listed E f h (x ∷ xs) (y ∷ ys) = λ i. h x y i && listed E f h xs ys i

pub names_alike : (a b : List (List ℕ)) → equal (names_shown a) (names_shown b) ≡ names_equal a b
names_alike a b = chains (map text a) (map text b) ∙ listed bytes_eq text (λ x y. refl) a b

pub path_alike : (a b : PathField) → option_eq equal (path_shown a) (path_shown b) ≡ (paths.ghosts).eq a b
path_alike Whole Whole = refl
path_alike Whole Nowhere = refl
path_alike Whole (At q) = refl
path_alike Nowhere Whole = refl
path_alike Nowhere Nowhere = refl
path_alike Nowhere (At q) = refl
path_alike (At p) Whole = refl
path_alike (At p) Nowhere = refl
path_alike (At p) (At q) = refl
