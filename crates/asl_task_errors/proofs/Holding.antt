-- The states around a state are those that hold it, where no two have one name.
use Rattle.std.proofs.Common.{◌≡◌, ℕ, Bool, true, false, List, [], ◌∷◌, ◌++◌, refl, sym, ap, ◌∙◌, append_assoc}
use Rattle.std.specs.Prelude.{◌||◌, if◌then◌else◌, codes}
use Rattle.std.specs.List.{flat_map}
use Rattle.std.specs.Cmp.Lexicographic.{bytes_decides}
use Rattle.std.proofs.lemmas.List.{append-nil}
use Rattle.std.proofs.lemmas.Grind.{flat_map-append}
use Rattle.asl_json_data.specs.Data.{Data, null, boolean, number, text, list, dict, Chain, no_items, item, Pairs, no_members, member}
use Rattle.asl_json_data.specs.Distinct.{Members, AreDistinct, has_key}
use Rattle.asl_json.specs.Same.{bytes_eq}
use Rattle.asl_json.specs.private.SameLaws.{bytes_refl}
use Rattle.asl_def_walk.specs.States.{all_states, in_machine as states_machine, among_states, in_states as states_states, inner_states, in_state as states_inner, branch_states, in_branches as states_branches}
use Rattle.asl_task_errors.specs.Tasks.{Told, own_errors, of_machine, in_machine, of_states, in_states, of_inner, in_inner, of_branches, in_branches}
use Rattle.asl_task_errors.proofs.Truths.{or_parts, or_none, or_behind, or_right, or_left, both}
use Rattle.asl_task_errors.specs.Laws.{holds, around, held_errors, TasksAreToldByTheirHolders}

-- ---- keys

key_among : (k : List ℕ) (xs ys : Members) → has_key k (xs ++ ys) ≡ (has_key k xs || has_key k ys)
key_among k [] ys = refl
key_among k (x ∷ xs) ys = or_behind (bytes_eq k x.0) (has_key k xs) (has_key k ys) (has_key k (xs ++ ys)) (key_among k xs ys)

own_key : (x : List ℕ × Data) (xs : Members) → has_key x.0 (x ∷ xs) ≡ true
own_key x xs = or_left (bytes_eq x.0 x.0) (has_key x.0 xs) (bytes_refl x.0)

-- none of these has a key of one behind it
abbrev Differ : Members → Type 0
Differ [] = Unit {0}
Differ (x ∷ xs) = (has_key x.0 xs ≡ false) × Differ xs

-- what is among those that were seen isn't behind them
unseen : (k : List ℕ) (seen xs : Members) → AreDistinct seen xs → has_key k seen ≡ true → has_key k xs ≡ false
unseen k seen [] h is = refl
unseen k seen (x ∷ xs) h is =
    or_none (bytes_eq k x.0) (has_key k xs) (other (bytes_eq k x.0) refl)
    (unseen k (seen ++ x ∷ []) xs h.1 (key_among k seen (x ∷ []) ∙ or_left (has_key k seen) (has_key k (x ∷ [])) is))
  where
    other : (b : Bool) → bytes_eq k x.0 ≡ b → b ≡ false
    other false e = refl
    other true e =
        let same : k ≡ x.0 = (bytes_decides k x.0).0 e in
        absurd (both (has_key x.0 seen) (ap (λ (n : List ℕ). has_key n seen) (sym same) ∙ is) h.0)

differ : (seen xs : Members) → AreDistinct seen xs → Differ xs
differ seen [] h = tt
differ seen (x ∷ xs) h = (
  unseen x.0 (seen ++ x ∷ []) xs h.1 (key_among x.0 seen (x ∷ []) ∙ or_right (has_key x.0 seen) (has_key x.0 (x ∷ [])) (own_key x [])),
  differ (seen ++ x ∷ []) xs h.1,
)

differ_left : (xs ys : Members) → Differ (xs ++ ys) → Differ xs
differ_left [] ys h = tt
differ_left (x ∷ xs) ys h =
    ((or_parts (has_key x.0 xs) (has_key x.0 ys) (sym (key_among x.0 xs ys) ∙ h.0)).0, differ_left xs ys h.1)

differ_right : (xs ys : Members) → Differ (xs ++ ys) → Differ ys
differ_right [] ys h = h
differ_right (x ∷ xs) ys h = differ_right xs ys h.1

elsewhere : (k : List ℕ) (xs ys : Members) → Differ (xs ++ ys) → has_key k xs ≡ true → has_key k ys ≡ false
elsewhere k [] ys h is = absurd (cc is)
elsewhere k (x ∷ xs) ys h is = which (bytes_eq k x.0) refl is (elsewhere k xs ys h.1)
  where
    which : (b : Bool) → bytes_eq k x.0 ≡ b → (b || has_key k xs) ≡ true → (has_key k xs ≡ true → has_key k ys ≡ false) → has_key k ys ≡ false
    which true e there later =
        ap (λ (n : List ℕ). has_key n ys) ((bytes_decides k x.0).0 e) ∙ (or_parts (has_key x.0 xs) (has_key x.0 ys) (sym (key_among x.0 xs ys) ∙ h.0)).1
    which false e there later = later there

before : (k : List ℕ) (xs ys : Members) → Differ (xs ++ ys) → has_key k ys ≡ true → has_key k xs ≡ false
before k xs ys h is = which (has_key k xs) refl
  where
    which : (b : Bool) → has_key k xs ≡ b → b ≡ false
    which false e = refl
    which true e = absurd (both (has_key k ys) is (elsewhere k xs ys h e))

-- ---- what is around

around_both : (k : List ℕ) (xs ys : Members) → around k (xs ++ ys) ≡ around k ys ++ around k xs
around_both k [] ys = sym (append-nil (around k ys))
around_both k (x ∷ xs) ys =
    let own : List Data = (if holds k x then x.1 ∷ [] else []) in
    ap (λ (l : List Data). l ++ own) (around_both k xs ys) ∙ append_assoc (around k ys) (around k xs) own

-- a state's errors by those of these states that hold it, and then these
abbrev placed : List Data → Members → List ℕ × Data → List Told
placed outer states s = own_errors (s.1 ∷ (around s.0 states ++ outer)) s.0 s.1

abbrev all_placed : List Data → Members → List Told
all_placed outer states = flat_map (placed outer states) states

same_each : (f g : List ℕ × Data → List Told) (xs : Members) → ((s : List ℕ × Data) → has_key s.0 xs ≡ true → f s ≡ g s) → flat_map f xs ≡ flat_map g xs
same_each f g [] h = refl
same_each f g (x ∷ xs) h =
    ap (λ (l : List Told). l ++ flat_map f xs) (h x (own_key x xs))
    ∙ ap (λ (l : List Told). g x ++ l) (same_each f g xs (λ s is. h s (or_right (bytes_eq s.0 x.0) (has_key s.0 xs) is)))

-- the errors of Tasks among these states, by what is around them all
record Good (told : List Data → List Told) (states : Members) : Type 0 where
  -- they hold no others
  pub closed : (k : List ℕ) → has_key k states ≡ false → around k states ≡ []
  pub same : (outer : List Data) → Differ states → told outer ≡ all_placed outer states

good_none : Good (λ outer. []) []
good_none = record { closed = λ k h. refl; same = λ outer h. refl }

good_both : (f g : List Data → List Told) (xs ys : Members) → Good f xs → Good g ys → Good (λ outer. f outer ++ g outer) (xs ++ ys)
good_both f g xs ys a b = record {
  closed = λ k h.
      let parts = or_parts (has_key k xs) (has_key k ys) (sym (key_among k xs ys) ∙ h) in
      around_both k xs ys ∙ ap (λ (l : List Data). l ++ around k xs) (b.closed k parts.1) ∙ a.closed k parts.0;
  same = λ outer h.
      let all = xs ++ ys in
      let first : flat_map (placed outer xs) xs ≡ flat_map (placed outer all) xs = same_each (placed outer xs) (placed outer all) xs (λ s is.
      ap (λ (l : List Data). own_errors (s.1 ∷ (l ++ outer)) s.0 s.1)
      (sym (around_both s.0 xs ys ∙ ap (λ (l : List Data). l ++ around s.0 xs) (b.closed s.0 (elsewhere s.0 xs ys h is))))) in
      let second : flat_map (placed outer ys) ys ≡ flat_map (placed outer all) ys = same_each (placed outer ys) (placed outer all) ys (λ s is.
      ap (λ (l : List Data). own_errors (s.1 ∷ (l ++ outer)) s.0 s.1)
      (sym (around_both s.0 xs ys ∙ ap (λ (l : List Data). around s.0 ys ++ l) (a.closed s.0 (before s.0 xs ys h is)) ∙ append-nil (around s.0 ys)))) in
      ap (λ (l : List Told). l ++ g outer) (a.same outer (differ_left xs ys h) ∙ first)
      ∙ ap (λ (l : List Told). flat_map (placed outer all) xs ++ l) (b.same outer (differ_right xs ys h) ∙ second)
      ∙ sym (flat_map-append (placed outer all) xs ys);
}

good_if : (b : Bool) (f g : List Data → List Told) (xs ys : Members) → Good f xs → Good g ys → Good (λ outer. if b then f outer else g outer) (if b then xs else ys)
good_if true f g xs ys x y = x
good_if false f g xs ys x y = y

-- a state and those inside it
good_state : (f : List Data → List Told) (k : List ℕ) (d : Data) → Good f (inner_states d) → Good (λ outer. own_errors (d ∷ outer) k d ++ f (d ∷ outer)) ((k, d) ∷ inner_states d)
good_state f k d inside = record {
  closed = λ n h.
      let parts = or_parts (bytes_eq n k) (has_key n xs) h in
      ap (λ (l : List Data). l ++ (if has_key n xs then d ∷ [] else [])) (inside.closed n parts.1)
      ∙ ap (λ (b : Bool). if b then d ∷ [] else []) parts.1;
  same = λ outer h.
      let alone : around k all ≡ [] =
      ap (λ (l : List Data). l ++ (if has_key k xs then d ∷ [] else [])) (inside.closed k h.0)
      ∙ ap (λ (b : Bool). if b then d ∷ [] else []) h.0 in
      let each : flat_map (placed (d ∷ outer) xs) xs ≡ flat_map (placed outer all) xs = same_each (placed (d ∷ outer) xs) (placed outer all) xs (λ s is.
      ap (λ (l : List Data). own_errors (s.1 ∷ l) s.0 s.1)
      (sym (ap (λ (b : Bool). (around s.0 xs ++ (if b then d ∷ [] else [])) ++ outer) is ∙ append_assoc (around s.0 xs) (d ∷ []) outer))) in
      ap (λ (l : List Data). own_errors (d ∷ (l ++ outer)) k d ++ f (d ∷ outer)) (sym alone)
      ∙ ap (λ (l : List Told). own_errors (d ∷ (around k all ++ outer)) k d ++ l) (inside.same (d ∷ outer) h.1 ∙ each);
}
  where
    xs : Members
    xs = inner_states d

    all : Members
    all = (k, d) ∷ inner_states d

-- ---- of what holds states

mutual
  machine : (d : Data) → Good (λ outer. of_machine outer d) (all_states d)
  machine null = good_none
  machine (boolean b) = good_none
  machine (number s) = good_none
  machine (text s) = good_none
  machine (list ds) = good_none
  machine (dict ms) = machine_members ms

  machine_members : (ms : Pairs) → Good (λ outer. in_machine outer ms) (states_machine ms)
  machine_members no_members = good_none
  machine_members (member k d ms) =
      good_both _ _ _ _ (good_if (bytes_eq k (codes "States")) _ _ _ _ (states d) good_none) (machine_members ms)

  states : (d : Data) → Good (λ outer. of_states outer d) (among_states d)
  states null = good_none
  states (boolean b) = good_none
  states (number s) = good_none
  states (text s) = good_none
  states (list ds) = good_none
  states (dict ms) = state_members ms

  state_members : (ms : Pairs) → Good (λ outer. in_states outer ms) (states_states ms)
  state_members no_members = good_none
  state_members (member k d ms) =
      good_both (λ outer. own_errors (d ∷ outer) k d ++ of_inner (d ∷ outer) d) (λ outer. in_states outer ms) ((k, d) ∷ inner_states d) (states_states ms)
      (good_state (λ outer. of_inner outer d) k d (inner d)) (state_members ms)

  inner : (d : Data) → Good (λ outer. of_inner outer d) (inner_states d)
  inner null = good_none
  inner (boolean b) = good_none
  inner (number s) = good_none
  inner (text s) = good_none
  inner (list ds) = good_none
  inner (dict ms) = inner_members ms

  inner_members : (ms : Pairs) → Good (λ outer. in_inner outer ms) (states_inner ms)
  inner_members no_members = good_none
  inner_members (member k d ms) =
      good_both _ _ _ _
      (good_if (bytes_eq k (codes "Branches")) _ _ _ _ (branches d)
      (good_if (bytes_eq k (codes "Iterator")) _ _ _ _ (machine d)
      (good_if (bytes_eq k (codes "ItemProcessor")) _ _ _ _ (machine d) good_none)))
      (inner_members ms)

  branches : (d : Data) → Good (λ outer. of_branches outer d) (branch_states d)
  branches null = good_none
  branches (boolean b) = good_none
  branches (number s) = good_none
  branches (text s) = good_none
  branches (list ds) = branch_items ds
  branches (dict ms) = good_none

  branch_items : (ds : Chain) → Good (λ outer. in_branches outer ds) (states_branches ds)
  branch_items no_items = good_none
  branch_items (item d ds) = good_both _ _ _ _ (machine d) (branch_items ds)

pub by_holders : TasksAreToldByTheirHolders
by_holders d h =
    (machine d).same [] (differ [] (all_states d) h)
    ∙ same_each (placed [] (all_states d)) (held_errors (all_states d)) (all_states d) (λ s is.
    ap (λ (l : List Data). own_errors (s.1 ∷ l) s.0 s.1) (append-nil (around s.0 (all_states d))))
