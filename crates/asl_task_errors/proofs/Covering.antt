-- Any error is handled like one that is told.
use Rattle.std.proofs.Common.{◌≡◌, ℕ, suc, Bool, true, false, List, [], ◌∷◌, ◌++◌, refl, sym, ap, ◌∙◌, eq-eqb}
use Rattle.std.specs.Prelude.{◌||◌, ◌&&◌, not, nat_eq, Option, Some, None, option_map, if◌then◌else◌, codes}
use Rattle.std.specs.List.{flat_map, list_any}
use Rattle.std.specs.Option.{option_eq}
use Rattle.std.specs.Cmp.Lexicographic.{bytes_decides}
use Rattle.asl_json_data.specs.Data.{Data, null, boolean, number, text, list, dict, Chain, no_items, item}
use Rattle.asl_json.specs.Meaning.{value_in}
use Rattle.asl_json.specs.Same.{bytes_eq}
use Rattle.asl_json.specs.private.SameLaws.{bytes_refl}
use Rattle.asl_handle.specs.Decisions.{first_for, handlers_in}
use Rattle.asl_handle.specs.Names.{has_name_for, is_beyond, is_for, is_name_for, names, stands_for}
use Rattle.asl_task_errors.specs.Candidates.{candidate, candidate_of, candidates, named_by, named_by_all, named_in, timeout, unnamed}
use Rattle.asl_task_errors.specs.Alike.{apart, are_alike, handlers_of, is_alike, number_for}
use Rattle.asl_task_errors.specs.Tasks.{is_text}
use Rattle.asl_task_errors.specs.Laws.{AnyErrorIsHandledLikeOne, has_name, is_named}
use Rattle.asl_task_errors.proofs.Truths.{and_both, any_both, any_same, both, or_left, or_parts, or_right}

-- ---- a candidate is handled like one that is told

same_number : (o : Option ℕ) → option_eq nat_eq o o ≡ true
same_number None = refl
same_number (Some n) = eq-eqb n n refl

alike_itself : (hs : List Chain) (e : List ℕ) → are_alike hs e e ≡ true
alike_itself [] e = refl
alike_itself (h ∷ hs) e =
    and_both (is_alike e e h) (are_alike hs e e) (same_number (number_for e h)) (alike_itself hs e)

or_turned : (a b c : Bool) → ((a || (b || false)) || c) ≡ (a || (b || c))
or_turned true b c = refl
or_turned false true c = refl
or_turned false false c = refl

covered : (hs : List Chain) (x : List ℕ) (told es : List (List ℕ)) → list_any (bytes_eq x) es ≡ true
    → (list_any (are_alike hs x) told || list_any (are_alike hs x) (apart hs told es)) ≡ true
covered hs x told [] h = absurd (cc h)
covered hs x told (e ∷ es) h =
    by (list_any (are_alike hs e) told) refl (bytes_eq x e) refl h (covered hs x told es) (covered hs x (told ++ e ∷ []) es)
  where
    by : (b : Bool) → list_any (are_alike hs e) told ≡ b → (c : Bool) → bytes_eq x e ≡ c
        → (c || list_any (bytes_eq x) es) ≡ true
        → (list_any (bytes_eq x) es ≡ true → (list_any (are_alike hs x) told || list_any (are_alike hs x) (apart hs told es)) ≡ true)
        → (list_any (bytes_eq x) es ≡ true
        → (list_any (are_alike hs x) (told ++ e ∷ []) || list_any (are_alike hs x) (apart hs (told ++ e ∷ []) es)) ≡ true)
        → (list_any (are_alike hs x) told
        || list_any (are_alike hs x) (if b then apart hs told es else e ∷ apart hs (told ++ e ∷ []) es)) ≡ true
    by true is true same h stays grows =
        or_left (list_any (are_alike hs x) told) (list_any (are_alike hs x) (apart hs told es))
        (ap (λ (n : List ℕ). list_any (are_alike hs n) told) ((bytes_decides x e).0 same) ∙ is)
    by true is false other h stays grows = stays h
    by false is true same h stays grows =
        or_right (list_any (are_alike hs x) told) (are_alike hs x e || list_any (are_alike hs x) (apart hs (told ++ e ∷ []) es))
        (or_left (are_alike hs x e) (list_any (are_alike hs x) (apart hs (told ++ e ∷ []) es))
        (ap (are_alike hs x) (sym ((bytes_decides x e).0 same)) ∙ alike_itself hs x))
    by false is false other h stays grows =
        sym (or_turned (list_any (are_alike hs x) told) (are_alike hs x e) (list_any (are_alike hs x) (apart hs (told ++ e ∷ []) es)))
        ∙ ap (λ (b : Bool). b || list_any (are_alike hs x) (apart hs (told ++ e ∷ []) es)) (sym (any_both (are_alike hs x) told (e ∷ [])))
        ∙ grows h

-- ---- what no list names is handled like the one that no list has to name

-- what a name stands for, by whether it is the error, States.ALL or States.TaskFailed, and whether the error is States.Timeout
abbrev stands : Bool → Bool → Bool → Bool → Bool
stands own all failed late = own || all || (failed && not late)

general : (own all failed : Bool) → (all || failed) ≡ true → stands own all failed false ≡ true
general true true true e = refl
general true true false e = refl
general true false true e = refl
general true false false e = refl
general false true true e = refl
general false true false e = refl
general false false true e = refl
general false false false e = absurd (cc e)

special : (own all failed : Bool) → (all || failed) ≡ false → stands own all failed false ≡ own
special true false false e = refl
special false false false e = refl
special own true failed e = absurd (cc e)
special own false true e = absurd (cc e)

turned : (a b : List ℕ) → bytes_eq a b ≡ false → bytes_eq b a ≡ false
turned a b e = which (bytes_eq b a) refl
  where
    which : (c : Bool) → bytes_eq b a ≡ c → c ≡ false
    which false is = refl
    which true is = absurd (both (bytes_eq a b) (ap (λ (n : List ℕ). bytes_eq a n) ((bytes_decides b a).0 is) ∙ bytes_refl a) e)

unlike : (n e : List ℕ) → bytes_eq e timeout ≡ false
    → list_any (bytes_eq e) (if bytes_eq n timeout then [] else n ∷ []) ≡ false → bytes_eq n e ≡ false
unlike n e late h = which (bytes_eq n timeout) refl h
  where
    which : (b : Bool) → bytes_eq n timeout ≡ b → list_any (bytes_eq e) (if b then [] else n ∷ []) ≡ false → bytes_eq n e ≡ false
    which true is h = ap (λ (m : List ℕ). bytes_eq m e) ((bytes_decides n timeout).0 is) ∙ turned e timeout late
    which false is h = turned e n (or_parts (bytes_eq e n) false h).0

name_alike : (n e : List ℕ) → bytes_eq e timeout ≡ false → list_any (bytes_eq e) (candidate n) ≡ false
    → bytes_eq n unnamed ≡ false → stands_for n e ≡ stands_for n unnamed
name_alike n e late h not_it =
    ap (stands (bytes_eq n e) (bytes_eq n (codes "States.ALL")) (bytes_eq n (codes "States.TaskFailed"))) late
    ∙ which (bytes_eq n (codes "States.ALL") || bytes_eq n (codes "States.TaskFailed")) refl h
  where
    which : (b : Bool) → (bytes_eq n (codes "States.ALL") || bytes_eq n (codes "States.TaskFailed")) ≡ b
        → list_any (bytes_eq e) (if b then unnamed ∷ [] else if bytes_eq n timeout then [] else n ∷ []) ≡ false
        → stands (bytes_eq n e) (bytes_eq n (codes "States.ALL")) (bytes_eq n (codes "States.TaskFailed")) false
        ≡ stands (bytes_eq n unnamed) (bytes_eq n (codes "States.ALL")) (bytes_eq n (codes "States.TaskFailed")) false
    which true is h =
        general (bytes_eq n e) (bytes_eq n (codes "States.ALL")) (bytes_eq n (codes "States.TaskFailed")) is
        ∙ sym (general (bytes_eq n unnamed) (bytes_eq n (codes "States.ALL")) (bytes_eq n (codes "States.TaskFailed")) is)
    which false is h =
        special (bytes_eq n e) (bytes_eq n (codes "States.ALL")) (bytes_eq n (codes "States.TaskFailed")) is
        ∙ unlike n e late h ∙ sym not_it
        ∙ sym (special (bytes_eq n unnamed) (bytes_eq n (codes "States.ALL")) (bytes_eq n (codes "States.TaskFailed")) is)

item_alike : (d : Data) (e : List ℕ) → bytes_eq e timeout ≡ false → list_any (bytes_eq e) (candidate_of d) ≡ false
    → is_text unnamed (Some d) ≡ false → is_name_for e d ≡ is_name_for unnamed d
item_alike (text n) e late h not_it = name_alike n e late h not_it
item_alike null e late h not_it = refl
item_alike (boolean b) e late h not_it = refl
item_alike (number n) e late h not_it = refl
item_alike (list ds) e late h not_it = refl
item_alike (dict ms) e late h not_it = refl

names_alike : (ds : Chain) (e : List ℕ) → bytes_eq e timeout ≡ false → list_any (bytes_eq e) (named_in ds) ≡ false
    → has_name unnamed ds ≡ false → has_name_for e ds ≡ has_name_for unnamed ds
names_alike no_items e late h not_it = refl
names_alike (item d ds) e late h not_it =
    let parts = or_parts (list_any (bytes_eq e) (candidate_of d)) (list_any (bytes_eq e) (named_in ds)) (sym (any_both (bytes_eq e) (candidate_of d) (named_in ds)) ∙ h) in
    let others = or_parts (is_text unnamed (Some d)) (has_name unnamed ds) not_it in
    ap (λ (b : Bool). b || has_name_for e ds) (item_alike d e late parts.0 others.0)
    ∙ ap (λ (b : Bool). is_name_for unnamed d || b) (names_alike ds e late parts.1 others.1)

list_alike : (o : Option Data) (e : List ℕ) → bytes_eq e timeout ≡ false → is_beyond e ≡ false
    → list_any (bytes_eq e) (named_in (handlers_in o)) ≡ false → has_name unnamed (handlers_in o) ≡ false → names o e ≡ names o unnamed
list_alike None e late far h not_it = refl
list_alike (Some (list ds)) e late far h not_it =
    ap (λ (b : Bool). not b && has_name_for e ds) far ∙ ap (λ (b : Bool). not false && b) (names_alike ds e late h not_it)
list_alike (Some null) e late far h not_it = refl
list_alike (Some (boolean b)) e late far h not_it = refl
list_alike (Some (number n)) e late far h not_it = refl
list_alike (Some (text t)) e late far h not_it = refl
list_alike (Some (dict ms)) e late far h not_it = refl

first_alike : (ds : Chain) (i : ℕ) (e : List ℕ) → bytes_eq e timeout ≡ false → is_beyond e ≡ false
    → list_any (bytes_eq e) (named_by_all ds) ≡ false → is_named unnamed ds ≡ false → first_for e i ds ≡ first_for unnamed i ds
first_alike no_items i e late far h not_it = refl
first_alike (item d ds) i e late far h not_it =
    let parts = or_parts (list_any (bytes_eq e) (named_by d)) (list_any (bytes_eq e) (named_by_all ds)) (sym (any_both (bytes_eq e) (named_by d) (named_by_all ds)) ∙ h) in
    let others = or_parts (has_name unnamed (handlers_in (value_in (codes "ErrorEquals") d))) (is_named unnamed ds) not_it in
    ap (λ (b : Bool). if b then Some (i, d) else first_for e (suc i) ds) (list_alike (value_in (codes "ErrorEquals") d) e late far parts.0 others.0)
    ∙ ap (λ (o : Option (ℕ × Data)). if is_for d unnamed then Some (i, d) else o) (first_alike ds (suc i) e late far parts.1 others.1)

all_alike : (hs : List Chain) (e t : List ℕ) → bytes_eq e timeout ≡ false → is_beyond e ≡ false
    → list_any (bytes_eq e) (flat_map named_by_all hs) ≡ false → list_any (is_named unnamed) hs ≡ false → are_alike hs e t ≡ are_alike hs unnamed t
all_alike [] e t late far h not_it = refl
all_alike (ds ∷ hs) e t late far h not_it =
    let parts = or_parts (list_any (bytes_eq e) (named_by_all ds)) (list_any (bytes_eq e) (flat_map named_by_all hs)) (sym (any_both (bytes_eq e) (named_by_all ds) (flat_map named_by_all hs)) ∙ h) in
    let others = or_parts (is_named unnamed ds) (list_any (is_named unnamed) hs) not_it in
    ap (λ (o : Option (ℕ × Data)). option_eq nat_eq (option_map (λ x. x.0) o) (number_for t ds) && are_alike hs e t) (first_alike ds 0 e late far parts.0 others.0)
    ∙ ap (λ (b : Bool). is_alike unnamed t ds && b) (all_alike hs e t late far parts.1 others.1)

-- ---- any error

told_like : (hs : List Chain) (e x : List ℕ) → ((t : List ℕ) → are_alike hs e t ≡ are_alike hs x t) → list_any (bytes_eq x) (candidates hs) ≡ true
    → list_any (are_alike hs e) (apart hs [] (candidates hs) ++ timeout ∷ []) ≡ true
told_like hs e x same h =
    any_both (are_alike hs e) (apart hs [] (candidates hs)) (timeout ∷ [])
    ∙ or_left (list_any (are_alike hs e) (apart hs [] (candidates hs))) (list_any (are_alike hs e) (timeout ∷ []))
    (any_same (are_alike hs e) (are_alike hs x) (apart hs [] (candidates hs)) same ∙ covered hs x [] (candidates hs) h)

by_lists : (hs : List Chain) (e : List ℕ) → bytes_eq e timeout ≡ false → is_beyond e ≡ false → list_any (is_named unnamed) hs ≡ false
    → list_any (are_alike hs e) (apart hs [] (candidates hs) ++ timeout ∷ []) ≡ true
by_lists hs e late far not_it = which (list_any (bytes_eq e) (flat_map named_by_all hs)) refl
  where
    which : (b : Bool) → list_any (bytes_eq e) (flat_map named_by_all hs) ≡ b
        → list_any (are_alike hs e) (apart hs [] (candidates hs) ++ timeout ∷ []) ≡ true
    which true is =
        told_like hs e e (λ t. refl)
        (any_both (bytes_eq e) (flat_map named_by_all hs) (unnamed ∷ [])
        ∙ or_left (list_any (bytes_eq e) (flat_map named_by_all hs)) (list_any (bytes_eq e) (unnamed ∷ [])) is)
    which false is =
        told_like hs e unnamed (λ t. all_alike hs e t late far is not_it)
        (any_both (bytes_eq unnamed) (flat_map named_by_all hs) (unnamed ∷ [])
        ∙ or_right (list_any (bytes_eq unnamed) (flat_map named_by_all hs)) (list_any (bytes_eq unnamed) (unnamed ∷ [])) refl)

pub any_error : AnyErrorIsHandledLikeOne
any_error levels e late far not_it = by_lists (flat_map handlers_of levels) e late far not_it
