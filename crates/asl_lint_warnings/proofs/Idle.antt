-- Retriers and catchers that no error reaches.
use Rattle.std.proofs.Common.{◌≡◌, inl, inr, ℕ, List, [], ◌∷◌, Bool, true, false, ◌||◌, ◌&&◌, refl, sym, ap, subst, ◌∙◌}
use Rattle.std.specs.Prelude.{not, Option, Some, None, codes}
use Rattle.std.specs.List.{list_any}
use Rattle.asl_json_data.specs.Data.{Data, null, boolean, number, text, list, dict, Chain, no_items, item}
use Rattle.asl_json.specs.Same.{bytes_eq}
use Rattle.asl_json.specs.Meaning.{value_in}
use Rattle.std.specs.Cmp.Lexicographic.{bytes_decides}
use Rattle.asl_handle.specs.Names.{is_beyond, stands_for, is_name_for, has_name_for, names, is_for}
use Rattle.asl_lint_warnings.specs.Handlers.{items_in, names_in, is_text, has_text, is_taken, is_taken_name, are_taken}
use Rattle.asl_def_schema.specs.Claims.{is_nonempty}
use Rattle.asl_lint_warnings.specs.Laws.{UnaskedHandlersAreIdle}
use Rattle.asl_lint_warnings.proofs.Joining.{or_true, or_left, or_right, and_true, and_both}

abbrev all_errors : List ℕ
all_errors = codes "States.ALL"

abbrev failed : List ℕ
failed = codes "States.TaskFailed"

abbrev timeout : List ℕ
timeout = codes "States.Timeout"

abbrev runtime : List ℕ
runtime = codes "States.Runtime"

abbrev limit : List ℕ
limit = codes "States.DataLimitExceeded"

same : (a b : List ℕ) → bytes_eq a b ≡ true → a ≡ b
same a b e = (bytes_decides a b).0 e

itself : (a b : List ℕ) → a ≡ b → bytes_eq a b ≡ true
itself a b e = (bytes_decides a b).1 e

-- ---- a name that some list has, which stands for the error

names_for : (e n : List ℕ) (ds : Chain) → has_text n ds ≡ true → stands_for n e ≡ true → has_name_for e ds ≡ true
names_for e n no_items h s = absurd (cc)
names_for e n (item d ds) h s =
    elim (or_true (is_text n d) (has_text n ds) h) as (λ _. has_name_for e (item d ds) ≡ true) [
      | inl a ↦ or_left (is_name_for e d) (has_name_for e ds) (own d a)
      | inr b ↦ or_right (is_name_for e d) (has_name_for e ds) (names_for e n ds b s)
    ]
  where
    own : (d : Data) → is_text n d ≡ true → is_name_for e d ≡ true
    own (text t) a = subst (λ (x : List ℕ). stands_for x e ≡ true) (same n t a) s
    own null a = absurd (cc)
    own (boolean b) a = absurd (cc)
    own (number b) a = absurd (cc)
    own (list b) a = absurd (cc)
    own (dict b) a = absurd (cc)

-- a handler that lists such a name is for the error
for_it : (e n : List ℕ) (o : Option Data) → not (is_beyond e) ≡ true → has_text n (items_in o) ≡ true → stands_for n e ≡ true → names o e ≡ true
for_it e n None kept h s = absurd (cc)
for_it e n (Some (list ds)) kept h s = and_both (not (is_beyond e)) (has_name_for e ds) kept (names_for e n ds h s)
for_it e n (Some null) kept h s = absurd (cc)
for_it e n (Some (boolean b)) kept h s = absurd (cc)
for_it e n (Some (number b)) kept h s = absurd (cc)
for_it e n (Some (text b)) kept h s = absurd (cc)
for_it e n (Some (dict b)) kept h s = absurd (cc)

any_for : (e n : List ℕ) (before : List Data) → not (is_beyond e) ≡ true → list_any (λ b. has_text n (names_in b)) before ≡ true → stands_for n e ≡ true → list_any (λ b. is_for b e) before ≡ true
any_for e n [] kept h s = absurd (cc)
any_for e n (b ∷ bs) kept h s =
    elim (or_true (has_text n (names_in b)) (list_any (λ x. has_text n (names_in x)) bs) h) as (λ _. list_any (λ x. is_for x e) (b ∷ bs) ≡ true) [
      | inl a ↦ or_left (is_for b e) (list_any (λ x. is_for x e) bs) (for_it e n (value_in (codes "ErrorEquals") b) kept a s)
      | inr r ↦ or_right (is_for b e) (list_any (λ x. is_for x e) bs) (any_for e n bs kept r s)
    ]

-- ---- which of the names stands for it

for_itself : (e : List ℕ) → stands_for e e ≡ true
for_itself e = or_left (bytes_eq e e || bytes_eq e all_errors) (bytes_eq e failed && not (bytes_eq e timeout)) (or_left (bytes_eq e e) (bytes_eq e all_errors) (itself e e refl))

all_for_any : (e : List ℕ) → stands_for all_errors e ≡ true
all_for_any e = or_left (bytes_eq all_errors e || bytes_eq all_errors all_errors) (bytes_eq all_errors failed && not (bytes_eq e timeout)) (or_right (bytes_eq all_errors e) (bytes_eq all_errors all_errors) refl)

failed_for : (e : List ℕ) → bytes_eq e timeout ≡ false → stands_for failed e ≡ true
failed_for e h = or_right (bytes_eq failed e || bytes_eq failed all_errors) (bytes_eq failed failed && not (bytes_eq e timeout)) (ap not h)

no_not : (b : Bool) → not b ≡ true → b ≡ true → ⊥
no_not true h i = absurd (cc)
no_not false h i = absurd (cc)

-- some of the handlers list a name, and some are for an error

abbrev Listed : List Data → List ℕ → Bool
Listed before n = list_any (λ b. has_text n (names_in b)) before

abbrev Handled : List Data → List ℕ → Type 0
Handled before e = list_any (λ b. is_for b e) before ≡ true

-- a name that stands for States.Timeout is this name itself, or States.ALL
late_name : (n e : List ℕ) → not (bytes_eq n timeout) ≡ true → not (bytes_eq n all_errors) ≡ true → bytes_eq e timeout ≡ true → stands_for n e ≡ true → ⊥
late_name n e other single late s =
    elim (or_true (bytes_eq n e || bytes_eq n all_errors) (bytes_eq n failed && not (bytes_eq e timeout)) s) as (λ _. ⊥) [
      | inl r ↦ elim (or_true (bytes_eq n e) (bytes_eq n all_errors) r) as (λ _. ⊥) [
        | inl i ↦ no_not (bytes_eq n timeout) other (itself n timeout (same n e i ∙ same e timeout late))
        | inr i ↦ no_not (bytes_eq n all_errors) single i
      ]
      | inr i ↦ no_not (bytes_eq e timeout) (and_true (bytes_eq n failed) (not (bytes_eq e timeout)) i).1 late
    ]

-- States.TaskFailed is listed
by_failed : (before : List Data) (e n : List ℕ) (late : Bool) → bytes_eq e timeout ≡ late → not (is_beyond e) ≡ true → Listed before failed ≡ true → not (bytes_eq n timeout) ≡ true → (not (bytes_eq n all_errors) || Listed before timeout) ≡ true → stands_for n e ≡ true → Handled before e
by_failed before e n false at kept h other single s = any_for e failed before kept h (failed_for e at)
by_failed before e n true at kept h other single s =
    elim (or_true (not (bytes_eq n all_errors)) (Listed before timeout) single) as (λ _. Handled before e) [
      | inl a ↦ absurd (late_name n e other a at s)
      | inr l ↦ any_for e timeout before kept l (subst (λ (x : List ℕ). stands_for timeout x ≡ true) (sym (same e timeout at)) (for_itself timeout))
    ]

-- a name that no handler is for stands for itself alone
alone : (a : Bool) → ((a || false) || false) ≡ true → a ≡ true
alone true h = refl
alone false h = absurd (cc)

beyond_alone : (n e : List ℕ) → is_beyond n ≡ true → stands_for n e ≡ true → is_beyond e ≡ true
beyond_alone n e h s =
    elim (or_true (bytes_eq n runtime) (bytes_eq n limit) h) as (λ _. is_beyond e ≡ true) [
      | inl a ↦ or_left (bytes_eq e runtime) (bytes_eq e limit) (itself e runtime (sym (same runtime e (alone (bytes_eq runtime e) (subst (λ (x : List ℕ). stands_for x e ≡ true) (same n runtime a) s)))))
      | inr a ↦ or_right (bytes_eq e runtime) (bytes_eq e limit) (itself e limit (sym (same limit e (alone (bytes_eq limit e) (subst (λ (x : List ℕ). stands_for x e ≡ true) (same n limit a) s)))))
    ]

taken : (before : List Data) (e n : List ℕ) → not (is_beyond e) ≡ true → is_taken (Listed before) n ≡ true → stands_for n e ≡ true → Handled before e
taken before e n kept t s =
    let first = Listed before failed && not (bytes_eq n timeout) in
    let single = not (bytes_eq n all_errors) || Listed before timeout in
    elim (or_true ((is_beyond n || Listed before n) || Listed before all_errors) (first && single) t) as (λ _. Handled before e) [
      | inl r ↦ elim (or_true (is_beyond n || Listed before n) (Listed before all_errors) r) as (λ _. Handled before e) [
        | inl q ↦ elim (or_true (is_beyond n) (Listed before n) q) as (λ _. Handled before e) [
          | inl a ↦ absurd (no_not (is_beyond e) kept (beyond_alone n e a s))
          | inr a ↦ any_for e n before kept a s
        ]
        | inr a ↦ any_for e all_errors before kept a (all_for_any e)
      ]
      | inr p ↦
          let parts = and_true first single p in
          let more = and_true (Listed before failed) (not (bytes_eq n timeout)) parts.0 in
          by_failed before e n (bytes_eq e timeout) refl kept more.0 more.1 parts.1 s
    ]

own_taken : (before : List Data) (e : List ℕ) (d : Data) → not (is_beyond e) ≡ true → is_taken_name (Listed before) d ≡ true → is_name_for e d ≡ true → Handled before e
own_taken before e (text n) kept t s = taken before e n kept t s
own_taken before e null kept t s = absurd (cc)
own_taken before e (boolean b) kept t s = absurd (cc)
own_taken before e (number b) kept t s = absurd (cc)
own_taken before e (list b) kept t s = absurd (cc)
own_taken before e (dict b) kept t s = absurd (cc)

some_taken : (before : List Data) (e : List ℕ) (ds : Chain) → not (is_beyond e) ≡ true → are_taken (Listed before) ds ≡ true → has_name_for e ds ≡ true → Handled before e
some_taken before e no_items kept t s = absurd (cc)
some_taken before e (item d ds) kept t s =
    let parts = and_true (is_taken_name (Listed before) d) (are_taken (Listed before) ds) t in
    elim (or_true (is_name_for e d) (has_name_for e ds) s) as (λ _. Handled before e) [
      | inl a ↦ own_taken before e d kept parts.0 a
      | inr r ↦ some_taken before e ds kept parts.1 r
    ]

named_taken : (before : List Data) (e : List ℕ) (o : Option Data) → are_taken (Listed before) (items_in o) ≡ true → names o e ≡ true → Handled before e
named_taken before e None t h = absurd (cc)
named_taken before e (Some (list ds)) t h =
    let parts = and_true (not (is_beyond e)) (has_name_for e ds) h in
    some_taken before e ds parts.0 t parts.1
named_taken before e (Some null) t h = absurd (cc)
named_taken before e (Some (boolean b)) t h = absurd (cc)
named_taken before e (Some (number b)) t h = absurd (cc)
named_taken before e (Some (text b)) t h = absurd (cc)
named_taken before e (Some (dict b)) t h = absurd (cc)

pub idle : UnaskedHandlersAreIdle
idle before handler e t h = named_taken before e (value_in (codes "ErrorEquals") handler) (and_true (is_nonempty (names_in handler)) (are_taken (Listed before) (names_in handler)) t).1 h
