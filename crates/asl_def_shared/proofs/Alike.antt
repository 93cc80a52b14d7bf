-- Parts of states are equal where what they show is.
use Rattle.std.proofs.Common.{◌≡◌, ◌∙◌, ℕ, Bool, true, List, refl, ap}
use Rattle.std.specs.Prelude.{◌&&◌, Option, map, option_map}
use Rattle.std.specs.Option.{option_eq}
use Rattle.std.specs.Cmp.Lexicographic.{pointwise}
use Rattle.asl_json_data.specs.Data.{Data, text, number, list, chain}
use Rattle.asl_json.specs.Same.{equal, items_equal, bytes_eq}
use Rattle.asl_def_fields.proofs.Alike.{slots_eq, alike, shows, listed, names_alike, path_alike, chains, and_true, and_and}
use Rattle.asl_def_shared.specs.declared.target.Transition.{Transition}
use Rattle.asl_def_shared.specs.declared.target.Transition.TheVariants.{End, To}
use Rattle.asl_def_shared.specs.declared.limits.TimeLimits.{TimeLimits}
use Rattle.asl_def_shared.specs.declared.catcher.Catcher.{Catcher}
use Rattle.asl_def_shared.specs.declared.common.Common.{Common}
use Rattle.asl_def_shared.specs.declared.completion.Completion.{Completion}
use Rattle.asl_def_shared.specs.contracts.target.TransitionPartialEq.TheImpl as transition
use Rattle.asl_def_shared.specs.contracts.limits.TimeLimitsPartialEq.TheImpl as limits
use Rattle.asl_def_shared.specs.contracts.catcher.CatcherPartialEq.TheImpl as catcher
use Rattle.asl_def_shared.specs.contracts.common.CommonPartialEq.TheImpl as common
use Rattle.asl_def_shared.specs.contracts.completion.CompletionPartialEq.TheImpl as completion
use Rattle.asl_def_shared.specs.Parts.{catcher_object, catcher_members, next_shown, end_shown, listed as list_of, completion_members}

-- texts and numbers that may be there
pub texts : (a b : Option (List ℕ)) → option_eq equal (option_map text a) (option_map text b) ≡ option_eq bytes_eq a b
texts = shows bytes_eq text (λ x y. refl)

pub numbers : (a b : Option (List ℕ)) → option_eq equal (option_map number a) (option_map number b) ≡ option_eq bytes_eq a b
numbers = shows bytes_eq number (λ x y. refl)

pub lists : (a b : Option (List Data)) → option_eq equal (list_of a) (list_of b) ≡ option_eq items_equal a b
lists = shows items_equal (λ ds. list (chain ds)) chains

pub catcher_alike : (x y : Catcher) → equal (catcher_object x) (catcher_object y) ≡ (catcher.ghosts).eq x y
catcher_alike x y =
    alike (catcher_members x) (catcher_members y) refl refl
    ∙ (λ i. texts x.comment y.comment i
    && (names_alike x.errors y.errors i
    && (path_alike x.result_path y.result_path i
    && and_true (bytes_eq x.next.name y.next.name) i)))

pub catchers_alike : (xs ys : List Catcher) → items_equal (map catcher_object xs) (map catcher_object ys) ≡ pointwise (catcher.ghosts).eq xs ys
catchers_alike = listed (catcher.ghosts).eq catcher_object catcher_alike

-- ---- parts, with what stands behind them

pub common_alike : (x y : Common) (r s : Bool) → r ≡ s
    → (option_eq equal (option_map text x.comment) (option_map text y.comment)
    && (option_eq equal (option_map text x.query_language) (option_map text y.query_language) && r))
    ≡ ((common.ghosts).eq x y && s)
common_alike x y r s e =
    (λ i. texts x.comment y.comment i && (texts x.query_language y.query_language i && e i))
    ∙ and_and (option_eq bytes_eq x.comment y.comment) (option_eq bytes_eq x.query_language y.query_language) s

pub limits_alike : (x y : TimeLimits) (r s : Bool) → r ≡ s
    → (option_eq equal (option_map number x.timeout) (option_map number y.timeout)
    && (option_eq equal (option_map text x.timeout_path) (option_map text y.timeout_path)
    && (option_eq equal (option_map number x.heartbeat) (option_map number y.heartbeat)
    && (option_eq equal (option_map text x.heartbeat_path) (option_map text y.heartbeat_path) && r))))
    ≡ ((limits.ghosts).eq x y && s)
limits_alike x y r s e =
    let a = option_eq bytes_eq x.timeout y.timeout in
    let b = option_eq bytes_eq x.timeout_path y.timeout_path in
    let c = option_eq bytes_eq x.heartbeat y.heartbeat in
    let d = option_eq bytes_eq x.heartbeat_path y.heartbeat_path in
    (λ i. numbers x.timeout y.timeout i
    && (texts x.timeout_path y.timeout_path i
    && (numbers x.heartbeat y.heartbeat i && (texts x.heartbeat_path y.heartbeat_path i && e i))))
    ∙ ap (λ r. a && (b && r)) (and_and c d s)
    ∙ ap (λ r. a && r) (and_and b (c && d) s)
    ∙ and_and a (b && (c && d)) s

pub next_alike : (x y : Transition) → (option_eq equal (next_shown x) (next_shown y) && (option_eq equal (end_shown x) (end_shown y) && true)) ≡ (transition.ghosts).eq x y
next_alike End End = refl
next_alike End (To t) = refl
next_alike (To t) End = refl
next_alike (To t) (To u) = and_true (bytes_eq t.name u.name)

pub completion_alike : (x y : Completion) → slots_eq (completion_members x) (completion_members y) ≡ (completion.ghosts).eq x y
completion_alike x y =
    λ i. option_eq equal x.result_selector y.result_selector
    && (path_alike x.result_path y.result_path i
    && (path_alike x.output_path y.output_path i
    && (lists x.retry y.retry i && (lists x.catch y.catch i && next_alike x.next y.next i))))
