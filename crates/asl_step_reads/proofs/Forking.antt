-- What a Map forks, where all of its texts agree on the Context Objects of two steps, its iterations' too.
use Rattle.std.proofs.Common.{◌≡◌, ℕ, ◌+◌, List, [], ◌∷◌, refl, ap, ◌∙◌, Option, Some, None}
use Rattle.std.specs.Prelude.{Result, Ok, Err, codes}
use Rattle.asl_json_data.specs.Data.{Data}
use Rattle.asl_json.specs.Meaning.{value_in}
use Rattle.asl_json.specs.declared.value.Json.{Json}
use Rattle.asl_def_states.specs.Items.{processor_in, selector_in}
use Rattle.asl_step.specs.declared.facts.Facts.{Facts}
use Rattle.asl_step.specs.declared.record.ErrorOut.{ErrorOut}
use Rattle.asl_step.specs.Seen.{Seen}
use Rattle.asl_step.specs.Context.{context_of}
use Rattle.asl_step_io.specs.Paths.{Given, taken}
use Rattle.asl_kinds.specs.Forks.{in_iteration, item_input, new_before, iterations, with_items, items_by}
use Rattle.asl_kinds.specs.Table.{iteration_start, fork_over, fork_by, fork_of}
use Rattle.asl_step_reads.proofs.Agreeing.{AllAgree}
use Rattle.asl_step_reads.proofs.Members.{SomeAgrees, member_agrees, selector_agrees, taken_agrees, filled_agrees}

module _ (d : Data) (f : Facts) (u v : Seen) (agree : AllAgree (context_of f u) (context_of f v) d) (inside : (i : ℕ) (x : Data) → AllAgree (context_of f (in_iteration u i x)) (context_of f (in_iteration v i x)) d) where
  input_same : (t : Option Data) (y : Json) (i : ℕ) (x : Data) → SomeAgrees (context_of f (in_iteration u i x)) (context_of f (in_iteration v i x)) t → item_input t y f u i x ≡ item_input t y f v i x
  input_same None y i x h = refl
  input_same (Some t) y i x h = filled_agrees (context_of f (in_iteration u i x)) (context_of f (in_iteration v i x)) (Some t) y h

  iterations_same : (start : List ℕ) (t : Option Data) (y : Json) (i : ℕ) (xs : List Data) → ((i : ℕ) (x : Data) → SomeAgrees (context_of f (in_iteration u i x)) (context_of f (in_iteration v i x)) t) → iterations start t y f u i xs ≡ iterations start t y f v i xs
  iterations_same start t y i [] each = refl
  iterations_same start t y i (x ∷ xs) each =
      let first = input_same t y i x (each i x) in
      let rest = iterations_same start t y (i + 1) xs each in
      λ j. new_before start (first j) (rest j)

  fork_over_same : (y : Json) (r : Result (List Data) ErrorOut) → fork_over (selector_in d) (iteration_start (processor_in d)) f u y r ≡ fork_over (selector_in d) (iteration_start (processor_in d)) f v y r
  fork_over_same y (Ok xs) =
      ap (with_items xs)
      (iterations_same (iteration_start (processor_in d)) (selector_in d) y 0 xs (λ i x. selector_agrees (context_of f (in_iteration u i x)) (context_of f (in_iteration v i x)) d (inside i x)))
  fork_over_same y (Err e) = refl

  fork_by_same : (g : Given) → fork_by (value_in (codes "ItemsPath") d) (selector_in d) (iteration_start (processor_in d)) f u g ≡ fork_by (value_in (codes "ItemsPath") d) (selector_in d) (iteration_start (processor_in d)) f v g
  fork_by_same (Ok y) =
      fork_over_same y (items_by (taken (codes "ItemsPath") (value_in (codes "ItemsPath") d) y (context_of f u)))
      ∙ ap (λ (g : Given). fork_over (selector_in d) (iteration_start (processor_in d)) f v y (items_by g))
      (taken_agrees (context_of f u) (context_of f v) (codes "ItemsPath") (value_in (codes "ItemsPath") d) y (member_agrees (context_of f u) (context_of f v) (codes "ItemsPath") d agree))
  fork_by_same (Err e) = refl

  pub fork_same : (x : Json) → fork_of d f u x ≡ fork_of d f v x
  fork_same x =
      fork_by_same (taken (codes "InputPath") (value_in (codes "InputPath") d) x (context_of f u))
      ∙ ap (fork_by (value_in (codes "ItemsPath") d) (selector_in d) (iteration_start (processor_in d)) f v)
      (taken_agrees (context_of f u) (context_of f v) (codes "InputPath") (value_in (codes "InputPath") d) x (member_agrees (context_of f u) (context_of f v) (codes "InputPath") d agree))
