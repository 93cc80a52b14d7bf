-- The table of members, as far as the canonical form needs it.
use Rattle.std.proofs.Common.{◌≡◌, ℕ, List, [], ◌∷◌, Bool, true, false, ◌||◌, ◌&&◌, not, inl, inr, refl, sym, subst}
use Rattle.std.specs.Prelude.{Option, Some, None, codes}
use Rattle.std.specs.Cmp.Lexicographic.{same_text}
use Rattle.asl_json.specs.Same.{bytes_eq}
use Rattle.asl_def_schema.specs.declared.sort.Sort.{Sort}
use Rattle.asl_def_schema.specs.declared.sort.Sort.TheVariants as sort
use Rattle.asl_def_schema.specs.declared.sort.Kind.{Kind}
use Rattle.asl_def_schema.specs.declared.sort.Kind.TheVariants as kind
use Rattle.asl_def_schema.specs.Members.{Row, Group, shape_of, is_among, operators, untyped_rows, definition_rows, machine_rows, item_processor_rows, processor_config_rows, task_rows, pass_rows, choice_rows, wait_rows, parallel_rows, map_rows, succeed_rows, fail_rows, test_rows, inner_rule_rows, rule_rows, retrier_rows, catcher_rows}
use Rattle.asl_def_schema.proofs.Deciding.{IsGroup}
use Rattle.asl_def_canonical_laws.proofs.Twice.{is_row}
use Rattle.asl_def_canonical_laws.proofs.Amounts.{both_are}

-- ---- each name of a group has a row

abbrev names_rows : List (List ℕ) → List Row → Bool
names_rows [] rs = true
names_rows (k ∷ ks) rs = is_row k rs && names_rows ks rs

abbrev groups_rows : List Group → List Row → Bool
groups_rows [] rs = true
groups_rows (g ∷ gs) rs = names_rows g.names rs && groups_rows gs rs

-- ---- no End is needed

abbrev none_of : List (List ℕ) → Bool
none_of [] = true
none_of (k ∷ ks) = false

abbrev pub row_stays : Row → Bool
row_stays r = not (bytes_eq r.name (codes "End")) || (not r.required && none_of r.users)

abbrev pub rows_stay : List Row → Bool
rows_stay [] = true
rows_stay (r ∷ rs) = row_stays r && rows_stay rs

shape_grouped : (s : Sort) (o : Option Kind) → groups_rows (shape_of s o).groups (shape_of s o).rows ≡ true
unfolding operators untyped_rows definition_rows machine_rows item_processor_rows processor_config_rows task_rows pass_rows choice_rows wait_rows parallel_rows map_rows succeed_rows fail_rows test_rows inner_rule_rows rule_rows retrier_rows catcher_rows
shape_grouped sort.State None = refl
shape_grouped sort.State (Some kind.Task) = refl
shape_grouped sort.State (Some kind.Pass) = refl
shape_grouped sort.State (Some kind.Choice) = refl
shape_grouped sort.State (Some kind.Wait) = refl
shape_grouped sort.State (Some kind.Parallel) = refl
shape_grouped sort.State (Some kind.Map) = refl
shape_grouped sort.State (Some kind.Succeed) = refl
shape_grouped sort.State (Some kind.Fail) = refl
shape_grouped s o = refl

pub shape_stays : (s : Sort) (o : Option Kind) → rows_stay (shape_of s o).rows ≡ true
unfolding operators untyped_rows definition_rows machine_rows item_processor_rows processor_config_rows task_rows pass_rows choice_rows wait_rows parallel_rows map_rows succeed_rows fail_rows test_rows inner_rule_rows rule_rows retrier_rows catcher_rows
shape_stays sort.State None = refl
shape_stays sort.State (Some kind.Task) = refl
shape_stays sort.State (Some kind.Pass) = refl
shape_stays sort.State (Some kind.Choice) = refl
shape_stays sort.State (Some kind.Wait) = refl
shape_stays sort.State (Some kind.Parallel) = refl
shape_stays sort.State (Some kind.Map) = refl
shape_stays sort.State (Some kind.Succeed) = refl
shape_stays sort.State (Some kind.Fail) = refl
shape_stays s o = refl

name_row : (ks : List (List ℕ)) (rs : List Row) (k : List ℕ) → names_rows ks rs ≡ true → is_among k ks ≡ true → is_row k rs ≡ true
name_row [] rs k e h = absurd cc
name_row (l ∷ ks) rs k e h = by (bytes_eq k l) refl (both_are (is_row l rs) (names_rows ks rs) e).0 (λ f. name_row ks rs k (both_are (is_row l rs) (names_rows ks rs) e).1 f)
  where
    by : (b : Bool) → bytes_eq k l ≡ b → is_row l rs ≡ true → (is_among k ks ≡ true → is_row k rs ≡ true) → is_row k rs ≡ true
    by true p there rest = subst (λ (x : List ℕ). is_row x rs ≡ true) (sym (same_text k l (sym p))) there
    by false p there rest = rest (rw p at h)

groups_row : (gs : List Group) (rs : List Row) (g : Group) (k : List ℕ) → groups_rows gs rs ≡ true → IsGroup g gs → is_among k g.names ≡ true → is_row k rs ≡ true
groups_row [] rs g k e at h = absurd at
groups_row (x ∷ gs) rs g k e (inl same) h = name_row x.names rs k (both_are (names_rows x.names rs) (groups_rows gs rs) e).0 (subst (λ (y : Group). is_among k y.names ≡ true) same h)
groups_row (x ∷ gs) rs g k e (inr at) h = groups_row gs rs g k (both_are (names_rows x.names rs) (groups_rows gs rs) e).1 at h

pub group_row : (s : Sort) (o : Option Kind) (g : Group) (k : List ℕ) → IsGroup g (shape_of s o).groups → is_among k g.names ≡ true → is_row k (shape_of s o).rows ≡ true
group_row s o g k at h = groups_row (shape_of s o).groups (shape_of s o).rows g k (shape_grouped s o) at h
