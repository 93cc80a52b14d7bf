-- What the table of members has, and what it doesn't.
use Rattle.std.proofs.Common.{◌≡◌, ◌⊎◌, ℕ, zero, suc, Bool, true, false, ◌||◌, List, [], ◌∷◌, inl, inr, refl, sym, ap, subst, ◌∙◌}
use Rattle.std.specs.Prelude.{Option, Some, None, is_some, slice_get, if◌then◌else◌}
use Rattle.std.specs.Cmp.Lexicographic.{same_text}
use Rattle.asl_json.specs.Same.{bytes_eq}
use Rattle.asl_template.specs.Names.{name_before}
use Rattle.asl_def_schema.specs.declared.sort.Sort.{Sort}
use Rattle.asl_def_schema.specs.declared.sort.Sort.TheVariants as sort
use Rattle.asl_def_schema.specs.declared.sort.Kind.{Kind}
use Rattle.asl_def_schema.specs.declared.sort.Kind.TheVariants as kind
use Rattle.asl_def_schema.specs.Members.{Row, Group, Shape, shape_of, sort_at, sort_in, other_sort, item_sort, is_among, row_names, unsupported_names, kind_rows, definition_rows, machine_rows, item_processor_rows, processor_config_rows, untyped_rows, task_rows, pass_rows, choice_rows, wait_rows, parallel_rows, map_rows, succeed_rows, fail_rows, test_rows, inner_rule_rows, rule_rows, retrier_rows, catcher_rows}
use Rattle.asl_def_schema.specs.Claims.{is_object, is_template}
use Rattle.asl_def_fault_laws.specs.Faults.{One}

-- ---- all rows of the table

abbrev tables : List (List Row)
tables = definition_rows ∷ machine_rows ∷ item_processor_rows ∷ processor_config_rows ∷ untyped_rows ∷ rule_rows ∷ inner_rule_rows ∷ retrier_rows ∷ catcher_rows ∷ kind_rows kind.Task ∷ kind_rows kind.Pass ∷ kind_rows kind.Choice ∷ kind_rows kind.Wait ∷ kind_rows kind.Parallel ∷ kind_rows kind.Map ∷ kind_rows kind.Succeed ∷ kind_rows kind.Fail ∷ [] ∷ []

abbrev any_row : (Row → Bool) → List Row → Bool
any_row f [] = false
any_row f (r ∷ rs) = f r || any_row f rs

abbrev any_table : (Row → Bool) → List (List Row) → Bool
any_table f [] = false
any_table f (rs ∷ rss) = any_row f rs || any_table f rss

record IsTable (rs : List Row) : Type 0 where
  number : ℕ
  is : slice_get tables number ≡ Some rs

kind_table : (c : Kind) → IsTable (kind_rows c)
kind_table kind.Task = record { number = 9; is = refl }
kind_table kind.Pass = record { number = 10; is = refl }
kind_table kind.Choice = record { number = 11; is = refl }
kind_table kind.Wait = record { number = 12; is = refl }
kind_table kind.Parallel = record { number = 13; is = refl }
kind_table kind.Map = record { number = 14; is = refl }
kind_table kind.Succeed = record { number = 15; is = refl }
kind_table kind.Fail = record { number = 16; is = refl }

table_of : (s : Sort) (o : Option Kind) → IsTable (shape_of s o).rows
table_of sort.Definition o = record { number = 0; is = refl }
table_of sort.Machine o = record { number = 1; is = refl }
table_of sort.ItemProcessor o = record { number = 2; is = refl }
table_of sort.ProcessorConfig o = record { number = 3; is = refl }
table_of sort.State None = record { number = 4; is = refl }
table_of sort.State (Some c) = kind_table c
table_of sort.Rule o = record { number = 5; is = refl }
table_of sort.InnerRule o = record { number = 6; is = refl }
table_of sort.Retrier o = record { number = 7; is = refl }
table_of sort.Catcher o = record { number = 8; is = refl }
table_of s o = record { number = 17; is = refl }

neither_is : (a b : Bool) → (a || b) ≡ false → (a ≡ false) × (b ≡ false)
neither_is true b e = absurd cc
neither_is false b e = (refl, e)

-- a test that no row of the table passes
abbrev NoRow : (Row → Bool) → Type 0
NoRow f = any_table f tables ≡ false

no_row_at : (f : Row → Bool) (number : ℕ) (rss : List (List Row)) (rs : List Row) → any_table f rss ≡ false → slice_get rss number ≡ Some rs → any_row f rs ≡ false
no_row_at f number [] rs e is = absurd cc
no_row_at f zero (ts ∷ rss) rs e is =
    let same : ts ≡ rs = cc in
    subst (λ (us : List Row). any_row f us ≡ false) same (neither_is (any_row f ts) (any_table f rss) e).0
no_row_at f (suc n) (ts ∷ rss) rs e is = no_row_at f n rss rs (neither_is (any_row f ts) (any_table f rss) e).1 is

no_row : (f : Row → Bool) → NoRow f → (s : Sort) (o : Option Kind) → any_row f (shape_of s o).rows ≡ false
no_row f e s o = let t = table_of s o in no_row_at f t.number tables (shape_of s o).rows e t.is

-- ---- what no member is

abbrev by_sort : (Sort → Bool) → Row → Bool
by_sort f r = f r.sort

-- a test that no value of a member in no row passes
abbrev Fails : (Sort → Bool) → Type 0
Fails f = (f sort.Unsupported ≡ false) × (f sort.Unknown ≡ false) × (f sort.Computed ≡ false) × (f sort.Template ≡ false) × (f sort.Any ≡ false) × (f sort.State ≡ false)

row_not : (f : Sort → Bool) (rs : List Row) (others : Sort) (k : List ℕ) → any_row (by_sort f) rs ≡ false → f (other_sort others k) ≡ false → f (sort_in rs others k) ≡ false
row_not f [] others k e o = o
row_not f (r ∷ rs) others k e o = by (bytes_eq k r.name) (neither_is (f r.sort) (any_row (by_sort f) rs) e).0 (row_not f rs others k (neither_is (f r.sort) (any_row (by_sort f) rs) e).1 o)
  where
    by : (b : Bool) → f r.sort ≡ false → f (sort_in rs others k) ≡ false → f (if b then r.sort else sort_in rs others k) ≡ false
    by true g h = g
    by false g h = h

unknown_not : (f : Sort → Bool) (k : List ℕ) → Fails f → f (other_sort sort.Unknown k) ≡ false
unknown_not f k e = by (is_among k unsupported_names)
  where
    by : (b : Bool) → f (if b then sort.Unsupported else sort.Unknown) ≡ false
    by true = e.0
    by false = e.1

part_not : (f : Sort → Bool) (k : List ℕ) → Fails f → f (other_sort sort.Template k) ≡ false
part_not f k e = by (is_some (name_before k))
  where
    by : (b : Bool) → f (if b then sort.Computed else sort.Template) ≡ false
    by true = e.2
    by false = e.3

other_not : (f : Sort → Bool) → Fails f → (s : Sort) (o : Option Kind) (k : List ℕ) → f (other_sort (shape_of s o).others k) ≡ false
other_not f e sort.Definition o k = unknown_not f k e
other_not f e sort.Machine o k = unknown_not f k e
other_not f e sort.ItemProcessor o k = unknown_not f k e
other_not f e sort.ProcessorConfig o k = unknown_not f k e
other_not f e sort.States o k = e.5
other_not f e sort.State None k = e.4
other_not f e sort.State (Some c) k = unknown_not f k e
other_not f e sort.Rule o k = unknown_not f k e
other_not f e sort.InnerRule o k = unknown_not f k e
other_not f e sort.Retrier o k = unknown_not f k e
other_not f e sort.Catcher o k = unknown_not f k e
other_not f e sort.Template o k = part_not f k e
other_not f e s o k = e.4

member_not : (f : Sort → Bool) → Fails f → NoRow (by_sort f) → (s : Sort) (o : Option Kind) (k : List ℕ) → f (sort_at (shape_of s o) k) ≡ false
member_not f e n s o k = row_not f (shape_of s o).rows (shape_of s o).others k (no_row (by_sort f) n s o) (other_not f e s o k)

-- no member is a whole definition
abbrev pub is_definition : Sort → Bool
is_definition sort.Definition = true
is_definition s = false

pub definition_not : (s : Sort) (o : Option Kind) (k : List ℕ) → is_definition (sort_at (shape_of s o) k) ≡ false
unfolding definition_rows machine_rows item_processor_rows processor_config_rows untyped_rows task_rows pass_rows choice_rows wait_rows parallel_rows map_rows succeed_rows fail_rows rule_rows inner_rule_rows test_rows retrier_rows catcher_rows
definition_not s o k = member_not is_definition (refl, refl, refl, refl, refl, refl) refl s o k

pub no_list_of_definitions : (s : Sort) → is_definition (item_sort s) ≡ false
no_list_of_definitions sort.Definition = refl
no_list_of_definitions s = refl

-- ---- names of errors

abbrev pub is_policy : Sort → Bool
is_policy sort.Retrier = true
is_policy sort.Catcher = true
is_policy s = false

abbrev pub is_names : Sort → Bool
is_names sort.ErrorNames = true
is_names s = false

-- no member is a retrier or a catcher
pub policy_not : (s : Sort) (o : Option Kind) (k : List ℕ) → is_policy (sort_at (shape_of s o) k) ≡ false
unfolding definition_rows machine_rows item_processor_rows processor_config_rows untyped_rows task_rows pass_rows choice_rows wait_rows parallel_rows map_rows succeed_rows fail_rows rule_rows inner_rule_rows test_rows retrier_rows catcher_rows
policy_not s o k = member_not is_policy (refl, refl, refl, refl, refl, refl) refl s o k

names_rows : (s : Sort) (o : Option Kind) → is_policy s ≡ false → any_row (by_sort is_names) (shape_of s o).rows ≡ false
unfolding definition_rows machine_rows item_processor_rows processor_config_rows untyped_rows task_rows pass_rows choice_rows wait_rows parallel_rows map_rows succeed_rows fail_rows rule_rows inner_rule_rows test_rows retrier_rows catcher_rows
names_rows sort.Definition o e = refl
names_rows sort.Machine o e = refl
names_rows sort.ItemProcessor o e = refl
names_rows sort.ProcessorConfig o e = refl
names_rows sort.State None e = refl
names_rows sort.State (Some kind.Task) e = refl
names_rows sort.State (Some kind.Pass) e = refl
names_rows sort.State (Some kind.Choice) e = refl
names_rows sort.State (Some kind.Wait) e = refl
names_rows sort.State (Some kind.Parallel) e = refl
names_rows sort.State (Some kind.Map) e = refl
names_rows sort.State (Some kind.Succeed) e = refl
names_rows sort.State (Some kind.Fail) e = refl
names_rows sort.Rule o e = refl
names_rows sort.InnerRule o e = refl
names_rows sort.Retrier o e = absurd cc
names_rows sort.Catcher o e = absurd cc
names_rows s o e = refl

-- only members of these are names of errors
pub names_not : (s : Sort) (o : Option Kind) (k : List ℕ) → is_policy s ≡ false → is_names (sort_at (shape_of s o) k) ≡ false
names_not s o k e = row_not is_names (shape_of s o).rows (shape_of s o).others k (names_rows s o e) (other_not is_names (refl, refl, refl, refl, refl, refl) s o k)

pub policy_list : (s : Sort) → is_policy (item_sort s) ≡ true → (s ≡ sort.Retriers) ⊎ (s ≡ sort.Catchers)
policy_list sort.Retriers e = inl refl
policy_list sort.Catchers e = inr refl
policy_list s e = absurd cc

pub no_list_of_names : (s : Sort) → is_names (item_sort s) ≡ false
no_list_of_names sort.ErrorNames = refl
no_list_of_names s = refl

-- ---- states

abbrev pub is_state : Sort → Bool
is_state sort.State = true
is_state s = false

pub no_list_of_states : (s : Sort) → is_state (item_sort s) ≡ false
no_list_of_states sort.ErrorNames = refl
no_list_of_states s = refl

-- ---- members that the table doesn't have

abbrev pub is_unknown : Sort → Bool
is_unknown sort.Unknown = true
is_unknown s = false

abbrev pub is_unsupported : Sort → Bool
is_unsupported sort.Unsupported = true
is_unsupported s = false

pub no_list_of_unknown : (s : Sort) → is_unknown (item_sort s) ≡ false
no_list_of_unknown sort.ErrorNames = refl
no_list_of_unknown s = refl

pub no_list_of_unsupported : (s : Sort) → is_unsupported (item_sort s) ≡ false
no_list_of_unsupported sort.ErrorNames = refl
no_list_of_unsupported s = refl

unknown_rows : NoRow (by_sort is_unknown)
unfolding definition_rows machine_rows item_processor_rows processor_config_rows untyped_rows task_rows pass_rows choice_rows wait_rows parallel_rows map_rows succeed_rows fail_rows rule_rows inner_rule_rows test_rows retrier_rows catcher_rows
unknown_rows = refl

unsupported_rows : NoRow (by_sort is_unsupported)
unfolding definition_rows machine_rows item_processor_rows processor_config_rows untyped_rows task_rows pass_rows choice_rows wait_rows parallel_rows map_rows succeed_rows fail_rows rule_rows inner_rule_rows test_rows retrier_rows catcher_rows
unsupported_rows = refl

-- whether a row has a name of what isn't supported
abbrev names_unsupported : Row → Bool
names_unsupported r = is_among r.name unsupported_names

no_row_unsupported : NoRow names_unsupported
unfolding unsupported_names definition_rows machine_rows item_processor_rows processor_config_rows untyped_rows task_rows pass_rows choice_rows wait_rows parallel_rows map_rows succeed_rows fail_rows rule_rows inner_rule_rows test_rows retrier_rows catcher_rows
no_row_unsupported = refl

-- a member whose sort no row has is in no row
in_no_row : (f : Sort → Bool) (rs : List Row) (others : Sort) (k : List ℕ) → any_row (by_sort f) rs ≡ false → f (sort_in rs others k) ≡ true → (is_among k (row_names rs) ≡ false) × (sort_in rs others k ≡ other_sort others k)
in_no_row f [] others k e h = (refl, refl)
in_no_row f (r ∷ rs) others k e h = by (bytes_eq k r.name) (neither_is (f r.sort) (any_row (by_sort f) rs) e).0 (in_no_row f rs others k (neither_is (f r.sort) (any_row (by_sort f) rs) e).1) h
  where
    by : (b : Bool) → f r.sort ≡ false → (f (sort_in rs others k) ≡ true → (is_among k (row_names rs) ≡ false) × (sort_in rs others k ≡ other_sort others k)) → f (if b then r.sort else sort_in rs others k) ≡ true → ((b || is_among k (row_names rs)) ≡ false) × ((if b then r.sort else sort_in rs others k) ≡ other_sort others k)
    by true g further h = absurd (let u : false ≡ true = sym g ∙ h in cc)
    by false g further h = further h

out_of_rows : (rs : List Row) (others : Sort) (k : List ℕ) → is_among k (row_names rs) ≡ false → sort_in rs others k ≡ other_sort others k
out_of_rows [] others k e = refl
out_of_rows (r ∷ rs) others k e = by (bytes_eq k r.name) (out_of_rows rs others k) e
  where
    by : (b : Bool) → (is_among k (row_names rs) ≡ false → sort_in rs others k ≡ other_sort others k) → (b || is_among k (row_names rs)) ≡ false → (if b then r.sort else sort_in rs others k) ≡ other_sort others k
    by true further e = absurd cc
    by false further e = further e

free_of : (rs : List Row) (k : List ℕ) → any_row names_unsupported rs ≡ false → is_among k unsupported_names ≡ true → is_among k (row_names rs) ≡ false
free_of [] k e h = refl
free_of (r ∷ rs) k e h = by (bytes_eq k r.name) refl (neither_is (names_unsupported r) (any_row names_unsupported rs) e).0 (free_of rs k (neither_is (names_unsupported r) (any_row names_unsupported rs) e).1 h)
  where
    by : (b : Bool) → bytes_eq k r.name ≡ b → is_among r.name unsupported_names ≡ false → is_among k (row_names rs) ≡ false → (b || is_among k (row_names rs)) ≡ false
    by true same g further =
        let name : k ≡ r.name = same_text k r.name (sym same) in
        absurd (let u : false ≡ true = sym g ∙ subst (λ (l : List ℕ). is_among l unsupported_names ≡ true) name h in cc)
    by false same g further = further

other_unknown : (others : Sort) (k : List ℕ) → is_unknown (other_sort others k) ≡ true → (others ≡ sort.Unknown) × (is_among k unsupported_names ≡ false)
other_unknown sort.Unknown k h = (refl, by (is_among k unsupported_names) h)
  where
    by : (b : Bool) → is_unknown (if b then sort.Unsupported else sort.Unknown) ≡ true → b ≡ false
    by true e = absurd cc
    by false e = refl
other_unknown sort.Template k h = absurd (by (is_some (name_before k)) h)
  where
    by : (b : Bool) → is_unknown (if b then sort.Computed else sort.Template) ≡ true → ⊥
    by true e = absurd cc
    by false e = absurd cc
other_unknown s k h = absurd cc

other_unsupported : (others : Sort) (k : List ℕ) → is_unsupported others ≡ false → is_unsupported (other_sort others k) ≡ true → (others ≡ sort.Unknown) × (is_among k unsupported_names ≡ true)
other_unsupported sort.Unknown k n h = (refl, by (is_among k unsupported_names) h)
  where
    by : (b : Bool) → is_unsupported (if b then sort.Unsupported else sort.Unknown) ≡ true → b ≡ true
    by true e = refl
    by false e = absurd cc
other_unsupported sort.Template k n h = absurd (by (is_some (name_before k)) h)
  where
    by : (b : Bool) → is_unsupported (if b then sort.Computed else sort.Template) ≡ true → ⊥
    by true e = absurd cc
    by false e = absurd cc
other_unsupported s k n h = absurd cc

others_supported : (s : Sort) (o : Option Kind) → is_unsupported (shape_of s o).others ≡ false
others_supported sort.State None = refl
others_supported sort.State (Some c) = refl
others_supported s o = refl

-- a member of a closed object that stands in no row
pub record IsFree (sh : Shape) (k : List ℕ) (unsupported : Bool) : Type 0 where
  pub closed : sh.others ≡ sort.Unknown
  pub in_no_row : is_among k (row_names sh.rows) ≡ false
  pub named : is_among k unsupported_names ≡ unsupported

pub unknown_out : (s : Sort) (o : Option Kind) (k : List ℕ) → is_unknown (sort_at (shape_of s o) k) ≡ true → IsFree (shape_of s o) k false
unknown_out s o k h =
    let r = in_no_row is_unknown (shape_of s o).rows (shape_of s o).others k (no_row (by_sort is_unknown) unknown_rows s o) h in
    let q = other_unknown (shape_of s o).others k (ap is_unknown (sym r.1) ∙ h) in
    record { closed = q.0; in_no_row = r.0; named = q.1 }

pub unsupported_out : (s : Sort) (o : Option Kind) (k : List ℕ) → is_unsupported (sort_at (shape_of s o) k) ≡ true → IsFree (shape_of s o) k true
unsupported_out s o k h =
    let r = in_no_row is_unsupported (shape_of s o).rows (shape_of s o).others k (no_row (by_sort is_unsupported) unsupported_rows s o) h in
    let q = other_unsupported (shape_of s o).others k (others_supported s o) (ap is_unsupported (sym r.1) ∙ h) in
    record { closed = q.0; in_no_row = r.0; named = q.1 }

pub unknown_in : (sh : Shape) (k : List ℕ) → IsFree sh k false → sort_at sh k ≡ sort.Unknown
unknown_in sh k f = out_of_rows sh.rows sh.others k f.in_no_row ∙ ap (λ (s : Sort). other_sort s k) f.closed ∙ ap (λ (b : Bool). if b then sort.Unsupported else sort.Unknown) f.named

pub unsupported_in : (s : Sort) (o : Option Kind) (k : List ℕ) → (shape_of s o).others ≡ sort.Unknown → is_among k unsupported_names ≡ true → sort_at (shape_of s o) k ≡ sort.Unsupported
unsupported_in s o k e h =
    let free = free_of (shape_of s o).rows k (no_row names_unsupported no_row_unsupported s o) h in
    out_of_rows (shape_of s o).rows (shape_of s o).others k free ∙ ap (λ (u : Sort). other_sort u k) e ∙ ap (λ (b : Bool). if b then sort.Unsupported else sort.Unknown) h

-- ---- which objects the table speaks of

abbrev nothing_told : Shape
nothing_told = record { rows = []; others = sort.Any; groups = [] }

searched_or : (s : Sort) (o : Option Kind) → (is_object s ≡ true) ⊎ (shape_of s o ≡ nothing_told)
searched_or sort.Definition o = inl refl
searched_or sort.Machine o = inl refl
searched_or sort.ItemProcessor o = inl refl
searched_or sort.ProcessorConfig o = inl refl
searched_or sort.States o = inl refl
searched_or sort.State o = inl refl
searched_or sort.Rule o = inl refl
searched_or sort.InnerRule o = inl refl
searched_or sort.Retrier o = inl refl
searched_or sort.Catcher o = inl refl
searched_or sort.Template o = inl refl
searched_or s o = inr refl

-- an object of which the table says something is searched
searched : (s : Sort) (o : Option Kind) → (shape_of s o ≡ nothing_told → ⊥) → is_object s ≡ true
searched s o h = by (searched_or s o)
  where
    by : (is_object s ≡ true) ⊎ (shape_of s o ≡ nothing_told) → is_object s ≡ true
    by (inl e) = e
    by (inr e) = absurd (h e)

pub by_row : (s : Sort) (o : Option Kind) (number : ℕ) (row : Row) → slice_get (shape_of s o).rows number ≡ Some row → is_object s ≡ true
by_row s o number row e = searched s o (λ f. absurd (let g : None ≡ Some row = ap (λ (sh : Shape). slice_get sh.rows number) (sym f) ∙ e in cc))

pub by_others : (s : Sort) (o : Option Kind) → (shape_of s o).others ≡ sort.Unknown → is_object s ≡ true
by_others s o e = searched s o (λ f. absurd (let g : true ≡ false = ap is_unknown (sym e) ∙ ap (λ (sh : Shape). is_unknown sh.others) f in cc))

pub by_groups : (P : Group → Type 0) (s : Sort) (o : Option Kind) → One P (shape_of s o).groups → is_object s ≡ true
by_groups P s o h = searched s o (λ f. subst (λ (sh : Shape). One P sh.groups) f h)

pub by_template : (s : Sort) (o : Option Kind) → (shape_of s o).others ≡ sort.Template → is_object s ≡ true
by_template s o e = searched s o (λ f. absurd (let g : true ≡ false = ap is_template (sym e) ∙ ap (λ (sh : Shape). is_template sh.others) f in cc))
