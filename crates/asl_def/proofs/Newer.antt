-- The newer spelling, member by member.
use Rattle.std.proofs.Common.{◌≡◌, ℕ, List, [], ◌∷◌, Bool, true, false, ◌&&◌, not, ◌⊎◌, inl, inr, refl, sym, ap, ◌∙◌, subst}
use Rattle.std.specs.Prelude.{Option, Some, None, option_map, codes, if◌then◌else◌}
use Rattle.std.specs.Cmp.Lexicographic.{same_text}
use Rattle.asl_json_data.specs.Data.{Data, null, boolean, number, text, list, dict, Chain, no_items, item, Pairs, no_members, member}
use Rattle.asl_json.specs.Same.{bytes_eq}
use Rattle.asl_json.specs.Meaning.{value_at}
use Rattle.asl_def_schema.specs.declared.sort.Sort.{Sort}
use Rattle.asl_def_schema.specs.declared.sort.Sort.TheVariants as sort
use Rattle.asl_def_schema.specs.declared.sort.Kind.{Kind}
use Rattle.asl_def_schema.specs.declared.sort.Kind.TheVariants as kind
use Rattle.asl_def_schema.specs.Members.{Row, Shape, known_shape, sort_in, sort_at, shape_in, other_sort, item_sort, state_shape, kind_named, is_among, unsupported_names, machine_rows, item_processor_rows, untyped_rows, task_rows, pass_rows, choice_rows, wait_rows, map_rows, succeed_rows, fail_rows}
use Rattle.asl_def_schema.proofs.Deciding.{neither_is}
use Rattle.asl_def_canonical_laws.proofs.Amounts.{both_are}
use Rattle.asl_def.specs.Machines.{holds_states}
use Rattle.asl_def.specs.Upgraded.{newer, renamed, names_map, map_in, newer_value, newer_items, newer_members}

-- ---- names

-- what holds of the two names that change, and of each that stays
pub by_name : (P : List ℕ → List ℕ → Type 0) → P (codes "Iterator") (codes "ItemProcessor") → P (codes "Parameters") (codes "ItemSelector") → ((l : List ℕ) → bytes_eq l (codes "Iterator") ≡ false → bytes_eq l (codes "Parameters") ≡ false → P l l) → (k : List ℕ) → P k (newer k)
by_name P older first other k = which (bytes_eq k (codes "Iterator")) (bytes_eq k (codes "Parameters")) refl refl
  where
    which : (x y : Bool) → bytes_eq k (codes "Iterator") ≡ x → bytes_eq k (codes "Parameters") ≡ y → P k (if x then codes "ItemProcessor" else if y then codes "ItemSelector" else k)
    which true y p q = subst (λ (l : List ℕ). P l (codes "ItemProcessor")) (sym (same_text k (codes "Iterator") (sym p))) older
    which false true p q = subst (λ (l : List ℕ). P l (codes "ItemSelector")) (sym (same_text k (codes "Parameters") (sym q))) first
    which false false p q = other k p q

abbrev pub spellings : List (List ℕ)
spellings = codes "Iterator" ∷ codes "ItemProcessor" ∷ codes "Parameters" ∷ codes "ItemSelector" ∷ []

-- a name that isn't changed, and that none is changed to
abbrev pub IsOther : Bool → List ℕ → Type 0
IsOther b k = (b && is_among k spellings) ≡ false

pub other_name : (b : Bool) (k l : List ℕ) → IsOther b k → bytes_eq k (renamed b l) ≡ bytes_eq k l
other_name false k l h = refl
other_name true k l h =
    let one = neither_is (bytes_eq k (codes "Iterator")) (is_among k (codes "ItemProcessor" ∷ codes "Parameters" ∷ codes "ItemSelector" ∷ [])) h in
    let two = neither_is (bytes_eq k (codes "ItemProcessor")) (is_among k (codes "Parameters" ∷ codes "ItemSelector" ∷ [])) one.1 in
    let three = neither_is (bytes_eq k (codes "Parameters")) (is_among k (codes "ItemSelector" ∷ [])) two.1 in
    let four = neither_is (bytes_eq k (codes "ItemSelector")) false three.1 in
    by_name (λ (m n : List ℕ). bytes_eq k n ≡ bytes_eq k m) (two.0 ∙ sym one.0) (four.0 ∙ sym three.0) (λ m p q. refl) l

pub newer_stays : (k : List ℕ) → newer (newer k) ≡ newer k
newer_stays k = by_name (λ (m n : List ℕ). newer n ≡ n) refl refl (λ m p q. same m (bytes_eq m (codes "Iterator")) (bytes_eq m (codes "Parameters")) p q) k
  where
    same : (m : List ℕ) (a c : Bool) → a ≡ false → c ≡ false → (if a then codes "ItemProcessor" else if c then codes "ItemSelector" else m) ≡ m
    same m true c p q = absurd cc
    same m false true p q = absurd cc
    same m false false p q = refl

pub renamed_stays : (b : Bool) (k : List ℕ) → renamed b (renamed b k) ≡ renamed b k
renamed_stays true k = newer_stays k
renamed_stays false k = refl

-- ---- values that hold no states

pub newer_leaf : (s : Sort) (d : Data) → holds_states s ≡ false → newer_value s d ≡ d
newer_leaf s null e = refl
newer_leaf s (boolean b) e = refl
newer_leaf s (number n) e = refl
newer_leaf s (text t) e = refl
newer_leaf s (list ds) e = rw e refl
newer_leaf s (dict ms) e = rw e refl

pub newer_option : (s : Sort) (o : Option Data) → holds_states s ≡ false → option_map (newer_value s) o ≡ o
newer_option s None e = refl
newer_option s (Some d) e = ap (λ (x : Data). Some x) (newer_leaf s d e)

pub items_leaf : (s : Sort) (ds : Chain) → holds_states s ≡ false → newer_items s ds ≡ ds
items_leaf s no_items e = refl
items_leaf s (item d ds) e = λ i. item (newer_leaf s d e i) (items_leaf s ds e i)

pub members_leaf : (sh : Shape) (ms : Pairs) → ((k : List ℕ) → holds_states (sort_at sh k) ≡ false) → newer_members false sh ms ≡ ms
members_leaf sh no_members e = refl
members_leaf sh (member k d ms) e = λ i. member k (newer_leaf (sort_at sh k) d (e k) i) (members_leaf sh ms e i)

-- values that hold states

pub open_list : (s : Sort) (ds : Chain) → holds_states s ≡ true → newer_value s (list ds) ≡ list (newer_items (item_sort s) ds)
open_list s ds e = rw e refl

pub open_dict : (s : Sort) (ms : Pairs) → holds_states s ≡ true → newer_value s (dict ms) ≡ dict (newer_members (map_in s ms) (shape_in s ms) ms)
open_dict s ms e = rw e refl

-- ---- members

pub value_at-newer : (b : Bool) (k : List ℕ) (sh : Shape) (ms : Pairs) → IsOther b k → value_at k (newer_members b sh ms) ≡ option_map (newer_value (sort_at sh k)) (value_at k ms)
value_at-newer b k sh no_members h = refl
value_at-newer b k sh (member l d ms) h =
    ap (λ (x : Bool). if x then Some (newer_value (sort_at sh l) d) else value_at k (newer_members b sh ms)) (other_name b k l h)
    ∙ by (bytes_eq k l) refl (value_at-newer b k sh ms h)
  where
    by : (a : Bool) → bytes_eq k l ≡ a → value_at k (newer_members b sh ms) ≡ option_map (newer_value (sort_at sh k)) (value_at k ms) → (if a then Some (newer_value (sort_at sh l) d) else value_at k (newer_members b sh ms)) ≡ option_map (newer_value (sort_at sh k)) (if a then Some d else value_at k ms)
    by true e rest = ap (λ (x : List ℕ). Some (newer_value (sort_at sh x) d)) (sym (same_text k l (sym e)))
    by false e rest = rest

-- a member that holds no states
pub member_same : (b : Bool) (k : List ℕ) (sh : Shape) (ms : Pairs) → IsOther b k → holds_states (sort_at sh k) ≡ false → value_at k (newer_members b sh ms) ≡ value_at k ms
member_same b k sh ms h e = value_at-newer b k sh ms h ∙ newer_option (sort_at sh k) (value_at k ms) e

-- ---- the type of a state stays

type_leaf : (o : Option Kind) → holds_states (sort_at (state_shape o) (codes "Type")) ≡ false
unfolding untyped_rows
type_leaf None = refl
type_leaf (Some kind.Task) = refl
type_leaf (Some kind.Pass) = refl
type_leaf (Some kind.Choice) = refl
type_leaf (Some kind.Wait) = refl
type_leaf (Some kind.Parallel) = refl
type_leaf (Some kind.Map) = refl
type_leaf (Some kind.Succeed) = refl
type_leaf (Some kind.Fail) = refl

type_other : (b : Bool) → IsOther b (codes "Type")
type_other true = refl
type_other false = refl

pub type_newer : (b : Bool) (o : Option Kind) (ms : Pairs) → value_at (codes "Type") (newer_members b (state_shape o) ms) ≡ value_at (codes "Type") ms
type_newer b o ms = member_same b (codes "Type") (state_shape o) ms (type_other b) (type_leaf o)

abbrev pub inside : Sort → Pairs → Pairs
inside s ms = newer_members (map_in s ms) (shape_in s ms) ms

pub kind_newer : (ms : Pairs) → kind_named (value_at (codes "Type") (inside sort.State ms)) ≡ kind_named (value_at (codes "Type") ms)
kind_newer ms = ap kind_named (type_newer (map_in sort.State ms) (kind_named (value_at (codes "Type") ms)) ms)

-- ---- machines under the one name or the other

abbrev pub machine_shape : Shape
machine_shape = known_shape machine_rows []

abbrev pub processor_shape : Shape
processor_shape = known_shape item_processor_rows []

-- their members are of the same sorts, but for one that holds no states
pub sorts_inside : (k : List ℕ) → (sort_at machine_shape k ≡ sort_at processor_shape k) ⊎ (bytes_eq k (codes "ProcessorConfig") ≡ true)
unfolding machine_rows item_processor_rows
sorts_inside k = by (bytes_eq k (codes "ProcessorConfig")) refl
  where
    rest : Sort
    rest = if bytes_eq k (codes "StartAt") then sort.Target else if bytes_eq k (codes "States") then sort.States else other_sort sort.Unknown k

    by : (b : Bool) → bytes_eq k (codes "ProcessorConfig") ≡ b → (sort_at machine_shape k ≡ sort_at processor_shape k) ⊎ (bytes_eq k (codes "ProcessorConfig") ≡ true)
    by true e = inr e
    by false e = inl (ap (λ (x : Bool). if bytes_eq k (codes "Comment") then sort.Text else if x then sort.ProcessorConfig else rest) (sym e))

pub unknown_leaf : (k : List ℕ) → holds_states (other_sort sort.Unknown k) ≡ false
unknown_leaf k = by (is_among k unsupported_names)
  where
    by : (b : Bool) → holds_states (if b then sort.Unsupported else sort.Unknown) ≡ false
    by true = refl
    by false = refl

machine_leaf : (k : List ℕ) → bytes_eq k (codes "ProcessorConfig") ≡ true → holds_states (sort_at machine_shape k) ≡ false
unfolding machine_rows
machine_leaf k e = subst (λ (l : List ℕ). holds_states (sort_at machine_shape l) ≡ false) (sym (same_text k (codes "ProcessorConfig") (sym e))) (unknown_leaf (codes "ProcessorConfig"))

processor_leaf : (k : List ℕ) → bytes_eq k (codes "ProcessorConfig") ≡ true → holds_states (sort_at processor_shape k) ≡ false
unfolding item_processor_rows
processor_leaf k e = subst (λ (l : List ℕ). holds_states (sort_at processor_shape l) ≡ false) (sym (same_text k (codes "ProcessorConfig") (sym e))) refl

-- what doesn't see other values is the same of both
pub alike_inside : {A : Type 0} (f : Sort → A) (k : List ℕ) → ((s t : Sort) → holds_states s ≡ false → holds_states t ≡ false → f s ≡ f t) → f (sort_at machine_shape k) ≡ f (sort_at processor_shape k)
alike_inside f k quiet = by (sorts_inside k)
  where
    by : (sort_at machine_shape k ≡ sort_at processor_shape k) ⊎ (bytes_eq k (codes "ProcessorConfig") ≡ true) → f (sort_at machine_shape k) ≡ f (sort_at processor_shape k)
    by (inl e) = ap f e
    by (inr e) = quiet (sort_at machine_shape k) (sort_at processor_shape k) (machine_leaf k e) (processor_leaf k e)

machine_members : (ms : Pairs) → newer_members false machine_shape ms ≡ newer_members false processor_shape ms
machine_members no_members = refl
machine_members (member k d ms) =
    let same : newer_value (sort_at machine_shape k) d ≡ newer_value (sort_at processor_shape k) d = alike_inside (λ (s : Sort). newer_value s d) k (λ s t p q. newer_leaf s d p ∙ sym (newer_leaf t d q)) in
    λ i. member k (same i) (machine_members ms i)

pub machine_same : (d : Data) → newer_value sort.Machine d ≡ newer_value sort.ItemProcessor d
machine_same null = refl
machine_same (boolean b) = refl
machine_same (number n) = refl
machine_same (text t) = refl
machine_same (list ds) = refl
machine_same (dict ms) = ap (λ (x : Pairs). dict x) (machine_members ms)

-- ---- states

abbrev pub map_shape : Shape
map_shape = state_shape (Some kind.Map)

-- the types whose states hold machines
abbrev pub forks : Option Kind → Bool
forks (Some kind.Parallel) = true
forks (Some kind.Map) = true
forks o = false

abbrev rows_leaf : List Row → Bool
rows_leaf [] = true
rows_leaf (r ∷ rs) = not (holds_states r.sort) && rows_leaf rs

not_held : (b : Bool) → not b ≡ true → b ≡ false
not_held true e = absurd cc
not_held false e = refl

sort_leaf : (rs : List Row) (s : Sort) (k : List ℕ) → rows_leaf rs ≡ true → holds_states (other_sort s k) ≡ false → holds_states (sort_in rs s k) ≡ false
sort_leaf [] s k e h = h
sort_leaf (r ∷ rs) s k e h =
    let both = both_are (not (holds_states r.sort)) (rows_leaf rs) e in
    by (bytes_eq k r.name) (not_held (holds_states r.sort) both.0) (sort_leaf rs s k both.1 h)
  where
    by : (b : Bool) → holds_states r.sort ≡ false → holds_states (sort_in rs s k) ≡ false → holds_states (if b then r.sort else sort_in rs s k) ≡ false
    by true p q = p
    by false p q = q

pub unforked_leaf : (o : Option Kind) → forks o ≡ false → (k : List ℕ) → holds_states (sort_at (state_shape o) k) ≡ false
unfolding untyped_rows task_rows pass_rows choice_rows wait_rows succeed_rows fail_rows
unforked_leaf None e k = sort_leaf (state_shape None).rows sort.Any k refl refl
unforked_leaf (Some kind.Task) e k = sort_leaf (state_shape (Some kind.Task)).rows sort.Unknown k refl (unknown_leaf k)
unforked_leaf (Some kind.Pass) e k = sort_leaf (state_shape (Some kind.Pass)).rows sort.Unknown k refl (unknown_leaf k)
unforked_leaf (Some kind.Choice) e k = sort_leaf (state_shape (Some kind.Choice)).rows sort.Unknown k refl (unknown_leaf k)
unforked_leaf (Some kind.Wait) e k = sort_leaf (state_shape (Some kind.Wait)).rows sort.Unknown k refl (unknown_leaf k)
unforked_leaf (Some kind.Succeed) e k = sort_leaf (state_shape (Some kind.Succeed)).rows sort.Unknown k refl (unknown_leaf k)
unforked_leaf (Some kind.Fail) e k = sort_leaf (state_shape (Some kind.Fail)).rows sort.Unknown k refl (unknown_leaf k)
unforked_leaf (Some kind.Parallel) e k = absurd cc
unforked_leaf (Some kind.Map) e k = absurd cc

unforked_map : (o : Option Kind) → forks o ≡ false → names_map o ≡ false
unforked_map None e = refl
unforked_map (Some kind.Task) e = refl
unforked_map (Some kind.Pass) e = refl
unforked_map (Some kind.Choice) e = refl
unforked_map (Some kind.Wait) e = refl
unforked_map (Some kind.Succeed) e = refl
unforked_map (Some kind.Fail) e = refl
unforked_map (Some kind.Parallel) e = refl
unforked_map (Some kind.Map) e = absurd cc

-- by the type that a state names
pub state_newer : (ms : Pairs) (o : Option Kind) → kind_named (value_at (codes "Type") ms) ≡ o → newer_value sort.State (dict ms) ≡ dict (newer_members (names_map o) (state_shape o) ms)
state_newer ms o e = ap (λ (x : Option Kind). dict (newer_members (names_map x) (state_shape x) ms)) e

pub state_same : (ms : Pairs) (o : Option Kind) → kind_named (value_at (codes "Type") ms) ≡ o → forks o ≡ false → newer_value sort.State (dict ms) ≡ dict ms
state_same ms o e h =
    state_newer ms o e
    ∙ ap (λ (b : Bool). dict (newer_members b (state_shape o) ms)) (unforked_map o h)
    ∙ ap (λ (x : Pairs). dict x) (members_leaf (state_shape o) ms (unforked_leaf o h))

-- a renamed member is of a sort by which values are spelled alike
abbrev pub Renames : Bool → Shape → Type 0
Renames b sh = (k : List ℕ) (d : Data) → newer_value (sort_at sh (renamed b k)) d ≡ newer_value (sort_at sh k) d

map_renames : Renames true map_shape
unfolding map_rows
map_renames k d = by_name (λ (m n : List ℕ). newer_value (sort_at map_shape n) d ≡ newer_value (sort_at map_shape m) d) (sym (machine_same d)) refl (λ m p q. refl) k

kind_renames : (o : Option Kind) → Renames (names_map o) (state_shape o)
kind_renames None = λ k d. refl
kind_renames (Some kind.Task) = λ k d. refl
kind_renames (Some kind.Pass) = λ k d. refl
kind_renames (Some kind.Choice) = λ k d. refl
kind_renames (Some kind.Wait) = λ k d. refl
kind_renames (Some kind.Parallel) = λ k d. refl
kind_renames (Some kind.Map) = map_renames
kind_renames (Some kind.Succeed) = λ k d. refl
kind_renames (Some kind.Fail) = λ k d. refl

pub renames_in : (s : Sort) (ms : Pairs) → Renames (map_in s ms) (shape_in s ms)
renames_in sort.State ms = kind_renames (kind_named (value_at (codes "Type") ms))
renames_in s ms = λ k d. refl

-- ---- once more

-- by the type of the state before
pub again_inside : {A : Type 0} (f : Bool → Shape → Pairs → A) (s : Sort) (ms : Pairs) → f (map_in s (inside s ms)) (shape_in s (inside s ms)) (inside s ms) ≡ f (map_in s ms) (shape_in s ms) (inside s ms)
again_inside f sort.State ms = ap (λ (o : Option Kind). f (names_map o) (state_shape o) (inside sort.State ms)) (kind_newer ms)
again_inside f s ms = refl

mutual
  pub newer_twice : (s : Sort) (d : Data) → newer_value s (newer_value s d) ≡ newer_value s d
  newer_twice s null = refl
  newer_twice s (boolean b) = refl
  newer_twice s (number n) = refl
  newer_twice s (text t) = refl
  newer_twice s (list ds) = by (holds_states s) refl (items_twice (item_sort s) ds)
    where
      by : (b : Bool) → holds_states s ≡ b → newer_items (item_sort s) (newer_items (item_sort s) ds) ≡ newer_items (item_sort s) ds → newer_value s (newer_value s (list ds)) ≡ newer_value s (list ds)
      by true e h = ap (newer_value s) (open_list s ds e) ∙ open_list s (newer_items (item_sort s) ds) e ∙ ap (λ (x : Chain). list x) h ∙ sym (open_list s ds e)
      by false e h = newer_leaf s (newer_value s (list ds)) e
  newer_twice s (dict ms) = by (holds_states s) refl (members_twice (map_in s ms) (shape_in s ms) ms (renames_in s ms))
    where
      by : (b : Bool) → holds_states s ≡ b → newer_members (map_in s ms) (shape_in s ms) (inside s ms) ≡ inside s ms → newer_value s (newer_value s (dict ms)) ≡ newer_value s (dict ms)
      by true e h = ap (newer_value s) (open_dict s ms e) ∙ open_dict s (inside s ms) e ∙ ap (λ (x : Pairs). dict x) (again_inside newer_members s ms ∙ h) ∙ sym (open_dict s ms e)
      by false e h = newer_leaf s (newer_value s (dict ms)) e

  items_twice : (s : Sort) (ds : Chain) → newer_items s (newer_items s ds) ≡ newer_items s ds
  items_twice s no_items = refl
  items_twice s (item d ds) = let one = newer_twice s d in let others = items_twice s ds in λ i. item (one i) (others i)

  members_twice : (b : Bool) (sh : Shape) (ms : Pairs) → Renames b sh → newer_members b sh (newer_members b sh ms) ≡ newer_members b sh ms
  members_twice b sh no_members h = refl
  members_twice b sh (member k d ms) h =
      let name = renamed_stays b k in
      let value = h k (newer_value (sort_at sh k) d) ∙ newer_twice (sort_at sh k) d in
      let others = members_twice b sh ms h in
      λ i. member (name i) (value i) (others i)
