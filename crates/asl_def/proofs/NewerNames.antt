-- The names of states stay in the newer spelling.
use Rattle.std.proofs.Common.{◌≡◌, ℕ, suc, List, [], ◌∷◌, ◌++◌, Bool, true, false, not, ◌⊎◌, inl, inr, refl, sym, ap, ◌∙◌, subst}
use Rattle.std.specs.Prelude.{Option, Some, None, map, codes, if◌then◌else◌}
use Rattle.std.specs.Fmt.{decimal}
use Rattle.std.specs.Cmp.Lexicographic.{same_text}
use Rattle.asl_json_data.specs.Data.{Data, null, boolean, number, text, list, dict, Chain, no_items, item, Pairs, no_members, member}
use Rattle.asl_json.specs.Same.{bytes_eq}
use Rattle.asl_json.specs.Meaning.{value_at}
use Rattle.asl_def_schema.specs.declared.fault.Step.{Step}
use Rattle.asl_def_schema.specs.declared.sort.Sort.{Sort}
use Rattle.asl_def_schema.specs.declared.sort.Sort.TheVariants as sort
use Rattle.asl_def_schema.specs.declared.sort.Kind.{Kind}
use Rattle.asl_def_schema.specs.declared.sort.Kind.TheVariants as kind
use Rattle.asl_def_schema.specs.Members.{Shape, shape_in, state_shape, sort_at, item_sort, kind_named, is_among, unsupported_names, machine_rows, item_processor_rows, processor_config_rows, map_rows}
use Rattle.asl_def_schema.specs.Claims.{step, is_list, is_object}
use Rattle.asl_def_schema.specs.First.{Each, Hold}
use Rattle.asl_def_schema.specs.States.{Named, further, own_name, states_in, item_states, member_states, unique_claims, names_of}
use Rattle.asl_def.specs.Machines.{holds_states}
use Rattle.asl_def.specs.Upgraded.{renamed, names_map, map_in, newer_value, newer_items, newer_members, upgraded}
use Rattle.asl_def.proofs.Newer.{by_name, newer_leaf, inside, open_list, open_dict, machine_shape, processor_shape, sorts_inside, map_shape, again_inside}

-- ---- lists of names

names_further : (s : Step) (ns : List Named) → names_of (map (further s) ns) ≡ names_of ns
names_further s [] = refl
names_further s (n ∷ ns) = ap (λ (ls : List (List ℕ)). n.0 ∷ ls) (names_further s ns)

names-append : (xs ys : List Named) → names_of (xs ++ ys) ≡ names_of xs ++ names_of ys
names-append [] ys = refl
names-append (x ∷ xs) ys = ap (λ (ls : List (List ℕ)). x.0 ∷ ls) (names-append xs ys)

-- of a part and what follows it
both_named : (s t : Step) (cs bs xs ys : List Named) → names_of cs ≡ names_of bs → names_of xs ≡ names_of ys → names_of (map (further s) cs ++ xs) ≡ names_of (map (further t) bs ++ ys)
both_named s t cs bs xs ys e f =
    let first = names_further s cs ∙ e ∙ sym (names_further t bs) in
    names-append (map (further s) cs) xs ∙ (λ i. first i ++ f i) ∙ sym (names-append (map (further t) bs) ys)

if_named : (b : Bool) (xs ys : List Named) → names_of xs ≡ names_of ys → names_of (if b then xs else []) ≡ names_of (if b then ys else [])
if_named true xs ys e = e
if_named false xs ys e = refl

-- ---- a machine, under the one name or the other

unknown_states : (b : Bool) (d : Data) → states_in (if b then sort.Unsupported else sort.Unknown) d ≡ []
unknown_states true null = refl
unknown_states true (boolean b) = refl
unknown_states true (number n) = refl
unknown_states true (text t) = refl
unknown_states true (list ds) = refl
unknown_states true (dict ms) = refl
unknown_states false null = refl
unknown_states false (boolean b) = refl
unknown_states false (number n) = refl
unknown_states false (text t) = refl
unknown_states false (list ds) = refl
unknown_states false (dict ms) = refl

mode_states : (d : Data) → states_in sort.Mode d ≡ []
mode_states null = refl
mode_states (boolean b) = refl
mode_states (number n) = refl
mode_states (text t) = refl
mode_states (list ds) = refl
mode_states (dict ms) = refl

-- what the members of a configuration are to be
abbrev config_sort : Bool → Bool → Sort
config_sort true b = sort.Mode
config_sort false b = if b then sort.Unsupported else sort.Unknown

unnamed : (a b : Bool) (k : List ℕ) (d : Data) → names_of (own_name (config_sort a b) k ++ states_in (config_sort a b) d) ≡ []
unnamed true b k d = ap names_of (mode_states d)
unnamed false true k d = ap names_of (unknown_states true d)
unnamed false false k d = ap names_of (unknown_states false d)

none_behind : (s : Step) (cs xs : List Named) → names_of cs ≡ [] → names_of xs ≡ [] → names_of (map (further s) cs ++ xs) ≡ []
none_behind s cs xs e f = names-append (map (further s) cs) xs ∙ (λ i. (names_further s cs ∙ e) i ++ f i)

config_members : (os : Pairs) (j : ℕ) (ns : Pairs) → names_of (member_states (shape_in sort.ProcessorConfig os) j ns) ≡ []
unfolding processor_config_rows
config_members os j no_members = refl
config_members os j (member k d ns) =
    none_behind (step j k) (own_name (sort_at (shape_in sort.ProcessorConfig os) k) k ++ states_in (sort_at (shape_in sort.ProcessorConfig os) k) d) (member_states (shape_in sort.ProcessorConfig os) (suc j) ns)
    (by (bytes_eq k (codes "Mode")) (is_among k unsupported_names)) (config_members os (suc j) ns)
  where
    by : (a b : Bool) → names_of (own_name (if a then sort.Mode else if b then sort.Unsupported else sort.Unknown) k ++ states_in (if a then sort.Mode else if b then sort.Unsupported else sort.Unknown) d) ≡ []
    by true b = unnamed true b k d
    by false true = unnamed false true k d
    by false false = unnamed false false k d

config_states : (d : Data) → names_of (states_in sort.ProcessorConfig d) ≡ []
config_states null = refl
config_states (boolean b) = refl
config_states (number n) = refl
config_states (text t) = refl
config_states (list ds) = refl
config_states (dict ms) = config_members ms 0 ms

-- what a member is and what it holds
abbrev told : Shape → List ℕ → Data → List Named
told sh k d = own_name (sort_at sh k) k ++ states_in (sort_at sh k) d

machine_told : (k : List ℕ) (d : Data) → bytes_eq k (codes "ProcessorConfig") ≡ true → names_of (told machine_shape k d) ≡ names_of (told processor_shape k d)
unfolding machine_rows item_processor_rows
machine_told k d e =
    subst (λ (l : List ℕ). names_of (told machine_shape l d) ≡ names_of (told processor_shape l d)) (sym (same_text k (codes "ProcessorConfig") (sym e)))
    (unnamed false (is_among (codes "ProcessorConfig") unsupported_names) (codes "ProcessorConfig") d ∙ sym (config_states d))

machine_members_named : (i j : ℕ) (ms : Pairs) → names_of (member_states machine_shape i ms) ≡ names_of (member_states processor_shape j ms)
machine_members_named i j no_members = refl
machine_members_named i j (member k d ms) = both_named (step i k) (step j k) (told machine_shape k d) (told processor_shape k d) (member_states machine_shape (suc i) ms) (member_states processor_shape (suc j) ms) (by (sorts_inside k)) (machine_members_named (suc i) (suc j) ms)
  where
    by : (sort_at machine_shape k ≡ sort_at processor_shape k) ⊎ (bytes_eq k (codes "ProcessorConfig") ≡ true) → names_of (told machine_shape k d) ≡ names_of (told processor_shape k d)
    by (inl e) = ap (λ (s : Sort). names_of (own_name s k ++ states_in s d)) e
    by (inr e) = machine_told k d e

machine_named : (d : Data) → names_of (states_in sort.Machine d) ≡ names_of (states_in sort.ItemProcessor d)
machine_named null = refl
machine_named (boolean b) = refl
machine_named (number n) = refl
machine_named (text t) = refl
machine_named (list ds) = refl
machine_named (dict ms) = machine_members_named 0 0 ms

-- ---- members under their newer names

abbrev Tells : Bool → Shape → Type 0
Tells b sh = (k : List ℕ) (d : Data) → names_of (told sh (renamed b k) d) ≡ names_of (told sh k d)

map_tells : Tells true map_shape
unfolding map_rows
map_tells k d = by_name (λ (m n : List ℕ). names_of (told map_shape n d) ≡ names_of (told map_shape m d)) (sym (machine_named d)) refl (λ m p q. refl) k

kind_tells : (o : Option Kind) → Tells (names_map o) (state_shape o)
kind_tells None = λ k d. refl
kind_tells (Some kind.Task) = λ k d. refl
kind_tells (Some kind.Pass) = λ k d. refl
kind_tells (Some kind.Choice) = λ k d. refl
kind_tells (Some kind.Wait) = λ k d. refl
kind_tells (Some kind.Parallel) = λ k d. refl
kind_tells (Some kind.Map) = map_tells
kind_tells (Some kind.Succeed) = λ k d. refl
kind_tells (Some kind.Fail) = λ k d. refl

tells_in : (s : Sort) (ms : Pairs) → Tells (map_in s ms) (shape_in s ms)
tells_in sort.State ms = kind_tells (kind_named (value_at (codes "Type") ms))
tells_in s ms = λ k d. refl

mutual
  pub names_newer : (s : Sort) (d : Data) → names_of (states_in s (newer_value s d)) ≡ names_of (states_in s d)
  names_newer s null = refl
  names_newer s (boolean b) = refl
  names_newer s (number n) = refl
  names_newer s (text t) = refl
  names_newer s (list ds) = by (holds_states s) refl (items_newer (item_sort s) 0 ds)
    where
      by : (b : Bool) → holds_states s ≡ b → names_of (item_states (item_sort s) 0 (newer_items (item_sort s) ds)) ≡ names_of (item_states (item_sort s) 0 ds) → names_of (states_in s (newer_value s (list ds))) ≡ names_of (states_in s (list ds))
      by true e h = ap (λ (x : Data). names_of (states_in s x)) (open_list s ds e) ∙ if_named (is_list s) (item_states (item_sort s) 0 (newer_items (item_sort s) ds)) (item_states (item_sort s) 0 ds) h
      by false e h = ap (λ (x : Data). names_of (states_in s x)) (newer_leaf s (list ds) e)
  names_newer s (dict ms) = by (holds_states s) refl (members_newer (map_in s ms) (shape_in s ms) 0 ms (tells_in s ms))
    where
      by : (b : Bool) → holds_states s ≡ b → names_of (member_states (shape_in s ms) 0 (inside s ms)) ≡ names_of (member_states (shape_in s ms) 0 ms) → names_of (states_in s (newer_value s (dict ms))) ≡ names_of (states_in s (dict ms))
      by true e h =
          ap (λ (x : Data). names_of (states_in s x)) (open_dict s ms e)
          ∙ if_named (is_object s) (member_states (shape_in s (inside s ms)) 0 (inside s ms)) (member_states (shape_in s ms) 0 ms)
          (again_inside (λ (c : Bool) (sh : Shape) (xs : Pairs). names_of (member_states sh 0 xs)) s ms ∙ h)
      by false e h = ap (λ (x : Data). names_of (states_in s x)) (newer_leaf s (dict ms) e)

  items_newer : (s : Sort) (i : ℕ) (ds : Chain) → names_of (item_states s i (newer_items s ds)) ≡ names_of (item_states s i ds)
  items_newer s i no_items = refl
  items_newer s i (item d ds) = both_named (step i (decimal i)) (step i (decimal i)) (states_in s (newer_value s d)) (states_in s d) (item_states s (suc i) (newer_items s ds)) (item_states s (suc i) ds) (names_newer s d) (items_newer s (suc i) ds)

  members_newer : (b : Bool) (sh : Shape) (i : ℕ) (ms : Pairs) → Tells b sh → names_of (member_states sh i (newer_members b sh ms)) ≡ names_of (member_states sh i ms)
  members_newer b sh i no_members h = refl
  members_newer b sh i (member k d ms) h =
      let v = newer_value (sort_at sh k) d in
      let own = own_name (sort_at sh k) k in
      let value = names-append own (states_in (sort_at sh k) v) ∙ ap (λ (ls : List (List ℕ)). names_of own ++ ls) (names_newer (sort_at sh k) d) ∙ sym (names-append own (states_in (sort_at sh k) d)) in
      both_named (step i (renamed b k)) (step i k) (told sh (renamed b k) v) (told sh k d) (member_states sh (suc i) (newer_members b sh ms)) (member_states sh (suc i) ms) (h k v ∙ value) (members_newer b sh (suc i) ms h)

-- ---- so names that differ still differ

alike_unique : (seen : List (List ℕ)) (xs ys : List Named) → names_of xs ≡ names_of ys → Each Hold (unique_claims seen xs) → Each Hold (unique_claims seen ys)
alike_unique seen [] [] e h = tt
alike_unique seen [] (y ∷ ys) e h = absurd cc
alike_unique seen (x ∷ xs) [] e h = absurd cc
alike_unique seen (x ∷ xs) (y ∷ ys) e h =
    let first : x.0 ≡ y.0 = cc in
    let others : names_of xs ≡ names_of ys = cc in (
      subst (λ (k : List ℕ). not (is_among k seen) ≡ true) first h.0,
      alike_unique (seen ++ y.0 ∷ []) xs ys others (subst (λ (k : List ℕ). Each Hold (unique_claims (seen ++ k ∷ []) xs)) first h.1),
    )

pub unique_upgraded : (d : Data) → Each Hold (unique_claims [] (states_in sort.Definition d)) → Each Hold (unique_claims [] (states_in sort.Definition (upgraded d)))
unique_upgraded d h = alike_unique [] (states_in sort.Definition d) (states_in sort.Definition (upgraded d)) (sym (names_newer sort.Definition d)) h
