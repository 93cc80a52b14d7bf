-- What is demanded of a definition, place by place, in document order. (Amazon States Language,
-- "Structure of a State Machine".)
use Rattle.std.specs.Prelude.{ℕ, suc, List, [], ◌∷◌, ◌++◌, Bool, true, false, ◌||◌, ◌&&◌, not, ◌==◌, Option, Some, None, is_some, if◌then◌else◌, codes, map, nat_lt, nat_le, int_lt, count_by, pos, ℤ}
use Rattle.std.specs.Fmt.{decimal}
use Rattle.asl_json_data.specs.Data.{Data, null, boolean, number, text, list, dict, Chain, no_items, item, Pairs, no_members, member}
use Rattle.asl_json.specs.Same.{bytes_eq}
use Rattle.asl_json.specs.Meaning.{value_at, count}
use Rattle.asl_json_data.specs.Number.{units_of}
use Rattle.asl_json.specs.Whole.{whole_of}
use Rattle.asl_json.specs.Access.{members_of_any}
use Rattle.asl_json_data.specs.Distinct.{Members}
use Rattle.asl_template.specs.Names.{is_double}
use Rattle.asl_template.specs.Filling.{is_path}
use Rattle.asl_def_schema.specs.declared.fault.Step.{Step}
use Rattle.asl_def_schema.specs.declared.sort.Sort.{Sort}
use Rattle.asl_def_schema.specs.declared.sort.Sort.TheVariants as sort
use Rattle.asl_def_schema.specs.declared.sort.Form.{Form}
use Rattle.asl_def_schema.specs.declared.sort.Form.TheVariants as form
use Rattle.asl_def_schema.specs.Members.{Row, Group, Shape, kind_of, shape_in, sort_at, item_sort, is_among}
use Rattle.asl_def_schema.specs.Demands.{Demand, object, there, known, supported, typed, in_range, timestamp, alone, decided, named, last, path, place, call, within, form_of}

-- a demand and its place: the steps from the outermost object in
abbrev pub Claim : Type 0
Claim = Demand × List Step

abbrev pub under : Step → Claim → Claim
under s c = (c.0, s ∷ c.1)

abbrev pub here : Demand → Claim
here q = (q, [])

-- to the member of this number and name
abbrev pub step : ℕ → List ℕ → Step
step i k = record { at = i; name = k }

-- where a value stands: the names of the machine's states, how many machines it stands in, whether
-- what holds it is the last
-- of its list, its key, and whether another member of its group stands before it
pub record Spot : Type 0 where
  pub names : List ℕ → Bool
  pub level : ℕ
  pub ends : Bool
  pub key : List ℕ
  pub doubled : Bool

-- the name of a state has from 1 to 80 characters: so many bytes begin one

abbrev pub begins_character : ℕ → Bool
begins_character b = nat_lt b 128 || nat_le 192 b

abbrev pub is_name : List ℕ → Bool
is_name t = nat_lt 0 (count_by begins_character t) && nat_le (count_by begins_character t) 80

abbrev pub is_between : ℤ → ℤ → ℤ → Bool
is_between low high n = not (int_lt n low) && not (int_lt high n)

abbrev pub is_between_whole : ℤ → ℤ → Option ℤ → Bool
is_between_whole low high None = false
is_between_whole low high (Some n) = is_between low high n

abbrev pub max_machines : ℕ
max_machines = 16

-- one machine further in; more than one too many aren't told apart
abbrev pub one_deeper : ℕ → ℕ
one_deeper n = if nat_lt max_machines n then n else suc n

-- by where the value stands
abbrev pub spot_demands : Spot → Sort → List Demand
spot_demands p sort.State = in_range (is_name p.key) ∷ []
spot_demands p sort.Machine = within (nat_lt p.level max_machines) ∷ []
spot_demands p sort.ItemProcessor = within (nat_lt p.level max_machines) ∷ []
spot_demands p sort.Unsupported = supported false ∷ []
spot_demands p sort.Unknown = known ∷ []
spot_demands p s = []

abbrev pub form_demand : Sort → Data → Demand
form_demand sort.Definition d = object d
form_demand s d = typed (form_of s) d

-- a text that begins with `$` is to be a path, any other a call
abbrev pub path_or_call : List ℕ → Demand
path_or_call t = if is_path t then path t else call t

-- whether delays are made random or kept as they are
abbrev pub is_jitter : List ℕ → Bool
is_jitter t = bytes_eq t (codes "FULL") || bytes_eq t (codes "NONE")

abbrev pub text_demands : Spot → Sort → List ℕ → List Demand
text_demands p sort.KindName t = supported (is_some (kind_of t)) ∷ []
text_demands p sort.Version t = supported (bytes_eq t (codes "1.0")) ∷ []
text_demands p sort.QueryLanguage t = supported (bytes_eq t (codes "JSONPath")) ∷ []
text_demands p sort.Mode t = supported (bytes_eq t (codes "INLINE")) ∷ []
text_demands p sort.Target t = named (p.names t) ∷ []
text_demands p sort.Path t = path t ∷ []
text_demands p sort.PathOrNull t = path t ∷ []
text_demands p sort.PlaceOrNull t = place t ∷ []
text_demands p sort.PathOrCall t = path_or_call t ∷ []
text_demands p sort.Computed t = path_or_call t ∷ []
text_demands p sort.Timestamp t = timestamp t ∷ []
text_demands p sort.Jitter t = in_range (is_jitter t) ∷ []
text_demands p s t = []

-- the largest whole number that a member may be (Step Functions, for Seconds, TimeoutSeconds,
-- IntervalSeconds and the like)
abbrev pub most_whole : ℕ
most_whole = 99999999

abbrev pub number_demands : Sort → List ℕ → List Demand
number_demands sort.FromZero n =
    in_range (is_between_whole (pos 0) (pos most_whole) (whole_of n)) ∷ []
number_demands sort.FromOne n =
    in_range (is_between_whole (pos 1) (pos most_whole) (whole_of n)) ∷ []
number_demands sort.Rate n =
    in_range (is_between (pos 1000000000) (pos 1000000000000) (units_of n)) ∷ []
number_demands sort.DelayLimit n =
    in_range (is_between_whole (pos 1) (pos 31622399) (whole_of n)) ∷ []
number_demands s n = []

abbrev pub is_nonempty : Chain → Bool
is_nonempty no_items = false
is_nonempty (item d ds) = true

abbrev pub item_count : Chain → ℕ
item_count no_items = 0
item_count (item d ds) = suc (item_count ds)

abbrev pub is_all : Data → Bool
is_all (text t) = bytes_eq t (codes "States.ALL")
is_all d = false

abbrev pub has_all : Chain → Bool
has_all no_items = false
has_all (item d ds) = is_all d || has_all ds

-- States.ALL stands alone, and in the last of the list
abbrev pub is_last : Bool → Chain → Bool
is_last ends ds = not (has_all ds) || (ends && (item_count ds == 1))

abbrev pub list_demands : Spot → Sort → Chain → List Demand
list_demands p sort.Machines ds = in_range (is_nonempty ds && nat_le (item_count ds) 999999999) ∷ []
list_demands p sort.Rules ds = in_range (is_nonempty ds) ∷ []
list_demands p sort.InnerRules ds = in_range (is_nonempty ds) ∷ []
list_demands p sort.ErrorNames ds = in_range (is_nonempty ds) ∷ last (is_last p.ends ds) ∷ []
list_demands p s ds = []

abbrev pub value_demands : Spot → Sort → Data → List Demand
value_demands p s (text t) = text_demands p s t
value_demands p s (number n) = number_demands s n
value_demands p s (list ds) = list_demands p s ds
value_demands p s d = []

-- of a value by itself
abbrev pub demands : Spot → Sort → Data → List Demand
demands p s d = alone (not p.doubled) ∷ spot_demands p s ++ form_demand s d ∷ value_demands p s d

-- whether a member counts in a group: a false End counts as absent
abbrev pub is_true : Data → Bool
is_true (boolean b) = b
is_true d = false

abbrev pub counts : Group → List ℕ → Data → Bool
counts g k d = is_among k g.names && (not (bytes_eq k (codes "End")) || is_true d)

abbrev pub any_counts : Group → Members → Bool
any_counts g [] = false
any_counts g (m ∷ ms) = counts g m.0 m.1 || any_counts g ms

abbrev pub is_doubled : List Group → Members → List ℕ → Data → Bool
is_doubled [] seen k d = false
is_doubled (g ∷ gs) seen k d = (counts g k d && any_counts g seen) || is_doubled gs seen k d

abbrev pub any_in : Group → Pairs → Bool
any_in g no_members = false
any_in g (member k d ms) = counts g k d || any_in g ms

abbrev pub group_demands : List Group → Pairs → List Demand
group_demands [] ms = []
group_demands (g ∷ gs) ms = decided (not g.exact || any_in g ms) ∷ group_demands gs ms

-- a required member, which stands behind those that are there
abbrev pub has_any : List (List ℕ) → Pairs → Bool
has_any [] ms = false
has_any (k ∷ ks) ms = is_some (value_at k ms) || has_any ks ms

abbrev pub is_needed : Row → Pairs → Bool
is_needed r ms = r.required || has_any r.users ms

abbrev pub row_claims : ℕ → List Row → Pairs → List Claim
row_claims i [] ms = []
row_claims i (r ∷ rs) ms =
    (if is_needed r ms then (there (value_at r.name ms), step i r.name ∷ []) ∷ [] else [])
    ++ row_claims (suc i) rs ms

-- which lists and objects are searched

abbrev pub is_list_form : Form → Bool
is_list_form form.List = true
is_list_form f = false

abbrev pub is_object_form : Form → Bool
is_object_form form.Object = true
is_object_form f = false

abbrev pub is_template : Sort → Bool
is_template sort.Template = true
is_template s = false

abbrev pub is_list : Sort → Bool
is_list s = is_list_form (form_of s) || is_template s

abbrev pub is_object : Sort → Bool
is_object s = is_object_form (form_of s) || is_template s

-- the names of a machine's states
abbrev pub names_in : Pairs → List ℕ → Bool
names_in ms k = is_some (value_at k (members_of_any (value_at (codes "States") ms)))

-- where the members of an object stand
abbrev pub inside : Spot → Sort → Pairs → Spot
inside p sort.Definition ms =
    record p { names = names_in ms; level = one_deeper p.level }
inside p sort.Machine ms =
    record p { names = names_in ms; level = one_deeper p.level }
inside p sort.ItemProcessor ms =
    record p { names = names_in ms; level = one_deeper p.level }
inside p s ms = p

-- of `k` and `k.$` in an object of a template the other one stands before
abbrev pub is_twice : Sort → Members → List ℕ → Bool
is_twice s seen k = is_template s && is_double seen k

abbrev pub at_member : Spot → Shape → Members → List ℕ → Data → Spot
at_member p sh seen k d =
    record p { key = k; doubled = is_doubled sh.groups seen k d || is_twice sh.others seen k }

abbrev pub at_item : Spot → Bool → Spot
at_item p ends = record p { ends = ends; key = []; doubled = false }

abbrev pub heres : List Demand → List Claim
heres qs = map here qs

abbrev mutual
  pub claims : Spot → Sort → Data → List Claim
  claims p s null = heres (demands p s null)
  claims p s (boolean b) = heres (demands p s (boolean b))
  claims p s (number n) = heres (demands p s (number n))
  claims p s (text t) = heres (demands p s (text t))
  claims p s (list ds) =
      heres (demands p s (list ds)) ++ (if is_list s then item_claims p (item_sort s) 0 ds else [])
  claims p s (dict ms) =
      heres (demands p s (dict ms))
      ++ (if is_object s
      then heres (group_demands (shape_in s ms).groups ms)
      ++ (member_claims (inside p s ms) (shape_in s ms) [] 0 ms
      ++ row_claims (count ms) (shape_in s ms).rows ms) else [])

  pub item_claims : Spot → Sort → ℕ → Chain → List Claim
  item_claims p s i no_items = []
  item_claims p s i (item d ds) =
      map (under (step i (decimal i))) (claims (at_item p (not (is_nonempty ds))) s d)
      ++ item_claims p s (suc i) ds

  -- behind other members of the object
  pub member_claims : Spot → Shape → Members → ℕ → Pairs → List Claim
  member_claims p sh seen i no_members = []
  member_claims p sh seen i (member k d ms) =
      map (under (step i k)) (claims (at_member p sh seen k d) (sort_at sh k) d)
      ++ member_claims p sh (seen ++ (k, d) ∷ []) (suc i) ms

abbrev pub outside : Spot
outside = record { names = λ k. false; level = 0; ends = true; key = []; doubled = false }

abbrev pub object_claims : Spot → Sort → Pairs → List Claim
object_claims p s ms =
    heres (group_demands (shape_in s ms).groups ms)
    ++ (member_claims (inside p s ms) (shape_in s ms) [] 0 ms
    ++ row_claims (count ms) (shape_in s ms).rows ms)
