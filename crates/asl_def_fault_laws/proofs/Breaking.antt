-- Which values break a demand, kind by kind.
use Rattle.std.proofs.Common.{◌≡◌, ◌⊎◌, ℕ, ◌<◌, Bool, true, false, ◌&&◌, not, List, [], ◌∷◌, ◌++◌, inl, inr, refl, sym, ap, subst, ◌∙◌, arith}
use Rattle.std.specs.Prelude.{Option, Some, None, is_some, nat_lt, nat_le, if◌then◌else◌, codes}
use Rattle.std.specs.Cmp.Lexicographic.{same_text}
use Rattle.std.proofs.lemmas.Bool.Decides.{nat_tests}
use Rattle.asl_json_data.specs.Data.{Data, null, boolean, number, text, list, dict, Chain, no_items, item}
use Rattle.asl_json.specs.Same.{bytes_eq}
use Rattle.asl_json.specs.private.SameLaws.{bytes_refl}
use Rattle.asl_template.specs.Filling.{is_path}
use Rattle.asl_path.specs.Grammar.{IsPath}
use Rattle.asl_intrinsic.specs.Faults.{IsCall}
use Rattle.asl_def_schema.specs.declared.fault.FaultKind.{FaultKind}
use Rattle.asl_def_schema.specs.declared.fault.FaultKind.TheVariants as kind
use Rattle.asl_def_schema.specs.declared.sort.Sort.{Sort}
use Rattle.asl_def_schema.specs.declared.sort.Sort.TheVariants as sort
use Rattle.asl_def_schema.specs.declared.sort.Form.TheVariants as form
use Rattle.asl_def_schema.specs.declared.sort.Kind.{Kind}
use Rattle.asl_def_schema.specs.Members.{kind_of}
use Rattle.asl_def_schema.specs.Demands.{Demand, Holds, fault_of, path, call, typed, within, form_of, is_of}
use Rattle.asl_def_schema.specs.Claims.{Spot, demands, spot_demands, form_demand, value_demands, text_demands, number_demands, list_demands, path_or_call, is_last, is_name, is_nonempty, item_count, max_machines}
use Rattle.asl_def_fault_laws.specs.Faults.{One}
use Rattle.asl_def_fault_laws.specs.Values.{IsMistyped, IsOther, IsOutside, IsNoPath, IsNoCall}
use Rattle.asl_def_fault_laws.proofs.Ones.{one_left, one_right, Breaks}

pub off : (b : Bool) → (b ≡ true → ⊥) → b ≡ false
off true h = absurd (h refl)
off false h = refl

pub on : (b : Bool) → (not b ≡ true → ⊥) → b ≡ true
on true h = refl
on false h = absurd (h refl)

false_breaks : (b : Bool) → b ≡ false → b ≡ true → ⊥
false_breaks b e h = absurd (let f : false ≡ true = sym e ∙ h in cc)

-- ---- what is wrong with a value that breaks a demand of a kind

pub record IsTarget (p : Spot) (s : Sort) (d : Data) : Type 0 where
  pub name : List ℕ
  pub sort_is : s ≡ sort.Target
  pub value : d ≡ text name
  pub unknown : p.names name ≡ false

pub record IsInner (p : Spot) (s : Sort) : Type 0 where
  pub inner : (s ≡ sort.Machine) ⊎ (s ≡ sort.ItemProcessor)
  pub deep : nat_lt p.level max_machines ≡ false

pub record AreNames (p : Spot) (s : Sort) (d : Data) : Type 0 where
  pub names : Chain
  pub sort_is : s ≡ sort.ErrorNames
  pub value : d ≡ list names
  pub misplaced : is_last p.ends names ≡ false

abbrev pub Wrong : FaultKind → Spot → Sort → Data → Type 0
Wrong kind.NotObject p s d = (s ≡ sort.Definition) × (is_of form.Object d ≡ false)
Wrong kind.UnknownField p s d = s ≡ sort.Unknown
Wrong kind.Unsupported p s d = (s ≡ sort.Unsupported) ⊎ IsOther s d
Wrong kind.WrongType p s d = (s ≡ sort.Definition → ⊥) × IsMistyped s d
Wrong kind.Range p s d = ((s ≡ sort.State) × (is_name p.key ≡ false)) ⊎ IsOutside s d
Wrong kind.Both p s d = p.doubled ≡ true
Wrong kind.NoTarget p s d = IsTarget p s d
Wrong kind.AllNotLast p s d = AreNames p s d
Wrong kind.Path p s d = IsNoPath s d
Wrong kind.Expression p s d = IsNoCall s d
Wrong kind.Nesting p s d = IsInner p s
Wrong k p s d = ⊥

-- whoever breaks one of these demands has what is wrong
abbrev pub Told : Spot → Sort → Data → List Demand → Type 0
Told p s d [] = Unit {0}
Told p s d (q ∷ qs) = ((Holds q → ⊥) → Wrong (fault_of q) p s d) × Told p s d qs

told_one : (k : FaultKind) (p : Spot) (s : Sort) (d : Data) (qs : List Demand) → Told p s d qs → One (Breaks k) qs → Wrong k p s d
told_one k p s d [] t h = absurd h
told_one k p s d (q ∷ qs) t (inl h) = subst (λ (j : FaultKind). Wrong j p s d) h.kind (t.0 h.broken)
told_one k p s d (q ∷ qs) t (inr h) = told_one k p s d qs t.1 h

told_both : (p : Spot) (s : Sort) (d : Data) (qs rs : List Demand) → Told p s d qs → Told p s d rs → Told p s d (qs ++ rs)
told_both p s d [] rs t u = u
told_both p s d (q ∷ qs) rs t u = (t.0, told_both p s d qs rs t.1 u)

-- ---- from a broken demand

other : (t u : List ℕ) → (bytes_eq t u ≡ true → ⊥) → t ≡ u → ⊥
other t u h e = h (subst (λ (x : List ℕ). bytes_eq t x ≡ true) e (bytes_refl t))

none_of : (o : Option Kind) → (is_some o ≡ true → ⊥) → o ≡ None
none_of None h = refl
none_of (Some k) h = absurd (h refl)

empty_out : (ds : Chain) → (is_nonempty ds ≡ true → ⊥) → item_count ds ≡ 0
empty_out no_items h = refl
empty_out (item d ds) h = absurd (h refl)

more_than : (n m : ℕ) → nat_le n m ≡ false → m < n
more_than n m e = grind (arith, nat_tests)

count_out : (ds : Chain) (most : ℕ) → ((is_nonempty ds && nat_le (item_count ds) most) ≡ true → ⊥) → (item_count ds ≡ 0) ⊎ (most < item_count ds)
count_out no_items most h = inl refl
count_out (item d ds) most h = inr (more_than (item_count (item d ds)) most (off (nat_le (item_count (item d ds)) most) h))

spot_told : (p : Spot) (s : Sort) (d : Data) → Told p s d (spot_demands p s)
spot_told p sort.State d = (λ h. inl (refl, off (is_name p.key) h), tt)
spot_told p sort.Machine d = (λ h. record { inner = inl refl; deep = off (nat_lt p.level max_machines) h }, tt)
spot_told p sort.ItemProcessor d = (λ h. record { inner = inr refl; deep = off (nat_lt p.level max_machines) h }, tt)
spot_told p sort.Unsupported d = (λ h. inl refl, tt)
spot_told p sort.Unknown d = (λ h. refl, tt)
spot_told p s d = tt

abbrev is_definition : Sort → Bool
is_definition sort.Definition = true
is_definition s = false

form_told : (p : Spot) (s : Sort) (d : Data) → (Holds (form_demand s d) → ⊥) → Wrong (fault_of (form_demand s d)) p s d
form_told p sort.Definition d h = (refl, off (is_of form.Object d) h)
form_told p s d h = (λ e. absurd (let f : false ≡ true = ap is_definition e in cc), off (is_of (form_of s) d) h)

either_told : (p : Spot) (s : Sort) (t : List ℕ) → (is_path t ≡ true → (IsPath t → ⊥) → IsNoPath s (text t)) → (is_path t ≡ false → (IsCall t → ⊥) → IsNoCall s (text t)) → (Holds (path_or_call t) → ⊥) → Wrong (fault_of (path_or_call t)) p s (text t)
either_told p s t f g h = by (is_path t) refl h
  where
    by : (b : Bool) → is_path t ≡ b → (Holds (if b then path t else call t) → ⊥) → Wrong (fault_of (if b then path t else call t)) p s (text t)
    by true e h = f e h
    by false e h = g e h

text_told : (p : Spot) (s : Sort) (t : List ℕ) → Told p s (text t) (text_demands p s t)
text_told p sort.KindName t = (λ h. inr (none_of (kind_of t) h), tt)
text_told p sort.Version t = (λ h. inr (other t (codes "1.0") h), tt)
text_told p sort.QueryLanguage t = (λ h. inr (other t (codes "JSONPath") h), tt)
text_told p sort.Mode t = (λ h. inr (other t (codes "INLINE") h), tt)
text_told p sort.Target t = (λ h. record { name = t; sort_is = refl; value = refl; unknown = off (p.names t) h }, tt)
text_told p sort.Path t = (λ h. h, tt)
text_told p sort.PathOrNull t = (λ h. h, tt)
text_told p sort.PlaceOrNull t = (λ h. h, tt)
text_told p sort.PathOrCall t = (either_told p sort.PathOrCall t (λ e h. (e, h)) (λ e h. (e, h)), tt)
text_told p sort.Computed t = (either_told p sort.Computed t (λ e h. (e, h)) (λ e h. (e, h)), tt)
text_told p sort.Timestamp t = (λ h. inr h, tt)
text_told p sort.Jitter t = (λ h. inr (off _ h), tt)
text_told p s t = tt

number_told : (p : Spot) (s : Sort) (n : List ℕ) → Told p s (number n) (number_demands s n)
number_told p sort.FromZero n = (λ h. inr (off _ h), tt)
number_told p sort.FromOne n = (λ h. inr (off _ h), tt)
number_told p sort.Rate n = (λ h. inr (off _ h), tt)
number_told p sort.DelayLimit n = (λ h. inr (off _ h), tt)
number_told p s n = tt

list_told : (p : Spot) (s : Sort) (ds : Chain) → Told p s (list ds) (list_demands p s ds)
list_told p sort.Machines ds = (λ h. inr (count_out ds 999999999 h), tt)
list_told p sort.Rules ds = (λ h. inr (empty_out ds h), tt)
list_told p sort.InnerRules ds = (λ h. inr (empty_out ds h), tt)
list_told p sort.ErrorNames ds = (λ h. inr (empty_out ds h), (λ h. record { names = ds; sort_is = refl; value = refl; misplaced = off (is_last p.ends ds) h }, tt))
list_told p s ds = tt

value_told : (p : Spot) (s : Sort) (d : Data) → Told p s d (value_demands p s d)
value_told p s null = tt
value_told p s (boolean b) = tt
value_told p s (number n) = number_told p s n
value_told p s (text t) = text_told p s t
value_told p s (list ds) = list_told p s ds
value_told p s (dict ms) = tt

pub wrong_out : (k : FaultKind) (p : Spot) (s : Sort) (d : Data) → One (Breaks k) (demands p s d) → Wrong k p s d
wrong_out k p s d h = told_one k p s d (demands p s d) (on p.doubled, told_both p s d (spot_demands p s) (form_demand s d ∷ value_demands p s d) (spot_told p s d) (form_told p s d, value_told p s d)) h

-- ---- to a broken demand

spot_in : (k : FaultKind) (p : Spot) (s : Sort) (d : Data) → One (Breaks k) (spot_demands p s) → One (Breaks k) (demands p s d)
spot_in k p s d h = inr (one_left (Breaks k) (spot_demands p s) (form_demand s d ∷ value_demands p s d) h)

form_in : (k : FaultKind) (p : Spot) (s : Sort) (d : Data) → Breaks k (form_demand s d) → One (Breaks k) (demands p s d)
form_in k p s d h = inr (one_right (Breaks k) (spot_demands p s) (form_demand s d ∷ value_demands p s d) (inl h))

value_in : (k : FaultKind) (p : Spot) (s : Sort) (d : Data) → One (Breaks k) (value_demands p s d) → One (Breaks k) (demands p s d)
value_in k p s d h = inr (one_right (Breaks k) (spot_demands p s) (form_demand s d ∷ value_demands p s d) (inr h))

other_in : (t u : List ℕ) → (t ≡ u → ⊥) → bytes_eq t u ≡ true → ⊥
other_in t u h e = h (same_text t u (sym e))

none_in : (o : Option Kind) → o ≡ None → is_some o ≡ true → ⊥
none_in None e h = absurd cc
none_in (Some k) e h = absurd cc

empty_in : (ds : Chain) → item_count ds ≡ 0 → is_nonempty ds ≡ true → ⊥
empty_in no_items e h = absurd cc
empty_in (item d ds) e h = absurd (omega (arith, e))

no_more : (n m : ℕ) → m < n → nat_le n m ≡ false
no_more n m e = grind (arith, nat_tests)

count_in : (ds : Chain) (most : ℕ) → (item_count ds ≡ 0) ⊎ (most < item_count ds) → (is_nonempty ds && nat_le (item_count ds) most) ≡ true → ⊥
count_in no_items most h e = absurd cc
count_in (item d ds) most (inl h) e = absurd (omega (arith, h))
count_in (item d ds) most (inr h) e = false_breaks (nat_le (item_count (item d ds)) most) (no_more (item_count (item d ds)) most h) e

path_in : (t : List ℕ) → (is_path t ≡ true) × (IsPath t → ⊥) → Breaks kind.Path (path_or_call t)
path_in t h = subst (λ (b : Bool). Breaks kind.Path (if b then path t else call t)) (sym h.0) (record { broken = h.1; kind = refl })

call_in : (t : List ℕ) → (is_path t ≡ false) × (IsCall t → ⊥) → Breaks kind.Expression (path_or_call t)
call_in t h = subst (λ (b : Bool). Breaks kind.Expression (if b then path t else call t)) (sym h.0) (record { broken = h.1; kind = refl })

other_value : (p : Spot) (s : Sort) (d : Data) → IsOther s d → One (Breaks kind.Unsupported) (value_demands p s d)
other_value p sort.KindName (text t) h = inl (record { broken = none_in (kind_of t) h; kind = refl })
other_value p sort.Version (text t) h = inl (record { broken = other_in t (codes "1.0") h; kind = refl })
other_value p sort.QueryLanguage (text t) h = inl (record { broken = other_in t (codes "JSONPath") h; kind = refl })
other_value p sort.Mode (text t) h = inl (record { broken = other_in t (codes "INLINE") h; kind = refl })
other_value p s d h = absurd h

outside_value : (p : Spot) (s : Sort) (d : Data) → IsOutside s d → One (Breaks kind.Range) (value_demands p s d)
outside_value p sort.FromZero (number n) h = inl (record { broken = false_breaks _ h; kind = refl })
outside_value p sort.FromOne (number n) h = inl (record { broken = false_breaks _ h; kind = refl })
outside_value p sort.DelayLimit (number n) h = inl (record { broken = false_breaks _ h; kind = refl })
outside_value p sort.Rate (number n) h = inl (record { broken = false_breaks _ h; kind = refl })
outside_value p sort.Timestamp (text t) h = inl (record { broken = h; kind = refl })
outside_value p sort.Jitter (text t) h = inl (record { broken = false_breaks _ h; kind = refl })
outside_value p sort.Machines (list ds) h = inl (record { broken = count_in ds 999999999 h; kind = refl })
outside_value p sort.Rules (list ds) h = inl (record { broken = empty_in ds h; kind = refl })
outside_value p sort.InnerRules (list ds) h = inl (record { broken = empty_in ds h; kind = refl })
outside_value p sort.ErrorNames (list ds) h = inl (record { broken = empty_in ds h; kind = refl })
outside_value p s d h = absurd h

path_value : (p : Spot) (s : Sort) (d : Data) → IsNoPath s d → One (Breaks kind.Path) (value_demands p s d)
path_value p sort.Path (text t) h = inl (record { broken = h; kind = refl })
path_value p sort.PathOrNull (text t) h = inl (record { broken = h; kind = refl })
path_value p sort.PlaceOrNull (text t) h = inl (record { broken = h; kind = refl })
path_value p sort.PathOrCall (text t) h = inl (path_in t h)
path_value p sort.Computed (text t) h = inl (path_in t h)
path_value p s d h = absurd h

call_value : (p : Spot) (s : Sort) (d : Data) → IsNoCall s d → One (Breaks kind.Expression) (value_demands p s d)
call_value p sort.PathOrCall (text t) h = inl (call_in t h)
call_value p sort.Computed (text t) h = inl (call_in t h)
call_value p s d h = absurd h

typed_form : (s : Sort) (d : Data) → (s ≡ sort.Definition → ⊥) → typed (form_of s) d ≡ form_demand s d
typed_form sort.Definition d h = absurd (h refl)
typed_form s d h = refl

-- at a value of this sort
of_sort : (k : FaultKind) (p : Spot) (s u : Sort) (d : Data) → s ≡ u → One (Breaks k) (demands p u d) → One (Breaks k) (demands p s d)
of_sort k p s u d e h = subst (λ (x : Sort). One (Breaks k) (demands p x d)) (sym e) h

pub wrong_in : (k : FaultKind) (p : Spot) (s : Sort) (d : Data) → Wrong k p s d → One (Breaks k) (demands p s d)
wrong_in kind.NotObject p s d h = of_sort kind.NotObject p s sort.Definition d h.0 (form_in kind.NotObject p sort.Definition d (record { broken = false_breaks (is_of form.Object d) h.1; kind = refl }))
wrong_in kind.UnknownField p s d h = of_sort kind.UnknownField p s sort.Unknown d h (spot_in kind.UnknownField p sort.Unknown d (inl (record { broken = λ x. x; kind = refl })))
wrong_in kind.Unsupported p s d (inl h) = of_sort kind.Unsupported p s sort.Unsupported d h (spot_in kind.Unsupported p sort.Unsupported d (inl (record { broken = false_breaks false refl; kind = refl })))
wrong_in kind.Unsupported p s d (inr h) = value_in kind.Unsupported p s d (other_value p s d h)
wrong_in kind.WrongType p s d h = form_in kind.WrongType p s d (subst (Breaks kind.WrongType) (typed_form s d h.0) (record { broken = false_breaks (is_of (form_of s) d) h.1; kind = refl }))
wrong_in kind.Range p s d (inl h) = of_sort kind.Range p s sort.State d h.0 (spot_in kind.Range p sort.State d (inl (record { broken = false_breaks (is_name p.key) h.1; kind = refl })))
wrong_in kind.Range p s d (inr h) = value_in kind.Range p s d (outside_value p s d h)
wrong_in kind.Both p s d h = inl (record { broken = λ e. absurd (let f : not true ≡ true = subst (λ (b : Bool). not b ≡ true) h e in cc); kind = refl })
wrong_in kind.NoTarget p s d h =
    of_sort kind.NoTarget p s sort.Target d h.sort_is
    (subst (λ (x : Data). One (Breaks kind.NoTarget) (demands p sort.Target x)) (sym h.value) (value_in kind.NoTarget p sort.Target (text h.name) (inl (record { broken = false_breaks (p.names h.name) h.unknown; kind = refl }))))
wrong_in kind.AllNotLast p s d h =
    of_sort kind.AllNotLast p s sort.ErrorNames d h.sort_is
    (subst (λ (x : Data). One (Breaks kind.AllNotLast) (demands p sort.ErrorNames x)) (sym h.value) (value_in kind.AllNotLast p sort.ErrorNames (list h.names) (inr (inl (record { broken = false_breaks (is_last p.ends h.names) h.misplaced; kind = refl })))))
wrong_in kind.Path p s d h = value_in kind.Path p s d (path_value p s d h)
wrong_in kind.Expression p s d h = value_in kind.Expression p s d (call_value p s d h)
wrong_in kind.Nesting p s d h = by h.inner
  where
    deep : Breaks kind.Nesting (within (nat_lt p.level max_machines))
    deep = record { broken = false_breaks (nat_lt p.level max_machines) h.deep; kind = refl }

    by : (s ≡ sort.Machine) ⊎ (s ≡ sort.ItemProcessor) → One (Breaks kind.Nesting) (demands p s d)
    by (inl e) = of_sort kind.Nesting p s sort.Machine d e (spot_in kind.Nesting p sort.Machine d (inl deep))
    by (inr e) = of_sort kind.Nesting p s sort.ItemProcessor d e (spot_in kind.Nesting p sort.ItemProcessor d (inl deep))
wrong_in k p s d h = absurd h
