-- Members of which one may be there.
use Rattle.std.proofs.Common.{◌≡◌, ◌⊎◌, ℕ, zero, suc, ◌<◌, Bool, true, false, ◌||◌, ◌&&◌, List, [], ◌∷◌, ◌++◌, inl, inr, refl, sym, ap, subst, ◌∙◌, length, length-append, arith}
use Rattle.std.specs.Prelude.{Option, Some, None, option_map, if◌then◌else◌}
use Rattle.std.specs.Cmp.Lexicographic.{same_text}
use Rattle.asl_json_data.specs.Data.{Data, Pairs, no_members, member}
use Rattle.asl_json.specs.Same.{bytes_eq}
use Rattle.asl_json.specs.private.SameLaws.{bytes_refl}
use Rattle.asl_json_data.specs.Distinct.{Members, has_key}
use Rattle.asl_template.specs.Names.{mark, name_before, first_of, has_name, is_double}
use Rattle.asl_def_schema.specs.declared.fault.Step.{Step}
use Rattle.asl_def_schema.specs.declared.sort.Sort.{Sort}
use Rattle.asl_def_schema.specs.declared.sort.Sort.TheVariants as sort
use Rattle.asl_def_schema.specs.Members.{Group, Shape}
use Rattle.asl_def_schema.specs.Claims.{step, counts, any_counts, is_doubled, is_twice, is_template}
use Rattle.asl_def_fault_laws.specs.Parts.{member_at}
use Rattle.asl_def_fault_laws.specs.Faults.{One}
use Rattle.asl_def_fault_laws.specs.Kinds.{BothCount, AreRivals, of_a_group, of_a_template}
use Rattle.asl_def_fault_laws.proofs.Reaching.{taken}

-- ---- one of the members before a number

abbrev any_by : (List ℕ → Data → Bool) → Members → Bool
any_by f [] = false
any_by f (m ∷ ms) = f m.0 m.1 || any_by f ms

counts_any : (g : Group) (ms : Members) → any_counts g ms ≡ any_by (counts g) ms
counts_any g [] = refl
counts_any g (m ∷ ms) = ap (λ (b : Bool). counts g m.0 m.1 || b) (counts_any g ms)

abbrev has_this : List ℕ → List ℕ → Data → Bool
has_this k l d = bytes_eq k l

key_any : (k : List ℕ) (ms : Members) → has_key k ms ≡ any_by (has_this k) ms
key_any k [] = refl
key_any k (m ∷ ms) = ap (λ (b : Bool). bytes_eq k m.0 || b) (key_any k ms)

record IsEarlier (f : List ℕ → Data → Bool) (i : ℕ) (ms : Pairs) : Type 0 where
  at : ℕ
  key : List ℕ
  value : Data
  before : at < i
  there : member_at at key ms ≡ Some value
  so : f key value ≡ true

taken_out : (f : List ℕ → Data → Bool) (i : ℕ) (ms : Pairs) → any_by f (taken i ms) ≡ true → IsEarlier f i ms
taken_out f i no_members e = absurd cc
taken_out f zero (member k d ms) e = absurd cc
taken_out f (suc i) (member k d ms) e = by (f k d) refl (λ u. taken_out f i ms u) e
  where
    by : (b : Bool) → f k d ≡ b → (any_by f (taken i ms) ≡ true → IsEarlier f i ms) → (b || any_by f (taken i ms)) ≡ true → IsEarlier f (suc i) (member k d ms)
    by true g further e = record { at = 0; key = k; value = d; before = omega arith; there = rw (bytes_refl k) refl; so = g }
    by false g further e =
        let r = further e in
        record { at = suc r.at; key = r.key; value = r.value; before = omega (arith, r.before); there = r.there; so = r.so }

or_right : (a b : Bool) → b ≡ true → (a || b) ≡ true
or_right true b e = refl
or_right false b e = e

or_left : (a b : Bool) → a ≡ true → (a || b) ≡ true
or_left true b e = refl
or_left false b e = absurd cc

taken_in : (f : List ℕ → Data → Bool) (i j : ℕ) (k : List ℕ) (v : Data) (ms : Pairs) → j < i → member_at j k ms ≡ Some v → f k v ≡ true → any_by f (taken i ms) ≡ true
taken_in f i j k v no_members lt e g = absurd cc
taken_in f zero j k v (member l d ms) lt e g = absurd (omega arith)
taken_in f (suc i) zero k v (member l d ms) lt e g = by (bytes_eq k l) refl e
  where
    by : (b : Bool) → bytes_eq k l ≡ b → (if b then Some d else None) ≡ Some v → (f l d || any_by f (taken i ms)) ≡ true
    by true same is =
        let name : k ≡ l = same_text k l (sym same) in
        let value : v ≡ d = cc in
        or_left (f l d) (any_by f (taken i ms)) (subst (λ (x : Data). f l x ≡ true) value (subst (λ (m : List ℕ). f m v ≡ true) name g))
    by false same is = absurd cc
taken_in f (suc i) (suc j) k v (member l d ms) lt e g = or_right (f l d) (any_by f (taken i ms)) (taken_in f i j k v ms (omega (arith, lt)) e g)

-- ---- keys that end in the mark

longer : (c : ℕ) (m : List ℕ) → c ∷ (m ++ mark) ≡ mark → ⊥
longer c m e = let n : length (c ∷ (m ++ mark)) ≡ 2 = ap length e in omega (arith, n, length-append m mark)

not_mark : (c : ℕ) (m : List ℕ) → bytes_eq (c ∷ (m ++ mark)) mark ≡ false
not_mark c m = decided (bytes_eq (c ∷ (m ++ mark)) mark) refl
  where
    decided : (b : Bool) → bytes_eq (c ∷ (m ++ mark)) mark ≡ b → b ≡ false
    decided true e = absurd (longer c m (same_text (c ∷ (m ++ mark)) mark (sym e)))
    decided false e = refl

name_before-mark : (n : List ℕ) → name_before (n ++ mark) ≡ Some n
name_before-mark [] = refl
name_before-mark (c ∷ m) = rw (not_mark c m, name_before-mark m) refl

some : {A : Type 0} (a b : A) → Some a ≡ Some b → a ≡ b
some {A = A} a b e = ap (λ (o : Option A). first_of o a) e

ends_in_mark : (k n : List ℕ) → name_before k ≡ Some n → k ≡ n ++ mark
ends_in_mark [] n e = absurd cc
ends_in_mark (c ∷ k) n e = decided (ends_in_mark k) (bytes_eq (c ∷ k) mark) refl e
  where
    inner : ((m : List ℕ) → name_before k ≡ Some m → k ≡ m ++ mark) → (o : Option (List ℕ)) → name_before k ≡ o → option_map (λ (m : List ℕ). c ∷ m) o ≡ Some n → c ∷ k ≡ n ++ mark
    inner further None f g = absurd cc
    inner further (Some m) f g = ap (λ (x : List ℕ). c ∷ x) (further m f) ∙ ap (λ (x : List ℕ). x ++ mark) (some (c ∷ m) n g)

    decided : ((m : List ℕ) → name_before k ≡ Some m → k ≡ m ++ mark) → (b : Bool) → bytes_eq (c ∷ k) mark ≡ b → (if b then Some [] else option_map (λ (m : List ℕ). c ∷ m) (name_before k)) ≡ Some n → c ∷ k ≡ n ++ mark
    decided further true f g = same_text (c ∷ k) mark (sym f) ∙ ap (λ (x : List ℕ). x ++ mark) (some [] n g)
    decided further false f g = inner further (name_before k) refl g

-- ---- rivals

pub record IsRival (sh : Shape) (i : ℕ) (ms : Pairs) (k : List ℕ) (d : Data) : Type 0 where
  pub other : Step
  pub value : Data
  pub before : other.at < i
  pub there : member_at other.at other.name ms ≡ Some value
  pub rivals : AreRivals sh (k, d) (other.name, value)

record IsOfGroup (gs : List Group) (i : ℕ) (ms : Pairs) (k : List ℕ) (d : Data) : Type 0 where
  other : Step
  value : Data
  before : other.at < i
  there : member_at other.at other.name ms ≡ Some value
  one : One (BothCount (k, d) (other.name, value)) gs

group_out : (gs : List Group) (i : ℕ) (ms : Pairs) (k : List ℕ) (d : Data) → is_doubled gs (taken i ms) k d ≡ true → IsOfGroup gs i ms k d
group_out [] i ms k d e = absurd cc
group_out (g ∷ gs) i ms k d e = by (counts g k d) (any_counts g (taken i ms)) refl refl (λ u. group_out gs i ms k d u) e
  where
    more : IsOfGroup gs i ms k d → IsOfGroup (g ∷ gs) i ms k d
    more r = record { other = r.other; value = r.value; before = r.before; there = r.there; one = inr r.one }

    by : (a b : Bool) → counts g k d ≡ a → any_counts g (taken i ms) ≡ b → (is_doubled gs (taken i ms) k d ≡ true → IsOfGroup gs i ms k d) → ((a && b) || is_doubled gs (taken i ms) k d) ≡ true → IsOfGroup (g ∷ gs) i ms k d
    by true true p q further e =
        let r = taken_out (counts g) i ms (sym (counts_any g (taken i ms)) ∙ q) in
        record { other = step r.at r.key; value = r.value; before = r.before; there = r.there; one = inl (p, r.so) }
    by true false p q further e = more (further e)
    by false b p q further e = more (further e)

and_true : (a b : Bool) → a ≡ true → b ≡ true → (a && b) ≡ true
and_true true b e f = f
and_true false b e f = absurd cc

group_in : (gs : List Group) (i j : ℕ) (ms : Pairs) (k l : List ℕ) (d v : Data) → j < i → member_at j l ms ≡ Some v → One (BothCount (k, d) (l, v)) gs → is_doubled gs (taken i ms) k d ≡ true
group_in [] i j ms k l d v lt e h = absurd h
group_in (g ∷ gs) i j ms k l d v lt e (inl h) = or_left (counts g k d && any_counts g (taken i ms)) (is_doubled gs (taken i ms) k d) (and_true (counts g k d) (any_counts g (taken i ms)) h.0 (counts_any g (taken i ms) ∙ taken_in (counts g) i j l v ms lt e h.1))
group_in (g ∷ gs) i j ms k l d v lt e (inr h) = or_right (counts g k d && any_counts g (taken i ms)) (is_doubled gs (taken i ms) k d) (group_in gs i j ms k l d v lt e h)

template_is : (s : Sort) → is_template s ≡ true → s ≡ sort.Template
template_is sort.Template e = refl
template_is s e = absurd cc

twice_out : (sh : Shape) (i : ℕ) (ms : Pairs) (k : List ℕ) (d : Data) → sh.others ≡ sort.Template → is_double (taken i ms) k ≡ true → IsRival sh i ms k d
twice_out sh i ms k d t e = by (has_key (k ++ mark) (taken i ms)) refl e
  where
    named : (o : Option (List ℕ)) → name_before k ≡ o → has_name o (taken i ms) ≡ true → IsRival sh i ms k d
    named None f g = absurd cc
    named (Some n) f g =
        let r = taken_out (has_this n) i ms (sym (key_any n (taken i ms)) ∙ g) in
        let name : n ≡ r.key = same_text n r.key (sym r.so) in
        record { other = step r.at r.key; value = r.value; before = r.before; there = r.there; rivals = of_a_template t (inr (ends_in_mark k n f ∙ ap (λ (m : List ℕ). m ++ mark) name)) }

    by : (b : Bool) → has_key (k ++ mark) (taken i ms) ≡ b → (b || has_name (name_before k) (taken i ms)) ≡ true → IsRival sh i ms k d
    by true f g =
        let r = taken_out (has_this (k ++ mark)) i ms (sym (key_any (k ++ mark) (taken i ms)) ∙ f) in
        record { other = step r.at r.key; value = r.value; before = r.before; there = r.there; rivals = of_a_template t (inl (sym (same_text (k ++ mark) r.key (sym r.so)))) }
    by false f g = named (name_before k) refl g

pub rival_out : (sh : Shape) (i : ℕ) (ms : Pairs) (k : List ℕ) (d : Data) → (is_doubled sh.groups (taken i ms) k d || is_twice sh.others (taken i ms) k) ≡ true → IsRival sh i ms k d
rival_out sh i ms k d e = by (is_doubled sh.groups (taken i ms) k d) refl e
  where
    template : (b : Bool) → is_template sh.others ≡ b → (b && is_double (taken i ms) k) ≡ true → IsRival sh i ms k d
    template true f g = twice_out sh i ms k d (template_is sh.others f) g
    template false f g = absurd cc

    by : (b : Bool) → is_doubled sh.groups (taken i ms) k d ≡ b → (b || is_twice sh.others (taken i ms) k) ≡ true → IsRival sh i ms k d
    by true f g =
        let r = group_out sh.groups i ms k d f in
        record { other = r.other; value = r.value; before = r.before; there = r.there; rivals = of_a_group r.one }
    by false f g = template (is_template sh.others) refl g

key_in : (n : List ℕ) (i j : ℕ) (ms : Pairs) (l : List ℕ) (v : Data) → j < i → member_at j l ms ≡ Some v → l ≡ n → has_key n (taken i ms) ≡ true
key_in n i j ms l v lt e same = key_any n (taken i ms) ∙ taken_in (has_this n) i j l v ms lt e (subst (λ (m : List ℕ). bytes_eq n m ≡ true) (sym same) (bytes_refl n))

pub rival_in : (sh : Shape) (i j : ℕ) (ms : Pairs) (k l : List ℕ) (d v : Data) → j < i → member_at j l ms ≡ Some v → AreRivals sh (k, d) (l, v) → (is_doubled sh.groups (taken i ms) k d || is_twice sh.others (taken i ms) k) ≡ true
rival_in sh i j ms k l d v lt e (of_a_group h) = or_left (is_doubled sh.groups (taken i ms) k d) (is_twice sh.others (taken i ms) k) (group_in sh.groups i j ms k l d v lt e h)
rival_in sh i j ms k l d v lt e (of_a_template t h) = or_right (is_doubled sh.groups (taken i ms) k d) (is_twice sh.others (taken i ms) k) (subst (λ (s : Sort). is_twice s (taken i ms) k ≡ true) (sym t) (by h))
  where
    by : (l ≡ k ++ mark) ⊎ (k ≡ l ++ mark) → is_double (taken i ms) k ≡ true
    by (inl f) = or_left (has_key (k ++ mark) (taken i ms)) (has_name (name_before k) (taken i ms)) (key_in (k ++ mark) i j ms l v lt e f)
    by (inr f) = or_right (has_key (k ++ mark) (taken i ms)) (has_name (name_before k) (taken i ms)) (subst (λ (o : Option (List ℕ)). has_name o (taken i ms) ≡ true) (sym (ap name_before f ∙ name_before-mark l)) (key_in l i j ms l v lt e refl))
