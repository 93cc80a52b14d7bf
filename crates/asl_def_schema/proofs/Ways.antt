-- How a state goes on, and which of some members is there.
use Rattle.std.proofs.Common.{◌≡◌, ℕ, List, [], ◌∷◌, ◌++◌, Bool, true, false, ◌||◌, ◌&&◌, not, inl, inr, refl, sym, subst, ◌∙◌}
use Rattle.std.specs.Prelude.{Option, Some, None, is_some, codes, if◌then◌else◌}
use Rattle.std.specs.Cmp.Lexicographic.{same_text}
use Rattle.asl_json_data.specs.Data.{Data, Pairs, no_members, member, pairs}
use Rattle.asl_json.specs.Same.{bytes_eq}
use Rattle.asl_json.specs.private.SameLaws.{bytes_refl}
use Rattle.asl_json.specs.Meaning.{value_at}
use Rattle.asl_json_data.specs.Distinct.{Members, has_key, AreDistinct}
use Rattle.asl_json.proofs.Knowing.{has_key-push}
use Rattle.asl_def_schema.specs.declared.sort.Sort.{Sort}
use Rattle.asl_def_schema.specs.declared.sort.Sort.TheVariants as sort
use Rattle.asl_def_schema.specs.declared.sort.Kind.{Kind}
use Rattle.asl_def_schema.specs.declared.sort.Kind.TheVariants as kind
use Rattle.asl_def_schema.specs.Members.{Group, exactly_one, at_most_one, Shape, sort_at, state_shape, is_among, transition, wait_time, processor_group, selector_group, operators, test_rows, connectives, rule_groups, task_rows, pass_rows, wait_rows, parallel_rows, map_rows}
use Rattle.asl_def_schema.specs.Claims.{counts, any_in, is_true, has_any}
use Rattle.asl_def_schema.specs.Clean.{IsCleanInside, Fits, GoesOneWay, is_ending, goes_on}
use Rattle.asl_def_schema.proofs.Inside.{fits_at, any_there, or_right}
use Rattle.asl_def_schema.proofs.Deciding.{IsGroup, neither_is, one_counts, some_counts}

-- ---- which of some members is there

record IsPresent (ks : List (List ℕ)) (ms : Pairs) : Type 0 where
  name : List ℕ
  among : is_among name ks ≡ true
  there : is_some (value_at name ms) ≡ true

pub and_left : (a b : Bool) → (a && b) ≡ true → a ≡ true
and_left true b e = refl
and_left false b e = absurd cc

further : (l k : List ℕ) (d : Data) (ms : Pairs) → is_some (value_at l ms) ≡ true → is_some (value_at l (member k d ms)) ≡ true
further l k d ms e = by (bytes_eq l k)
  where
    by : (b : Bool) → is_some (if b then Some d else value_at l ms) ≡ true
    by true = refl
    by false = e

present : (g : Group) (ms : Pairs) → any_in g ms ≡ true → IsPresent g.names ms
present g no_members e = absurd cc
present g (member k d ms) e = by (counts g k d) refl (λ f. present g ms f)
  where
    by : (b : Bool) → counts g k d ≡ b → (any_in g ms ≡ true → IsPresent g.names ms) → IsPresent g.names (member k d ms)
    by true h rest = record { name = k; among = and_left (is_among k g.names) (not (bytes_eq k (codes "End")) || is_true d) h; there = rw (bytes_refl k) refl }
    by false h rest =
        let r = rest (rw h at e) in
        record { name = r.name; among = r.among; there = further r.name k d ms r.there }

-- of an exact group some member is there
pub some_there : (names : List ℕ → Bool) (sh : Shape) (g : Group) (ms : Pairs) → IsCleanInside names sh ms → IsGroup g sh.groups → g.exact ≡ true → has_any g.names ms ≡ true
some_there names sh g ms c at e =
    let r = present g ms (some_counts names sh g ms c at e) in
    any_there r.name g.names ms r.among r.there

counted : (g : Group) (k : List ℕ) (d : Data) → is_among k g.names ≡ true → bytes_eq k (codes "End") ≡ false → counts g k d ≡ true
counted g k d e n = rw (e, n) refl

end_among : (l : List ℕ) (ks : List (List ℕ)) → is_among (codes "End") ks ≡ false → is_among l ks ≡ true → bytes_eq l (codes "End") ≡ false
end_among l ks off e = by (bytes_eq l (codes "End")) refl
  where
    by : (b : Bool) → bytes_eq l (codes "End") ≡ b → bytes_eq l (codes "End") ≡ false
    by false h = h
    by true h = absurd (let is : is_among (codes "End") ks ≡ true = subst (λ (k : List ℕ). is_among k ks ≡ true) (same_text l (codes "End") (sym h)) e in let x : true ≡ false = sym is ∙ off in cc)

-- of two members of a group that End isn't of, one isn't there
pub two_there : (names : List ℕ → Bool) (sh : Shape) (g : Group) (ms : Pairs) (k l : List ℕ) → IsCleanInside names sh ms → IsGroup g sh.groups → is_among (codes "End") g.names ≡ false → is_among k g.names ≡ true → is_among l g.names ≡ true → bytes_eq k l ≡ false → is_some (value_at k ms) ≡ true → is_some (value_at l ms) ≡ false
two_there names sh g ms k l c at off a b ne h = by (value_at k ms) (value_at l ms) refl refl
  where
    by : (o p : Option Data) → value_at k ms ≡ o → value_at l ms ≡ p → is_some (value_at l ms) ≡ false
    by o None e f = rw f refl
    by None p e f = absurd (let x = rw e at h in cc)
    by (Some d) (Some v) e f = absurd (one_counts names sh g ms k l d v c at ne e f (counted g k d a (end_among k g.names off a)) (counted g l v b (end_among l g.names off b)))

-- a Wait state has one of its times
pub wait_some : (names : List ℕ → Bool) (ms : Pairs) → IsCleanInside names (state_shape (Some kind.Wait)) ms → has_any wait_time.names ms ≡ true
wait_some names ms c = some_there names (state_shape (Some kind.Wait)) wait_time ms c (inl refl) refl

pub wait_one : (names : List ℕ → Bool) (ms : Pairs) (k l : List ℕ) → IsCleanInside names (state_shape (Some kind.Wait)) ms → is_among k wait_time.names ≡ true → is_among l wait_time.names ≡ true → bytes_eq k l ≡ false → is_some (value_at k ms) ≡ true → is_some (value_at l ms) ≡ false
wait_one names ms k l c a b ne h = two_there names (state_shape (Some kind.Wait)) wait_time ms k l c (inl refl) refl a b ne h

-- a Map has its machine in one spelling
pub processor_some : (names : List ℕ → Bool) (ms : Pairs) → IsCleanInside names (state_shape (Some kind.Map)) ms → has_any processor_group.names ms ≡ true
processor_some names ms c = some_there names (state_shape (Some kind.Map)) processor_group ms c (inl refl) refl

pub processor_one : (names : List ℕ → Bool) (ms : Pairs) → IsCleanInside names (state_shape (Some kind.Map)) ms → is_some (value_at (codes "ItemProcessor") ms) ≡ true → is_some (value_at (codes "Iterator") ms) ≡ false
processor_one names ms c h = two_there names (state_shape (Some kind.Map)) processor_group ms (codes "ItemProcessor") (codes "Iterator") c (inl refl) refl refl refl refl h

-- and the template for the inputs of its iterations
pub selector_one : (names : List ℕ → Bool) (ms : Pairs) → IsCleanInside names (state_shape (Some kind.Map)) ms → is_some (value_at (codes "Parameters") ms) ≡ true → is_some (value_at (codes "ItemSelector") ms) ≡ false
selector_one names ms c h = two_there names (state_shape (Some kind.Map)) selector_group ms (codes "Parameters") (codes "ItemSelector") c (inr (inl refl)) refl refl refl refl h

-- a rule has one test or connective
abbrev rule_tests : Group
rule_tests = exactly_one (operators ++ connectives)

pub rule_some : (names : List ℕ → Bool) (sh : Shape) (ms : Pairs) → sh.groups ≡ rule_groups → IsCleanInside names sh ms → has_any (operators ++ connectives) ms ≡ true
rule_some names sh ms e c = some_there names sh rule_tests ms c (subst (IsGroup rule_tests) (sym e) (inl refl)) refl

end_no_test : is_among (codes "End") (operators ++ connectives) ≡ false
unfolding operators test_rows
end_no_test = refl

pub rule_one : (names : List ℕ → Bool) (sh : Shape) (ms : Pairs) (k l : List ℕ) → sh.groups ≡ rule_groups → IsCleanInside names sh ms → is_among k (operators ++ connectives) ≡ true → is_among l (operators ++ connectives) ≡ true → bytes_eq k l ≡ false → is_some (value_at k ms) ≡ true → is_some (value_at l ms) ≡ false
rule_one names sh ms k l e c a b ne h = two_there names sh rule_tests ms k l c (subst (IsGroup rule_tests) (sym e) (inl refl)) end_no_test a b ne h

abbrev unbound : Group
unbound = at_most_one (codes "Variable" ∷ connectives)

-- and no Variable beside a connective
pub rule_unbound : (names : List ℕ → Bool) (sh : Shape) (ms : Pairs) (k : List ℕ) → sh.groups ≡ rule_groups → IsCleanInside names sh ms → is_among k connectives ≡ true → is_some (value_at k ms) ≡ true → is_some (value_at (codes "Variable") ms) ≡ false
rule_unbound names sh ms k e c a h = two_there names sh unbound ms k (codes "Variable") c (subst (IsGroup unbound) (sym e) (inr (inl refl))) refl (or_right (bytes_eq k (codes "Variable")) (is_among k connectives) a) refl (apart (bytes_eq k (codes "Variable")) refl) h
  where
    apart : (b : Bool) → bytes_eq k (codes "Variable") ≡ b → bytes_eq k (codes "Variable") ≡ false
    apart false q = q
    apart true q = absurd (let x = subst (λ (l : List ℕ). is_among l connectives ≡ true) (same_text k (codes "Variable") (sym q)) a in cc)

-- ---- how a state goes on

-- a key that is there isn't among those before
is_new : (seen xs : Members) (k : List ℕ) (d : Data) → AreDistinct seen xs → value_at k (pairs xs) ≡ Some d → has_key k seen ≡ false
is_new seen [] k d h e = absurd cc
is_new seen (x ∷ xs) k d h e = by (bytes_eq k x.0) refl (λ f. is_new (seen ++ x ∷ []) xs k d h.1 f)
  where
    by : (b : Bool) → bytes_eq k x.0 ≡ b → (value_at k (pairs xs) ≡ Some d → has_key k (seen ++ x ∷ []) ≡ false) → has_key k seen ≡ false
    by true p rest = subst (λ (l : List ℕ). has_key l seen ≡ false) (sym (same_text k x.0 (sym p))) h.0
    by false p rest = (neither_is (has_key k seen) (bytes_eq k x.0) (sym (has_key-push k seen x) ∙ rest (rw p at e))).0

pub none_in : (g : Group) (seen xs : Members) → AreDistinct seen xs → ((k : List ℕ) (d : Data) → value_at k (pairs xs) ≡ Some d → counts g k d ≡ false) → any_in g (pairs xs) ≡ false
none_in g seen [] h off = refl
none_in g seen (x ∷ xs) h off =
    let first : counts g x.0 x.1 ≡ false = off x.0 x.1 (rw (bytes_refl x.0) refl) in
    rw (first) (none_in g (seen ++ x ∷ []) xs h.1 (λ k d e. off k d (behind k d e)))
  where
    behind : (k : List ℕ) (d : Data) → value_at k (pairs xs) ≡ Some d → value_at k (pairs (x ∷ xs)) ≡ Some d
    behind k d e =
        let new = is_new (seen ++ x ∷ []) xs k d h.1 e in
        let apart = neither_is (has_key k seen) (bytes_eq k x.0) (sym (has_key-push k seen x) ∙ new) in
        rw apart.1 e

is_transition : (k : Kind) → goes_on k ≡ true → IsGroup transition (state_shape (Some k)).groups
is_transition kind.Task e = inr (inr (inl refl))
is_transition kind.Pass e = inl refl
is_transition kind.Wait e = inr (inl refl)
is_transition kind.Parallel e = inl refl
is_transition kind.Map e = inr (inr (inl refl))
is_transition kind.Choice e = absurd cc
is_transition kind.Succeed e = absurd cc
is_transition kind.Fail e = absurd cc

end_sort : (k : Kind) → goes_on k ≡ true → sort_at (state_shape (Some k)) (codes "End") ≡ sort.Truth
unfolding task_rows pass_rows wait_rows parallel_rows map_rows
end_sort kind.Task e = refl
end_sort kind.Pass e = refl
end_sort kind.Wait e = refl
end_sort kind.Parallel e = refl
end_sort kind.Map e = refl
end_sort kind.Choice e = absurd cc
end_sort kind.Succeed e = absurd cc
end_sort kind.Fail e = absurd cc

none_goes : (ms : Pairs) → is_some (value_at (codes "Next") ms) ≡ false → is_ending (value_at (codes "End") ms) ≡ false → (k : List ℕ) (d : Data) → value_at k ms ≡ Some d → counts transition k d ≡ false
none_goes ms x y k d e = by (bytes_eq k (codes "Next")) (bytes_eq k (codes "End")) refl refl
  where
    by : (a b : Bool) → bytes_eq k (codes "Next") ≡ a → bytes_eq k (codes "End") ≡ b → counts transition k d ≡ false
    by true b p q =
        let is : value_at (codes "Next") ms ≡ Some d = subst (λ (l : List ℕ). value_at l ms ≡ Some d) (same_text k (codes "Next") (sym p)) e in
        absurd (let z = rw is at x in cc)
    by false true p q =
        let is : value_at (codes "End") ms ≡ Some d = subst (λ (l : List ℕ). value_at l ms ≡ Some d) (same_text k (codes "End") (sym q)) e in
        let off : is_true d ≡ false = rw is at y in
        rw (p, q) off
    by false false p q = rw (p, q) refl

-- by exactly one of Next and a true End
pub one_way : (names : List ℕ → Bool) (k : Kind) (xs : Members) → goes_on k ≡ true → AreDistinct [] xs → IsCleanInside names (state_shape (Some k)) (pairs xs) → GoesOneWay (value_at (codes "Next") (pairs xs)) (value_at (codes "End") (pairs xs))
one_way names k xs on distinct c = record {
  fits = subst (λ (s : Sort). Fits s (value_at (codes "End") (pairs xs))) (end_sort k on) (fits_at names (state_shape (Some k)) (pairs xs) (codes "End") c);
  both = twice (value_at (codes "Next") (pairs xs)) (value_at (codes "End") (pairs xs)) refl refl;
  neither = λ x y. never (none_in transition [] xs distinct (none_goes (pairs xs) x y));
}
  where
    twice : (next ends : Option Data) → value_at (codes "Next") (pairs xs) ≡ next → value_at (codes "End") (pairs xs) ≡ ends → is_some next ≡ true → is_ending ends ≡ true → ⊥
    twice None ends p q x y = absurd cc
    twice (Some d) None p q x y = absurd cc
    twice (Some d) (Some e) p q x y = one_counts names (state_shape (Some k)) transition (pairs xs) (codes "Next") (codes "End") d e c (is_transition k on) refl p q refl y

    never : any_in transition (pairs xs) ≡ false → ⊥
    never off = absurd (let on_it = some_counts names (state_shape (Some k)) transition (pairs xs) c (is_transition k on) refl in let z : true ≡ false = sym on_it ∙ off in cc)
