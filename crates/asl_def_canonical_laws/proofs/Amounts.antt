-- Amounts of members: putting them in order adds none.
use Rattle.std.proofs.Common.{◌≡◌, ℕ, ◌+◌, ◌≤◌, List, [], ◌∷◌, ◌++◌, Bool, true, false, not, ◌&&◌, ◌⊎◌, inl, inr, refl, sym, ap, ◌∙◌, subst, arith}
use Rattle.std.specs.Prelude.{Option, Some, None, max}
use Rattle.std.specs.Cmp.Lexicographic.{same_text}
use Rattle.asl_json_data.specs.Data.{Data, Pairs, no_members, member, pairs, depth, members_depth}
use Rattle.asl_json.specs.Same.{bytes_eq}
use Rattle.asl_json.specs.Meaning.{value_at}
use Rattle.asl_json.proofs.Knowing.{bytes_eq-flip}
use Rattle.asl_def_schema.specs.declared.sort.Sort.{Sort}
use Rattle.asl_def_schema.specs.declared.sort.Sort.TheVariants as sort
use Rattle.asl_def_schema.specs.declared.sort.Kind.{Kind}
use Rattle.asl_def_schema.specs.declared.sort.Kind.TheVariants as kind
use Rattle.asl_def_schema.specs.Members.{Row, shape_of, untyped_rows, definition_rows, machine_rows, item_processor_rows, processor_config_rows, task_rows, pass_rows, choice_rows, wait_rows, parallel_rows, map_rows, succeed_rows, fail_rows, test_rows, inner_rule_rows, rule_rows, retrier_rows, catcher_rows}
use Rattle.asl_def_schema.specs.Canon.{Named, opt, kept, picked}
use Rattle.asl_def_schema.proofs.Deciding.{neither_is, not_true}
use Rattle.asl_def_canonical_laws.proofs.Twice.{is_row, kept_ways}

-- ---- no row comes twice

abbrev pub rows_differ : List Row → Bool
rows_differ [] = true
rows_differ (r ∷ rs) = not (is_row r.name rs) && rows_differ rs

pub both_are : (a b : Bool) → (a && b) ≡ true → (a ≡ true) × (b ≡ true)
both_are true b e = (refl, e)
both_are false b e = absurd cc

pub shape_differs : (s : Sort) (o : Option Kind) → rows_differ (shape_of s o).rows ≡ true
unfolding untyped_rows definition_rows machine_rows item_processor_rows processor_config_rows task_rows pass_rows choice_rows wait_rows parallel_rows map_rows succeed_rows fail_rows test_rows inner_rule_rows rule_rows retrier_rows catcher_rows
shape_differs sort.State None = refl
shape_differs sort.State (Some kind.Task) = refl
shape_differs sort.State (Some kind.Pass) = refl
shape_differs sort.State (Some kind.Choice) = refl
shape_differs sort.State (Some kind.Wait) = refl
shape_differs sort.State (Some kind.Parallel) = refl
shape_differs sort.State (Some kind.Map) = refl
shape_differs sort.State (Some kind.Succeed) = refl
shape_differs sort.State (Some kind.Fail) = refl
shape_differs s o = refl

-- ---- sums over members

abbrev pub total : (List ℕ → Data → ℕ) → Pairs → ℕ
total f no_members = 0
total f (member k d ms) = f k d + total f ms

abbrev weigh : (List ℕ → Data → ℕ) → List ℕ → Option Data → ℕ
weigh f k None = 0
weigh f k (Some d) = f k d

opt_total : (f : List ℕ → Data → ℕ) (k : List ℕ) (o : Option Data) (xs : List Named) → total f (pairs (opt k o ++ xs)) ≡ weigh f k o + total f (pairs xs)
opt_total f k None xs = omega arith
opt_total f k (Some d) xs = refl

kept_weight : (f : List ℕ → Data → ℕ) (k : List ℕ) (o : Option Data) → weigh f k (kept k o) ≤ weigh f k o
kept_weight f k o = by (kept_ways k o)
  where
    by : (kept k o ≡ None) ⊎ (kept k o ≡ o) → weigh f k (kept k o) ≤ weigh f k o
    by (inl e) = subst (λ (x : Option Data). weigh f k x ≤ weigh f k o) (sym e) (omega arith)
    by (inr e) = subst (λ (x : Option Data). weigh f k x ≤ weigh f k o) (sym e) (omega arith)

picked_none : (rs : List Row) → picked rs no_members ≡ []
picked_none [] = refl
picked_none (r ∷ rs) = picked_none rs

-- a member of which there is no row
picked_same : (k : List ℕ) (d : Data) (rs : List Row) (ms : Pairs) → is_row k rs ≡ false → picked rs (member k d ms) ≡ picked rs ms
picked_same k d [] ms e = refl
picked_same k d (r ∷ rs) ms e =
    let h = neither_is (bytes_eq k r.name) (is_row k rs) e in
    let off : bytes_eq r.name k ≡ false = bytes_eq-flip r.name k ∙ h.0 in
    rw off (ap (λ (xs : List Named). opt r.name (kept r.name (value_at r.name ms)) ++ xs) (picked_same k d rs ms h.1))

behind : (t u a b x y m : ℕ) → t ≡ a + x → u ≡ b + y → a ≤ m → x ≡ y → t ≤ m + u
behind t u a b x y m p q r s = omega (arith, p, q, r, s)

between : (t u a x y m : ℕ) → t ≡ a + x → u ≡ a + y → x ≤ m + y → t ≤ m + u
between t u a x y m p q r = omega (arith, p, q, r)

picked_more : (f : List ℕ → Data → ℕ) (rs : List Row) (k : List ℕ) (d : Data) (ms : Pairs) → rows_differ rs ≡ true → total f (pairs (picked rs (member k d ms))) ≤ f k d + total f (pairs (picked rs ms))
picked_more f [] k d ms e = omega arith
picked_more f (r ∷ rs) k d ms e = by (bytes_eq r.name k) refl (both_are (not (is_row r.name rs)) (rows_differ rs) e).0 (picked_more f rs k d ms (both_are (not (is_row r.name rs)) (rows_differ rs) e).1)
  where
    by : (b : Bool) → bytes_eq r.name k ≡ b → not (is_row r.name rs) ≡ true → total f (pairs (picked rs (member k d ms))) ≤ f k d + total f (pairs (picked rs ms)) → total f (pairs (picked (r ∷ rs) (member k d ms))) ≤ f k d + total f (pairs (picked (r ∷ rs) ms))
    by true p new rest =
        let same : r.name ≡ k = same_text r.name k (sym p) in
        let off : is_row k rs ≡ false = subst (λ (l : List ℕ). is_row l rs ≡ false) same (not_true (is_row r.name rs) new) in
        rw p
        (behind _ _ (weigh f r.name (kept r.name (Some d))) _ _ _ (f k d) (opt_total f r.name (kept r.name (Some d)) (picked rs (member k d ms))) (opt_total f r.name (kept r.name (value_at r.name ms)) (picked rs ms))
        (subst (λ (l : List ℕ). weigh f r.name (kept r.name (Some d)) ≤ f l d) same (kept_weight f r.name (Some d)))
        (ap (λ (xs : List Named). total f (pairs xs)) (picked_same k d rs ms off)))
    by false p new rest =
        rw p
        (between _ _ _ _ _ (f k d) (opt_total f r.name (kept r.name (value_at r.name ms)) (picked rs (member k d ms))) (opt_total f r.name (kept r.name (value_at r.name ms)) (picked rs ms)) rest)

pub picked_total : (f : List ℕ → Data → ℕ) (rs : List Row) (ms : Pairs) → rows_differ rs ≡ true → total f (pairs (picked rs ms)) ≤ total f ms
picked_total f rs no_members e = subst (λ (xs : List Named). total f (pairs xs) ≤ 0) (sym (picked_none rs)) (omega arith)
picked_total f rs (member k d ms) e = omega (arith, picked_more f rs k d ms e, picked_total f rs ms e)

-- ---- depth

value_depth : (k : List ℕ) (ms : Pairs) (d : Data) → value_at k ms ≡ Some d → depth d ≤ members_depth ms
value_depth k no_members d e = absurd cc
value_depth k (member l v ms) d e = by (bytes_eq k l) refl (λ f. value_depth k ms d f)
  where
    by : (b : Bool) → bytes_eq k l ≡ b → (value_at k ms ≡ Some d → depth d ≤ members_depth ms) → depth d ≤ max (depth v) (members_depth ms)
    by true p rest = let same : v ≡ d = let x = rw p at e in cc in subst (λ (x : Data). depth x ≤ max (depth v) (members_depth ms)) same (omega arith)
    by false p rest = omega (arith, rest (rw p at e))

opt_depth : (k : List ℕ) (o : Option Data) (xs : List Named) (n : ℕ) → ((d : Data) → o ≡ Some d → depth d ≤ n) → members_depth (pairs xs) ≤ n → members_depth (pairs (opt k o ++ xs)) ≤ n
opt_depth k None xs n h e = e
opt_depth k (Some d) xs n h e = omega (arith, h d refl, e)

pub kept_is : (k : List ℕ) (o : Option Data) (d : Data) → kept k o ≡ Some d → o ≡ Some d
kept_is k o d e = by (kept_ways k o)
  where
    by : (kept k o ≡ None) ⊎ (kept k o ≡ o) → o ≡ Some d
    by (inl h) = absurd (let x : None ≡ Some d = sym h ∙ e in cc)
    by (inr h) = sym h ∙ e

pub picked_depth : (rs : List Row) (ms : Pairs) → members_depth (pairs (picked rs ms)) ≤ members_depth ms
picked_depth [] ms = omega arith
picked_depth (r ∷ rs) ms = opt_depth r.name (kept r.name (value_at r.name ms)) (picked rs ms) (members_depth ms) (λ d e. value_depth r.name ms d (kept_is r.name (value_at r.name ms) d e)) (picked_depth rs ms)
