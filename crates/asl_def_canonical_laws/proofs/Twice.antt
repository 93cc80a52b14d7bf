-- The canonical form is its own canonical form.
use Rattle.std.proofs.Common.{◌≡◌, ℕ, List, [], ◌∷◌, ◌++◌, Bool, true, false, ◌||◌, ◌⊎◌, inl, inr, refl, sym, ap, ◌∙◌, subst}
use Rattle.std.specs.Prelude.{Option, Some, None, option_map, codes}
use Rattle.std.specs.Cmp.Lexicographic.{same_text}
use Rattle.asl_json_data.specs.Data.{Data, null, boolean, number, text, list, dict, Chain, no_items, item, Pairs, no_members, member, pairs}
use Rattle.asl_json.specs.Same.{bytes_eq}
use Rattle.asl_json.specs.private.SameLaws.{bytes_refl}
use Rattle.asl_json.specs.Meaning.{value_at}
use Rattle.asl_def_schema.specs.declared.sort.Sort.{Sort}
use Rattle.asl_def_schema.specs.declared.sort.Sort.TheVariants as sort
use Rattle.asl_def_schema.specs.declared.sort.Kind.{Kind}
use Rattle.asl_def_schema.specs.declared.sort.Kind.TheVariants as kind
use Rattle.asl_def_schema.specs.Members.{Row, Shape, sort_at, shape_in, item_sort, state_shape, kind_named, untyped_rows}
use Rattle.asl_def_schema.specs.Canon.{Named, opt, kept, canon, canon_items, canon_members, arranged, listed, picked, is_plain, canonical}
use Rattle.asl_def_schema.proofs.Canons.{value_at-canon, plain_kept}
use Rattle.asl_def_schema.proofs.Inside.{or_right}
use Rattle.asl_def_schema.proofs.Deciding.{neither_is}

-- ---- what the canonical object has at a name

abbrev pub is_row : List ℕ → List Row → Bool
is_row k [] = false
is_row k (r ∷ rs) = bytes_eq k r.name || is_row k rs

pub picked_apart : (k : List ℕ) (rs : List Row) (ms : Pairs) → is_row k rs ≡ false → value_at k (pairs (picked rs ms)) ≡ None
picked_apart k [] ms e = refl
picked_apart k (r ∷ rs) ms e = by (kept r.name (value_at r.name ms)) (neither_is (bytes_eq k r.name) (is_row k rs) e).0 (picked_apart k rs ms (neither_is (bytes_eq k r.name) (is_row k rs) e).1)
  where
    by : (o : Option Data) → bytes_eq k r.name ≡ false → value_at k (pairs (picked rs ms)) ≡ None → value_at k (pairs (opt r.name o ++ picked rs ms)) ≡ None
    by None p rest = rest
    by (Some d) p rest = rw p rest

pub picked_there : (k : List ℕ) (rs : List Row) (ms : Pairs) → is_row k rs ≡ true → value_at k (pairs (picked rs ms)) ≡ kept k (value_at k ms)
picked_there k [] ms e = absurd cc
picked_there k (r ∷ rs) ms e = by (bytes_eq k r.name) (is_row k rs) (kept r.name (value_at r.name ms)) refl refl refl (λ f. picked_there k rs ms f)
  where
    alike : k ≡ r.name → kept r.name (value_at r.name ms) ≡ kept k (value_at k ms)
    alike e = ap (λ (l : List ℕ). kept l (value_at l ms)) (sym e)

    by : (a b : Bool) (o : Option Data) → bytes_eq k r.name ≡ a → is_row k rs ≡ b → kept r.name (value_at r.name ms) ≡ o → (is_row k rs ≡ true → value_at k (pairs (picked rs ms)) ≡ kept k (value_at k ms)) → value_at k (pairs (opt r.name o ++ picked rs ms)) ≡ kept k (value_at k ms)
    by true b (Some d) p q h rest = rw p (sym h ∙ alike (same_text k r.name (sym p)))
    by true true None p q h rest = rest q
    by true false None p q h rest = picked_apart k rs ms q ∙ sym h ∙ alike (same_text k r.name (sym p))
    by false b None p q h rest = rest (rw p at e)
    by false b (Some d) p q h rest = rw p (rest (rw p at e))

pub kept_ways : (k : List ℕ) (o : Option Data) → (kept k o ≡ None) ⊎ (kept k o ≡ o)
kept_ways k None = inr refl
kept_ways k (Some null) = inr refl
kept_ways k (Some (boolean true)) = inr refl
kept_ways k (Some (boolean false)) = by (bytes_eq k (codes "End")) refl
  where
    by : (b : Bool) → bytes_eq k (codes "End") ≡ b → (kept k (Some (boolean false)) ≡ None) ⊎ (kept k (Some (boolean false)) ≡ Some (boolean false))
    by true e = inl (rw e refl)
    by false e = inr (rw e refl)
kept_ways k (Some (number n)) = inr refl
kept_ways k (Some (text t)) = inr refl
kept_ways k (Some (list ds)) = inr refl
kept_ways k (Some (dict ms)) = inr refl

-- ---- the type of a state stays

type_row : (o : Option Kind) → is_row (codes "Type") (state_shape o).rows ≡ true
unfolding untyped_rows
type_row None = refl
type_row (Some kind.Task) = refl
type_row (Some kind.Pass) = refl
type_row (Some kind.Choice) = refl
type_row (Some kind.Wait) = refl
type_row (Some kind.Parallel) = refl
type_row (Some kind.Map) = refl
type_row (Some kind.Succeed) = refl
type_row (Some kind.Fail) = refl

type_plain : (o : Option Kind) → is_plain (sort_at (state_shape o) (codes "Type")) ≡ true
unfolding untyped_rows
type_plain None = refl
type_plain (Some kind.Task) = refl
type_plain (Some kind.Pass) = refl
type_plain (Some kind.Choice) = refl
type_plain (Some kind.Wait) = refl
type_plain (Some kind.Parallel) = refl
type_plain (Some kind.Map) = refl
type_plain (Some kind.Succeed) = refl
type_plain (Some kind.Fail) = refl

pub type_kept : (o : Option Kind) (ms : Pairs) → value_at (codes "Type") (pairs (picked (state_shape o).rows (canon_members (state_shape o) ms))) ≡ value_at (codes "Type") ms
type_kept o ms =
    picked_there (codes "Type") (state_shape o).rows (canon_members (state_shape o) ms) (type_row o)
    ∙ ap (kept (codes "Type")) (value_at-canon (codes "Type") (state_shape o) ms)
    ∙ plain_kept (codes "Type") (sort_at (state_shape o) (codes "Type")) ms (type_plain o) refl

-- so its shape does
pub shape_kept : (ms : Pairs) → shape_in sort.State (pairs (picked (shape_in sort.State ms).rows (canon_members (shape_in sort.State ms) ms))) ≡ shape_in sort.State ms
shape_kept ms = ap (λ (o : Option Data). state_shape (kind_named o)) (type_kept (kind_named (value_at (codes "Type") ms)) ms)

-- ---- once more

kept_again : (k : List ℕ) (s : Sort) (o : Option Data) → option_map (canon s) o ≡ o → kept k (option_map (canon s) (kept k o)) ≡ kept k o
kept_again k s o e = by (kept_ways k o)
  where
    by : (kept k o ≡ None) ⊎ (kept k o ≡ o) → kept k (option_map (canon s) (kept k o)) ≡ kept k o
    by (inl h) = subst (λ (x : Option Data). kept k (option_map (canon s) x) ≡ x) (sym h) refl
    by (inr h) = ap (λ (x : Option Data). kept k (option_map (canon s) x)) h ∙ ap (kept k) e

picked_again : (sh : Shape) (all rs : List Row) (cs : Pairs) → ((k : List ℕ) → is_row k rs ≡ true → is_row k all ≡ true) → canon_members sh cs ≡ cs → picked rs (canon_members sh (pairs (picked all cs))) ≡ picked rs cs
picked_again sh all [] cs within e = refl
picked_again sh all (r ∷ rs) cs within e =
    let k = r.name in
    let s = sort_at sh k in
    let there = within k (rw (bytes_refl k) refl) in
    let still : option_map (canon s) (value_at k cs) ≡ value_at k cs = sym (value_at-canon k sh cs) ∙ ap (value_at k) e in
    let first = ap (kept k) (value_at-canon k sh (pairs (picked all cs)) ∙ ap (option_map (canon s)) (picked_there k all cs there)) ∙ kept_again k s (value_at k cs) still in
    ap (λ (o : Option Data). opt k o ++ picked rs (canon_members sh (pairs (picked all cs)))) first
    ∙ ap (λ (xs : List Named). opt k (kept k (value_at k cs)) ++ xs) (picked_again sh all rs cs (λ l f. within l (or_right (bytes_eq l r.name) (is_row l rs) f)) e)

ordered_again : (sh : Shape) (ms : Pairs) → canon_members sh (canon_members sh ms) ≡ canon_members sh ms → dict (pairs (picked sh.rows (canon_members sh (pairs (picked sh.rows (canon_members sh ms)))))) ≡ dict (pairs (picked sh.rows (canon_members sh ms)))
ordered_again sh ms e = ap (λ (xs : List Named). dict (pairs xs)) (picked_again sh sh.rows sh.rows (canon_members sh ms) (λ k f. f) e)

arranged_again : (s : Sort) (ms : Pairs) → canon_members (shape_in s ms) (canon_members (shape_in s ms) ms) ≡ canon_members (shape_in s ms) ms → canon s (arranged s (shape_in s ms).rows ms (canon_members (shape_in s ms) ms)) ≡ arranged s (shape_in s ms).rows ms (canon_members (shape_in s ms) ms)
arranged_again sort.Definition ms e = ordered_again (shape_in sort.Definition ms) ms e
arranged_again sort.Machine ms e = ordered_again (shape_in sort.Machine ms) ms e
arranged_again sort.ItemProcessor ms e = ordered_again (shape_in sort.ItemProcessor ms) ms e
arranged_again sort.State ms e =
    let ns = pairs (picked (shape_in sort.State ms).rows (canon_members (shape_in sort.State ms) ms)) in
    ap (λ (sh : Shape). dict (pairs (picked sh.rows (canon_members sh ns)))) (shape_kept ms) ∙ ordered_again (shape_in sort.State ms) ms e
arranged_again sort.Rule ms e = ordered_again (shape_in sort.Rule ms) ms e
arranged_again sort.InnerRule ms e = ordered_again (shape_in sort.InnerRule ms) ms e
arranged_again sort.Retrier ms e = ordered_again (shape_in sort.Retrier ms) ms e
arranged_again sort.Catcher ms e = ordered_again (shape_in sort.Catcher ms) ms e
arranged_again sort.States ms e = ap (λ (cs : Pairs). dict cs) e
arranged_again s ms e = refl

listed_again : (s : Sort) (ds : Chain) → canon_items (item_sort s) (canon_items (item_sort s) ds) ≡ canon_items (item_sort s) ds → canon s (listed s ds (canon_items (item_sort s) ds)) ≡ listed s ds (canon_items (item_sort s) ds)
listed_again sort.Machines ds e = ap (λ (cs : Chain). list cs) e
listed_again sort.Rules ds e = ap (λ (cs : Chain). list cs) e
listed_again sort.InnerRules ds e = ap (λ (cs : Chain). list cs) e
listed_again sort.Retriers ds e = ap (λ (cs : Chain). list cs) e
listed_again sort.Catchers ds e = ap (λ (cs : Chain). list cs) e
listed_again s ds e = refl

mutual
  pub canon_twice : (s : Sort) (d : Data) → canon s (canon s d) ≡ canon s d
  canon_twice s null = refl
  canon_twice s (boolean b) = refl
  canon_twice s (number n) = refl
  canon_twice s (text t) = refl
  canon_twice s (list ds) = listed_again s ds (items_twice (item_sort s) ds)
  canon_twice s (dict ms) = arranged_again s ms (members_twice (shape_in s ms) ms)

  items_twice : (s : Sort) (ds : Chain) → canon_items s (canon_items s ds) ≡ canon_items s ds
  items_twice s no_items = refl
  items_twice s (item d ds) = ap (λ (x : Data). item x (canon_items s (canon_items s ds))) (canon_twice s d) ∙ ap (item (canon s d)) (items_twice s ds)

  members_twice : (sh : Shape) (ms : Pairs) → canon_members sh (canon_members sh ms) ≡ canon_members sh ms
  members_twice sh no_members = refl
  members_twice sh (member k d ms) = ap (λ (x : Data). member k x (canon_members sh (canon_members sh ms))) (canon_twice (sort_at sh k) d) ∙ ap (member k (canon (sort_at sh k) d)) (members_twice sh ms)

pub canonical_twice : (d : Data) → canonical (canonical d) ≡ canonical d
canonical_twice d = canon_twice sort.Definition d
