-- A rule with what comes next.
use Rattle.std.proofs.Common.{◌≡◌, ℕ, List, [], ◌∷◌, ◌++◌, Bool, true, false, refl, sym, ◌∙◌, ap, subst, append_assoc}
use Rattle.std.specs.Prelude.{Option, Some, None, codes, if◌then◌else◌}
use Rattle.asl_json_data.specs.Data.{Data, Pairs, text, dict, pairs}
use Rattle.asl_json.specs.Same.{bytes_eq}
use Rattle.asl_json.specs.private.SameLaws.{bytes_refl}
use Rattle.asl_json.specs.Meaning.{value_at}
use Rattle.asl_def_schema.specs.declared.sort.Sort.{Sort}
use Rattle.asl_def_schema.specs.declared.sort.Sort.TheVariants as sort
use Rattle.asl_def_schema.specs.Members.{Row, Shape, shape_of, sort_at, sort_in, kind_named, required, rule_rows, inner_rule_rows, test_rows}
use Rattle.asl_def_schema.specs.Canon.{Named, opt, kept_at, canon, picked_at}
use Rattle.asl_def_schema.specs.Clean.{IsClean, IsThere}
use Rattle.asl_def_schema.proofs.Canons.{picked-canon, plain_kept}
use Rattle.asl_def_schema.proofs.Inside.{object_inside}
use Rattle.asl_def_schema.proofs.Required.{rule_next}
use Rattle.asl_choice.specs.Rules.{IsRule, canonical_rule}
use Rattle.asl_choice.specs.Rules.IsRule.{outer}
use Rattle.asl_def_states.specs.declared.choice.ChoiceRule.{ChoiceRule}
use Rattle.asl_def_states.specs.Show.{choice_rule_object}
use Rattle.asl_def_shared.proofs.Fits.{is_there}

-- ---- more rows behind don't change what the first are

has_row : List ℕ → List Row → Bool
has_row k [] = false
has_row k (r ∷ rs) = if bytes_eq k r.name then true else has_row k rs

sort_front : (k : List ℕ) (rs more : List Row) (o : Sort) → has_row k rs ≡ true → sort_in (rs ++ more) o k ≡ sort_in rs o k
unfolding has_row
sort_front k [] more o h = absurd cc
sort_front k (r ∷ rs) more o h = by (bytes_eq k r.name) refl (sort_front k rs more o)
  where
    by : (b : Bool) → bytes_eq k r.name ≡ b → (has_row k rs ≡ true → sort_in (rs ++ more) o k ≡ sort_in rs o k) → (if bytes_eq k r.name then r.sort else sort_in (rs ++ more) o k) ≡ (if bytes_eq k r.name then r.sort else sort_in rs o k)
    by true e rest = rw e refl
    by false e rest = rw e (rest (rw e at h))

has_own : (k : List ℕ) (pre : List Row) (r : Row) (rs : List Row) → k ≡ r.name → has_row k (pre ++ r ∷ rs) ≡ true
unfolding has_row
has_own k [] r rs e = rw (e, bytes_refl r.name) refl
has_own k (p ∷ pre) r rs e = by (bytes_eq k p.name) (has_own k pre r rs e)
  where
    by : (b : Bool) → has_row k (pre ++ r ∷ rs) ≡ true → (if b then true else has_row k (pre ++ r ∷ rs)) ≡ true
    by true h = refl
    by false h = h

module _ (sh sh' : Shape) (more : List Row) (ms : Pairs) (others : sh'.others ≡ sh.others) where
  picked_same : (pre rs : List Row) → sh.rows ≡ pre ++ rs → sh'.rows ≡ (pre ++ rs) ++ more → picked_at sh' rs ms ≡ picked_at sh rs ms
  picked_same pre [] e f = refl
  picked_same pre (r ∷ rs) e f =
      let front : sort_in ((pre ++ r ∷ rs) ++ more) sh.others r.name ≡ sort_in (pre ++ r ∷ rs) sh.others r.name = sort_front r.name (pre ++ r ∷ rs) more sh.others (has_own r.name pre r rs refl) in
      let same : sort_at sh' r.name ≡ sort_at sh r.name = (λ i. sort_in (f i) (others i) r.name) ∙ front ∙ sym (ap (λ (xs : List Row). sort_in xs sh.others r.name) e) in
      let shift : pre ++ r ∷ rs ≡ (pre ++ r ∷ []) ++ rs = sym (append_assoc pre (r ∷ []) rs) in
      λ i. opt r.name (kept_at r.name (same i) ms) ++ picked_same (pre ++ r ∷ []) rs (e ∙ shift) (f ∙ ap (λ (xs : List Row). xs ++ more) shift) i

picked-append : (sh : Shape) (rs ss : List Row) (ms : Pairs) → picked_at sh (rs ++ ss) ms ≡ picked_at sh rs ms ++ picked_at sh ss ms
picked-append sh [] ss ms = refl
picked-append sh (r ∷ rs) ss ms = ap (λ (xs : List Named). opt r.name (kept_at r.name (sort_at sh r.name) ms) ++ xs) (picked-append sh rs ss ms) ∙ sym (append_assoc (opt r.name (kept_at r.name (sort_at sh r.name) ms)) (picked_at sh rs ms) (picked_at sh ss ms))

-- ---- a rule

next_row : Row
next_row = required (codes "Next") sort.Target

rule_is : rule_rows ≡ inner_rule_rows ++ next_row ∷ []
unfolding rule_rows next_row
rule_is = refl

next_sort : sort_at (shape_of sort.Rule None) (codes "Next") ≡ sort.Target
unfolding rule_rows inner_rule_rows test_rows
next_sort = refl

rule_canon : (ms : Pairs) → canon sort.Rule (dict ms) ≡ dict (pairs (picked_at (shape_of sort.Rule None) rule_rows ms))
rule_canon ms = ap (λ (xs : List Named). dict (pairs xs)) (picked-canon (shape_of sort.Rule None) rule_rows ms)

last_shown : (ms : Pairs) (name : List ℕ) → Some (text name) ≡ value_at (codes "Next") ms → picked_at (shape_of sort.Rule None) (next_row ∷ []) ms ≡ (codes "Next", text name) ∷ []
unfolding next_row
last_shown ms name e =
    let kept : kept_at (codes "Next") (sort_at (shape_of sort.Rule None) (codes "Next")) ms ≡ Some (text name) = ap (λ (s : Sort). kept_at (codes "Next") s ms) next_sort ∙ plain_kept (codes "Next") sort.Target ms refl refl ∙ sym e in
    ap (λ (o : Option Data). opt (codes "Next") o ++ []) kept

picked_rule : (ms : Pairs) → picked_at (shape_of sort.Rule None) inner_rule_rows ms ≡ canonical_rule ms
picked_rule ms = picked_same (shape_of sort.InnerRule None) (shape_of sort.Rule None) (next_row ∷ []) ms refl [] inner_rule_rows refl rule_is

pub rule_shows : (v : Data) (xs : List Named) (x : ChoiceRule) → v ≡ dict (pairs xs) → x.rule ≡ canonical_rule (pairs xs) → Some (text x.next.name) ≡ value_at (codes "Next") (pairs xs) → choice_rule_object x ≡ canon sort.Rule v
rule_shows v xs x is e1 e2 =
    let ms = pairs xs in
    let whole : x.rule ++ (codes "Next", text x.next.name) ∷ [] ≡ picked_at (shape_of sort.Rule None) rule_rows ms =
    (λ i. (e1 ∙ sym (picked_rule ms)) i ++ sym (last_shown ms x.next.name e2) i) ∙ sym (picked-append (shape_of sort.Rule None) inner_rule_rows (next_row ∷ []) ms) ∙ ap (λ (rs : List Row). picked_at (shape_of sort.Rule None) rs ms) (sym rule_is) in
    ap (λ (ys : List Named). dict (pairs ys)) whole ∙ sym (rule_canon ms) ∙ ap (canon sort.Rule) (sym is)

pub is_rule : (v : Data) (xs : List Named) → IsClean sort.Rule v → v ≡ dict (pairs xs) → IsRule (pairs xs)
is_rule v xs c is =
    let c = subst (IsClean sort.Rule) is c in
    outer c.names (object_inside c.names sort.Rule (pairs xs) refl c.is)

pub next_is_there : (v : Data) (xs : List Named) → IsClean sort.Rule v → v ≡ dict (pairs xs) → IsThere sort.Target (value_at (codes "Next") (pairs xs))
next_is_there v xs c is =
    let c = subst (IsClean sort.Rule) is c in
    is_there c.names sort.Target (value_at (codes "Next") (pairs xs)) (rule_next c.names (kind_named (value_at (codes "Type") (pairs xs))) (pairs xs) (object_inside c.names sort.Rule (pairs xs) refl c.is))
