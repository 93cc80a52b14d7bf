-- The canonical form, member by member.
use Rattle.std.proofs.Common.{◌≡◌, ℕ, List, [], ◌∷◌, Bool, true, false, refl, sym, ap, ◌∙◌}
use Rattle.std.specs.Prelude.{Option, Some, None, option_map, codes, if◌then◌else◌}
use Rattle.std.specs.Cmp.Lexicographic.{same_text}
use Rattle.asl_json_data.specs.Data.{Data, null, boolean, number, text, list, dict, Chain, Pairs, no_members, member}
use Rattle.asl_json.specs.Same.{bytes_eq}
use Rattle.asl_json.specs.Meaning.{value_at}
use Rattle.asl_def_schema.specs.declared.sort.Sort.{Sort}
use Rattle.asl_def_schema.specs.declared.sort.Sort.TheVariants as sort
use Rattle.asl_def_schema.specs.Members.{Row, Shape, sort_at, shape_in, item_sort}
use Rattle.asl_def_schema.specs.Canon.{kept, canon, canon_items, canon_members, arranged, listed, picked, kept_at, picked_at, is_plain}

pub value_at-canon : (k : List ℕ) (sh : Shape) (ms : Pairs) → value_at k (canon_members sh ms) ≡ option_map (canon (sort_at sh k)) (value_at k ms)
value_at-canon k sh no_members = refl
value_at-canon k sh (member l d ms) = by (bytes_eq k l) refl (value_at-canon k sh ms)
  where
    by : (b : Bool) → bytes_eq k l ≡ b → value_at k (canon_members sh ms) ≡ option_map (canon (sort_at sh k)) (value_at k ms) → (if bytes_eq k l then Some (canon (sort_at sh l) d) else value_at k (canon_members sh ms)) ≡ option_map (canon (sort_at sh k)) (if bytes_eq k l then Some d else value_at k ms)
    by true e rest = rw e (let same : k ≡ l = same_text k l (sym e) in ap (λ (x : List ℕ). Some (canon (sort_at sh x) d)) (sym same))
    by false e rest = rw e rest

pub picked-canon : (sh : Shape) (rs : List Row) (ms : Pairs) → picked rs (canon_members sh ms) ≡ picked_at sh rs ms
picked-canon sh [] ms = refl
picked-canon sh (r ∷ rs) ms = rw (value_at-canon r.name sh ms, picked-canon sh rs ms) refl

-- what isn't put in order stays

arranged_plain : (s : Sort) (rs : List Row) (ms cs : Pairs) → is_plain s ≡ true → arranged s rs ms cs ≡ dict ms
arranged_plain sort.Definition rs ms cs e = absurd cc
arranged_plain sort.Machine rs ms cs e = absurd cc
arranged_plain sort.ItemProcessor rs ms cs e = absurd cc
arranged_plain sort.State rs ms cs e = absurd cc
arranged_plain sort.Rule rs ms cs e = absurd cc
arranged_plain sort.InnerRule rs ms cs e = absurd cc
arranged_plain sort.Retrier rs ms cs e = absurd cc
arranged_plain sort.Catcher rs ms cs e = absurd cc
arranged_plain sort.States rs ms cs e = absurd cc
arranged_plain s rs ms cs e = refl

listed_plain : (s : Sort) (ds cs : Chain) → is_plain s ≡ true → listed s ds cs ≡ list ds
listed_plain sort.Machines ds cs e = absurd cc
listed_plain sort.Rules ds cs e = absurd cc
listed_plain sort.InnerRules ds cs e = absurd cc
listed_plain sort.Retriers ds cs e = absurd cc
listed_plain sort.Catchers ds cs e = absurd cc
listed_plain s ds cs e = refl

pub plain_canon : (s : Sort) (d : Data) → is_plain s ≡ true → canon s d ≡ d
plain_canon s null e = refl
plain_canon s (boolean b) e = refl
plain_canon s (number n) e = refl
plain_canon s (text t) e = refl
plain_canon s (list ds) e = listed_plain s ds (canon_items (item_sort s) ds) e
plain_canon s (dict ms) e = arranged_plain s (shape_in s ms).rows ms (canon_members (shape_in s ms) ms) e

pub not_end : (k : List ℕ) (o : Option Data) → bytes_eq k (codes "End") ≡ false → kept k o ≡ o
not_end k None e = refl
not_end k (Some null) e = refl
not_end k (Some (boolean true)) e = refl
not_end k (Some (boolean false)) e = rw e refl
not_end k (Some (number n)) e = refl
not_end k (Some (text t)) e = refl
not_end k (Some (list ds)) e = refl
not_end k (Some (dict ms)) e = refl

plain_all : (s : Sort) (o : Option Data) → is_plain s ≡ true → option_map (canon s) o ≡ o
plain_all s None e = refl
plain_all s (Some d) e = ap (λ (x : Data). Some x) (plain_canon s d e)

pub plain_kept : (k : List ℕ) (s : Sort) (ms : Pairs) → is_plain s ≡ true → bytes_eq k (codes "End") ≡ false → kept_at k s ms ≡ value_at k ms
plain_kept k s ms e n = not_end k (option_map (canon s) (value_at k ms)) n ∙ plain_all s (value_at k ms) e
