-- Names of states that come again.
use Rattle.std.proofs.Common.{◌≡◌, ℕ, ◌+◌, ◌<◌, ◌≤◌, Bool, true, false, not, List, [], ◌∷◌, ◌++◌, length, get_or, drop, refl, sym, subst, ◌∙◌, ap, append_assoc, inl, inr, arith}
use Rattle.std.specs.Prelude.{Option, Some, None, map, option_to_list, if◌then◌else◌}
use Rattle.std.specs.Fmt.{decimal}
use Rattle.std.specs.declared.string.String.{String}
use Rattle.std.specs.HashSet.{HashSet, contains_text, Updates}
use Rattle.std.specs.String.{string_eq, string_bytes}
use Rattle.std.proofs.lemmas.List.{drop_all, append-nil}
use Rattle.asl_json_data.specs.Data.{chain, pairs}
use Rattle.asl_json.specs.View.{data_of, items_of, members_of}
use Rattle.asl_json.specs.declared.value.Json.{Json}
use Rattle.asl_json.specs.declared.value.Member.{Member}
use Rattle.asl_def_schema.specs.declared.fault.FaultKind.TheVariants.{DuplicateState}
use Rattle.asl_def_schema.specs.declared.sort.Sort.{Sort}
use Rattle.asl_def_schema.specs.Members.{Shape, sort_at, is_among}
use Rattle.asl_def_schema.specs.Demands.{unique}
use Rattle.asl_def_schema.specs.Claims.{Claim, step}
use Rattle.asl_def_schema.specs.First.{Found}
use Rattle.asl_def_schema.specs.States.{Named, Has, further, own_name, states_in, item_states, member_states, unique_claims}
use Rattle.asl_def_judge.proofs.Doubles.{items_split, members_split, name_kept}
use Rattle.asl_lint_faults.specs.Told.{AreTold}
use Rattle.asl_lint_faults.proofs.Going.{Goes, goes-start, goes-step, goes-end}

-- ---- gathering

pub items_gathered : (s : Sort) (vs : List Json) (i : ℕ) (v : Json) (now new part all : List Named) → i < length vs → v ≡ get_or vs i v → now ++ item_states s i (chain (items_of (drop i vs))) ≡ all → part ≡ states_in s (data_of v) → new ≡ now ++ map (further (step i (decimal i))) part → new ++ item_states s (i + 1) (chain (items_of (drop (i + 1) vs))) ≡ all
items_gathered s vs i v now new part all lt at h is_part is =
    let rest = item_states s (i + 1) (chain (items_of (drop (i + 1) vs))) in
    ap (λ (ns : List Named). ns ++ rest) (is ∙ ap (λ (ns : List Named). now ++ map (further (step i (decimal i))) ns) is_part)
    ∙ append_assoc now (map (further (step i (decimal i))) (states_in s (data_of v))) rest
    ∙ ap (λ (ns : List Named). now ++ ns) (sym (items_split s vs i v lt at)) ∙ h

pub members_gathered : (sh : Shape) (ms : List Member) (i : ℕ) (m : Member) (k : List ℕ) (now new part all : List Named) → i < length ms → m ≡ get_or ms i m → now ++ member_states sh i (pairs (members_of (drop i ms))) ≡ all → part ≡ own_name (sort_at sh m.key) m.key ++ states_in (sort_at sh m.key) (data_of m.value) → k ≡ m.key → new ≡ now ++ map (further (step i k)) part
    → new ++ member_states sh (i + 1) (pairs (members_of (drop (i + 1) ms))) ≡ all
members_gathered sh ms i m k now new part all lt at h is_part same is =
    let rest = member_states sh (i + 1) (pairs (members_of (drop (i + 1) ms))) in
    let own = own_name (sort_at sh m.key) m.key ++ states_in (sort_at sh m.key) (data_of m.value) in
    ap (λ (ns : List Named). ns ++ rest) (is ∙ ap (λ (ns : List Named). now ++ map (further (step i k)) ns) is_part ∙ ap (λ (x : List ℕ). now ++ map (further (step i x)) own) same)
    ∙ append_assoc now (map (further (step i m.key)) own) rest
    ∙ ap (λ (ns : List Named). now ++ ns) (sym (members_split sh ms i m lt at)) ∙ h

pub items_all : (s : Sort) (vs : List Json) (i : ℕ) (now all : List Named) → length vs ≤ i → now ++ item_states s i (chain (items_of (drop i vs))) ≡ all → now ≡ all
items_all s vs i now all le h = sym (append-nil now) ∙ sym (ap (λ (xs : List Json). now ++ item_states s i (chain (items_of xs))) (drop_all i vs le)) ∙ h

pub members_all : (sh : Shape) (ms : List Member) (i : ℕ) (now all : List Named) → length ms ≤ i → now ++ member_states sh i (pairs (members_of (drop i ms))) ≡ all → now ≡ all
members_all sh ms i now all le h = sym (append-nil now) ∙ sym (ap (λ (xs : List Member). now ++ member_states sh i (pairs (members_of xs))) (drop_all i ms le)) ∙ h

-- ---- telling

-- what is told of all names, once that of those that are left is told
pub record Continues {Y S : Type 0} (s : HashSet (String Y) S) (rest all : List Named) (told : List Found) : Type 0 where
  so_far : List (List ℕ)
  has : Has s so_far
  goes : Goes (unique_claims so_far rest) (unique_claims [] all) told

pub continues-start : {Y S : Type 0} (s : HashSet (String Y) S) (rest all : List Named) (none : List Found) → Has s [] → rest ≡ all → none ≡ [] → Continues s rest all none
continues-start s rest all none h is e = record { so_far = []; has = h; goes = subst (λ (ns : List Named). Goes (unique_claims [] ns) (unique_claims [] all) none) (sym is) (goes-start (unique_claims [] all) none e) }

pub continues-end : {Y S : Type 0} (s : HashSet (String Y) S) (rest all : List Named) (told : List Found) → length rest ≡ 0 → Continues s rest all told → AreTold (unique_claims [] all) told
continues-end s [] all told e w = goes-end (unique_claims [] all) told w.goes
continues-end s (n ∷ rest) all told e w = absurd (omega (arith, e))

one_name : (n : Named) (b : Bool) (c : Claim) → c ≡ (unique (not b), n.1) → AreTold (c ∷ []) (option_to_list (if b then Some (DuplicateState, n.1) else None))
one_name n true c e = subst (λ (x : Claim). AreTold (x ∷ []) ((DuplicateState, n.1) ∷ [])) (sym e) (inr (record { others = []; broken = λ h. absurd cc; parts = refl; others_are = refl }))
one_name n false c e = subst (λ (x : Claim). AreTold (x ∷ []) []) (sym e) (inl (refl, refl))

pub name_passed : {Y S : Type 0} (s new : HashSet (String Y) S) (n : Named) (old rest all : List Named) (told more : List Found) (b : Bool) (fault : Option Found) → Continues s old all told → old ≡ n ∷ rest → b ≡ contains_text s n.0 → (key : String Y) → string_bytes key ≡ n.0 → Updates string_eq s new key true
    → fault ≡ (if b then Some (DuplicateState, n.1) else None) → more ≡ told ++ option_to_list fault → Continues new rest all more
name_passed s new n old rest all told more b fault w split is key bytes updates is_fault is_more =
    let ks = w.so_far in
    let goes = subst (λ (ns : List Named). Goes (unique_claims ks ns) (unique_claims [] all) told) split w.goes in
    let claim : Claim = (unique (not (is_among n.0 ks)), n.1) in
    let known : is_among n.0 ks ≡ b = sym (w.has n.0) ∙ sym is in
    let one = one_name n b claim (ap (λ (x : Bool). (unique (not x), n.1)) known) in
    record {
      so_far = ks ++ n.0 ∷ [];
      has = name_kept ks n.0 s new w.has key bytes updates;
      goes = subst (Goes (unique_claims (ks ++ n.0 ∷ []) rest) (unique_claims [] all)) (sym (is_more ∙ ap (λ (o : Option Found). told ++ option_to_list o) is_fault)) (goes-step (claim ∷ []) (unique_claims (ks ++ n.0 ∷ []) rest) (unique_claims [] all) told (option_to_list (if b then Some (DuplicateState, n.1) else None)) goes one);
    }
