-- Names of responses.
use Rattle.std.proofs.Common.{◌≡◌, ◌<◌, ◌+◌, ◌∙◌, ◌++◌, ap, sym, refl, cond, drop, length, get_or, List, [], ◌∷◌, ℕ, Bool, true, false}
use Rattle.std.specs.Prelude.{◌||◌, is_some, Some, if◌then◌else◌}
use Rattle.std.specs.String.{string_eq, string_bytes}
use Rattle.std.specs.declared.string.String.{String}
use Rattle.std.specs.HashSet.{HashSet, UpdatesBy, contains_text}
use Rattle.std.specs.Str.{bytes_eq}
use Rattle.std.proofs.lemmas.List.{drop_more}
use Rattle.std.proofs.lemmas.Map.Text.{hash_set_updates_text}
use Rattle.asl_json_data.specs.Data.{Data}
use Rattle.asl_json_data.specs.Distinct.{Members, has_key}
use Rattle.asl_json.specs.View.{member_of, members_of}
use Rattle.asl_json.specs.declared.value.Member.{Member}
use Rattle.asl_json.proofs.Knowing.{bytes_eq-flip}
use Rattle.asl_mock.specs.Answers.{named_response, responses_of}
use Rattle.asl_mock.specs.Places.{Place, under, in_each}
use Rattle.asl_mock.specs.Tables.{value_for}

chosen : (a b : Bool) → cond a true b ≡ (b || a)
chosen true true = refl
chosen true false = refl
chosen false true = refl
chosen false false = refl

pub one_more : {Y S : Type 0} (bs : List ℕ) (s t : HashSet (String Y) S) → UpdatesBy string_eq (λ k. bytes_eq bs (string_bytes k)) s t true → (n : List ℕ) → contains_text t n ≡ (contains_text s n || bytes_eq n bs)
one_more bs s t updates n =
    hash_set_updates_text bs s t true updates n
    ∙ chosen (bytes_eq bs n) (contains_text s n)
    ∙ ap (λ (b : Bool). contains_text s n || b) (bytes_eq-flip bs n)

-- a response has the name of a member
pub known : (k : List ℕ) (ms : Members) → has_key k ms ≡ is_some (value_for k (responses_of ms))
known k [] = refl
known k (m ∷ ms) = which (bytes_eq k m.0) (known k ms)
  where
    which : (b : Bool) → has_key k ms ≡ is_some (value_for k (responses_of ms)) → (b || has_key k ms) ≡ is_some (if b then Some (named_response m).1 else value_for k (responses_of ms))
    which true e = refl
    which false e = e

-- places that are alike in each member are alike in all
pub each_same : (f g : List ℕ × Data → List Place) → ((m : List ℕ × Data) → f m ≡ g m) → (ms : Members) → in_each f ms ≡ in_each g ms
each_same f g same [] = refl
each_same f g same (m ∷ ms) =
    ap (λ (ps : List Place). under m.0 ps ++ in_each f ms) (same m)
    ∙ ap (λ (ps : List Place). under m.0 (g m) ++ ps) (each_same f g same ms)

or_assoc : (a b c : Bool) → ((a || b) || c) ≡ (a || (b || c))
or_assoc true b c = refl
or_assoc false b c = refl

-- a key more
pub key_more : (k : List ℕ) (ms : List Member) (i : ℕ) (m : Member) (old new all : Bool) → i < length ms → m ≡ get_or ms i m → new ≡ (old || bytes_eq k m.key) → (old || has_key k (members_of (drop i ms))) ≡ all → (new || has_key k (members_of (drop (i + 1) ms))) ≡ all
key_more k ms i m old new all lt at more so_far =
    let rest = has_key k (members_of (drop (i + 1) ms)) in
    let front : members_of (drop i ms) ≡ member_of m ∷ members_of (drop (i + 1) ms) = ap members_of (drop_more ms i m lt ∙ ap (λ (x : Member). x ∷ drop (i + 1) ms) (sym at)) in
    ap (λ (b : Bool). b || rest) more
    ∙ or_assoc old (bytes_eq k m.key) rest
    ∙ sym (ap (λ (xs : Members). old || has_key k xs) front)
    ∙ so_far
