-- The set of an object's keys as members are added.
use Rattle.std.proofs.Common.{◌≡◌, ℕ, ◌+◌, ◌<◌, Bool, true, false, cond, ◌||◌, List, [], ◌∷◌, ◌++◌, length, get_or, take, refl, sym, ap, subst, ◌∙◌}
use Rattle.std.specs.String.{string_eq, string_bytes}
use Rattle.std.specs.declared.string.String.{String}
use Rattle.std.specs.HashSet.{HashSet, UpdatesBy, Updates}
use Rattle.std.proofs.lemmas.Map.Text.{hash_set_updates_text}
use Rattle.std.proofs.lemmas.List.{map_more}
use Rattle.std.specs.Cmp.Lexicographic.{same_text}
use Rattle.std.specs.List.{list_any}
use Rattle.std.specs.Prelude.{map, Option, Some, option_map}
use Rattle.std.specs.Str.{bytes_eq}
use Rattle.asl_json_data.specs.Data.{Data}
use Rattle.asl_json_data.specs.Distinct.{Members, has_key}
use Rattle.asl_json.specs.Keys.{HasKeys, AreKeys, Knows, texts_in}
use Rattle.asl_json.specs.View.{data_of, member_of, members_of}
use Rattle.asl_json.specs.declared.value.Member.{Member}
use Rattle.asl_json.specs.private.SameLaws.{bytes_refl}

pub has_key-push : (k : List ℕ) (ms : Members) (m : List ℕ × Data) → has_key k (ms ++ m ∷ []) ≡ (has_key k ms || bytes_eq k m.0)
has_key-push k [] m = or_off (bytes_eq k m.0)
  where
    or_off : (a : Bool) → (a || false) ≡ (false || a)
    or_off true = refl
    or_off false = refl
has_key-push k (x ∷ ms) m = ap (λ (b : Bool). bytes_eq k x.0 || b) (has_key-push k ms m) ∙ regroup (bytes_eq k x.0) (has_key k ms) (bytes_eq k m.0)
  where
    regroup : (a b c : Bool) → (a || (b || c)) ≡ ((a || b) || c)
    regroup true b c = refl
    regroup false b c = refl

decided : (k bs : List ℕ) (a b : Bool) → bytes_eq k bs ≡ a → bytes_eq bs k ≡ b → a ≡ b
decided k bs true true e f = refl
decided k bs false false e f = refl
decided k bs true false e f = let same = same_text k bs (sym e) in let again : bytes_eq bs k ≡ true = subst (λ (x : List ℕ). bytes_eq x k ≡ true) same (bytes_refl k) in cc
decided k bs false true e f = let same = same_text bs k (sym f) in let again : bytes_eq k bs ≡ true = subst (λ (x : List ℕ). bytes_eq x bs ≡ true) same (bytes_refl bs) in cc

pub bytes_eq-flip : (k bs : List ℕ) → bytes_eq k bs ≡ bytes_eq bs k
bytes_eq-flip k bs = decided k bs (bytes_eq k bs) (bytes_eq bs k) refl refl

chosen : (a b : Bool) → cond a true b ≡ (b || a)
chosen true true = refl
chosen true false = refl
chosen false true = refl
chosen false false = refl

-- a key is put into the set, and its member behind the others
pub has_keys-push : {Y S : Type 0} (bs : List ℕ) (s n : HashSet (String Y) S) (ms : Members) (d : Data) → UpdatesBy string_eq (λ k. bytes_eq bs (string_bytes k)) s n true → HasKeys s ms → HasKeys n (ms ++ (bs, d) ∷ [])
has_keys-push bs s n ms d updates has = λ k.
    hash_set_updates_text bs s n true updates k
    ∙ ap (cond (bytes_eq bs k) true) (has k)
    ∙ chosen (bytes_eq bs k) (has_key k ms)
    ∙ ap (λ (b : Bool). has_key k ms || b) (bytes_eq-flip bs k)
    ∙ sym (has_key-push k ms (bs, d))

-- the set of the keys of one member more
pub has_keys-next : {Y S : Type 0} (s n : HashSet (String Y) S) (ms : List Member) (i : ℕ) (m : Member) (key : String Y) → i < length ms → m ≡ get_or ms i m → string_bytes key ≡ m.key → Updates string_eq s n key true
    → HasKeys s (members_of (take i ms)) → HasKeys n (members_of (take (i + 1) ms))
has_keys-next s n ms i m key lt is bytes updates has =
    let grown : members_of (take i ms) ++ (string_bytes key, data_of m.value) ∷ [] ≡ members_of (take (i + 1) ms) = sym (map_more member_of ms i m lt ∙ ap (λ (x : Member). members_of (take i ms) ++ member_of x ∷ []) (sym is) ∙ ap (λ (k : List ℕ). members_of (take i ms) ++ (k, data_of m.value) ∷ []) (sym bytes)) in
    subst (HasKeys n) grown (has_keys-push (string_bytes key) s n (members_of (take i ms)) (data_of m.value) updates has)

any_text : {Y : Type 0} (ks : List (String Y)) (k : List ℕ) → list_any (bytes_eq k) (map string_bytes ks) ≡ list_any (λ x. bytes_eq k (string_bytes x)) ks
any_text [] k = refl
any_text (x ∷ ks) k = ap (λ (b : Bool). bytes_eq k (string_bytes x) || b) (any_text ks k)

pub are_keys : {Y S : Type 0} (s : HashSet (String Y) S) (ms : Members) → HasKeys s ms → AreKeys (texts_in s) ms
are_keys s ms has = λ k. any_text s.keys k ∙ has k

-- where a set is kept, it has the keys of the members that are known
pub has_known : {Y S : Type 0} (o : Option (HashSet (String Y) S)) (s : HashSet (String Y) S) (v : Option (List (List ℕ))) (ms : Members) → o ≡ Some s → option_map texts_in o ≡ v → Knows v ms → HasKeys s ms
has_known o s v ms is seen known =
    let kept : Some (texts_in s) ≡ v = ap (option_map texts_in) (sym is) ∙ seen in
    let are : AreKeys (texts_in s) ms = subst (λ (x : Option (List (List ℕ))). Knows x ms) (sym kept) known in
    λ k. sym (any_text s.keys k) ∙ are k

-- one key more, whatever its value
pub keys_push : {Y S : Type 0} (key : List ℕ) (name : String Y) (s n : HashSet (String Y) S) (ms : Members) → string_bytes name ≡ key → UpdatesBy string_eq (λ k. bytes_eq (string_bytes name) (string_bytes k)) s n true → HasKeys s ms
    → (d : Data) → AreKeys (texts_in n) (ms ++ (key, d) ∷ [])
keys_push key name s n ms bytes updates has d =
    are_keys n (ms ++ (key, d) ∷ []) (subst (λ (k : List ℕ). HasKeys n (ms ++ (k, d) ∷ [])) bytes (has_keys-push (string_bytes name) s n ms d updates has))
