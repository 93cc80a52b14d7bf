-- Keys that differ.
use Rattle.std.proofs.Common.{◌≡◌, ◌<◌, ℕ, ◌+◌, List, [], ◌∷◌, ◌++◌, Bool, false, ◌||◌, length, get_or, take, drop, refl, sym, ap, subst, ◌∙◌, append_assoc}
use Rattle.std.specs.Prelude.{map}
use Rattle.std.proofs.lemmas.List.{drop_more, map_more, map_push, map-append, take-append-drop}
use Rattle.asl_json_data.specs.Data.{Data}
use Rattle.asl_json.specs.Same.{bytes_eq}
use Rattle.asl_json_data.specs.Distinct.{Members, has_key, AreDistinct}
use Rattle.asl_template.specs.Names.{name_of, named}
use Rattle.asl_template.specs.private.View.{field_data, fields_data}
use Rattle.asl_template.specs.declared.part.Field.{Field}

abbrev pub keys : Members → List (List ℕ)
keys ms = map (λ (m : List ℕ × Data). m.0) ms

abbrev pub among : List ℕ → List (List ℕ) → Bool
among k [] = false
among k (l ∷ ls) = bytes_eq k l || among k ls

has_key-keys : (k : List ℕ) (ms : Members) → has_key k ms ≡ among k (keys ms)
has_key-keys k [] = refl
has_key-keys k (m ∷ ms) = ap (λ (b : Bool). bytes_eq k m.0 || b) (has_key-keys k ms)

-- whether a key is there is a matter of the keys alone
pub has_key-by : (k : List ℕ) (ms ns : Members) → keys ms ≡ keys ns → has_key k ms ≡ has_key k ns
has_key-by k ms ns e = has_key-keys k ms ∙ ap (among k) e ∙ sym (has_key-keys k ns)

pub keys_push : (ms : Members) (m : List ℕ × Data) → keys (ms ++ m ∷ []) ≡ keys ms ++ m.0 ∷ []
keys_push ms m = map_push (λ (x : List ℕ × Data). x.0) ms m

pub named_push : (ms : Members) (m : List ℕ × Data) → named (ms ++ m ∷ []) ≡ named ms ++ (name_of m.0, m.1) ∷ []
named_push ms m = map_push (λ (x : List ℕ × Data). (name_of x.0, x.1)) ms m

-- a key isn't among those before it
middle : (seen xs : Members) (y : List ℕ × Data) (ys : Members) → AreDistinct seen (xs ++ y ∷ ys) → has_key y.0 (seen ++ xs) ≡ false
middle seen [] y ys h = subst (λ (ms : Members). has_key y.0 ms ≡ false) (nil seen) h.0
  where
    nil : (ms : Members) → ms ≡ ms ++ []
    nil [] = refl
    nil (m ∷ ms) = ap (λ (x : Members). m ∷ x) (nil ms)
middle seen (x ∷ xs) y ys h = subst (λ (ms : Members). has_key y.0 ms ≡ false) (append_assoc seen (x ∷ []) xs) (middle (seen ++ x ∷ []) xs y ys h.1)

fields_split : (fs : List Field) (i : ℕ) (f : Field) → i < length fs → f ≡ get_or fs i f → fields_data fs ≡ fields_data (take i fs) ++ field_data f ∷ fields_data (drop (i + 1) fs)
fields_split fs i f lt at =
    ap fields_data (sym (take-append-drop i fs) ∙ ap (λ (gs : List Field). take i fs ++ gs) (drop_more fs i f lt ∙ ap (λ (x : Field). x ∷ drop (i + 1) fs) (sym at)))
    ∙ map-append field_data (take i fs) (f ∷ drop (i + 1) fs)

-- the key of a member isn't among those before it
pub fresh : (fs : List Field) (i : ℕ) (f : Field) → i < length fs → f ≡ get_or fs i f → AreDistinct [] (fields_data fs) → has_key (field_data f).0 (fields_data (take i fs)) ≡ false
fresh fs i f lt at h = middle [] (fields_data (take i fs)) (field_data f) (fields_data (drop (i + 1) fs)) (subst (AreDistinct []) (fields_split fs i f lt at) h)

-- nor its name among their names
pub fresh_name : (fs : List Field) (i : ℕ) (f : Field) → i < length fs → f ≡ get_or fs i f → AreDistinct [] (named (fields_data fs)) → has_key (name_of (field_data f).0) (named (fields_data (take i fs))) ≡ false
fresh_name fs i f lt at h =
    let d = field_data f in
    let rest = fields_data (drop (i + 1) fs) in
    middle [] (named (fields_data (take i fs))) (name_of d.0, d.1) (named rest) (subst (AreDistinct []) (ap named (fields_split fs i f lt at) ∙ map-append (λ (x : List ℕ × Data). (name_of x.0, x.1)) (fields_data (take i fs)) (d ∷ rest)) h)

-- one member more
pub fields_more : (fs : List Field) (i : ℕ) (f : Field) → i < length fs → f ≡ get_or fs i f → fields_data (take (i + 1) fs) ≡ fields_data (take i fs) ++ field_data f ∷ []
fields_more fs i f lt at = map_more field_data fs i f lt ∙ ap (λ (x : Field). fields_data (take i fs) ++ field_data x ∷ []) (sym at)

-- the keys of the members that were made are the names of those that they were made of
pub names_step : (fs : List Field) (i : ℕ) (f : Field) (old new : Members) (k : List ℕ) (d : Data) → i < length fs → f ≡ get_or fs i f → new ≡ old ++ (k, d) ∷ [] → k ≡ name_of (field_data f).0
    → keys old ≡ keys (named (fields_data (take i fs))) → keys new ≡ keys (named (fields_data (take (i + 1) fs)))
names_step fs i f old new k d lt at is same so_far =
    let m = field_data f in
    ap keys is ∙ keys_push old (k, d) ∙ ap (λ (ls : List (List ℕ)). ls ++ k ∷ []) so_far ∙ ap (λ (l : List ℕ). keys (named (fields_data (take i fs))) ++ l ∷ []) same
    ∙ sym (ap (λ (ms : Members). keys (named ms)) (fields_more fs i f lt at) ∙ ap keys (named_push (fields_data (take i fs)) m) ∙ keys_push (named (fields_data (take i fs))) (name_of m.0, m.1))
