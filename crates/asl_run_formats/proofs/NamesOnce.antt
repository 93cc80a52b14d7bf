-- Names in a set, each once.
use Rattle.std.proofs.Common.{ℕ, ◌≡◌, Bool, true, false, List, [], ◌∷◌, ◌++◌, refl, sym, ◌∙◌, ap}
use Rattle.std.specs.Prelude.{◌||◌, map, nat_eq, String, string_bytes, if◌then◌else◌}
use Rattle.std.specs.List.{list_any}
use Rattle.std.specs.Str.{bytes_eq}
use Rattle.std.specs.Cmp.Lexicographic.{pointwise}
use Rattle.std.proofs.lemmas.List.{map-append}
use Rattle.indexmap.specs.IndexSet.{insert_key}
use Rattle.asl_run_formats.specs.Entered.{with_name}

module _ {Z : Type 0} where
  among : (n : List ℕ) (ks : List (String Z)) → list_any (λ (s : String Z). pointwise nat_eq n (string_bytes s)) ks ≡ list_any (bytes_eq n) (map string_bytes ks)
  among n [] = refl
  among n (k ∷ ks) = ap (λ (b : Bool). pointwise nat_eq n (string_bytes k) || b) (among n ks)

  -- a name that is there stays so
  pub kept : (n : List ℕ) (ks : List (String Z)) → list_any (λ (s : String Z). pointwise nat_eq n (string_bytes s)) ks ≡ true → map string_bytes ks ≡ with_name n (map string_bytes ks)
  kept n ks h = sym (ap (λ (b : Bool). if b then map string_bytes ks else (map string_bytes ks ++ n ∷ [])) (sym (among n ks) ∙ h))

  -- another one comes last
  pub added : (n : List ℕ) (s : String Z) (ks more : List (String Z)) → string_bytes s ≡ n → list_any (λ (t : String Z). pointwise nat_eq n (string_bytes t)) ks ≡ false
      → more ≡ insert_key (λ (a b : String Z). pointwise nat_eq (string_bytes a) (string_bytes b)) ks s → map string_bytes more ≡ with_name n (map string_bytes ks)
  added n s ks more name none is =
      let new : list_any (λ (t : String Z). pointwise nat_eq (string_bytes s) (string_bytes t)) ks ≡ false = ap (λ (z : List ℕ). list_any (λ (t : String Z). pointwise nat_eq z (string_bytes t)) ks) name ∙ none in
      let behind : more ≡ ks ++ s ∷ [] = is ∙ ap (λ (b : Bool). if b then ks else (ks ++ s ∷ [])) new in
      let names : map string_bytes more ≡ map string_bytes ks ++ n ∷ [] = ap (map string_bytes) behind ∙ map-append string_bytes ks (s ∷ []) ∙ ap (λ (z : List ℕ). map string_bytes ks ++ z ∷ []) name in
      names ∙ sym (ap (λ (b : Bool). if b then map string_bytes ks else (map string_bytes ks ++ n ∷ [])) (sym (among n ks) ∙ none))
