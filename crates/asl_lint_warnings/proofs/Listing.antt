-- A set of names that grows.
use Rattle.std.proofs.Common.{◌≡◌, ◌∙◌, ap, refl, cond, List, ℕ, Bool, true, false, ◌||◌}
use Rattle.std.specs.String.{string_eq, string_bytes}
use Rattle.std.specs.declared.string.String.{String}
use Rattle.std.specs.HashSet.{HashSet, UpdatesBy, contains_text}
use Rattle.std.specs.Str.{bytes_eq}
use Rattle.std.proofs.lemmas.Map.Text.{hash_set_updates_text}
use Rattle.asl_json.proofs.Knowing.{bytes_eq-flip}

chosen : (a b : Bool) → cond a true b ≡ (b || a)
chosen true true = refl
chosen true false = refl
chosen false true = refl
chosen false false = refl

pub one_more : {Y S : Type 0} (bs : List ℕ) (s t : HashSet (String Y) S) → UpdatesBy string_eq (λ k. bytes_eq bs (string_bytes k)) s t true → (n : List ℕ) → contains_text t n ≡ (contains_text s n || bytes_eq n bs)
one_more bs s t updates n =
    hash_set_updates_text bs s t true updates n
    ∙ chosen (bytes_eq bs n) (contains_text s n)
    ∙ ap (λ (b : Bool). contains_text s n || b) (bytes_eq-flip bs n)
