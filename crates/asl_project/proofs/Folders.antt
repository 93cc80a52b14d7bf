-- What stands up to the last slash of a name.
use Rattle.std.proofs.Common.{◌≡◌, ◌≢◌, ◌<◌, ℕ, suc, true, false, List, [], ◌∷◌, ◌++◌, length, get_or, take, drop, refl, ap, append_assoc, sym, ◌∙◌, arith}
use Rattle.std.proofs.lemmas.Bool.Decides.{nat_tests}
use Rattle.std.proofs.lemmas.List.{take-append-drop}
use Rattle.std.proofs.lemmas.Str.Pattern.{NoCharPasses-char, drop_at_char}
use Rattle.std.specs.Str.Pattern.{RFindsChar}
use Rattle.std.specs.Prelude.{Some}
use Rattle.asl_project.specs.Spelled.{has_slash, folder_of, is_rooted, beside}

-- no byte is one
pub lacks_slash : (t : List ℕ) → ((i : ℕ) → i < length t → get_or t i 0 ≢ 47) → has_slash t ≡ false
lacks_slash [] none = refl
lacks_slash (c ∷ t) none =
    let later : has_slash t ≡ false = lacks_slash t (λ i h. none (suc i) (omega (arith, h))) in
    let here : c ≢ 47 = none 0 (omega arith) in
    grind (arith, nat_tests, later, here)

pub no_folder : (t : List ℕ) → has_slash t ≡ false → folder_of t ≡ []
no_folder [] none = refl
no_folder (c ∷ t) none = rw none

has_one : (u t : List ℕ) → has_slash (u ++ 47 ∷ t) ≡ true
has_one [] t = refl
has_one (c ∷ u) t = grind (arith, has_one u t)

pub folder_at : (u t : List ℕ) → has_slash t ≡ false → folder_of (u ++ 47 ∷ t) ≡ u ++ 47 ∷ []
folder_at [] t none = ap (λ f. 47 ∷ f) (no_folder t none)
folder_at (c ∷ u) t none = rw (has_one (c ∷ u) t) (ap (λ f. c ∷ f) (folder_at u t none))

-- the last one is found
pub found_folder : (file : List ℕ) (i j : ℕ) → RFindsChar 47 file (Some (i, j)) → folder_of file ≡ take i file ++ 47 ∷ []
found_folder file i j found =
    let none : has_slash (drop j file) ≡ false = lacks_slash (drop j file) (λ k h. NoCharPasses-char 47 (drop j file) k found.0 (omega arith) h) in
    let parts : file ≡ take i file ++ 47 ∷ drop j file = sym (take-append-drop i file) ∙ ap (λ r. take i file ++ r) (drop_at_char 47 file i j found.1 (omega arith)) in
    ap folder_of parts ∙ folder_at (take i file) (drop j file) none

pub beside_folder : (file path folder : List ℕ) → is_rooted path ≡ false → folder_of file ≡ folder ++ 47 ∷ [] → folder ++ (47 ∷ path) ≡ beside file path
beside_folder file path folder free is = rw (free, is) (sym (append_assoc folder (47 ∷ []) path))

pub beside_alone : (file path : List ℕ) → is_rooted path ≡ false → folder_of file ≡ [] → path ≡ beside file path
beside_alone file path free is = rw (free, is)
