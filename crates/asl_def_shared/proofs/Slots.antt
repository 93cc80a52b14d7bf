-- Lists of members, one by one.
use Rattle.std.proofs.Common.{◌≡◌, ℕ, List, [], ◌∷◌, ◌++◌, refl, ◌∙◌, ap}
use Rattle.std.specs.Prelude.{Option, Result, Ok, Err, IfOk}
use Rattle.std.proofs.lemmas.List.{append_assoc}
use Rattle.asl_json_data.specs.Data.{Data}
use Rattle.asl_def_shared.specs.Parts.{Slots}

-- a member, by the value that it shows, goes before others
pub slot : (p : List ℕ × Option Data) (k : List ℕ) (x o : Option Data) (ps rest : Slots) → p ≡ (k, x) → x ≡ o → ps ≡ rest → p ∷ ps ≡ (k, o) ∷ rest
slot p k x o ps rest is shows others = λ i. (is ∙ ap (λ (y : Option Data). (k, y)) shows) i ∷ others i

-- a member that goes last
pub last_slot : (p : List ℕ × Option Data) (k : List ℕ) (x o : Option Data) → p ≡ (k, x) → x ≡ o → p ∷ [] ≡ (k, o) ∷ []
last_slot p k x o is shows = slot p k x o [] [] is shows refl

-- a member, by the value that it shows, goes behind others that go behind some
pub more : (some before es fs : Slots) (k : List ℕ) (x o : Option Data) → es ≡ before ++ (k, x) ∷ [] → before ≡ some ++ fs → x ≡ o → es ≡ some ++ (fs ++ (k, o) ∷ [])
more some before es fs k x o is others shows = is ∙ (λ i. others i ++ (k, shows i) ∷ []) ∙ append_assoc some fs ((k, o) ∷ [])

-- the first that goes behind some
pub more_of : (before es : Slots) (k : List ℕ) (x o : Option Data) → es ≡ before ++ (k, x) ∷ [] → x ≡ o → es ≡ before ++ (k, o) ∷ []
more_of before es k x o is shows = is ∙ (λ i. before ++ (k, shows i) ∷ [])

pub if_ok : {A E : Type 0} (P Q : A → Type 0) (r : Result A E) → ((x : A) → P x → Q x) → IfOk r P → IfOk r Q
if_ok P Q (Ok x) f h = f x h
if_ok P Q (Err e) f h = tt
