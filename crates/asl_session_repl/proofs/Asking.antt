-- What stands behind a space.
use Rattle.std.proofs.Common.{ℕ, ◌≡◌, List, ◌∷◌, Option, Some, Result, Ok, Err, IfOk, sym, ◌∙◌}
use Rattle.asl_session_repl.specs.declared.word.Word.TheVariants as word
use Rattle.asl_session_repl.specs.declared.request.Request.{Request}
use Rattle.asl_session_repl.specs.declared.timed.When.{When}
use Rattle.asl_session_repl.specs.declared.timed.Timed.{Timed}
use Rattle.asl_session_repl.specs.Moments.{AreSteps}
use Rattle.asl_session_repl.specs.Requests.{IsSpaced}

pub spaced-is : (P : List ℕ → Type 0) (t rest : List ℕ) → t ≡ 32 ∷ rest → IsSpaced P t → P rest
spaced-is P t rest e h = let same : h.rest ≡ rest = (let one : 32 ∷ h.rest ≡ 32 ∷ rest = sym h.text_is ∙ e in (cc)) in rw same at h.rest_is

pub spaced-steps : {E : Type 0} (r : Result (Option (Timed × Timed)) E) (t rest : List ℕ) → t ≡ 32 ∷ rest → IfOk r (λ o. (a b : Timed) → AreSteps rest a b → o ≡ Some (a, b)) → IfOk r (λ o. (a b : Timed) → IsSpaced (λ s. AreSteps s a b) t → o ≡ Some (a, b))
spaced-steps (Ok o) t rest e h = λ a b k. h a b (spaced-is (λ s. AreSteps s a b) t rest e k)
spaced-steps (Err x) t rest e h = h
