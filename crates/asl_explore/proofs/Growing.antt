-- What was met stays met as a search goes on.
use Rattle.std.proofs.Common.{ℕ, ◌≡◌, ◌<◌, ◌≤◌, ◌+◌, ◌++◌, ◌∙◌, ap, sym, refl, subst, arith, Bool, true, false, List, [], ◌∷◌, length, get_or}
use Rattle.std.specs.Prelude.{nat_lt}
use Rattle.std.specs.List.{All, Contains}
use Rattle.std.proofs.lemmas.Bool.Decides.{nat_tests}
use Rattle.std.proofs.lemmas.List.{append-nil, append_assoc, length-append, get_or_append_left, get_or_push}
use Rattle.std.proofs.lemmas.List.Elements.{Contains-append_left}
use Rattle.asl_run_state.specs.World.{World}
use Rattle.asl_run_state.specs.Bare.{bare}
use Rattle.asl_run_state.specs.declared.outcome.Outcome.{Outcome}
use Rattle.asl_explore.specs.Searches.{IsMet, IsLater, AreDistinct}

pub met-later : (ws vs : List World) (os us : List Outcome) (w : World) → IsLater ws os vs us → IsMet ws os w → IsMet vs us w
met-later ws vs os us w l m = record {
  ends = λ o. subst (λ (xs : List Outcome). Contains xs w.outcome) (sym l.outcomes) (Contains-append_left os l.more_outcomes w.outcome (m.ends o));
  runs = λ r. subst (λ (xs : List World). Contains xs (bare w)) (sym l.worlds) (Contains-append_left ws l.more_worlds (bare w) (m.runs r));
}

pub later-same : (ws : List World) (os : List Outcome) → IsLater ws os ws os
later-same ws os = record { more_worlds = []; more_outcomes = []; worlds = sym (append-nil ws); outcomes = sym (append-nil os) }

pub later-then : (ws vs xs : List World) (os us ys : List Outcome) → IsLater ws os vs us → IsLater vs us xs ys → IsLater ws os xs ys
later-then ws vs xs os us ys a b = record {
  more_worlds = a.more_worlds ++ b.more_worlds;
  more_outcomes = a.more_outcomes ++ b.more_outcomes;
  worlds = b.worlds ∙ ap (λ (z : List World). z ++ b.more_worlds) a.worlds ∙ append_assoc ws a.more_worlds b.more_worlds;
  outcomes = b.outcomes ∙ ap (λ (z : List Outcome). z ++ b.more_outcomes) a.outcomes ∙ append_assoc os a.more_outcomes b.more_outcomes;
}

pub later-at : (ws vs : List World) (os us : List Outcome) (k : ℕ) (d : World) → IsLater ws os vs us → k < length ws → get_or vs k d ≡ get_or ws k d
later-at ws vs os us k d l h = ap (λ (z : List World). get_or z k d) l.worlds ∙ get_or_append_left ws l.more_worlds d k h

pub later-length : (ws vs : List World) (os us : List Outcome) → IsLater ws os vs us → length ws ≤ length vs
later-length ws vs os us l = omega (arith, ap (length {A = World}) l.worlds, length-append ws l.more_worlds)

pub distinct-more : (os : List Outcome) (o : Outcome) → AreDistinct os → All (λ (a : Outcome). a ≡ o → ⊥) os → AreDistinct (os ++ o ∷ [])
distinct-more os o h new i j d lt le = by (nat_lt j (length os)) refl
  where
    by : (b : Bool) → nat_lt j (length os) ≡ b → get_or (os ++ o ∷ []) i d ≡ get_or (os ++ o ∷ []) j d → ⊥
    by true e q =
        let l : j < length os = grind (arith, nat_tests, e) in
        let a = get_or_append_left os (o ∷ []) d i (omega arith) in
        let b = get_or_append_left os (o ∷ []) d j l in
        h i j d lt l (sym a ∙ q ∙ b)
    by false e q =
        let g : length os ≤ j = grind (arith, nat_tests, e) in
        let n : length (os ++ o ∷ []) ≡ length os + 1 = length-append os (o ∷ []) in
        let m : length os ≡ j = omega arith in
        let a = get_or_append_left os (o ∷ []) d i (omega arith) in
        let b = get_or_push os o d j m in
        new i d (omega arith) (sym a ∙ q ∙ b)
