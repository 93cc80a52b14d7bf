-- Outcomes that are looked up by their texts.
use Rattle.std.proofs.Common.{ℕ, suc, zero, ◌≡◌, ◌++◌, ◌∙◌, ap, sym, refl, subst, arith, cond, Bool, true, false, List, [], ◌∷◌, get_or, Some, None}
use Rattle.std.specs.Prelude.{is_some, if◌then◌else◌}
use Rattle.std.specs.List.{All}
use Rattle.std.specs.Str.{bytes_eq}
use Rattle.std.specs.String.{string_bytes, string_eq}
use Rattle.std.specs.HashMap.{HashMap, UpdatesBy, get_by_text}
use Rattle.std.specs.declared.string.String.{String}
use Rattle.std.proofs.lemmas.List.Elements.{All-push}
use Rattle.std.proofs.lemmas.Map.Text.{hash_map_updates_text}
use Rattle.asl_run_state.specs.declared.outcome.Outcome.{Outcome}
use Rattle.asl_explore.specs.Reports.{ended_text}
use Rattle.asl_explore.specs.Searches.{outcomes_of}
use Rattle.asl_explore.specs.declared.found.Found.{Found}
use Rattle.asl_explore.specs.private.Known.{AreKnown}
use Rattle.asl_explore.proofs.Finding.{Other}

module _ {Y S : Type 0} where
  -- a text that has no number is of none of them
  pub not-known : (m : HashMap (String Y) ℕ S) (fs : List Found) (o : Outcome) → AreKnown m fs → get_by_text m (ended_text o) ≡ None → All (Other o) (outcomes_of fs)
  not-known m [] o k n i d l e = absurd (omega arith)
  not-known m (f ∷ fs) o k n zero d l e =
      let some : is_some (get_by_text m (ended_text f.outcome)) ≡ true = k 0 f (omega arith) in
      let none : is_some (get_by_text m (ended_text f.outcome)) ≡ false = ap is_some (ap (λ (z : Outcome). get_by_text m (ended_text z)) e ∙ n) in
      absurd (cc)
  not-known m (f ∷ fs) o k n (suc i) d l e = not-known m fs o (λ j c b. k (suc j) c (omega arith)) n i d (omega arith) e

  module _ (m n : HashMap (String Y) ℕ S) (bs : List ℕ) (number : ℕ) (h : UpdatesBy string_eq (λ k. bytes_eq bs (string_bytes k)) m n (Some number)) where
    stays : (cs : List ℕ) → is_some (get_by_text m cs) ≡ true → is_some (get_by_text n cs) ≡ true
    stays cs k = ap is_some (hash_map_updates_text bs m n (Some number) h cs) ∙ by (bytes_eq bs cs)
      where
        by : (b : Bool) → is_some (cond b (Some number) (get_by_text m cs)) ≡ true
        by true = refl
        by false = k

    -- one more text has a number
    pub known-put : (fs : List Found) → AreKnown m fs → AreKnown n fs
    known-put fs k i d l = stays (ended_text (get_or fs i d).outcome) (k i d l)

    -- that of an outcome which is put behind the others, if there was room
    pub known-push : (fs gs : List Found) (f : Found) (b : Bool) → AreKnown m fs → bs ≡ ended_text f.outcome → gs ≡ (if b then fs ++ f ∷ [] else fs) → AreKnown n gs
    known-push fs gs f true k is e =
        let here : is_some (get_by_text n (ended_text f.outcome)) ≡ true = subst (λ (cs : List ℕ). is_some (get_by_text n cs) ≡ true) is (ap is_some h.1) in
        subst (AreKnown n) (sym e) (All-push (λ (x : Found). is_some (get_by_text n (ended_text x.outcome)) ≡ true) fs f (known-put fs k) here)
    known-push fs gs f false k is e = subst (AreKnown n) (sym e) (known-put fs k)
