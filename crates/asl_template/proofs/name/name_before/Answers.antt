use Rattle.std.proofs.Common.{◌≡◌, ◌≢◌, ◌++◌, ◌∷◌, [], ℕ, List, subst, sym, arith}
use Rattle.std.specs.Prelude.{Option}
use Rattle.std.specs.Option.{MatchOption}
use Rattle.std.proofs.lemmas.Str.Pattern.{strip_suffix_char}
use denote.Ref.{Bor}
use Rattle.asl_template.proofs.Marks.{taken_off, no_sign}
use Rattle.asl_template.proofs.name.name_before.Goals as goal

pub returns-in-Some : goal.returns-in-Some
returns-in-Some c =
    let key = c.args.key.now in
    let front = c.in-Some.front in
    let behind = strip_suffix_char 36 key c.strip_suffix.result c.strip_suffix.ensures.cases (omega arith) in
    let whole : key ≡ front.now ++ 36 ∷ [] = subst (λ (r : Option (Bor (List ℕ))). MatchOption r ((f : List ℕ) → key ≢ f ++ 36 ∷ []) (λ x. key ≡ x.now ++ 36 ∷ [])) c.in-Some.is behind in
    taken_off key front.now c.strip_suffix-in-Some.result whole (strip_suffix_char 46 front.now c.strip_suffix-in-Some.result c.strip_suffix-in-Some.ensures.cases (omega arith))

pub returns-in-None : goal.returns-in-None
returns-in-None c =
    let key = c.args.key.now in
    sym (no_sign key (subst (λ (r : Option (Bor (List ℕ))). MatchOption r ((f : List ℕ) → key ≢ f ++ 36 ∷ []) (λ x. key ≡ x.now ++ 36 ∷ [])) c.in-None.is (strip_suffix_char 36 key c.strip_suffix.result c.strip_suffix.ensures.cases (omega arith))))
