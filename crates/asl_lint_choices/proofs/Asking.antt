-- A rule holds where what it asks holds.
use Rattle.std.proofs.Common.{◌≡◌, ℕ, Bool, true, false, List, ◌∷◌, refl, sym, ap, ◌∙◌}
use Rattle.std.specs.Prelude.{◌||◌, Option, None, Some, codes, if◌then◌else◌}
use Rattle.std.specs.Cmp.Lexicographic.{bytes_decides}
use Rattle.asl_json_data.specs.Data.{Data, null, boolean, number, text, list, dict, Pairs, no_members, member, pairs}
use Rattle.asl_json.specs.View.{unpaired}
use Rattle.asl_json.specs.Meaning.{value_at}
use Rattle.asl_json.specs.Same.{bytes_eq}
use Rattle.asl_json.specs.private.SameLaws.{equal_true}
use Rattle.asl_choice.specs.Truth.{Verdict, holds, decided, each, any, negated, test, chosen, kind_of, variable}
use Rattle.asl_lint_choices.specs.Conditions.{is_aside, without_asides, condition, is_same}

-- members that decide nothing and are no variable
record IsSilent (k : List ℕ) : Type 0 where
  kind : kind_of k ≡ None
  name : bytes_eq (codes "Variable") k ≡ false

silent : (k : List ℕ) → is_aside k ≡ true → IsSilent k
silent k e = which (bytes_eq k (codes "Next")) refl e
  where
    which : (b : Bool) → bytes_eq k (codes "Next") ≡ b → (b || bytes_eq k (codes "Comment")) ≡ true → IsSilent k
    which true is e =
        let same = (bytes_decides k (codes "Next")).0 is in
        record { kind = ap kind_of same; name = ap (bytes_eq (codes "Variable")) same }
    which false is e =
        let same = (bytes_decides k (codes "Comment")).0 e in
        record { kind = ap kind_of same; name = ap (bytes_eq (codes "Variable")) same }

same_variable : (ms : Pairs) → value_at (codes "Variable") ms ≡ value_at (codes "Variable") (pairs (without_asides (unpaired ms)))
same_variable no_members = refl
same_variable (member k d ms) = which (is_aside k) refl (same_variable ms)
  where
    which : (b : Bool) → is_aside k ≡ b
        → value_at (codes "Variable") ms ≡ value_at (codes "Variable") (pairs (without_asides (unpaired ms)))
        → value_at (codes "Variable") (member k d ms)
        ≡ value_at (codes "Variable") (pairs (if b then without_asides (unpaired ms) else (k, d) ∷ without_asides (unpaired ms)))
    which true is behind = rw ((silent k is).name) behind
    which false is behind =
        ap (λ (o : Option Data). if bytes_eq (codes "Variable") k then Some d else o) behind

same_decided : (p : List ℕ) (ms : Pairs) (x c : Data) → decided p ms x c ≡ decided p (pairs (without_asides (unpaired ms))) x c
same_decided p no_members x c = refl
same_decided p (member k d ms) x c = which (is_aside k) refl (same_decided p ms x c)
  where
    which : (b : Bool) → is_aside k ≡ b
        → decided p ms x c ≡ decided p (pairs (without_asides (unpaired ms))) x c
        → decided p (member k d ms) x c
        ≡ decided p (pairs (if b then without_asides (unpaired ms) else (k, d) ∷ without_asides (unpaired ms))) x c
    which true is behind = rw ((silent k is).kind) behind
    which false is behind =
        ap (λ (v : Verdict). chosen (kind_of k) (each d x c) (any d x c) (negated (holds d x c)) (λ o. test o p d x c) v)
        behind

pub asked_alone : (d x c : Data) → holds d x c ≡ holds (dict (pairs (condition d))) x c
asked_alone (dict ms) x c =
    ap (λ (o : Option Data). decided (variable o) ms x c) (same_variable ms)
    ∙ same_decided (variable (value_at (codes "Variable") (pairs (condition (dict ms))))) ms x c
asked_alone null x c = refl
asked_alone (boolean b) x c = refl
asked_alone (number n) x c = refl
asked_alone (text t) x c = refl
asked_alone (list ds) x c = refl

-- rules that ask the same hold alike
pub alike : (d e x c : Data) → is_same (condition d) (condition e) ≡ true → holds d x c ≡ holds e x c
alike d e x c same =
    asked_alone d x c
    ∙ ap (λ (y : Data). holds y x c) (equal_true (dict (pairs (condition d))) (dict (pairs (condition e))) same)
    ∙ sym (asked_alone e x c)
