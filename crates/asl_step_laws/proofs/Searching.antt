-- The search for a retrier ends at the first that is for the error.
use Rattle.std.proofs.Common.{◌≡◌, ℕ, suc, ◌+◌, ◌≤◌, List, [], ◌∷◌, ◌++◌, length, Bool, true, false, Option, Some, None, if◌then◌else◌, refl, sym, ap, subst, ◌∙◌, arith}
use Rattle.std.specs.Prelude.{nat_lt}
use Rattle.std.proofs.lemmas.Bool.{le-ltb}
use Rattle.std.proofs.lemmas.List.Elements.{All-head, All-tail}
use Rattle.asl_json_data.specs.Data.{Data, chain}
use Rattle.asl_def_fields.specs.Retries.{attempts_of}
use Rattle.asl_handle.specs.Names.{is_for}
use Rattle.asl_handle.specs.Decisions.{Handling, OnAgain, again, handlers_in, first_for, used, wait_after, delayed, retried, caught_by, decision}
use Rattle.asl_step_laws.specs.Laws.{IsFirstFor, retry_of}

-- it is found behind those that aren't, whatever stands behind it
found-from : (error : List ℕ) (i : ℕ) (before after : List Data) (r : Data)
    → IsFirstFor error before r
    → first_for error i (chain (before ++ r ∷ after)) ≡ Some (i + length before, r)
found-from error i [] after r is =
    ap (λ (b : Bool). if b then Some (i, r) else first_for error (suc i) (chain after)) is.is_next
    ∙ ap (λ (n : ℕ). Some (n, r)) (omega arith)
found-from error i (b ∷ bs) after r is =
    ap (λ (c : Bool). if c then Some (i, b)
    else first_for error (suc i) (chain (bs ++ r ∷ after)))
    (All-head (λ (d : Data). is_for d error ≡ false) b bs is.not_before)
    ∙ found-from error (suc i) bs after r (record {
      not_before = All-tail (λ (d : Data). is_for d error ≡ false) b bs is.not_before;
      is_next = is.is_next;
    })
    ∙ ap (λ (n : ℕ). Some (n, r)) (omega arith)

found : (error : List ℕ) (before after : List Data) (r : Data) → IsFirstFor error before r
    → first_for error 0 (handlers_in (retry_of (before ++ r ∷ after))) ≡ Some (length before, r)
found error before after r is =
    found-from error 0 before after r is ∙ ap (λ (n : ℕ). Some (n, r)) (omega arith)

-- what the catchers decide
abbrev fallback : Option Data → List ℕ → Handling
fallback catch error = caught_by (first_for error 0 (handlers_in catch))

-- so it alone is asked
asked : (before after : List Data) (r : Data) (catch : Option Data) (error uses : List ℕ) (now : ℕ)
    → IsFirstFor error before r
    → decision (retry_of (before ++ r ∷ after)) catch error uses now
    ≡ retried uses now (Some (length before, r)) (fallback catch error)
asked before after r catch error uses now is =
    ap (λ (o : Option (ℕ × Data)). retried uses now o (fallback catch error))
    (found error before after r is)

pub used_up : (before after : List Data) (r : Data) (catch : Option Data) (error uses : List ℕ)
    (now : ℕ) → IsFirstFor error before r → attempts_of r ≤ used uses (length before)
    → decision (retry_of (before ++ r ∷ after)) catch error uses now
    ≡ decision None catch error uses now
used_up before after r catch error uses now is spent =
    asked before after r catch error uses now is
    ∙ ap (λ (b : Bool). if b
    then again (length before) (delayed now (wait_after r (used uses (length before))))
    else fallback catch error) (le-ltb (used uses (length before)) (attempts_of r) spent)

pub later : (before after others : List Data) (r : Data) (catch : Option Data)
    (error uses : List ℕ) (now : ℕ) → IsFirstFor error before r
    → decision (retry_of (before ++ r ∷ after)) catch error uses now
    ≡ decision (retry_of (before ++ r ∷ others)) catch error uses now
later before after others r catch error uses now is =
    asked before after r catch error uses now is
    ∙ sym (asked before others r catch error uses now is)

-- catchers retry nothing
none-again : (o : Option (ℕ × Data)) (P : ℕ → Type 0) → OnAgain (caught_by o) P
none-again None P = tt
none-again (Some x) P = tt

pub only : (before after : List Data) (r : Data) (catch : Option Data) (error uses : List ℕ)
    (now : ℕ) → IsFirstFor error before r
    → OnAgain (decision (retry_of (before ++ r ∷ after)) catch error uses now)
    (λ i. i ≡ length before)
only before after r catch error uses now is =
    subst (λ (h : Handling). OnAgain h (λ i. i ≡ length before))
    (sym (asked before after r catch error uses now is))
    (by (nat_lt (used uses (length before)) (attempts_of r)))
  where
    by : (b : Bool)
        → OnAgain (if b
        then again (length before) (delayed now (wait_after r (used uses (length before))))
        else fallback catch error) (λ i. i ≡ length before)
    by true = refl
    by false = none-again (first_for error 0 (handlers_in catch)) (λ i. i ≡ length before)
