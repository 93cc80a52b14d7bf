-- What callers may rely on: a retry is by one of the retriers, which isn't used up.
use Rattle.std.specs.Prelude.{◌≡◌, ℕ, suc, ◌+◌, ◌<◌, List, Bool, true, false, Option, None, Some, if◌then◌else◌, nat_lt}
use Rattle.std.proofs.Common.{refl, arith, ap, subst}
use Rattle.std.proofs.lemmas.Bool.{ltb-true}
use Rattle.asl_json_data.specs.Data.{Data, Chain, no_items, item}
use Rattle.asl_def_schema.specs.Claims.{item_count}
use Rattle.asl_def_fields.specs.Retries.{attempts_of}
use Rattle.asl_handle.specs.Names.{is_for}
use Rattle.asl_handle.specs.Decisions.{Handling, again, handlers_in, first_for, used, wait_after, delayed, retried, caught_by, decision}

-- the retrier of this number is the first that is for the error, and isn't used up
pub record IsNext (retry : Option Data) (error uses : List ℕ) (i : ℕ) : Type 0 where
  pub retrier : Data
  pub first : first_for error 0 (handlers_in retry) ≡ Some (i, retrier)
  pub unused : used uses i < attempts_of retrier

abbrev number_or : ℕ → Option (ℕ × Data) → ℕ
number_or n None = n
number_or n (Some x) = x.0

first-within : (error : List ℕ) (n : ℕ) (ds : Chain) (i : ℕ) (r : Data)
    → first_for error n ds ≡ Some (i, r) → i < n + item_count ds
first-within error n no_items i r e = absurd (cc)
first-within error n (item d ds) i r e =
    by (is_for d error) refl e (first-within error (suc n) ds i r)
  where
    by : (b : Bool) → is_for d error ≡ b
        → (if b then Some (n, d) else first_for error (suc n) ds) ≡ Some (i, r)
        → (first_for error (suc n) ds ≡ Some (i, r) → i < suc n + item_count ds)
        → i < n + suc (item_count ds)
    by true is e rest = let same : n ≡ i = ap (number_or n) e in omega (arith, same)
    by false is e rest = let h = rest e in omega (arith, h)

-- a catcher retries nothing
uncaught : (o : Option (ℕ × Data)) (i t : ℕ) → caught_by o ≡ again i t → ⊥
uncaught None i t e = absurd (cc)
uncaught (Some x) i t e = absurd (cc)

retried-next : (uses : List ℕ) (now : ℕ) (o : Option (ℕ × Data)) (h : Handling) (i t : ℕ)
    → (h ≡ again i t → ⊥) → retried uses now o h ≡ again i t
    → (r : Data) × (o ≡ Some (i, r)) × (used uses i < attempts_of r)
retried-next uses now None h i t not e = absurd (not e)
retried-next uses now (Some x) h i t not e = by (nat_lt (used uses x.0) (attempts_of x.1)) refl e
  where
    until : ℕ
    until = delayed now (wait_after x.1 (used uses x.0))

    by : (b : Bool) → nat_lt (used uses x.0) (attempts_of x.1) ≡ b
        → (if b then again x.0 until else h) ≡ again i t
        → (r : Data) × (Some x ≡ Some (i, r)) × (used uses i < attempts_of r)
    by true is e =
        let same : x.0 ≡ i = cc in (
          x.1,
          ap (λ (j : ℕ). Some (j, x.1)) same,
          subst (λ (j : ℕ). used uses j < attempts_of x.1)
              same (ltb-true (used uses x.0) (attempts_of x.1) is),
        )
    by false is e = absurd (not e)

pub again-next : (retry catch : Option Data) (error uses : List ℕ) (now i t : ℕ)
    → decision retry catch error uses now ≡ again i t → IsNext retry error uses i
again-next retry catch error uses now i t e =
    let found =
    retried-next uses now (first_for error 0 (handlers_in retry))
    (caught_by (first_for error 0 (handlers_in catch))) i t
    (uncaught (first_for error 0 (handlers_in catch)) i t) e in
    record { retrier = found.0; first = found.1; unused = found.2 }

pub again-within : (retry catch : Option Data) (error uses : List ℕ) (now i t : ℕ)
    → decision retry catch error uses now ≡ again i t → i < item_count (handlers_in retry)
again-within retry catch error uses now i t e =
    let next = again-next retry catch error uses now i t e in
    let within = first-within error 0 (handlers_in retry) i next.retrier next.first in
    omega (arith, within)
