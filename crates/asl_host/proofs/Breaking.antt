-- Texts of which a sink took a beginning.
use Rattle.std.proofs.Common.{ℕ, ◌≡◌, ◌+◌, List, ◌++◌, length, length-append, sym, ap, ◌∙◌, refl, append_assoc, Result, Ok, Err, OnErr, arith}
use Rattle.std.proofs.Math.Seq.{take-append-add}
use Rattle.std.proofs.lemmas.List.{take-append-le}
use Rattle.asl_history.specs.Sinks.{counted}
use Rattle.asl_host.specs.Outcomes.{Breaks, sink_use, IsWhole, IsBroken}

-- a beginning of the first piece is one of the whole
pub breaks_first : (old new a b : List ℕ) → Breaks old new a → Breaks old new (a ++ b)
breaks_first old new a b (n, short, told) = (
  n,
  (let whole = length-append a b in omega arith),
  told ∙ ap (λ t. old ++ t) (sym (take-append-le n a b (omega arith))),
)

-- the first piece and a beginning of the rest are a beginning of the whole
pub breaks_rest : (old mid new a b : List ℕ) → mid ≡ old ++ a → Breaks mid new b → Breaks old new (a ++ b)
breaks_rest old mid new a b first (n, short, told) = (
  length a + n,
  (let whole = length-append a b in omega arith),
  told ∙ rw (first, append_assoc, take-append-add) refl,
)

pub broken_first : {S : Type 0} (taken : S → List ℕ) (failures : S → ℕ) (old new : S) (a b : List ℕ)
    → IsBroken (sink_use taken failures old new) a → IsBroken (sink_use taken failures old new) (a ++ b)
broken_first taken failures old new a b broken = (breaks_first (taken old) (taken new) a b broken.0, broken.1)

pub broken_rest : {S : Type 0} (taken : S → List ℕ) (failures : S → ℕ) (old mid new : S) (a b : List ℕ)
    → IsWhole (sink_use taken failures old mid) a → IsBroken (sink_use taken failures mid new) b → IsBroken (sink_use taken failures old new) (a ++ b)
broken_rest taken failures old mid new a b whole broken = (
  breaks_rest (taken old) (taken mid) (taken new) a b whole.0 broken.0,
  broken.1 ∙ ap counted whole.1,
)

pub when_err : {T E : Type 0} (r : Result T E) (P : Type 0) → P → OnErr r P
when_err (Ok x) P p = (cc)
when_err (Err e) P p = p

pub map_err : {T E : Type 0} (r : Result T E) (P Q : Type 0) → (P → Q) → OnErr r P → OnErr r Q
map_err (Ok x) P Q f h = (cc)
map_err (Err e) P Q f h = f h
