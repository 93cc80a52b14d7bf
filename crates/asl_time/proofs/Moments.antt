-- What clauses say of an optional number.
use Rattle.std.proofs.Common.{◌≡◌, ℕ, Option, None, Some, IfSome, IsSome, ap, refl}

pub some_same : (o : Option ℕ) (n : ℕ) → IfSome o (λ x. x ≡ n) → IsSome o → o ≡ Some n
some_same None n h k = absurd (cc)
some_same (Some x) n h k = ap Some h

pub both : (o : Option ℕ) (P Q R : ℕ → Type 0) → IfSome o P → IfSome o Q → ((x : ℕ) → P x → Q x → R x) → IfSome o R
both None P Q R h k f = tt
both (Some x) P Q R h k f = f x h k

pub where_some : (o : Option ℕ) (P : Type 0) → (IsSome o → P) → IfSome o (λ _. P)
where_some None P h = tt
where_some (Some x) P h = h refl
