-- How often workers take turns, whatever a turn does.
use Rattle.std.specs.Prelude.{ℕ, zero, suc, ◌≡◌, ◌≤◌, ◌⊎◌, Bool, false}

-- the turn of a worker was told at the gate, before and after
pub record IsTold {S : Type 0} (began ended : ℕ → ℕ → Type 0) (does : S → S → Bool → Type 0) (worker turn : ℕ) (old new : S) (last : Bool) : Type 0 where
  pub before : began worker turn
  pub turned : does old new last
  pub after : ended worker turn

-- so many turns, one after another, numbered from 0; all but the last one say that more may be due
abbrev pub Take : {S : Type 0} → (ℕ → S → S → Bool → Type 0) → ℕ → S → S → Bool → Type 0
Take turn zero old new last = (new ≡ old) × (last ≡ false)
Take turn (suc n) old new last = (mid : _) × Take turn n old mid false × turn n mid new last

-- at most so many turns, and fewer only where the last one says that nothing is due ever again
pub record TakesTurns {S : Type 0} (most : ℕ) (turn : ℕ → S → S → Bool → Type 0) (old new : S) : Type 0 where
  pub count : ℕ
  pub last : Bool
  pub few : count ≤ most
  pub all : last ≡ false → count ≡ most
  pub turns : Take turn count old new last

-- a worker takes its turns, told by its number; or it can't be started, and takes none
unfoldable pub Serves : {S : Type 0} → ℕ → (ℕ → ℕ → S → S → Bool → Type 0) → S → S → Type 0
Serves most turn old new = (new ≡ old) ⊎ ((worker : ℕ) × TakesTurns most (turn worker) old new)
