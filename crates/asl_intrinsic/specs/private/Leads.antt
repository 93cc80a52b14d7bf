-- What a part of the reader answers, by the machine: it stands for a stretch of the machine's run.
use Rattle.std.specs.Prelude.{◌≡◌, ◌<◌, ◌≤◌, ℕ, suc, ◌+◌, ◌==◌, ◌||◌, ◌&&◌, not, nat_lt, Bool, true, false, List, [], ◌∷◌, ◌++◌, length, take, drop, get_or, if◌then◌else◌, Result, Ok, Err}
use Rattle.asl_path.specs.Grammar.{Each, IsPrefix}
use Rattle.asl_path.specs.private.Leads.{NotFirst}
use Rattle.asl_intrinsic.specs.Tree.{Argument, Frame}
use Rattle.asl_intrinsic.specs.Grammar.{is_space}
use Rattle.asl_intrinsic.specs.private.Steps.{begins, chars, onward, run_by, run}
use Rattle.asl_intrinsic.specs.declared.front.Halt.{Halt}
use Rattle.asl_intrinsic.specs.declared.front.Halt.TheVariants.{At, Memory}

-- the machine stops with so many bytes left, unless memory ran out
abbrev pub Fails : {Y : Type 0} → Halt → Result Y ℕ → Type 0
Fails Memory r = Unit {0}
Fails (At left) r = r ≡ Err left

-- the machine's run r is what further says of what was read
abbrev pub Leads : {X : Type 0} {Y : Type 0} → (X → Result Y ℕ) → Result X Halt → Result Y ℕ
    → Type 0
Leads further (Ok x) r = r ≡ further x
Leads further (Err e) r = Fails e r

abbrev pub is_ascii : ℕ → Bool
is_ascii c = nat_lt c 128

-- what follows a word that stands in front
abbrev pub after_word : List ℕ → List ℕ → Result (List ℕ) ℕ
after_word [] t = Ok t
after_word (w ∷ ws) [] = Err 0
after_word (w ∷ ws) (c ∷ cs) = if c == w then after_word ws cs else Err (suc (length cs))

-- rest is what follows some spaces in front
pub record Led (t rest : List ℕ) : Type 0 where
  pub spaces : List ℕ
  pub parts : t ≡ spaces ++ rest
  pub spaces_are : Each is_space spaces

-- rest is what follows all of them
pub record Skips (t rest : List ℕ) : Type 0 where
  pub led : Led t rest
  pub stops : NotFirst is_space rest

-- what may follow an argument
abbrev pub is_behind : ℕ → Bool
is_behind c = (c == 32) || (c == 44) || (c == 41)

abbrev pub is_stray : List ℕ → ℕ → Bool
is_stray t at = nat_lt at (length t) && not (is_behind (get_or t at 0))

abbrev pub first_is : ℕ → List ℕ → Bool
first_is b [] = false
first_is b (c ∷ cs) = c == b

-- so many bytes stand before the apostrophe that closes a text
pub record IsQuotedLen (t : List ℕ) (n : ℕ) : Type 0 where
  pub inside : n < length t
  pub closes : get_or t n 0 ≡ 39
  pub reads : (st : List Frame) → run (chars []) st t ≡ run (chars (take n t)) st (drop n t)

-- a path may begin with so many bytes in front, and with no more
pub record IsPathLen (t : List ℕ) (n : ℕ) : Type 0 where
  pub within : n ≤ length t
  pub alive : IsPrefix (take n t)
  pub dead : n < length t → IsPrefix (take (n + 1) t) → ⊥

-- the run from where an argument begins
abbrev pub begun_by : Bool → List Frame → List ℕ → Result Argument ℕ
begun_by lim st [] = Err 0
begun_by lim st (c ∷ cs) = onward (begins st c) (suc (length cs)) (λ n s. run_by lim n s cs)

abbrev pub begun : List Frame → List ℕ → Result Argument ℕ
begun st t = begun_by true st t
