-- In none of the worlds of a search a branch waits.
use Rattle.std.proofs.Common.{ℕ, ◌≡◌, ◌<◌, ◌≤◌, ◌+◌, ◌∙◌, ap, refl, subst, arith, Bool, true, false, List, length, get_or}
use Rattle.std.specs.Prelude.{nat_lt}
use Rattle.std.specs.List.{All, AllWithin}
use Rattle.std.proofs.lemmas.Bool.Decides.{nat_tests}
use Rattle.std.proofs.lemmas.List.{get_or_read}
use Rattle.std.proofs.lemmas.List.Elements.{AllWithin-more}
use Rattle.asl_run_branches.specs.declared.earliest.Earliest.{Earliest}
use Rattle.asl_run_state.specs.World.{World}
use Rattle.asl_run_state.specs.Bare.{bare, earliest}
use Rattle.asl_explore.specs.declared.met.Node.{Node}
use Rattle.asl_explore.specs.Searches.{Waits, worlds_of}
use Rattle.asl_explore.proofs.Expanding.{node-at}
use Rattle.asl_explore.proofs.Whole.{there}

-- a step isn't later than this
abbrev pub IsBy : ℕ → Earliest → Type 0
IsBy last e = e.moment ≤ last

pub by-more : (last : ℕ) (turns : List Earliest) (i : ℕ) (turn : Earliest) → i < length turns → turn ≡ get_or turns i turn → turn.moment ≤ last → AllWithin (IsBy last) turns 0 i → AllWithin (IsBy last) turns 0 (i + 1)
by-more last turns i turn l e le h = AllWithin-more (IsBy last) turns 0 i h (λ d. subst (IsBy last) (get_or_read turns i turn l e d) le)

-- where none is, no branch waits
pub none-waits : (w : World) (turns : List Earliest) (i last : ℕ) → turns ≡ earliest w.last w.branches → length turns ≤ i → last ≡ w.last → AllWithin (IsBy last) turns 0 i → Waits (bare w) → ⊥
none-waits w turns i last is le now h z =
    let all : All (IsBy last) turns = λ k d l. h k d (omega arith) (omega (arith, l, le)) in
    let by : IsBy last (record { place = z.place; moment = _ }) = there w.last z.place w.branches z.current (IsBy last) (subst (All (IsBy last)) is all) z.there in
    let l = z.waits in
    omega (arith, by, l, now)

abbrev pub NoneWithin : List Node → ℕ → Type 0
NoneWithin ns n = (i : ℕ) → i < n → (d : World) → Waits (get_or (worlds_of ns) i d) → ⊥

pub none-more : (ns : List Node) (n : ℕ) (x : Node) → n < length ns → x ≡ get_or ns n x → (Waits (bare x.world) → ⊥) → NoneWithin ns n → NoneWithin ns (n + 1)
none-more ns n x lt e here h i l d z = by (nat_lt i n) refl
  where
    by : (c : Bool) → nat_lt i n ≡ c → ⊥
    by true q = let b : i < n = grind (arith, nat_tests, q) in h i b d z
    by false q =
        let g : n ≤ i = grind (arith, nat_tests, q) in
        let is : i ≡ n = omega (arith, g, l) in
        here (subst Waits (ap (λ (k : ℕ). get_or (worlds_of ns) k d) is ∙ node-at ns n x d lt e) z)
