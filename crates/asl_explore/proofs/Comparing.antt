-- Worlds that are compared by the numbers of their branches.
use Rattle.std.proofs.Common.{ℕ, suc, ◌≡◌, ◌<◌, ◌≤◌, ◌+◌, ◌∙◌, ◌++◌, sym, refl, subst, arith, List, [], ◌∷◌, length, get_or, Bool, true, false, Option}
use Rattle.std.specs.Prelude.{nat_lt, slice_index}
use Rattle.std.proofs.lemmas.Bool.Decides.{nat_tests}
use Rattle.std.specs.List.{All}
use Rattle.std.proofs.lemmas.List.{map-append}
use Rattle.std.proofs.lemmas.List.Elements.{All-push}
use Rattle.asl_run_branches.specs.Branches.{Branch}
use Rattle.asl_run_state.specs.Bare.{bare}
use Rattle.asl_run_state.specs.World.{World, is_over}
use Rattle.asl_run_state.specs.declared.outcome.Outcome.{Outcome}
use Rattle.asl_run_state.specs.declared.outcome.Outcome.TheVariants.{Running, Succeeded, Failed, TimedOut}
use Rattle.asl_branch_numbers.specs.Numbers.{AreNumbers, IsBehind, IsMore}
use Rattle.asl_branch_numbers.proofs.AsNumbers.{numbers-later, same-branches}
use Rattle.asl_explore.specs.declared.met.Node.{Node}
use Rattle.asl_explore.specs.Searches.{StandsAt, worlds_of}
use Rattle.asl_explore.specs.private.Numbered.{AreNumbered, IsNumbered}
use Rattle.asl_explore.proofs.Expanding.{node-at, stands-alike}

-- ---- the same in all that is compared

same-counts : (ms ns : List ℕ) → length ms ≡ length ns → ((k : ℕ) → k < length ms → slice_index ms k ≡ slice_index ns k) → ms ≡ ns
same-counts [] [] l h = refl
same-counts [] (b ∷ ns) l h = absurd (omega arith)
same-counts (a ∷ ms) [] l h = absurd (omega arith)
same-counts (a ∷ ms) (b ∷ ns) l h =
    let first : a ≡ b = h 0 (omega arith) in
    let rest = same-counts ms ns (omega arith) (λ k lt. h (suc k) (omega arith)) in
    λ i. first i ∷ rest i

running : (o : Outcome) → is_over o ≡ false → o ≡ Running
running Running h = refl
running (Succeeded x) h = (cc)
running (Failed e) h = (cc)
running TimedOut h = (cc)

-- a state more was invoked as often
pub counted-more : (ms ns : List ℕ) (i : ℕ) → slice_index ms i ≡ slice_index ns i → ((k : ℕ) → k < i → slice_index ms k ≡ slice_index ns k) → (k : ℕ) → k < i + 1 → slice_index ms k ≡ slice_index ns k
counted-more ms ns i same h k l = by (nat_lt k i) refl
  where
    by : (b : Bool) → nat_lt k i ≡ b → slice_index ms k ≡ slice_index ns k
    by true e = h k (grind (arith, nat_tests, e))
    by false e =
        let past : i ≤ k = grind (arith, nat_tests, e) in
        let at : i ≡ k = omega (arith, past, l) in
        subst (λ (j : ℕ). slice_index ms j ≡ slice_index ns j) at same

-- ---- is one world but for its history

module _ (ts : List Branch) (states : ℕ) (deadline : Option ℕ) (numbers : List ℕ) (w : World) (known : 0 < length numbers → AreNumbers ts numbers w.branches) (many : length w.counts ≡ states) (over : w.deadline ≡ deadline) where
  like-world : (n : Node) → IsNumbered ts states deadline n → 0 < length numbers → n.numbers.items ≡ numbers → n.world.last ≡ w.last → is_over n.world.outcome ≡ false → is_over w.outcome ≡ false → ((k : ℕ) → k < states → slice_index n.world.counts k ≡ slice_index w.counts k) → bare n.world ≡ bare w
  like-world n h some are last runs also counted =
      let own : AreNumbers ts numbers n.world.branches = subst (λ (ks : List ℕ). AreNumbers ts ks n.world.branches) are (h.numbers (subst (λ (ks : List ℕ). 0 < length ks) (sym are) some)) in
      let branches = same-branches ts numbers n.world.branches w.branches own (known some) in
      let counts = same-counts n.world.counts w.counts (h.counts ∙ sym many) (λ k lt. counted k (subst (λ (m : ℕ). k < m) h.counts lt)) in
      let deadlines = h.deadline_is ∙ sym over in
      let outcome = running n.world.outcome runs ∙ sym (running w.outcome also) in
      λ i. record { branches = branches i; counts = counts i; events = []; last = last i; deadline = deadlines i; outcome = outcome i }

  pub like-stands : (ns : List Node) (i : ℕ) (n : Node) → AreNumbered ts states deadline ns → i < length ns → n ≡ get_or ns i n → 0 < length numbers → n.numbers.items ≡ numbers → n.world.last ≡ w.last → is_over n.world.outcome ≡ false → is_over w.outcome ≡ false → ((k : ℕ) → k < states → slice_index n.world.counts k ≡ slice_index w.counts k) → StandsAt (worlds_of ns) i (bare w)
  like-stands ns i n all l at some are last runs also counted =
      stands-alike ns i n w l at (like-world n (subst (IsNumbered ts states deadline) (sym at) (all i n l)) some are last runs also counted)

-- ---- what is known of all

pub numbered-later : (ts us : List Branch) (states : ℕ) (deadline : Option ℕ) (ns : List Node) → IsMore ts us → AreNumbered ts states deadline ns → AreNumbered us states deadline ns
numbered-later ts us states deadline ns m all = λ i d l. record {
  numbers = λ some. numbers-later ts us (get_or ns i d).numbers.items (get_or ns i d).world.branches m ((all i d l).numbers some);
  counts = (all i d l).counts;
  deadline_is = (all i d l).deadline_is;
}

pub numbered-push : (ts : List Branch) (states : ℕ) (deadline : Option ℕ) (ns : List Node) (n : Node) → AreNumbered ts states deadline ns → IsNumbered ts states deadline n → AreNumbered ts states deadline (ns ++ n ∷ [])
numbered-push ts states deadline ns n all h = All-push (IsNumbered ts states deadline) ns n all h

pub worlds-push : (P : World → Type 0) (ns : List Node) (n : Node) → All P (worlds_of ns) → P (bare n.world) → All P (worlds_of (ns ++ n ∷ []))
worlds-push P ns n all h = subst (All P) (sym (map-append (λ (x : Node). bare x.world) ns (n ∷ []))) (All-push P (worlds_of ns) (bare n.world) all h)

-- ---- behind a step of one of them

module _ (ts : List Branch) (states : ℕ) (deadline : Option ℕ) (ns : List Node) (all : AreNumbered ts states deadline ns) (i : ℕ) (l : i < length ns) (p : List ℕ) (v : World) (behind : (d : World) → IsBehind p (get_or (worlds_of ns) i d) v) where
  pub behind-node : (n : Node) → n ≡ get_or ns i n → IsBehind p n.world v
  behind-node n at =
      let b = subst (λ (x : World). IsBehind p x v) (node-at ns i n v l at) (behind v) in
      record { apart = b.apart; counts = b.counts; deadline = b.deadline }

  pub behind-counts : (n : Node) → n ≡ get_or ns i n → length v.counts ≡ states
  behind-counts n at = (behind-node n at).counts ∙ (subst (IsNumbered ts states deadline) (sym at) (all i n l)).counts

  pub behind-deadline : (n : Node) → n ≡ get_or ns i n → v.deadline ≡ deadline
  behind-deadline n at = (behind-node n at).deadline ∙ (subst (IsNumbered ts states deadline) (sym at) (all i n l)).deadline_is

  pub behind-known : (n : Node) → n ≡ get_or ns i n → 0 < length n.numbers.items → AreNumbers ts n.numbers.items n.world.branches
  behind-known n at = (subst (IsNumbered ts states deadline) (sym at) (all i n l)).numbers
