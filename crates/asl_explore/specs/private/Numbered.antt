-- Worlds that were met, and the numbers of their branches.
use Rattle.std.specs.Prelude.{ℕ, ◌≡◌, ◌<◌, List, Option, length}
use Rattle.std.specs.List.{All}
use Rattle.std.specs.Coded.{Coded, Coded-set, code_by, coded×, coded_ℕ, coded_list, coded_option}
use Rattle.asl_step.specs.declared.record.Record.{Record}
use Rattle.asl_step.specs.contracts.record.Record as record_row
use Rattle.asl_run_branches.specs.Branches.{Branch}
use Rattle.asl_branch_numbers.specs.Numbers.{AreNumbers}
use Rattle.asl_explore.specs.declared.met.Node.{Node}

-- of these branches, those of its numbers are its own, if it has numbers; and it is like the others
-- in what no step changes
pub record IsNumbered (ts : List Branch) (states : ℕ) (deadline : Option ℕ) (n : Node) : Type 0 where
  pub numbers : 0 < length n.numbers.items → AreNumbers ts n.numbers.items n.world.branches
  pub counts : length n.world.counts ≡ states
  pub deadline_is : n.world.deadline ≡ deadline

abbrev pub AreNumbered : List Branch → ℕ → Option ℕ → List Node → Type 0
AreNumbered ts states deadline ns = All (IsNumbered ts states deadline) ns

-- ---- there is one proof at most

branch_code : Coded Branch
branch_code = code_by (List ℕ × Record) (coded× (coded_list coded_ℕ) record_row.the_row.coded) (λ b. (b.place, b.current)) (λ p. record { place = p.0; current = p.1 }) (λ b i. b)

pub numbered-prop : (ts : List Branch) (states : ℕ) (deadline : Option ℕ) (ns : List Node) → IsProp (AreNumbered ts states deadline ns)
numbered-prop ts states deadline ns a b = λ i k d l. record {
  numbers = λ h. Coded-set (coded_list (coded_option branch_code)) _ _ ((a k d l).numbers h) ((b k d l).numbers h) i;
  counts = Coded-set coded_ℕ _ _ (a k d l).counts (b k d l).counts i;
  deadline_is = Coded-set (coded_option coded_ℕ) _ _ (a k d l).deadline_is (b k d l).deadline_is i;
}
