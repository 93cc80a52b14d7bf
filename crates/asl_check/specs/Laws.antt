-- Laws of what is accepted and of what is printed for it, over all texts.
use Rattle.std.specs.Prelude.{◌≡◌, ◌≤◌, ℕ, List, length}
use Rattle.asl_json_data.specs.Data.{Data, depth}
use Rattle.asl_json_data.specs.Compact.{compact}
use Rattle.asl_json_data.specs.Limits.{max_len, max_depth}
use Rattle.asl_def_schema.specs.Canon.{canonical}
use Rattle.asl_def_schema.specs.Faults.{Accepted}
use Rattle.asl_check.specs.Judged.{IsMachineOf}

-- what is printed for a machine that a text spells is accepted as that machine
abbrev pub PrintedIsAccepted : Type 0
PrintedIsAccepted = (b : List ℕ) (m : Data) → IsMachineOf b m → IsMachineOf (compact m) m

-- and isn't longer than that text
abbrev pub PrintedIsNoLonger : Type 0
PrintedIsNoLonger = (b : List ℕ) (m : Data) → IsMachineOf b m → length (compact m) ≤ length b

-- what is printed for a definition without faults is accepted as its canonical form, unless it is
-- too long or too deep to be read
abbrev pub FittingIsAccepted : Data → Type 0
FittingIsAccepted d =
    Accepted d → length (compact (canonical d)) ≤ max_len → depth (canonical d) ≤ max_depth
    → IsMachineOf (compact (canonical d)) (canonical d)

-- what is printed for a machine is accepted as that machine, unless it is too long or too deep to be
-- read
abbrev pub MachineIsAccepted : Data → Type 0
MachineIsAccepted m =
    length (compact m) ≤ max_len → depth m ≤ max_depth → IsMachineOf (compact m) m

-- no text is accepted as two machines
abbrev pub OneMachine : Type 0
OneMachine = (b : List ℕ) (m n : Data) → IsMachineOf b m → IsMachineOf b n → m ≡ n
