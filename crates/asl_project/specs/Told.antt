-- Which texts are a project, which workflows it has, and which fault is answered for any other.
use Rattle.std.specs.Prelude.{◌≡◌, ℕ, List, Some, None, take}
use Rattle.toml.specs.Data.{Members}
use Rattle.asl_json_spans.specs.Position.{IsPosition}
use Rattle.asl_json_spans.specs.declared.position.Position.{Position}
use Rattle.asl_project.specs.Document.{IsDocument, IsNoDocument}
use Rattle.asl_project.specs.Form.{first_wrong, shows}
use Rattle.asl_project.specs.Places.{IsPlace}
use Rattle.asl_project.specs.Spelled.{workflows_of}
use Rattle.asl_project.specs.declared.workflow.Workflow.{Workflow}
use Rattle.asl_project.specs.declared.spot.Spot.{Spot}
use Rattle.asl_project.specs.declared.spot.Spot.TheVariants as spot
use Rattle.asl_project.specs.declared.fault.ProjectFault.{ProjectFault}
use Rattle.asl_project.specs.declared.fault.ProjectFault.TheVariants.{Syntax, Key, WrongType, Machine, File, OutOfMemory}

-- a TOML text in which nothing is wrong, and the workflows that it spells in the file of this name
pub record IsProject (file b : List ℕ) (ws : List Workflow) : Type 0 where
  pub table : Members
  pub document : IsDocument b table
  pub sound : first_wrong table ≡ None
  pub spelled : ws ≡ workflows_of file table

-- ---- faults

abbrev pub fault_at : Spot → Position → ProjectFault
fault_at spot.UnknownKey p = Key p
fault_at (spot.Workflow n) p = Key p
fault_at spot.Misfit p = WrongType p
fault_at spot.SameMachine p = Machine p
fault_at (spot.Member n k) p = File p

-- no TOML text, and a byte of it; or memory ran out
abbrev pub IsUndocumented : List ℕ → ProjectFault → Type 0
IsUndocumented b (Syntax p) = IsNoDocument b × IsPosition (take p.at b) p.lines p.characters
IsUndocumented b OutOfMemory = Unit {0}
IsUndocumented b _ = ⊥

-- what is at a spot of the table of a text, at its place
pub record IsPlaced (b : List ℕ) (s : Spot) (f : ProjectFault) : Type 0 where
  pub place : Position
  pub at : IsPlace b (shows s) place
  pub told : f ≡ fault_at s place

-- the same; or memory ran out
abbrev pub IsFaultAt : List ℕ → Spot → ProjectFault → Type 0
IsFaultAt b s OutOfMemory = Unit {0}
IsFaultAt b s f = IsPlaced b s f

-- what is wrong with the table of a TOML text by the least number, at its place
pub record IsWrongAt (b : List ℕ) (f : ProjectFault) : Type 0 where
  pub table : Members
  pub document : IsDocument b table
  pub spot : Spot
  pub wrong : first_wrong table ≡ Some spot
  pub placed : IsPlaced b spot f

-- the bytes are no TOML text; or this is what is wrong with its table; or memory ran out
abbrev pub IsAnswer : List ℕ → ProjectFault → Type 0
IsAnswer b (Syntax p) = IsUndocumented b (Syntax p)
IsAnswer b OutOfMemory = Unit {0}
IsAnswer b f = IsWrongAt b f
