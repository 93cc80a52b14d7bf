-- The fronts of calls: which calls stand open behind them.
use Rattle.std.specs.Prelude.{◌≡◌, ℕ, List, [], ◌∷◌}
use Rattle.asl_json_data.specs.Parts.{Joined, Spaced, FrontParts}
use Rattle.asl_intrinsic.specs.Tree.{Argument, Frame}
use Rattle.asl_intrinsic.specs.Grammar.{AreSpaces, SpellsArgument, SpellsHead}

-- arguments, each with a comma behind it
abbrev pub SpellsBefore : List Argument → List ℕ → Type 0
SpellsBefore = FrontParts (λ a. Spaced AreSpaces (SpellsArgument a))

-- an open call up to where an argument may begin
abbrev pub OpensCall : Frame → List ℕ → Type 0
OpensCall f t = Joined (SpellsHead f.0) (Joined (SpellsBefore f.1) AreSpaces) t

-- these open calls, the innermost first
abbrev pub Opens : List Frame → List ℕ → Type 0
Opens [] t = t ≡ []
Opens (f ∷ st) t = Joined (Opens st) (OpensCall f) t

-- the front of a call behind which an argument may begin
pub record AwaitsArgument (t : List ℕ) : Type 0 where
  pub innermost : Frame
  pub others : List Frame
  pub opens : Opens (innermost ∷ others) t
