-- What of a definition and a mock file tests can cover.
use Rattle.std.specs.Prelude.{ℕ, Bool, true, false, ◌&&◌, List, [], ◌∷◌, nat_eq, Option, Some, None}
use Rattle.std.specs.Str.{bytes_eq}
use Rattle.asl_suite_coverage.specs.declared.spot.Part.{Part}
use Rattle.asl_suite_coverage.specs.declared.spot.Part.TheVariants.{State, Next, Rule, Default, Retrier, Catcher, Answer}
use Rattle.asl_suite_coverage.specs.declared.spot.Spot.{Spot}

abbrev pub same_part : Part → Part → Bool
same_part State State = true
same_part Next Next = true
same_part (Rule i) (Rule j) = nat_eq i j
same_part Default Default = true
same_part (Retrier i) (Retrier j) = nat_eq i j
same_part (Catcher i) (Catcher j) = nat_eq i j
same_part (Answer i) (Answer j) = nat_eq i j
same_part p q = false

abbrev pub same_spot : Spot → Spot → Bool
same_spot a b = same_part a.part b.part && bytes_eq a.name b.name

-- a part of the state, or of the response, of this name
abbrev pub spot : List ℕ → Part → Spot
spot n p = record { name = n; part = p }

-- none, where there is no part
abbrev pub spot_if : List ℕ → Option Part → List Spot
spot_if n None = []
spot_if n (Some p) = spot n p ∷ []
