use Rattle.std.proofs.Common.{◌≡◌, refl, ap, sym, ◌∙◌, ◌∷◌, ℕ, List}
use Rattle.asl_run_branches.specs.Branches.{record_at}
use Rattle.asl_run_branches.specs.Trees.{Spot, Family, branches_of}
use Rattle.asl_run_branches.proofs.Reading.{record-below}
use Rattle.asl_run_branches.proofs.orders.a_walk_finds_the_branch.Goals as goal

pub returns-clause-here : goal.returns-clause-here
returns-clause-here c = λ f. refl

pub returns-clause-below : goal.returns-clause-below
returns-clause-below c = λ f children n place e.
    ap (λ (ss : List Spot). record_at (n ∷ place) (branches_of (record { head = f.head; below = ss }))) e ∙ record-below f.head n place children
