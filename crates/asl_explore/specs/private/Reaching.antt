-- Which worlds reach an end, as far as it is known.
use Rattle.std.specs.Prelude.{ℕ, ◌≡◌, ◌≤◌, ◌<◌, ⊤, Bool, true, false, get_or, List, Option, Some}
use Rattle.std.specs.List.{All}
use Rattle.asl_run_state.specs.World.{World}
use Rattle.asl_run_input.specs.declared.setup.Setup.{Setup}
use Rattle.asl_explore.specs.declared.orders.Orders.{Orders}
use Rattle.asl_explore.specs.declared.orders.Orders.TheVariants.{Prompt}
use Rattle.asl_explore.specs.declared.endless.Lead.{Lead}
use Rattle.asl_explore.specs.declared.endless.Lead.TheVariants.{Nowhere, End, World as At}
use Rattle.asl_explore.specs.declared.endless.Link.{Link}
use Rattle.asl_explore.specs.Orders.{due, MayStep}
use Rattle.asl_explore.specs.Endless.{CanEnd}

-- an end is reached from the world of this number
abbrev pub Reaches : Orders → Setup → List World → ℕ → Type 0
Reaches o s ws i = (d : World) → CanEnd o s (get_or ws i d)

-- if an end is reached from the world of the second number, one is from that of the first
abbrev pub LeadsOn : Orders → Setup → List World → ℕ → ℕ → Type 0
LeadsOn o s ws from to = Reaches o s ws to → Reaches o s ws from

abbrev pub IsLink : Orders → Setup → List World → Link → Type 0
IsLink o s ws l = LeadsOn o s ws l.from l.to

-- a step that leads so shows that an end is reached from the world in which it is taken, or that one
-- is if one is from where it leads
abbrev pub IsLead : Orders → Setup → List World → World → Lead → Type 0
IsLead o s ws w Nowhere = ⊤
IsLead o s ws w End = CanEnd o s w
IsLead o s ws w (At i) = Reaches o s ws i → CanEnd o s w

-- it is known of the world of this number that it reaches an end
abbrev pub is_known : List Bool → ℕ → Bool
is_known known i = get_or known i false

-- what is known is so, and so is what is linked
pub record AreReaching (o : Orders) (s : Setup) (ws : List World) (known : List Bool)
    (links : List Link) : Type 0 where
  pub known_so : (i : ℕ) → is_known known i ≡ true → Reaches o s ws i
  pub links_so : All (IsLink o s ws) links

-- it is known of so many worlds
abbrev pub AllBefore : List Bool → ℕ → Type 0
AllBefore known n = (i : ℕ) → i < n → is_known known i ≡ true

-- ---- which steps are tried

-- no branch may step earlier than at this moment
abbrev pub IsLeast : Setup → World → ℕ → Type 0
IsLeast s w m = (q : List ℕ) → MayStep s w q → m ≤ due w q

-- no branch may step
abbrev pub NoneMayStep : Setup → World → Type 0
NoneMayStep s w = (q : List ℕ) → MayStep s w q → ⊥

-- where no branch is to be late, this is the least moment
abbrev pub IsSoon : Orders → Option ℕ → ℕ → Type 0
IsSoon o bound t = o ≡ Prompt → (m : ℕ) × ((bound ≡ Some m) × (t ≤ m))
