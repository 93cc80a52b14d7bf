-- What holds of each effect, whatever the kind.
use Rattle.std.specs.Prelude.{Bool, true, false, [], ◌≡◌, ◌<◌, ◌≤◌, ◌^◌, length, IsSome}
use Rattle.asl_step.specs.Records.{is_finished}
use Rattle.asl_step.specs.Seen.{Seen}
use Rattle.asl_step.specs.declared.effect.Children.{Children}
use Rattle.asl_step.specs.declared.effect.Children.TheVariants.{Kept, Removed, Forked}
use Rattle.asl_step.specs.declared.effect.Effect.{Effect}

abbrev pub is_forked : Children → Bool
is_forked Kept = false
is_forked Removed = false
is_forked (Forked rs) = true

-- the branches under it stay
abbrev pub are_kept : Children → Bool
are_kept Kept = true
are_kept Removed = false
are_kept (Forked rs) = false

-- each new child has a number below 10^9
abbrev pub AreFew : Children → Type 0
AreFew Kept = Unit {0}
AreFew Removed = Unit {0}
AreFew (Forked rs) = length rs ≤ 10 ^ 9

-- the bounds that hold of an effect at a place
pub record IsBounded (v : Seen) (invoking : Bool) (e : Effect) : Type 0 where
  -- no more than eight events
  pub few : length e.events ≤ 8
  -- children are made or removed only with an event that tells of it
  pub changes_tell : are_kept e.children ≡ false → 0 < length e.events
  -- a count is raised only by a kind that invokes, and this is told
  pub raises : e.raises ≡ true → invoking ≡ true
  pub tells : e.raises ≡ true → 0 < length e.events
  -- the outcome is given at the root alone, and only where the branch there ends
  pub at_root : IsSome e.outcome → v.place ≡ []
  pub only_ends : IsSome e.outcome → is_finished e.after ≡ true
  -- and it is given where the branch there ends
  pub ends : v.place ≡ [] → is_finished v.current ≡ false → is_finished e.after ≡ true
      → IsSome e.outcome
