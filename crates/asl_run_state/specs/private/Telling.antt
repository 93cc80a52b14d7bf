-- How a run goes through what is told.
use Rattle.std.specs.Prelude.{ℕ, ◌≡◌, List, [], ◌∷◌, ◌++◌, map, if◌then◌else◌, nat_lt, Option, Some, None}
use Rattle.std.specs.List.{AllByRecursion}
use Rattle.asl_history.specs.declared.event.Event.{Event}
use Rattle.asl_history.specs.Events.{event_after}
use Rattle.asl_step.specs.declared.effect.Draft.{Draft}

abbrev pub placed : List ℕ → List Draft → List (List ℕ × Draft)
placed p ds = map (λ d. (p, d)) ds

-- all of these are at p
abbrev pub AllAt : List ℕ → List (List ℕ × Draft) → Type 0
AllAt p ts = AllByRecursion (λ t. t.0 ≡ p) ts

-- the drafts behind these events, each at its place
abbrev pub told_after : ℕ → List (List ℕ × Draft) → List Event → List Event
told_after now [] es = es
told_after now (t ∷ ts) es =
    told_after now ts (es ++ event_after es now t.1.kind t.0 t.1.name t.1.body ∷ [])

-- the id of the last of so many events, behind which there are so many in all
abbrev pub last_id : ℕ → ℕ → Option ℕ
last_id count all = if nat_lt 0 count then Some all else None
