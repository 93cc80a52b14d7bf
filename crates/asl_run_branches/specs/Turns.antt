-- From which moment on a branch may step, as it and the branches beside and under it stand; and
-- which branch may step first.
use Rattle.std.specs.Prelude.{ℕ, Bool, true, false, ◌&&◌, nat_lt, nat_le, max, List, [], ◌∷◌, map, if◌then◌else◌, Option, Some, None}
use Rattle.asl_step.specs.declared.record.Record.{Record}
use Rattle.asl_step.specs.declared.record.Record.TheVariants.{New, Ready, Pausing, Again, Forked, Done, Failed}
use Rattle.asl_run_branches.specs.Branches.{Branch, record_at, children_at, forker_at, is_stopped, is_busy, elders_at, undone_in}
use Rattle.asl_run_branches.specs.Trees.{Family, Node, branches_of, nodes_of}
use Rattle.asl_run_branches.specs.declared.turns.Turn as declared

-- how many iterations a Map of this name runs at once; 0 where there is no limit
abbrev pub Limits : Type 0
Limits = List ℕ → ℕ

abbrev pub limit_of : Limits → Option (List ℕ) → ℕ
limit_of limits None = 0
limit_of limits (Some name) = limits name

-- a Map that runs at most so many iterations at once has no room for one more, where so many before
-- it aren't done. Of 0 there is no limit
abbrev pub is_full : ℕ → ℕ → Bool
is_full limit undone = nat_lt 0 limit && nat_le limit undone

abbrev pub is_crowded : ℕ → List ℕ → List Branch → Bool
is_crowded limit p bs = is_full limit (undone_in (elders_at p bs))

-- the moment from which on a branch that is doing this may step; none where it may not
abbrev pub due_by : Bool → Bool → Record → Option ℕ
due_by crowded busy (New n x) = if crowded then None else Some 0
due_by crowded busy (Ready n x) = Some 0
due_by crowded busy (Pausing n x since until) = Some until
due_by crowded busy (Again n x since uses until) = Some until
due_by crowded busy (Forked n x since uses items) = if busy then None else Some 0
due_by crowded busy (Done x) = None
due_by crowded busy (Failed e) = None

abbrev pub due_of : Bool → Bool → Option Record → Option ℕ
due_of crowded busy None = None
due_of crowded busy (Some r) = due_by crowded busy r

-- the same for the branch at a place
abbrev pub due_at : Limits → List Branch → List ℕ → Option ℕ
due_at limits bs p =
    if is_stopped p bs then None
    else due_of (is_crowded (limit_of limits (forker_at p bs)) p bs)
    (is_busy (children_at p bs)) (record_at p bs)

-- each branch under a frame, with that moment
abbrev pub Due : Type 0
Due = List ℕ × Option ℕ

abbrev pub dues_of : Limits → Family → List Due
dues_of limits f =
    map (λ (n : Node). (n.held.place, due_at limits (branches_of f) n.place)) (nodes_of f)

-- the same for a list of branches
abbrev pub dues_among : Limits → List Branch → List Due
dues_among limits bs = map (λ (b : Branch). (b.place, due_at limits bs b.place)) bs

-- ---- who may step first

-- a branch, and a moment at which it may step
abbrev pub Turn : Type 0
Turn = List ℕ × ℕ

abbrev pub turn_of : declared.Turn → Turn
turn_of t = (t.place.now, t.moment)

-- a turn comes before the first one so far
abbrev pub comes_first : Option Turn → Option Turn → Bool
comes_first None first = false
comes_first (Some t) None = true
comes_first (Some t) (Some first) = nat_lt t.1 first.1

-- of two turns the one at the earlier moment; of two at one moment the first
abbrev pub sooner : Option Turn → Option Turn → Option Turn
sooner first t = if comes_first t first then t else first

-- the turn of a branch that may step from a moment on, where it is now already
abbrev pub turn_at : ℕ → Due → Option Turn
turn_at now (p, None) = None
turn_at now (p, Some until) = Some (p, max now until)

-- the turn that comes first, now or later
abbrev pub soonest : ℕ → List Due → Option Turn
soonest now [] = None
soonest now (d ∷ ds) = sooner (turn_at now d) (soonest now ds)
