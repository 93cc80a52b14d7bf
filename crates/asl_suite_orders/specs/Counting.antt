-- How often Tasks are to be invoked, in each order that ends in an outcome.
use Rattle.std.specs.Prelude.{ℕ, Bool, true, ◌&&◌, nat_eq, Option, Some, None, unwrap_or, slice_get}
use Rattle.std.specs.List.{list_all}
use Rattle.asl_json_data.specs.Data.{Data}
use Rattle.asl_def.specs.Machines.{state_number}
use Rattle.asl_explore.specs.Calls.{no_bounds}
use Rattle.asl_explore.specs.declared.calls.Bounds.{Bounds}
use Rattle.asl_explore.specs.declared.calls.Calls.{Calls}
use Rattle.asl_suite_file.specs.declared.expectation.Expectation.{Expectation}
use Rattle.asl_suite_file.specs.declared.expectation.StateCount.{StateCount}

abbrev pub bounds_at : Calls → ℕ → Bounds
bounds_at c k = unwrap_or (slice_get c.bounds.items k) no_bounds

-- of the state of a number: so often, neither less nor more
abbrev pub always_by : Option ℕ → Calls → ℕ → Bool
always_by None c n = nat_eq 0 n
always_by (Some k) c n = nat_eq (bounds_at c k).least n && nat_eq (bounds_at c k).most n

abbrev pub is_always : Data → Calls → StateCount → Bool
is_always d c v = always_by (state_number v.state d) c v.count

abbrev pub are_always : Data → Option Calls → Expectation → Bool
are_always d None x = true
are_always d (Some c) x = list_all (is_always d c) x.states.invocations
