-- A table of states as a clause sees it: names and canonical objects.
use Rattle.std.specs.Prelude.{List, [], map, String}
use Rattle.asl_def_schema.specs.Canon.{Named}
use Rattle.asl_def_states.specs.declared.state.State.{State}
use Rattle.asl_def_states.specs.Newer.{newer_state}
use Rattle.asl_def_states.specs.Show.{shown, AreInOrder}
use Rattle.asl_def.specs.declared.table.Table.TheInside.{Inside}

abbrev pub named : Inside → List Named
named a = shown [] a.states.entries

abbrev pub IsTable : Inside → Type 0
IsTable a = AreInOrder 0 a.states.entries

-- its states in the newer spelling
abbrev pub newer_entry : {Z : Type 0} → String Z × State → String Z × State
newer_entry e = (e.0, newer_state e.1)

abbrev pub newer_entries : {Z : Type 0} → List (String Z × State) → List (String Z × State)
newer_entries es = map newer_entry es
