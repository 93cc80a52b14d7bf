use Rattle.std.proofs.Common.{◌∙◌, arith, refl, sym, subst, ap, List}
use Rattle.std.specs.Prelude.{Option, Some, IfSome, is_some, codes, option_map}
use Rattle.asl_json_data.specs.Data.{Data, dict, list, pairs, chain, depth, members_depth, items_depth}
use Rattle.asl_json.specs.View.{data_of}
use Rattle.asl_def_schema.specs.declared.sort.Sort.TheVariants as sort
use Rattle.asl_def_schema.specs.declared.sort.Kind.TheVariants as kind
use Rattle.asl_def_schema.specs.Canon.{Named}
use Rattle.asl_def_schema.specs.Clean.{IsClean, IsThere, AreItemsClean, AreStatesClean}
use Rattle.asl_def_schema.proofs.Kept.{form_fits}
use Rattle.asl_def_schema.proofs.Inside.{clean}
use Rattle.asl_def_schema.proofs.Parts.{items_clean, item_clean, states_clean, state_clean}
use Rattle.asl_def_schema.proofs.Required.{parallel_branches, map_iterator}
use Rattle.asl_json.proofs.Sounding.{item_depth, member_depth}
use Rattle.asl_def_fields.specs.Readable.{IsText, IsProcessorConfig}
use Rattle.asl_def_fields.proofs.Fitting.{fit, text_fits}
use Rattle.asl_def_fields.proofs.Retrying.{not_none, value_there}
use Rattle.asl_def.specs.private.Built.{HasRoom, Grows, IsBody}
use Rattle.asl_def_shared.proofs.Fits.{none_there, some_there, of_kind, of_none}
use Rattle.asl_def.proofs.Builds.{on_ok, machine_clean, processor_clean, config_fits, machine_room, grows_inside, machine_grows, compiled, body_shows, value_depth, branches_room, iterator_room, item_processor_room, parallel_grows, iterator_grows, item_processor_grows, parallel_is, iterator_clean, item_processor_clean, iterator_stands, item_processor_stands, leaf_grows, room_as, grows_as, state_as, own_room, own_step, own_all, own_fit, states_grow, states_stand, body_room, bodies_few, bodies_step, bodies_all, bodies_grow}
use Rattle.asl_def.proofs.build.+build.Goals as goal

pub body-read_optional-requires : goal.body-read_optional-requires
body-read_optional-requires t c = subst (λ (o : Option Data). IfSome o IsText) (sym c.find.ensures) (fit sort.Text IsText (λ d. text_fits sort.Text d refl) _ c.requires.machine.comment)

pub body-read-requires : goal.body-read-requires
body-read-requires t c = subst (IsThere sort.Target) (sym c.find-2.ensures) c.requires.machine.start

pub body-unreachable-requires : goal.body-unreachable-requires
body-unreachable-requires t c = not_none sort.States _ (rw c.in_default.is at c.find-3.ensures) c.requires.machine.states

pub body-object_in-requires : goal.body-object_in-requires
body-object_in-requires t c = form_fits (value_there sort.States _ (data_of c.in-Some.own.now) (rw c.in-Some.is at c.find-3.ensures) c.requires.machine.states)

pub body-states-requires : goal.body-states-requires
body-states-requires t c = (omega (arith, value_depth (codes "States") (pairs c.args.members.now) (dict (pairs c.object_in.result.now)) (sym (rw c.in-Some.is at c.find-3.ensures) ∙ ap Some c.object_in.ensures)), (subst (IsClean sort.States) c.object_in.ensures (value_there sort.States _ (data_of c.in-Some.own.now) (rw c.in-Some.is at c.find-3.ensures) c.requires.machine.states), c.requires.room.own (dict (pairs c.object_in.result.now)) (sym (rw c.in-Some.is at c.find-3.ensures) ∙ ap Some c.object_in.ensures)))

pub body-returns-clause-grows : goal.body-returns-clause-grows
body-returns-clause-grows t c = grows_inside c.args.table.now c.states.new.table (pairs c.args.members.now) (pairs c.object_in.result.now) (sym (rw c.in-Some.is at c.find-3.ensures) ∙ ap Some c.object_in.ensures) c.in_ok-span.ensures.grows

pub body-returns-clause-body : goal.body-returns-clause-body
body-returns-clause-body t c = compiled c.states.new.table (pairs c.args.members.now) c.object_in.result.now _ c.in_ok-span.span (c.in_ok-comment.ensures ∙ c.find.ensures) (c.in_ok-start.ensures ∙ c.find-2.ensures) (sym (rw c.in-Some.is at c.find-3.ensures) ∙ ap Some c.object_in.ensures) c.in_ok-span.ensures.span refl refl

pub map-object_in-machine-requires : goal.map-object_in-machine-requires
map-object_in-machine-requires t c = form_fits (item_processor_clean c.args.members.now (data_of c.in-Some.processor.now) c.requires.kind (rw c.in-Some.is at c.find.ensures))

pub map-read_optional-requires : goal.map-read_optional-requires
map-read_optional-requires t c = subst (λ (o : Option Data). IfSome o IsProcessorConfig) (sym c.find-in-Some.ensures) (fit sort.ProcessorConfig IsProcessorConfig (λ d h. h) _ (config_fits (pairs c.object_in-machine.result.now) (subst (IsClean sort.ItemProcessor) c.object_in-machine.ensures (item_processor_clean c.args.members.now (data_of c.in-Some.processor.now) c.requires.kind (rw c.in-Some.is at c.find.ensures)))))

pub map-body-requires : goal.map-body-requires
map-body-requires t c = (omega (arith, value_depth (codes "ItemProcessor") (pairs c.args.members.now) (dict (pairs c.object_in-machine.result.now)) (sym (rw c.in-Some.is at c.find.ensures) ∙ ap Some c.object_in-machine.ensures)), (processor_clean (pairs c.object_in-machine.result.now) (subst (IsClean sort.ItemProcessor) c.object_in-machine.ensures (item_processor_clean c.args.members.now (data_of c.in-Some.processor.now) c.requires.kind (rw c.in-Some.is at c.find.ensures))), item_processor_room c.args.table.now c.args.members.now c.object_in-machine.result.now c.requires.kind (sym (rw c.in-Some.is at c.find.ensures) ∙ ap Some c.object_in-machine.ensures) c.requires.room))

pub map-returns-in-Some-clause-grows : goal.map-returns-in-Some-clause-grows
map-returns-in-Some-clause-grows t c = on_ok c.read.result _ (item_processor_grows c.args.table.now c.body.new.table c.args.members.now (pairs c.object_in-machine.result.now) c.requires.kind (sym (rw c.in-Some.is at c.find.ensures) ∙ ap Some c.object_in-machine.ensures) (processor_clean (pairs c.object_in-machine.result.now) (subst (IsClean sort.ItemProcessor) c.object_in-machine.ensures (item_processor_clean c.args.members.now (data_of c.in-Some.processor.now) c.requires.kind (rw c.in-Some.is at c.find.ensures)))) c.in_ok-body.ensures.grows)

pub map-returns-in-Some-clause-state : goal.map-returns-in-Some-clause-state
map-returns-in-Some-clause-state t c = item_processor_stands c.read.result c.body.new.table c.args.members.now c.object_in-machine.result.now c.in_ok-config.config c.in_ok-body.body c.requires.kind (sym (rw c.in-Some.is at c.find.ensures) ∙ ap Some c.object_in-machine.ensures) c.in_ok-body.ensures.body (c.in_ok-config.ensures ∙ c.find-in-Some.ensures) c.read.ensures.processor c.read.ensures.object

pub map-unreachable-requires : goal.map-unreachable-requires
map-unreachable-requires t c = none_there c.requires.kind.names sort.Machine _ _ (ap (option_map (λ v. data_of v.now)) c.in_default-find.is) c.find-2.ensures (map_iterator c.requires.kind.names (pairs c.args.members.now) c.requires.kind.inside (ap is_some (sym (rw c.in_default.is at c.find.ensures))))

pub map-object_in-requires : goal.map-object_in-requires
map-object_in-requires t c = form_fits (iterator_clean c.args.members.now (data_of c.in-Some-find.iterator.now) c.requires.kind (rw c.in-Some-find.is at c.find-2.ensures))

pub map-body-requires-2 : goal.map-body-requires-2
map-body-requires-2 t c = (omega (arith, value_depth (codes "Iterator") (pairs c.args.members.now) (dict (pairs c.object_in.result.now)) (sym (rw c.in-Some-find.is at c.find-2.ensures) ∙ ap Some c.object_in.ensures)), (machine_clean (pairs c.object_in.result.now) (subst (IsClean sort.Machine) c.object_in.ensures (iterator_clean c.args.members.now (data_of c.in-Some-find.iterator.now) c.requires.kind (rw c.in-Some-find.is at c.find-2.ensures))), iterator_room c.args.table.now c.args.members.now c.object_in.result.now c.requires.kind (sym (rw c.in-Some-find.is at c.find-2.ensures) ∙ ap Some c.object_in.ensures) c.requires.room))

pub map-returns-clause-grows : goal.map-returns-clause-grows
map-returns-clause-grows t c = on_ok c.read-2.result _ (iterator_grows c.args.table.now c.body-2.new.table c.args.members.now (pairs c.object_in.result.now) c.requires.kind (sym (rw c.in-Some-find.is at c.find-2.ensures) ∙ ap Some c.object_in.ensures) (sym (rw c.in_default.is at c.find.ensures)) (machine_clean (pairs c.object_in.result.now) (subst (IsClean sort.Machine) c.object_in.ensures (iterator_clean c.args.members.now (data_of c.in-Some-find.iterator.now) c.requires.kind (rw c.in-Some-find.is at c.find-2.ensures)))) c.in_ok-body-2.ensures.grows)

pub map-returns-clause-state : goal.map-returns-clause-state
map-returns-clause-state t c = iterator_stands c.read-2.result c.body-2.new.table c.args.members.now c.object_in.result.now c.in_ok-body-2.body (sym (rw c.in-Some-find.is at c.find-2.ensures) ∙ ap Some c.object_in.ensures) (sym (rw c.in_default.is at c.find.ensures)) c.in_ok-body-2.ensures.body c.read-2.ensures.processor c.read-2.ensures.object

pub parallel-unreachable-requires : goal.parallel-unreachable-requires
parallel-unreachable-requires t c = none_there c.requires.kind.names sort.Machines _ _ (ap (option_map (λ v. data_of v.now)) c.in_default.is) c.find.ensures (parallel_branches c.requires.kind.names (pairs c.args.members.now) c.requires.kind.inside)

pub parallel-list_in-requires : goal.parallel-list_in-requires
parallel-list_in-requires t c = form_fits (some_there c.requires.kind.names sort.Machines _ _ (data_of c.in-Some.branches.now) (ap (option_map (λ v. data_of v.now)) c.in-Some.is) c.find.ensures (parallel_branches c.requires.kind.names (pairs c.args.members.now) c.requires.kind.inside))

pub parallel-bodies-requires : goal.parallel-bodies-requires
parallel-bodies-requires t c = (omega (arith, value_depth (codes "Branches") (pairs c.args.members.now) (list (chain c.list_in.result.now)) (sym (rw c.in-Some.is at c.find.ensures) ∙ ap Some c.list_in.ensures)), (subst (IsClean sort.Machines) c.list_in.ensures (some_there c.requires.kind.names sort.Machines _ _ (data_of c.in-Some.branches.now) (ap (option_map (λ v. data_of v.now)) c.in-Some.is) c.find.ensures (parallel_branches c.requires.kind.names (pairs c.args.members.now) c.requires.kind.inside)), branches_room c.args.table.now c.args.members.now (list (chain c.list_in.result.now)) c.requires.kind (sym (rw c.in-Some.is at c.find.ensures) ∙ ap Some c.list_in.ensures) c.requires.room))

pub parallel-invariant_of-read : goal.parallel-invariant_of-read
parallel-invariant_of-read t c = bodies_few c.bodies.new.table c.list_in.result.now c.in_ok-bodies.bodies.items (subst (IsClean sort.Machines) c.list_in.ensures (some_there c.requires.kind.names sort.Machines _ _ (data_of c.in-Some.branches.now) (ap (option_map (λ v. data_of v.now)) c.in-Some.is) c.find.ensures (parallel_branches c.requires.kind.names (pairs c.args.members.now) c.requires.kind.inside))) c.in_ok-bodies.ensures.bodies

pub parallel-returns-clause-grows : goal.parallel-returns-clause-grows
parallel-returns-clause-grows t c = on_ok c.read.result _ (parallel_grows c.args.table.now c.bodies.new.table c.args.members.now (chain c.list_in.result.now) c.requires.kind (sym (rw c.in-Some.is at c.find.ensures) ∙ ap Some c.list_in.ensures) c.in_ok-bodies.ensures.grows)

pub parallel-returns-clause-state : goal.parallel-returns-clause-state
parallel-returns-clause-state t c = parallel_is c.read.result c.bodies.new.table c.args.members.now c.list_in.result.now c.in_ok-bodies.bodies.items (sym (rw c.in-Some.is at c.find.ensures) ∙ ap Some c.list_in.ensures) c.in_ok-bodies.ensures.bodies c.read.ensures.branches c.read.ensures.object

pub state-read-requires : goal.state-read-requires
state-read-requires t c = of_kind (data_of c.args.value.now) c.object_in-members.result.now kind.Task c.requires.clean c.object_in-members.ensures c.kind_of.ensures.distinct (sym c.kind_of.ensures.kind ∙ c.in-Some-Task.is ∙ ap Some c.in-Some-Task.field-0-is)

pub state-returns-in_ok-read-in-Some-Task-clause-grows : goal.state-returns-in_ok-read-in-Some-Task-clause-grows
state-returns-in_ok-read-in-Some-Task-clause-grows t c = leaf_grows (data_of c.args.value.now) kind.Task c.object_in-members.result.now c.args.table.now c.object_in-members.ensures refl (sym c.kind_of.ensures.kind ∙ c.in-Some-Task.is ∙ ap Some c.in-Some-Task.field-0-is)

pub state-read-requires-in-Some-Pass : goal.state-read-requires-in-Some-Pass
state-read-requires-in-Some-Pass t c = of_kind (data_of c.args.value.now) c.object_in-members.result.now kind.Pass c.requires.clean c.object_in-members.ensures c.kind_of.ensures.distinct (sym c.kind_of.ensures.kind ∙ c.in-Some-Pass.is ∙ ap Some c.in-Some-Pass.field-0-is)

pub state-returns-in_ok-read-in-Some-Pass-clause-grows : goal.state-returns-in_ok-read-in-Some-Pass-clause-grows
state-returns-in_ok-read-in-Some-Pass-clause-grows t c = leaf_grows (data_of c.args.value.now) kind.Pass c.object_in-members.result.now c.args.table.now c.object_in-members.ensures refl (sym c.kind_of.ensures.kind ∙ c.in-Some-Pass.is ∙ ap Some c.in-Some-Pass.field-0-is)

pub state-read-requires-in-Some-Choice : goal.state-read-requires-in-Some-Choice
state-read-requires-in-Some-Choice t c = of_kind (data_of c.args.value.now) c.object_in-members.result.now kind.Choice c.requires.clean c.object_in-members.ensures c.kind_of.ensures.distinct (sym c.kind_of.ensures.kind ∙ c.in-Some-Choice.is ∙ ap Some c.in-Some-Choice.field-0-is)

pub state-returns-in_ok-read-in-Some-Choice-clause-grows : goal.state-returns-in_ok-read-in-Some-Choice-clause-grows
state-returns-in_ok-read-in-Some-Choice-clause-grows t c = leaf_grows (data_of c.args.value.now) kind.Choice c.object_in-members.result.now c.args.table.now c.object_in-members.ensures refl (sym c.kind_of.ensures.kind ∙ c.in-Some-Choice.is ∙ ap Some c.in-Some-Choice.field-0-is)

pub state-read-requires-in-Some-Wait : goal.state-read-requires-in-Some-Wait
state-read-requires-in-Some-Wait t c = of_kind (data_of c.args.value.now) c.object_in-members.result.now kind.Wait c.requires.clean c.object_in-members.ensures c.kind_of.ensures.distinct (sym c.kind_of.ensures.kind ∙ c.in-Some-Wait.is ∙ ap Some c.in-Some-Wait.field-0-is)

pub state-returns-in_ok-read-in-Some-Wait-clause-grows : goal.state-returns-in_ok-read-in-Some-Wait-clause-grows
state-returns-in_ok-read-in-Some-Wait-clause-grows t c = leaf_grows (data_of c.args.value.now) kind.Wait c.object_in-members.result.now c.args.table.now c.object_in-members.ensures refl (sym c.kind_of.ensures.kind ∙ c.in-Some-Wait.is ∙ ap Some c.in-Some-Wait.field-0-is)

pub state-read-requires-in-Some-Succeed : goal.state-read-requires-in-Some-Succeed
state-read-requires-in-Some-Succeed t c = of_kind (data_of c.args.value.now) c.object_in-members.result.now kind.Succeed c.requires.clean c.object_in-members.ensures c.kind_of.ensures.distinct (sym c.kind_of.ensures.kind ∙ c.in-Some-Succeed.is ∙ ap Some c.in-Some-Succeed.field-0-is)

pub state-returns-in_ok-read-in-Some-Succeed-clause-grows : goal.state-returns-in_ok-read-in-Some-Succeed-clause-grows
state-returns-in_ok-read-in-Some-Succeed-clause-grows t c = leaf_grows (data_of c.args.value.now) kind.Succeed c.object_in-members.result.now c.args.table.now c.object_in-members.ensures refl (sym c.kind_of.ensures.kind ∙ c.in-Some-Succeed.is ∙ ap Some c.in-Some-Succeed.field-0-is)

pub state-read-requires-in-Some-Fail : goal.state-read-requires-in-Some-Fail
state-read-requires-in-Some-Fail t c = of_kind (data_of c.args.value.now) c.object_in-members.result.now kind.Fail c.requires.clean c.object_in-members.ensures c.kind_of.ensures.distinct (sym c.kind_of.ensures.kind ∙ c.in-Some-Fail.is ∙ ap Some c.in-Some-Fail.field-0-is)

pub state-returns-in_ok-read-in-Some-Fail-clause-grows : goal.state-returns-in_ok-read-in-Some-Fail-clause-grows
state-returns-in_ok-read-in-Some-Fail-clause-grows t c = leaf_grows (data_of c.args.value.now) kind.Fail c.object_in-members.result.now c.args.table.now c.object_in-members.ensures refl (sym c.kind_of.ensures.kind ∙ c.in-Some-Fail.is ∙ ap Some c.in-Some-Fail.field-0-is)

pub state-parallel-requires : goal.state-parallel-requires
state-parallel-requires t c = (omega (arith, ap depth c.object_in-members.ensures), (of_kind (data_of c.args.value.now) c.object_in-members.result.now kind.Parallel c.requires.clean c.object_in-members.ensures c.kind_of.ensures.distinct (sym c.kind_of.ensures.kind ∙ c.in-Some-Parallel.is ∙ ap Some c.in-Some-Parallel.field-0-is), room_as c.args.table.now (data_of c.args.value.now) c.object_in-members.result.now c.object_in-members.ensures c.requires.room))

pub state-returns-in_ok-parallel-in-Some-Parallel-clause-grows : goal.state-returns-in_ok-parallel-in-Some-Parallel-clause-grows
state-returns-in_ok-parallel-in-Some-Parallel-clause-grows t c = grows_as c.args.table.now c.parallel.new.table (data_of c.args.value.now) c.object_in-members.result.now c.object_in-members.ensures c.in_ok-parallel-in-Some-Parallel.ensures.grows

pub state-returns-in_ok-parallel-in-Some-Parallel-clause-state : goal.state-returns-in_ok-parallel-in-Some-Parallel-clause-state
state-returns-in_ok-parallel-in-Some-Parallel-clause-state t c = state_as c.parallel.new.table (data_of c.args.value.now) c.object_in-members.result.now _ c.object_in-members.ensures c.in_ok-parallel-in-Some-Parallel.ensures.state

pub state-map-requires : goal.state-map-requires
state-map-requires t c = (omega (arith, ap depth c.object_in-members.ensures), (of_kind (data_of c.args.value.now) c.object_in-members.result.now kind.Map c.requires.clean c.object_in-members.ensures c.kind_of.ensures.distinct (sym c.kind_of.ensures.kind ∙ c.in-Some-Map.is ∙ ap Some c.in-Some-Map.field-0-is), room_as c.args.table.now (data_of c.args.value.now) c.object_in-members.result.now c.object_in-members.ensures c.requires.room))

pub state-returns-in_ok-map-in-Some-Map-clause-grows : goal.state-returns-in_ok-map-in-Some-Map-clause-grows
state-returns-in_ok-map-in-Some-Map-clause-grows t c = grows_as c.args.table.now c.map.new.table (data_of c.args.value.now) c.object_in-members.result.now c.object_in-members.ensures c.in_ok-map-in-Some-Map.ensures.grows

pub state-returns-in_ok-map-in-Some-Map-clause-state : goal.state-returns-in_ok-map-in-Some-Map-clause-state
state-returns-in_ok-map-in-Some-Map-clause-state t c = state_as c.map.new.table (data_of c.args.value.now) c.object_in-members.result.now _ c.object_in-members.ensures c.in_ok-map-in-Some-Map.ensures.state

pub state-unreachable-requires : goal.state-unreachable-requires
state-unreachable-requires t c = of_none (data_of c.args.value.now) c.object_in-members.result.now c.requires.clean c.object_in-members.ensures (sym c.kind_of.ensures.kind ∙ c.in-None.is)

pub states-state-requires : goal.states-state-requires
states-state-requires t c = (
  omega (arith, member_depth c.members-members.result.now c.loop-member.member-index c.member-item.result c.loop-member-test.true c.member-item.is, ap (λ (xs : List Named). members_depth (pairs xs)) c.members-members.ensures.members),
  (
    clean (state_clean c.requires.clean.names c.members-members.result.now c.loop-member.member-index c.member-item.result (subst (AreStatesClean c.requires.clean.names) (sym c.members-members.ensures.members) (states_clean c.requires.clean.names c.args.states.now c.requires.clean.is)) c.loop-member-test.true c.member-item.is),
    own_room c.args.table.now c.loop-member.table c.args.states.now c.members-members.result.now c.loop-member.member-index c.member-item.result c.loop-member.own.items c.requires.room c.members-members.ensures.members c.loop-member-test.true c.member-item.is c.loop-member.invariant,
  ),
)

pub states-loop-member-preserved : goal.states-loop-member-preserved
states-loop-member-preserved t c = own_step c.args.table.now c.loop-member.table c.state.new.table c.args.states.now c.loop-member.own.items c.push.new.self.items _ c.members-members.result.now c.loop-member.member-index c.member-item.result c.loop-member.invariant c.in_ok-state.ensures.grows c.in_ok-state.ensures.state (c.into_string-name.ensures ∙ c.in_ok-try_clone.ensures) c.loop-member-test.true c.member-item.is c.in_ok-push.ensures.items

pub states-push_all-requires : goal.states-push_all-requires
states-push_all-requires t c = own_fit c.args.table.now c.loop-member.table c.args.states.now c.loop-member.own.items c.requires.room (own_all c.args.table.now c.loop-member.table c.args.states.now c.members-members.result.now c.loop-member.member-index c.loop-member.own.items c.loop-member.invariant c.loop-member-test.false c.members-members.ensures.members)

pub states-returns-clause-grows : goal.states-returns-clause-grows
states-returns-clause-grows t c = states_grow c.args.table.now c.loop-member.table c.push_all.new.table c.args.states.now c.loop-member.own.items (own_all c.args.table.now c.loop-member.table c.args.states.now c.members-members.result.now c.loop-member.member-index c.loop-member.own.items c.loop-member.invariant c.loop-member-test.false c.members-members.ensures.members) c.in_ok-push_all.ensures

pub states-returns-clause-span : goal.states-returns-clause-span
states-returns-clause-span t c = states_stand c.args.table.now c.loop-member.table c.push_all.new.table c.args.states.now c.loop-member.own.items _ (own_all c.args.table.now c.loop-member.table c.args.states.now c.members-members.result.now c.loop-member.member-index c.loop-member.own.items c.loop-member.invariant c.loop-member-test.false c.members-members.ensures.members) c.in_ok-push_all.ensures c.len-first.ensures (omega (arith, c.len-count.ensures, c.loop-member.own.ok.0))

pub bodies-object_in-requires : goal.bodies-object_in-requires
bodies-object_in-requires t c = form_fits (clean (item_clean c.requires.clean.names sort.Machine c.values-values.result.now c.loop-value.value-index c.value-item.result (subst (AreItemsClean c.requires.clean.names sort.Machine) (sym c.values-values.ensures) (items_clean c.requires.clean.names sort.Machines c.args.machines.now refl c.requires.clean.is)) c.loop-value-test.true c.value-item.is))

pub bodies-body-requires : goal.bodies-body-requires
bodies-body-requires t c = (
  omega (arith, item_depth c.values-values.result.now c.loop-value.value-index c.value-item.result c.loop-value-test.true c.value-item.is, ap (λ (vs : List Data). items_depth (chain vs)) c.values-values.ensures, ap depth c.object_in.ensures),
  (
    machine_clean (pairs c.object_in.result.now) (subst (IsClean sort.Machine) c.object_in.ensures (clean (item_clean c.requires.clean.names sort.Machine c.values-values.result.now c.loop-value.value-index c.value-item.result (subst (AreItemsClean c.requires.clean.names sort.Machine) (sym c.values-values.ensures) (items_clean c.requires.clean.names sort.Machines c.args.machines.now refl c.requires.clean.is)) c.loop-value-test.true c.value-item.is))),
    machine_room c.loop-value.table (pairs c.object_in.result.now) (subst (HasRoom c.loop-value.table sort.Machine) c.object_in.ensures (body_room c.args.table.now c.loop-value.table c.args.machines.now c.values-values.result.now c.loop-value.value-index c.value-item.result c.loop-value.bodies.items c.requires.room c.values-values.ensures c.loop-value-test.true c.value-item.is c.loop-value.invariant)),
  ),
)

pub bodies-loop-value-preserved : goal.bodies-loop-value-preserved
bodies-loop-value-preserved t c = bodies_step c.args.table.now c.loop-value.table c.body.new.table c.loop-value.bodies.items c.push.new.self.items c.in_ok-body.body c.values-values.result.now c.loop-value.value-index c.value-item.result c.loop-value.invariant (subst (λ (d : Data). Grows sort.Machine d c.loop-value.table c.body.new.table) (sym c.object_in.ensures) (machine_grows c.loop-value.table c.body.new.table (pairs c.object_in.result.now) (machine_clean (pairs c.object_in.result.now) (subst (IsClean sort.Machine) c.object_in.ensures (clean (item_clean c.requires.clean.names sort.Machine c.values-values.result.now c.loop-value.value-index c.value-item.result (subst (AreItemsClean c.requires.clean.names sort.Machine) (sym c.values-values.ensures) (items_clean c.requires.clean.names sort.Machines c.args.machines.now refl c.requires.clean.is)) c.loop-value-test.true c.value-item.is)))) c.in_ok-body.ensures.grows)) (subst (λ (d : Data). IsBody c.body.new.table d c.in_ok-body.body) (sym c.object_in.ensures) (body_shows c.body.new.table (pairs c.object_in.result.now) c.in_ok-body.body c.in_ok-body.ensures.body)) c.loop-value-test.true c.value-item.is c.in_ok-push.ensures.items

pub bodies-returns-clause-grows : goal.bodies-returns-clause-grows
bodies-returns-clause-grows t c = bodies_grow c.args.table.now c.loop-value.table c.args.machines.now c.loop-value.bodies.items (bodies_all c.args.table.now c.loop-value.table c.args.machines.now c.values-values.result.now c.loop-value.value-index c.loop-value.bodies.items c.loop-value.invariant c.loop-value-test.false c.values-values.ensures)

pub bodies-returns-clause-bodies : goal.bodies-returns-clause-bodies
bodies-returns-clause-bodies t c = (bodies_all c.args.table.now c.loop-value.table c.args.machines.now c.values-values.result.now c.loop-value.value-index c.loop-value.bodies.items c.loop-value.invariant c.loop-value-test.false c.values-values.ensures).bodies
