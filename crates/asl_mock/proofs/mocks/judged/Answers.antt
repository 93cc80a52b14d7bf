use Rattle.asl_json.specs.View.{data_of, members_of}
use Rattle.asl_mock.specs.Places.{in_each}
use Rattle.asl_mock.specs.Tables.{named}
use Rattle.asl_mock.specs.Answers.{responses_of, machines_of}
use Rattle.asl_mock.specs.Faults.{overlaps_in, lost_in_machine, is_response}
use Rattle.asl_mock.proofs.Giving.{gives_first, gives_value}
use Rattle.asl_mock.proofs.Judging.{first_key, first_overlap, first_lost, no_fault}
use Rattle.asl_mock.proofs.mocks.judged.Goals as goal

pub returns-in-Some-2 : goal.returns-in-Some-2
returns-in-Some-2 c = first_key (data_of c.args.value.now) c.in_ok-place.field-0 c.in_ok-place-2.field-0 (members_of c.members_at-members.result.now) c.in-Some-2.place c.in_ok-place-3.place c.in_ok-place.ensures c.in_default.is c.members_at-members.ensures.listed c.in_ok-place-2.ensures c.in-Some-2.is c.in_ok-place-3.ensures

pub returns-in-Err : goal.returns-in-Err
returns-in-Err c =
    let ms = members_of c.members_at-members.result.now in
    let some = gives_first (λ v. named v.entries) (responses_of ms) (in_each overlaps_in ms) c.in_ok-table.field-0 c.in-Err.place c.in_ok-table.ensures c.in-Err.is in
    first_overlap (data_of c.args.value.now) c.in_ok-place.field-0 c.in_ok-place-2.field-0 ms c.in-Err.place c.in_ok-place-in-Err.place c.in_ok-place.ensures c.in_default.is c.members_at-members.ensures.listed c.in_ok-place-2.ensures c.in_default-2.is some c.in_ok-place-in-Err.ensures

pub returns-in-Ok-2 : goal.returns-in-Ok-2
returns-in-Ok-2 c =
    let ms = members_of c.members_at-members.result.now in
    let ns = members_of c.members_at.result.now in
    let rs = named c.in-Ok.table.entries in
    let own = gives_value (λ v. named v.entries) (responses_of ms) (in_each overlaps_in ms) c.in_ok-table.field-0 c.in-Ok.table c.in_ok-table.ensures c.in-Ok.is in
    let all = gives_value (λ v. named v.entries) (machines_of rs ns) (in_each (lost_in_machine (is_response rs)) ns) c.in_ok-machines.field-0 c.in-Ok-2.machines c.in_ok-machines.ensures c.in-Ok-2.is in
    no_fault (data_of c.args.value.now) c.in_ok-place.field-0 c.in_ok-place-2.field-0 ms ns rs (named c.in-Ok-2.machines.entries) c.in_ok-place.ensures c.in_default.is c.members_at-members.ensures.listed c.in_ok-place-2.ensures c.in_default-2.is own c.members_at.ensures.listed all

pub returns : goal.returns
returns c =
    let ms = members_of c.members_at-members.result.now in
    let ns = members_of c.members_at.result.now in
    let rs = named c.in-Ok.table.entries in
    let own = gives_value (λ v. named v.entries) (responses_of ms) (in_each overlaps_in ms) c.in_ok-table.field-0 c.in-Ok.table c.in_ok-table.ensures c.in-Ok.is in
    let some = gives_first (λ v. named v.entries) (machines_of rs ns) (in_each (lost_in_machine (is_response rs)) ns) c.in_ok-machines.field-0 c.in-Err-2.place c.in_ok-machines.ensures c.in-Err-2.is in
    first_lost (data_of c.args.value.now) c.in_ok-place.field-0 c.in_ok-place-2.field-0 ms ns rs c.in-Err-2.place c.in_ok-place-in-Err-2.place c.in_ok-place.ensures c.in_default.is c.members_at-members.ensures.listed c.in_ok-place-2.ensures c.in_default-2.is own c.members_at.ensures.listed some c.in_ok-place-in-Err-2.ensures
