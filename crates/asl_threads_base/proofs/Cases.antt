-- What may cross threads: mock files.
use denote.Param.Send.{IsSend, IsSync, sendable}
use Rattle.std.proofs.Crossing.{crosses}
use Rattle.asl_json.proofs.value.Items.TheLaws.TheKnot as knot
use Rattle.asl_mock.specs.contracts.case.Case.{the_row as case_row}
use Rattle.asl_mock.specs.contracts.mocks.Mocks.{the_row as mocks_row}

pub case_send : IsSend case_row
case_send = search (crosses, knot.crosses, sendable) depth 60 fits 20000

pub case_sync : IsSync case_row
case_sync = search (crosses, knot.crosses, sendable) depth 60 fits 20000

pub mocks_send : IsSend mocks_row
mocks_send = search (case_send, crosses, sendable) depth 60 fits 20000

pub mocks_sync : IsSync mocks_row
mocks_sync = search (case_sync, crosses, sendable) depth 60 fits 20000
