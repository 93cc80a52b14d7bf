use Rattle.std.proofs.Common.{◌≡◌, drop}
use Rattle.asl_json_data.specs.Data.{pairs}
use Rattle.asl_json.specs.View.{data_of, members_of}
use Rattle.asl_mock_sample.specs.Wants.{own_reads}
use Rattle.asl_mock_sample.proofs.wants.own_reads.Given as goal

abbrev pub invariant-loop-member : goal.invariant-loop-member
invariant-loop-member l = own_reads (data_of l.wants) (pairs (members_of (drop l.member-index l.members))) ≡ own_reads (data_of l.fn.so_far) (pairs (members_of l.members))
