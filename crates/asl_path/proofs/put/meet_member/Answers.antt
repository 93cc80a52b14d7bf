use Rattle.std.proofs.Common.{ap, sym, ◌∙◌, Some}
use Rattle.asl_json.specs.View.{data_of}
use Rattle.asl_path.proofs.Walking.{index_within}
use Rattle.asl_path.proofs.Opening.{member_out}
use Rattle.asl_path.proofs.put.meet_member.Goals as goal

pub value_mut-requires : goal.value_mut-requires
value_mut-requires c = let found = rw c.as_str.ensures at c.in-Some.ensures in index_within c.args.name.now c.args.members c.in-Some.i (sym found)

pub returns : goal.returns
returns c = let found = rw c.as_str.ensures at c.in-Some.ensures in member_out c.args.name.now c.args.members c.in-Some.i (data_of c.replace-part.new.dest) (data_of c.replace-part.result) found (c.value_mut.ensures.value ∙ ap (λ z. Some (data_of z)) (sym c.replace-part.ensures.value))
