use Rattle.std.proofs.Common.{ap, sym, ◌∙◌}
use Rattle.asl_json_data.specs.Data.{chain, text}
use Rattle.asl_json.specs.View.{data_of}
use Rattle.asl_def_judge.specs.private.Spots.{spot_of}
use Rattle.asl_lint_faults.proofs.Telling.{text_told, number_told, list_told}
use Rattle.asl_lint_faults.proofs.value.tell_value.Goals as goal

pub returns-in_ok-tell-in-Text : goal.returns-in_ok-tell-in-Text
returns-in_ok-tell-in-Text c = λ qs h. text_told (spot_of c.args.spot) c.args.sort (data_of c.args.value.now) c.as_str.result.now qs c.args.told.now.items c.tell.new.told.items c.in_ok-fault-in-Text.fault (ap data_of c.in-Text.is ∙ ap text (sym c.as_str.ensures)) h c.in_ok-fault-in-Text.ensures c.in_ok-tell-in-Text.ensures

pub returns-in_ok-tell-in-Num : goal.returns-in_ok-tell-in-Num
returns-in_ok-tell-in-Num c = λ qs h. number_told (spot_of c.args.spot) c.args.sort (data_of c.args.value.now) c.in-Num.number qs c.args.told.now.items c.tell-in-Num.new.told.items c.number_fault.result (ap data_of c.in-Num.is) h c.number_fault.ensures c.in_ok-tell-in-Num.ensures

pub returns-in_ok-tell-in-List-2 : goal.returns-in_ok-tell-in-List-2
returns-in_ok-tell-in-List-2 c = λ qs h. list_told (spot_of c.args.spot) c.args.sort (data_of c.args.value.now) (chain c.in-List.items) qs c.args.told.now.items c.tell-in-List.new.told.items c.tell-in-List-2.new.told.items c.count_fault.result c.last_fault.result (ap data_of c.in-List.is) h c.count_fault.ensures c.in_ok-tell-in-List.ensures c.last_fault.ensures c.in_ok-tell-in-List-2.ensures
