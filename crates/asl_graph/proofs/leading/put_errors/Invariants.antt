use Rattle.std.proofs.Common.{◌≡◌, ◌++◌, drop}
use Rattle.std.specs.Prelude.{string_bytes}
use Rattle.asl_json_data.specs.Data.{chain}
use Rattle.asl_json.specs.View.{items_of}
use Rattle.asl_graph.specs.Graphs.{errors_shown}
use Rattle.asl_graph.proofs.leading.put_errors.Given as goal

abbrev pub invariant-loop-error : goal.invariant-loop-error
invariant-loop-error l = string_bytes l.out ++ errors_shown l.language (chain (items_of (drop l.error-index l.errors))) ≡ string_bytes l.fn.out ++ errors_shown l.language (chain (items_of l.errors))
