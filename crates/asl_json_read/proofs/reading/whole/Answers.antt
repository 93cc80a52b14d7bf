use Rattle.std.proofs.Common.{◌∙◌, [], refl}
use Rattle.asl_json.specs.View.{data_of}
use Rattle.asl_json_scan.proofs.Documents.{trailing, nothing_left}
use Rattle.asl_json_read.proofs.reading.whole.Goals as goal

pub returns-then-rest-gt0 : goal.returns-then-rest-gt0
returns-then-rest-gt0 c = rw c.syntax.ensures (c.in_ok-found.ensures.run [] refl (λ rest g. tt) ∙ trailing (data_of c.in_ok-found.found) c.in_ok-found.behind.now _ c.skip_spaces-rest.ensures.skips c.if-rest-gt0.true)

pub returns : goal.returns
returns c = c.in_ok-found.ensures.run [] refl (λ rest g. tt) ∙ nothing_left (data_of c.in_ok-found.found) c.in_ok-found.behind.now _ c.skip_spaces-rest.ensures.skips c.if-rest-gt0.false
