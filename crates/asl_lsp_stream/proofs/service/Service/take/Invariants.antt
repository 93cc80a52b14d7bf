use Rattle.std.proofs.Common.{◌≡◌}
use Rattle.std.specs.Prelude.{string_bytes, take}
use Rattle.asl_lsp_stream.specs.Streams.{Told}
use Rattle.asl_lsp_stream.proofs.service.Service.take.Given as goal

-- so it is of the items so far
abbrev pub invariant-loop-item : goal.invariant-loop-item
invariant-loop-item l = record {
  reader : l.self.reader ≡ l.initial.self.reader;
  told : Told l.fn.self.server (take l.item-index l.item-items) l.self.server (string_bytes l.out);
}
