use Rattle.std.proofs.Common.{◌≡◌, ◌+◌, ◌≤◌, ◌∷◌, ◌++◌, [], length, length-append, refl, arith}
use Rattle.asl_base_protocol.specs.Grammar.{longest_header}
use Rattle.asl_base_protocol.proofs.Growing.{inner_grows}
use Rattle.asl_base_protocol.proofs.part.Header.with_inner.Goals as goal

pub returns : goal.returns
returns c = λ t h e.
    let byte = c.args.byte in
    let at : c.args.self.len ≡ length t = h.0.len_is in
    let len : c.saturating_add.result ≡ c.args.self.len + 1 = omega (arith, h.1) in
    let short : length (t ++ byte ∷ []) ≤ longest_header = omega (arith, h.1, length-append t (byte ∷ [])) in
    c.bounded.ensures (t ++ byte ∷ []) (inner_grows t c.args.self _ byte h e c.in_ok-push.ensures.items len refl) short
