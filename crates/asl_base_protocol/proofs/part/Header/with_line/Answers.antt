use Rattle.std.proofs.Common.{◌≡◌, ◌+◌, ◌≤◌, ◌∷◌, ◌++◌, ℕ, List, [], length, length-append, sym, subst, ap, ◌∙◌, arith}
use Rattle.std.specs.Prelude.{vec_len}
use Rattle.asl_base_protocol.specs.Grammar.{longest_header, header_text}
use Rattle.asl_base_protocol.specs.Fields.{said_by}
use Rattle.asl_base_protocol.specs.Standing.{TurnIs}
use Rattle.asl_base_protocol.proofs.Ends.{cr_popped_at, none_left}
use Rattle.asl_base_protocol.proofs.Growing.{header_ended, header_short, line_grows}
use Rattle.asl_base_protocol.proofs.part.Header.with_line.Goals as goal

pub returns-then-is_empty : goal.returns-then-is_empty
returns-then-is_empty c = λ t h cr.
    let old = c.args.self.line in
    let len : vec_len old ≡ length old.items = omega (arith, old.ok) in
    let left = c.pop-cr.new.self in
    let none : length left.items ≡ 0 = grind (arith, left.ok) in
    let front = cr_popped_at old.items left.items (vec_len old) len c.pop-cr.ensures.rest cr in
    let is : t ++ 10 ∷ [] ≡ header_text h.0.lines = header_ended t c.args.self left.items h.0 front (none_left left.items none) in
    subst (λ (x : List ℕ). TurnIs x c.opened.result) (sym is) (c.opened.ensures h.0.lines h.0.lines_are (header_short t h.0.lines is h.1) h.0.said_is)

pub returns : goal.returns
returns c = λ t h cr.
    let old = c.args.self.line in
    let len : vec_len old ≡ length old.items = omega (arith, old.ok) in
    let left = c.pop-cr.new.self in
    let front = cr_popped_at old.items left.items (vec_len old) len c.pop-cr.ensures.rest cr in
    let some : left.items ≡ [] → ⊥ = λ e. let none : length left.items ≡ 0 = ap length e in grind (arith, left.ok) in
    let at : c.args.self.len ≡ length t = h.0.len_is in
    let more : c.saturating_add.result ≡ c.args.self.len + 1 = omega (arith, h.1) in
    let short : length (t ++ 10 ∷ []) ≤ longest_header = omega (arith, h.1, length-append t (10 ∷ [])) in
    let said : c.with-said.result ≡ said_by c.args.self.said left.items = c.with-said.ensures ∙ ap (said_by c.args.self.said) c.deref.ensures.value in
    c.bounded.ensures (t ++ 10 ∷ []) (line_grows t c.args.self _ left.items h front some c.clear.ensures.items more said) short
