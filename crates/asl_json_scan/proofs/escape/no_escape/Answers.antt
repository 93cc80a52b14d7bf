use Rattle.std.proofs.Common.{sym, ◌∙◌}
use Rattle.asl_json_scan.specs.private.Chars.{half}
use Rattle.asl_json_data.specs.Text.{backslash}
use Rattle.asl_json_scan.proofs.Escapes.{none_left, not_first, no_escape_alone, no_escape_breaks}
use Rattle.asl_json_scan.proofs.escape.no_escape.Goals as goal

pub returns-in_default : goal.returns-in_default
returns-in_default c = λ q s. rw c.syntax.ensures (none_left (half q) s c.args.bytes.now c.in_default.ensures.none)

pub returns-then-goes_on : goal.returns-then-goes_on
returns-then-goes_on c = λ q s.
    rw c.lone.ensures (no_escape_alone q s c.args.bytes.now c.in-Some.first _ c.args.left c.in-Some.ensures.found (not_first backslash c.in-Some.first c.args.bytes.now _ c.requires.none c.in-Some.ensures.found) (sym c.goes_on.ensures ∙ c.if-goes_on.true) c.requires.left)

pub returns : goal.returns
returns c = λ q s.
    rw c.syntax-2.ensures (no_escape_breaks q s c.args.bytes.now c.in-Some.first _ c.in-Some.ensures.found (not_first backslash c.in-Some.first c.args.bytes.now _ c.requires.none c.in-Some.ensures.found) (sym c.goes_on.ensures ∙ c.if-goes_on.false))
