use Rattle.asl_json_scan.specs.private.Chars.{half_slash}
use Rattle.asl_json_data.specs.Text.{letter_u}
use Rattle.asl_json_scan.proofs.Escapes.{none_left, not_first, letter_alone, letter_breaks}
use Rattle.asl_json_scan.proofs.escape.other_escape.Goals as goal

pub returns-in_default : goal.returns-in_default
returns-in_default c = λ q s. rw c.syntax.ensures (none_left (half_slash q) s c.args.bytes.now c.in_default.ensures.none)

pub returns-in_default-by_letter : goal.returns-in_default-by_letter
returns-in_default-by_letter c = λ q s.
    rw c.syntax-in_default-by_letter.ensures (letter_breaks q s c.args.bytes.now c.in-Some.first _ c.in-Some.ensures.found (not_first letter_u c.in-Some.first c.args.bytes.now _ c.requires.none c.in-Some.ensures.found) c.in_default-by_letter.ensures)

pub returns : goal.returns
returns c = λ q s.
    rw c.lone.ensures (letter_alone q s c.args.bytes.now c.in-Some.first _ c.args.left c.in-Some.ensures.found (not_first letter_u c.in-Some.first c.args.bytes.now _ c.requires.none c.in-Some.ensures.found) c.in-Some-by_letter.ensures.0 c.requires.left)
