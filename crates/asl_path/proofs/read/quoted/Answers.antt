use Rattle.std.proofs.Common.{◌∷◌, ◌++◌, [], sym, ap, ◌∙◌}
use Rattle.std.specs.Prelude.{List, ℕ}
use Rattle.std.proofs.lemmas.List.{take_rest}
use Rattle.asl_path.specs.declared.step.Step.TheVariants.{Name}
use Rattle.asl_path.specs.Grammar.{is_between}
use Rattle.asl_path.specs.private.Steps.{run, between}
use Rattle.asl_path.proofs.Stretch.{quoted_cut, quoted_open, quoted_halts, quoted_reads, not_first}
use Rattle.asl_path.proofs.read.quoted.Goals as goal

pub txt-requires : goal.txt-requires
txt-requires c = (quoted_cut c.args.quote c.args.bytes.now c.quoted_len-end.result c.requires.ascii c.requires.utf8 c.quoted_len-end.ensures.within c.quoted_len-end.ensures.ends).0

pub returns-in_default-clause-run : goal.returns-in_default-clause-run
returns-in_default-clause-run c = λ done.
    let xs = c.args.bytes.now in
    let i = c.quoted_len-end.result in
    rw c.stuck.ensures (rw take_rest (quoted_open c.args.quote xs i done c.quoted_len-end.ensures.each (not_first (is_between c.args.quote) xs i c.quoted_len-end.ensures.ends) (rw take_rest at c.in_default.ensures.none)))

pub returns-in_default-after_byte-clause-run : goal.returns-in_default-after_byte-clause-run
returns-in_default-after_byte-clause-run c = λ done.
    rw c.stuck-in_default-after_byte.ensures (quoted_halts c.args.quote c.args.bytes.now c.in-Some.behind.now c.quoted_len-end.result done c.quoted_len-end.ensures.each (rw take_rest at c.in-Some.ensures.found) c.in_default-after_byte.ensures.none)

pub returns-clause-run : goal.returns-clause-run
returns-clause-run c = λ done.
    let e = quoted_reads c.args.quote c.args.bytes.now c.in-Some.behind.now c.in-Some-after_byte.next.now c.quoted_len-end.result done c.quoted_len-end.ensures.each (rw take_rest at c.in-Some.ensures.found) c.in-Some-after_byte.ensures.found in
    e ∙ ap (λ (z : List ℕ). run between (done ++ Name z ∷ []) c.in-Some-after_byte.next.now) (sym c.in_ok-name.ensures.found)

pub returns-clause-utf8 : goal.returns-clause-utf8
returns-clause-utf8 c =
    let cut = quoted_cut c.args.quote c.args.bytes.now c.quoted_len-end.result c.requires.ascii c.requires.utf8 c.quoted_len-end.ensures.within c.quoted_len-end.ensures.ends in
    c.in-Some-after_byte.ensures.utf8 (c.in-Some.ensures.utf8 (rw take_rest cut.1))
