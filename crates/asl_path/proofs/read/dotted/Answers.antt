use Rattle.std.proofs.Common.{◌∷◌, ◌++◌, [], drop, sym, ap, ◌∙◌, arith}
use Rattle.std.specs.Prelude.{List, ℕ}
use Rattle.std.proofs.lemmas.List.{take_rest}
use Rattle.asl_path.specs.declared.step.Step.TheVariants.{Name}
use Rattle.asl_path.specs.Grammar.{is_name_byte}
use Rattle.asl_path.specs.private.Steps.{run, between}
use Rattle.asl_path.proofs.Stretch.{name_cut, dot_reads, not_first}
use Rattle.asl_path.proofs.read.dotted.Goals as goal

pub txt-requires : goal.txt-requires
txt-requires c = (name_cut c.args.bytes.now c.name_len-end.result c.requires c.name_len-end.ensures.within c.name_len-end.ensures.ends).0

pub returns-clause-utf8 : goal.returns-clause-utf8
returns-clause-utf8 c = rw take_rest (name_cut c.args.bytes.now c.name_len-end.result c.requires c.name_len-end.ensures.within c.name_len-end.ensures.ends).1

pub returns-clause-run : goal.returns-clause-run
returns-clause-run c = λ done.
    let xs = c.args.bytes.now in
    let i = c.name_len-end.result in
    let e = dot_reads xs i done (omega arith) c.name_len-end.ensures.within c.name_len-end.ensures.each (not_first is_name_byte xs i c.name_len-end.ensures.ends) in
    rw take_rest (e ∙ ap (λ (z : List ℕ). run between (done ++ Name z ∷ []) (drop i xs)) (sym c.in_ok-name.ensures.found))
