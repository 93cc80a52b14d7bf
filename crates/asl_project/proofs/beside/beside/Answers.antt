use Rattle.std.proofs.Common.{◌≡◌, ◌∙◌, ◌++◌, [], ◌∷◌, false, ap, subst, sym, arith}
use Rattle.std.specs.Prelude.{IfOk}
use Rattle.std.proofs.lemmas.Str.Pattern.{NoCharPasses-char}
use Rattle.asl_project.specs.Spelled.{is_rooted, has_slash}
use Rattle.asl_project.proofs.Folders.{lacks_slash, no_folder, found_folder, beside_folder, beside_alone}
use Rattle.asl_project.proofs.beside.beside.Goals as goal

pub returns-in-Some : goal.returns-in-Some
returns-in-Some c =
    let found = c.in-Some.ensures.cases in
    let free : is_rooted c.args.path.now ≡ false = cc in
    let is = found_folder c.args.file.now found.0 found.1 found.2 ∙ ap (λ f. f ++ 47 ∷ []) (sym found.3) in
    subst (λ t. IfOk c.within.result (λ n. n ≡ t)) (beside_folder c.args.file.now c.args.path.now c.in-Some.folder.now free is) c.within.ensures

pub returns-in-None : goal.returns-in-None
returns-in-None c =
    let free : is_rooted c.args.path.now ≡ false = cc in
    let none : has_slash c.args.file.now ≡ false = lacks_slash c.args.file.now (λ i h. NoCharPasses-char 47 c.args.file.now i c.in-None.ensures.cases (omega arith) h) in
    subst (λ t. IfOk c.of-in-None.result (λ n. n ≡ t)) (beside_alone c.args.file.now c.args.path.now free (no_folder c.args.file.now none)) c.of-in-None.ensures
