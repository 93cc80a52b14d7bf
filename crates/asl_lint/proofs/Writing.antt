-- Lists of JSON, written one item after another.
use Rattle.std.proofs.Common.{◌≡◌, ℕ, Bool, true, false, List, [], ◌∷◌, ◌++◌, refl, sym, ap, ◌∙◌, append_assoc}
use Rattle.std.specs.Prelude.{map}
use Rattle.std.proofs.lemmas.List.{append-nil}
use Rattle.asl_json_data.specs.Data.{Data, chain}
use Rattle.asl_json_data.specs.Parts.{comma}
use Rattle.asl_json_data.specs.Compact.{compact, compact_items, compact_more_items}
use Rattle.asl_lint.specs.Told.{has_some}
use Rattle.asl_lint.specs.declared.finding.Finding.{Finding}
use Rattle.asl_lint.specs.declared.report.FileReport.{FileReport}
use Rattle.asl_lint.specs.Sarif.{result_object, results, uri}
use Rattle.asl_lint.specs.private.Writing.{more_items, more_results}

more_then : {A : Type 0} (f : A → Data) (xs : List A) (ds : List Data) → more_items f true xs ++ compact_more_items (chain ds) ≡ compact_more_items (chain (map f xs ++ ds))
more_then f [] ds = refl
more_then f (x ∷ xs) ds =
    ap (λ (t : List ℕ). comma ∷ t) (append_assoc (compact (f x)) (more_items f true xs) (compact_more_items (chain ds)) ∙ ap (λ (t : List ℕ). compact (f x) ++ t) (more_then f xs ds))

more_end : {A : Type 0} (f : A → Data) (xs : List A) → more_items f true xs ++ 93 ∷ [] ≡ compact_more_items (chain (map f xs))
more_end f xs = more_then f xs [] ∙ ap (λ (ds : List Data). compact_more_items (chain ds)) (append-nil (map f xs))

-- one list
pub items_end : {A : Type 0} (f : A → Data) (xs : List A) → more_items f false xs ++ 93 ∷ [] ≡ compact_items (chain (map f xs))
items_end f [] = refl
items_end f (x ∷ xs) = append_assoc (compact (f x)) (more_items f true xs) (93 ∷ []) ∙ ap (λ (t : List ℕ). compact (f x) ++ t) (more_end f xs)

-- two, one behind the other
pub items_of_both : {A B : Type 0} (f : A → Data) (g : B → Data) (xs : List A) (ys : List B) → more_items f false xs ++ (more_items g (has_some xs) ys ++ 93 ∷ []) ≡ compact_items (chain (map f xs ++ map g ys))
items_of_both f g [] ys = items_end g ys
items_of_both f g (x ∷ xs) ys =
    append_assoc (compact (f x)) (more_items f true xs) (more_items g true ys ++ 93 ∷ [])
    ∙ ap (λ (t : List ℕ). compact (f x) ++ t) (ap (λ (t : List ℕ). more_items f true xs ++ t) (more_end g ys) ∙ more_then f xs (map g ys))

-- two lists in brackets
pub both_written : {A B : Type 0} (f : A → Data) (g : B → Data) (xs : List A) (ys : List B) → has_some xs ≡ true → (91 ∷ []) ++ (more_items f false xs ++ (more_items g true ys ++ 93 ∷ [])) ≡ 91 ∷ compact_items (chain (map f xs ++ map g ys))
both_written f g xs ys begun =
    ap (λ (b : Bool). 91 ∷ (more_items f false xs ++ (more_items g b ys ++ 93 ∷ []))) (sym begun)
    ∙ ap (λ (t : List ℕ). 91 ∷ t) (items_of_both f g xs ys)

-- ---- results of several files

more_files_end : (rs : List FileReport) → more_results true rs ++ 93 ∷ [] ≡ compact_more_items (chain (results rs))
more_files_end [] = refl
more_files_end (r ∷ rs) =
    let f = result_object (uri r.name.now) in
    append_assoc (more_items f true r.findings.items) (more_results true rs) (93 ∷ [])
    ∙ ap (λ (t : List ℕ). more_items f true r.findings.items ++ t) (more_files_end rs)
    ∙ more_then f r.findings.items (results rs)

first_file : (f : Finding → Data) (fs : List Finding) (rs : List FileReport) → more_results false rs ++ 93 ∷ [] ≡ compact_items (chain (results rs))
    → (more_items f false fs ++ more_results (has_some fs) rs) ++ 93 ∷ [] ≡ compact_items (chain (map f fs ++ results rs))
first_file f [] rs others = others
first_file f (x ∷ xs) rs others =
    append_assoc (compact (f x) ++ more_items f true xs) (more_results true rs) (93 ∷ [])
    ∙ append_assoc (compact (f x)) (more_items f true xs) (more_results true rs ++ 93 ∷ [])
    ∙ ap (λ (t : List ℕ). compact (f x) ++ t) (ap (λ (t : List ℕ). more_items f true xs ++ t) (more_files_end rs) ∙ more_then f xs (results rs))

files_end : (rs : List FileReport) → more_results false rs ++ 93 ∷ [] ≡ compact_items (chain (results rs))
files_end [] = refl
files_end (r ∷ rs) = first_file (result_object (uri r.name.now)) r.findings.items rs (files_end rs)

pub files_written : (rs : List FileReport) → (91 ∷ []) ++ (more_results false rs ++ 93 ∷ []) ≡ 91 ∷ compact_items (chain (results rs))
files_written rs = ap (λ (t : List ℕ). 91 ∷ t) (files_end rs)
