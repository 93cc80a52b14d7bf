-- What is found in a definition, as it is told.
use Rattle.std.proofs.Common.{◌≡◌, ℕ, ◌+◌, ◌<◌, List, [], ◌∷◌, ◌++◌, Bool, length, get_or, drop, reverse, refl, sym, ap, ◌∙◌, append_assoc}
use Rattle.std.specs.Prelude.{Option, map}
use Rattle.std.proofs.lemmas.List.{reverse-append, map-append, drop_more}
use Rattle.asl_json_data.specs.Data.{Data}
use Rattle.asl_json_spans.specs.declared.span.Node.{Node}
use Rattle.asl_json_spans.specs.Standing.{AllFind}
use Rattle.asl_def_schema.specs.declared.fault.Step.{Step}
use Rattle.asl_def_schema.specs.declared.fault.FaultKind.{FaultKind}
use Rattle.asl_def_schema.specs.First.{Found as Fault}
use Rattle.asl_def_schema.specs.Faults.{claims_of}
use Rattle.asl_lint_faults.specs.Told.{AreTold}
use Rattle.asl_lint_warnings.specs.declared.warning.WarningKind.{WarningKind}
use Rattle.asl_lint_warnings.specs.Kinds.{Noted as Warned}
use Rattle.asl_lint_warnings.specs.Warnings.{warnings_of}
use Rattle.asl_lint.specs.declared.rule.Rule.TheVariants as rule
use Rattle.asl_lint.specs.declared.finding.Found.{Found}
use Rattle.asl_lint.specs.declared.finding.Finding.{Finding}
use Rattle.asl_lint.specs.declared.placing.Spanned.{Spanned}
use Rattle.asl_lint.specs.Findings.{Noted, numbers, of_fault, of_warning, is_faulty, is_kept, told_of, warnings_told, AreFound, pointed}
use Rattle.asl_lint.specs.Places.{AllPoint, Ruled, ruled}
use Rattle.asl_lint.specs.private.Founds.{noted, spanned, with_nodes}

pub numbers_back : (ss : List Step) → reverse (numbers ss) ≡ numbers (reverse ss)
numbers_back [] = refl
numbers_back (s ∷ ss) =
    reverse-append (s.at ∷ []) (numbers ss)
    ∙ ap (λ (xs : List ℕ). xs ++ s.at ∷ []) (numbers_back ss)
    ∙ sym (map-append (λ (x : Step). x.at) (reverse ss) (s ∷ []))
    ∙ ap numbers (sym (reverse-append (s ∷ []) ss))

pub fault_noted : (f : Fault) (k : FaultKind) (p : List ℕ) (ss : List Step) → k ≡ f.0 → reverse ss ≡ f.1 → p ≡ numbers (reverse ss) → (rule.Fault k, p) ≡ of_fault f
fault_noted f k p ss kind steps place = λ i. (rule.Fault (kind i), (place ∙ ap numbers steps) i)

pub warning_noted : (w : Warned) (k : WarningKind) (p : List ℕ) (ss : List Step) → k ≡ w.0 → ss ≡ w.1 → p ≡ numbers (reverse ss) → (rule.Warning k, p) ≡ of_warning w
warning_noted w k p ss kind steps place = λ i. (rule.Warning (kind i), (place ∙ ap (λ (xs : List Step). numbers (reverse xs)) steps) i)

pub warnings_step : (b : Bool) (ws : List Warned) (i : ℕ) (w : Warned) (old new all : List Noted) → i < length ws → w ≡ get_or ws i w → old ++ warnings_told b (drop i ws) ≡ all → new ≡ old ++ told_of (is_kept b w) w → new ++ warnings_told b (drop (i + 1) ws) ≡ all
warnings_step b ws i w old new all lt at so_far more =
    let rest = drop_more ws i w lt ∙ ap (λ (x : Warned). x ∷ drop (i + 1) ws) (sym at) in
    ap (λ (xs : List Noted). xs ++ warnings_told b (drop (i + 1) ws)) more
    ∙ append_assoc old (told_of (is_kept b w) w) (warnings_told b (drop (i + 1) ws))
    ∙ ap (λ (xs : List Warned). old ++ warnings_told b xs) (sym rest)
    ∙ so_far

-- the findings point where the nodes of their values are
pub nodes_point : (b : List ℕ) (d : Data) (fs : List Found) (os : List (Option Node)) → AllFind b d (map (λ (f : Found). pointed (noted f)) fs) os → AllPoint b d (map noted fs) (with_nodes fs os)
nodes_point b d [] [] h = tt
nodes_point b d [] (o ∷ os) h = tt
nodes_point b d (f ∷ fs) [] h = absurd h
nodes_point b d (f ∷ fs) (o ∷ os) h = (record { node = o; stands = h.0; parts = refl }, nodes_point b d fs os h.1)

pub same_step : (ss rest : List Spanned) (s : Spanned) (old new : List Finding) (f : Finding) (all : List Ruled) → ss ≡ s ∷ rest → new ≡ old ++ f ∷ [] → ruled f ≡ spanned s → map ruled old ++ map spanned ss ≡ all → map ruled new ++ map spanned rest ≡ all
same_step ss rest s old new f all front more same so_far =
    ap (λ (fs : List Finding). map ruled fs ++ map spanned rest) more
    ∙ ap (λ (rs : List Ruled). rs ++ map spanned rest) (map-append ruled old (f ∷ []))
    ∙ append_assoc (map ruled old) (ruled f ∷ []) (map spanned rest)
    ∙ ap (λ (r : Ruled). map ruled old ++ r ∷ map spanned rest) same
    ∙ ap (λ (xs : List Spanned). map ruled old ++ map spanned xs) (sym front)
    ∙ so_far

pub are_found : (d : Data) (fs : List Fault) (b : Bool) (old new : List Noted) → AreTold (claims_of d) fs → b ≡ is_faulty fs → old ≡ map of_fault fs → new ≡ old ++ warnings_told b (warnings_of d) → AreFound d new
are_found d fs b old new told faulty own more = record {
  faults = fs;
  told = told;
  parts = more ∙ ap (λ (xs : List Noted). xs ++ warnings_told b (warnings_of d)) own ∙ ap (λ (x : Bool). map of_fault fs ++ warnings_told x (warnings_of d)) faulty;
}
