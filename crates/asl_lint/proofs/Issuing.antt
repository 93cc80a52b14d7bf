-- Issues, made one after another.
use Rattle.std.proofs.Common.{◌≡◌, ◌<◌, ℕ, ◌+◌, Bool, true, false, cond, List, [], ◌∷◌, ◌++◌, length, get_or, take, drop, refl, sym, ap, ◌∙◌, append_assoc, arith}
use Rattle.std.specs.Prelude.{Option, Some, map, unwrap_or}
use Rattle.std.specs.Str.{bytes_eq}
use Rattle.std.specs.Cmp.Lexicographic.{same_text}
use Rattle.std.proofs.lemmas.List.{drop_more, take_more}
use Rattle.std.proofs.lemmas.List.Sums.{fold-append}
use Rattle.asl_lint.specs.declared.finding.Finding.{Finding}
use Rattle.asl_lint.specs.declared.gitlab_issues.Placed.{Placed as CodePlaced}
use Rattle.asl_lint.specs.declared.report.FileReport.{FileReport}
use Rattle.asl_lint.specs.Gitlab.{Issue, Placed, alike, all_findings, file_findings, fingerprint, identity, issue_behind, issues_behind}
use Rattle.asl_lint.specs.private.Issues.{placed}

-- ---- the findings of all files

pub more_found : (fs : List FileReport) (i : ℕ) (r : FileReport) (old new : List Placed) (gs : List Finding) → i < length fs → r ≡ get_or fs i r
    → gs ≡ r.findings.items → new ≡ old ++ map (λ f. (r.name.now, f)) gs → old ++ all_findings (drop i fs) ≡ all_findings fs
    → new ++ all_findings (drop (i + 1) fs) ≡ all_findings fs
more_found fs i r old new gs lt at same is before =
    ap (λ (ps : List Placed). ps ++ all_findings (drop (i + 1) fs)) (is ∙ ap (λ (hs : List Finding). old ++ map (λ f. (r.name.now, f)) hs) same)
    ∙ append_assoc old (file_findings r) (all_findings (drop (i + 1) fs))
    ∙ ap (λ (ys : List FileReport). old ++ all_findings ys) (sym (drop_more fs i r lt ∙ ap (λ (y : FileReport). y ∷ drop (i + 1) fs) (sym at)))
    ∙ before

-- ---- what they keep

abbrev kept_by : List CodePlaced → List (List ℕ)
kept_by ps = map identity (map placed ps)

one_kept : (xs : List CodePlaced) (x : CodePlaced) → kept_by (xs ++ x ∷ []) ≡ kept_by xs ++ identity (placed x) ∷ []
one_kept [] x = refl
one_kept (y ∷ xs) x = ap (λ (ts : List (List ℕ)). identity (placed y) ∷ ts) (one_kept xs x)

kept_more : (ps : List CodePlaced) (i : ℕ) (p : CodePlaced) → i < length ps → p ≡ get_or ps i p
    → kept_by (take (i + 1) ps) ≡ kept_by (take i ps) ++ identity (placed p) ∷ []
kept_more ps i p lt at =
    ap kept_by (take_more ps i p lt ∙ ap (λ (y : CodePlaced). take i ps ++ y ∷ []) (sym at))
    ∙ one_kept (take i ps) p

-- ---- the issues

pub more_issues : (ps : List CodePlaced) (i : ℕ) (p : CodePlaced) (old new all : List Issue) (made : Issue) (n : ℕ) (kept : List ℕ) → i < length ps → p ≡ get_or ps i p
    → new ≡ old ++ made ∷ [] → kept ≡ identity (placed p) → n ≡ alike (identity (placed p)) (kept_by (take i ps))
    → made ≡ record { file = p.file.now; finding = p.finding.now; fingerprint = fingerprint n kept }
    → old ++ issues_behind (kept_by (take i ps)) (map placed (drop i ps)) ≡ all
    → new ++ issues_behind (kept_by (take (i + 1) ps)) (map placed (drop (i + 1) ps)) ≡ all
more_issues ps i p old new all made n kept lt at is keeps many is_made before =
    let rest = map placed (drop (i + 1) ps) in
    let so_far = kept_by (take i ps) in
    let behind = issues_behind (kept_by (take (i + 1) ps)) rest in
    let it : made ≡ issue_behind so_far (placed p) =
    is_made
    ∙ ap (λ (m : ℕ). record { file = p.file.now; finding = p.finding.now; fingerprint = fingerprint m kept }) many
    ∙ ap (λ (t : List ℕ). record { file = p.file.now; finding = p.finding.now; fingerprint = fingerprint (alike (identity (placed p)) so_far) t }) keeps in
    ap (λ (xs : List Issue). xs ++ behind) is
    ∙ append_assoc old (made ∷ []) behind
    ∙ ap (λ (y : Issue). old ++ y ∷ behind) it
    ∙ ap (λ (ts : List (List ℕ)). old ++ issue_behind so_far (placed p) ∷ issues_behind ts rest) (kept_more ps i p lt at)
    ∙ ap (λ (ys : List CodePlaced). old ++ issues_behind so_far (map placed ys)) (sym (drop_more ps i p lt ∙ ap (λ (y : CodePlaced). y ∷ drop (i + 1) ps) (sym at)))
    ∙ before

-- ---- how many keep a text

one_alike : (t u : List ℕ) (ts : List (List ℕ)) → alike t (ts ++ u ∷ []) ≡ alike t ts + cond (bytes_eq u t) 1 0
one_alike t u ts = fold-append (λ (n : ℕ) (x : List ℕ). n + cond (bytes_eq x t) 1 0) 0 ts (u ∷ [])

module _ (ps : List CodePlaced) (i : ℕ) (p : CodePlaced) (before : List ℕ → Option ℕ) (after : Option ℕ) (n : ℕ) (kept t : List ℕ) where
  -- one more keeps this text, and of each other text it is as it was
  pub more_alike : i < length ps → p ≡ get_or ps i p → kept ≡ identity (placed p) → n ≡ unwrap_or (before kept) 0
      → after ≡ cond (bytes_eq kept t) (Some (n + 1)) (before t)
      → ((u : List ℕ) → unwrap_or (before u) 0 ≡ alike u (kept_by (take i ps)))
      → unwrap_or after 0 ≡ alike t (kept_by (take (i + 1) ps))
  more_alike lt at keeps many put counted =
      by (bytes_eq kept t) refl put
      ∙ sym (one_alike t kept (kept_by (take i ps)))
      ∙ ap (λ (u : List ℕ). alike t (kept_by (take i ps) ++ u ∷ [])) keeps
      ∙ ap (alike t) (sym (kept_more ps i p lt at))
    where
      by : (b : Bool) → bytes_eq kept t ≡ b → after ≡ cond b (Some (n + 1)) (before t)
          → unwrap_or after 0 ≡ alike t (kept_by (take i ps)) + cond b 1 0
      by true same it =
          ap (λ (o : Option ℕ). unwrap_or o 0) it
          ∙ ap (λ (m : ℕ). m + 1) (many ∙ counted kept ∙ ap (λ (u : List ℕ). alike u (kept_by (take i ps))) (same_text kept t (sym same)))
      by false other it = let e : unwrap_or after 0 ≡ alike t (kept_by (take i ps)) = ap (λ (o : Option ℕ). unwrap_or o 0) it ∙ counted t in omega (arith, e)
