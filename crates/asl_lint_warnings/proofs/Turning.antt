-- Edges turned round, node by node.
use Rattle.std.proofs.Common.{◌≡◌, ◌⊎◌, inl, inr, ◌<◌, ◌≤◌, ℕ, suc, List, [], ◌∷◌, ◌++◌, length, get_or, set, sym, subst, ◌∙◌, arith, get_or-set_same, get_or-set_other}
use Rattle.std.specs.Prelude.{◌↔◌}
use Rattle.asl_lint_warnings.specs.Ways.{IsIn, Edge}
use Rattle.asl_lint_warnings.specs.private.Places.{HasTurned, AreTurned}
use Rattle.asl_lint_warnings.proofs.Growing.{in_left, in_right, in_either, in_one, same_or_not}
use Rattle.asl_lint_warnings.proofs.Searching.{edge_from}
use Rattle.asl_lint_warnings.proofs.Joining.{last_or_less}

pub edge_added : (es : List (List ℕ)) (to from : ℕ) → to < length es → HasTurned es from (to ∷ []) (set es to (get_or es to [] ++ from ∷ []))
edge_added es to from within j k lt =
    let fs = set es to (get_or es to [] ++ from ∷ []) in
    let here : get_or fs to [] ≡ get_or es to [] ++ from ∷ [] = get_or-set_same es to (get_or es to [] ++ from ∷ []) [] within in
    elim (same_or_not j to) as (λ _. Edge fs j k ↔ (Edge es j k ⊎ (IsIn (to ∷ []) j × (k ≡ from)))) [
      | inl e ↦ (
        λ h. let h2 : IsIn (get_or es to [] ++ from ∷ []) k = subst (λ (x : List ℕ). IsIn x k) here (subst (λ (x : ℕ). Edge fs x k) e h) in
            elim (in_either (get_or es to []) (from ∷ []) k h2) as (λ _. Edge es j k ⊎ (IsIn (to ∷ []) j × (k ≡ from))) [
              | inl a ↦ inl (subst (λ (x : ℕ). Edge es x k) (sym e) a)
              | inr a ↦ inr (inl e, in_one from k a)
            ],
        λ h. let h2 : IsIn (get_or es to [] ++ from ∷ []) k = elim h as (λ _. IsIn (get_or es to [] ++ from ∷ []) k) [
          | inl a ↦ in_left (get_or es to []) (from ∷ []) k (subst (λ (x : ℕ). Edge es x k) e a)
          | inr a ↦ in_right (get_or es to []) (from ∷ []) k (inl a.1)
        ] in
            subst (λ (x : ℕ). Edge fs x k) (sym e) (subst (λ (x : List ℕ). IsIn x k) (sym here) h2),
      )
      | inr n ↦ let other : get_or fs j [] ≡ get_or es j [] = get_or-set_other es to j (get_or es to [] ++ from ∷ []) [] n in (
        λ h. inl (subst (λ (x : List ℕ). IsIn x k) other h),
        λ h. elim h as (λ _. Edge fs j k) [
          | inl a ↦ subst (λ (x : List ℕ). IsIn x k) (sym other) a
          | inr a ↦ absurd (n (in_one to j a.0))
        ],
      )
    ]

pub edge_skipped : (es : List (List ℕ)) (to from : ℕ) → length es ≤ to → HasTurned es from (to ∷ []) es
edge_skipped es to from past j k lt = (
  λ h. inl h,
  λ h. elim h as (λ _. Edge es j k) [
    | inl a ↦ a
    | inr a ↦ let e = in_one to j a.0 in absurd (omega (arith, e))
  ],
)

pub edges_none : (es : List (List ℕ)) (from : ℕ) → HasTurned es from [] es
edges_none es from j k lt = (λ h. inl h, λ h. elim h as (λ _. Edge es j k) [ inl a ↦ a | inr a ↦ absurd a.0 ])

pub edges_more : (es fs gs : List (List ℕ)) (from : ℕ) (xs ys : List ℕ) → length fs ≡ length es → HasTurned es from xs fs → HasTurned fs from ys gs → HasTurned es from (xs ++ ys) gs
edges_more es fs gs from xs ys size g h j k lt =
    let lf : j < length fs = subst (λ (n : ℕ). j < n) (sym size) lt in (
      λ e. elim ((h j k lf).0 e) as (λ _. Edge es j k ⊎ (IsIn (xs ++ ys) j × (k ≡ from))) [
        | inl a ↦ elim ((g j k lt).0 a) as (λ _. Edge es j k ⊎ (IsIn (xs ++ ys) j × (k ≡ from))) [
          | inl b ↦ inl b
          | inr b ↦ inr (in_left xs ys j b.0, b.1)
        ]
        | inr a ↦ inr (in_right xs ys j a.0, a.1)
      ],
      λ e. elim e as (λ _. Edge gs j k) [
        | inl a ↦ (h j k lf).1 (inl ((g j k lt).1 (inl a)))
        | inr a ↦ elim (in_either xs ys j a.0) as (λ _. Edge gs j k) [
          | inl b ↦ (h j k lf).1 (inl ((g j k lt).1 (inr (b, a.1))))
          | inr b ↦ (h j k lf).1 (inr (b, a.1))
        ]
      ],
    )

-- the edges from the first so many are turned
abbrev pub TurnedTo : List (List ℕ) → ℕ → List (List ℕ) → Type 0
TurnedTo es m fs = (length fs ≡ length es) × ((j k : ℕ) → j < length es → (Edge fs j k ↔ (Edge es k j × (k < m))))

pub turned_none : (es fs : List (List ℕ)) → length fs ≡ length es → ((i : ℕ) → get_or fs i [] ≡ []) → TurnedTo es 0 fs
turned_none es fs size bare = (size, λ j k lt. (λ h. absurd (subst (λ (x : List ℕ). IsIn x k) (bare j) h), λ h. absurd (let f = h.1 in omega (arith, f))))

pub turned_more : (es fs gs : List (List ℕ)) (m : ℕ) → TurnedTo es m fs → length gs ≡ length fs → HasTurned fs m (get_or es m []) gs → TurnedTo es (suc m) gs
turned_more es fs gs m t size h = (
  size ∙ t.0,
  λ j k lt. let lf : j < length fs = subst (λ (n : ℕ). j < n) (sym t.0) lt in (
    λ e. elim ((h j k lf).0 e) as (λ _. Edge es k j × (k < suc m)) [
      | inl a ↦ let b = (t.1 j k lt).0 a in (b.0, let f = b.1 in omega (arith, f))
      | inr a ↦ (subst (λ (x : ℕ). Edge es x j) (sym a.1) a.0, let f = a.1 in omega (arith, f))
    ],
    λ e. elim (last_or_less m k e.1) as (λ _. Edge gs j k) [
      | inl a ↦ (h j k lf).1 (inr (subst (λ (x : ℕ). Edge es x j) a e.0, a))
      | inr a ↦ (h j k lf).1 (inl ((t.1 j k lt).1 (e.0, a)))
    ],
  ),
)

pub turned_all : (es fs : List (List ℕ)) (m : ℕ) → length es ≤ m → TurnedTo es m fs → AreTurned es fs
turned_all es fs m past t = (
  t.0,
  λ j k lt. (
    λ h. ((t.1 j k lt).0 h).0,
    λ h. (t.1 j k lt).1 (h, let f = edge_from es k j h in omega (arith, f)),
  ),
)
