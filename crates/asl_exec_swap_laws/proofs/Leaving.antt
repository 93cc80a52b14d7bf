-- What happens at a place leaves what is read at places apart, and commutes with what happens there.
use Rattle.std.proofs.Common.{ℕ, ◌≡◌, ◌+◌, ◌==◌, ◌&&◌, Bool, true, false, not, List, [], ◌∷◌, refl, sym, ◌∙◌, ap, cond, map, Some, None, Option}
use Rattle.std.proofs.lemmas.Bool.{both_ways, false_from_ne_true}
use Rattle.std.proofs.lemmas.Grind.{flat_map-append}
use Rattle.std.proofs.lemmas.List.{append-nil}
use Rattle.std.proofs.lemmas.List.Elements.{filter-append}
use Rattle.std.specs.List.{AllByRecursion, filter}
use Rattle.std.specs.Option.{option_or}
use Rattle.asl_json_data.specs.Data.{Data}
use Rattle.asl_history.specs.Places.{is_prefix, is_child}
use Rattle.asl_step.specs.Bounds.{are_kept}
use Rattle.asl_step.specs.declared.effect.Children.{Children}
use Rattle.asl_step.specs.declared.effect.Children.TheVariants.{Kept, Removed, Forked as Made}
use Rattle.asl_step.specs.declared.record.Record.{Record}
use Rattle.asl_step.specs.declared.record.Record.TheVariants.{New, Ready, Pausing, Again, Forked, Done, Failed}
use Rattle.asl_run_branches.specs.Branches.{Branch, same_place, first_of, record_at, children_at, map_of, forker_at, beyond, iteration_in, iteration_at, numbered, made, family, branch_after, branches_after}
use Rattle.asl_run_branches.proofs.Linking.{same-eq}
use Rattle.asl_exec_swap_laws.proofs.Apart.{IsApart, apart-sym, prefix-self, prefix-append, above-both, MissesUnder, same-misses, child-misses, above-misses, parent-misses}

-- all of these are at p or under it
abbrev pub Under : List ℕ → List Branch → Type 0
Under p bs = AllByRecursion (λ b. is_prefix p b.place ≡ true) bs

-- ---- a branch that isn't at p or under it stays; of one that is come branches that are

numbered-under : (p : List ℕ) (i : ℕ) (rs : List Record) → Under p (numbered p i rs)
numbered-under p i [] = tt
numbered-under p i (r ∷ rs) = (prefix-append p (i ∷ []), numbered-under p (i + 1) rs)

made-under : (p : List ℕ) (c : Children) → Under p (made p c)
made-under p Kept = tt
made-under p Removed = tt
made-under p (Made rs) = numbered-under p 0 rs

pub same-false : (p q : List ℕ) → is_prefix p q ≡ false → same_place p q ≡ false
same-false p q h = false_from_ne_true (same_place p q) (λ e. both_ways (is_prefix p q) h (rw (← same-eq p q e) (prefix-self p)))

module _ (p : List ℕ) (r : Record) (c : Children) where
  pub stays : (b : Branch) → is_prefix p b.place ≡ false → branch_after p r c b ≡ b ∷ []
  stays b h = rw (same-false p b.place h, h) refl

  pub under : (b : Branch) → is_prefix p b.place ≡ true → Under p (branch_after p r c b)
  under b h = by (same_place p b.place) (is_prefix p b.place && not (are_kept c))
    where
      by : (s k : Bool) → Under p (cond s (family p r c) (cond k [] (b ∷ [])))
      by true k = (prefix-self p, made-under p c)
      by false true = tt
      by false false = (h, tt)

  -- ---- what a test of places passes

  missed : (T : List ℕ → Bool) (bs : List Branch) → MissesUnder p T → Under p bs → filter (λ b. T b.place) bs ≡ []
  missed T [] m u = refl
  missed T (b ∷ bs) m u = rw (m b.place u.0) (missed T bs m u.1)

  passes-one : (T : List ℕ → Bool) (b : Branch) → MissesUnder p T → filter (λ b. T b.place) (branch_after p r c b) ≡ filter (λ b. T b.place) (b ∷ [])
  passes-one T b m = by (is_prefix p b.place) refl
    where
      by : (u : Bool) → is_prefix p b.place ≡ u → filter (λ b. T b.place) (branch_after p r c b) ≡ filter (λ b. T b.place) (b ∷ [])
      by true e = missed T (branch_after p r c b) m (under b e) ∙ sym (missed T (b ∷ []) m (e, tt))
      by false e = ap (filter (λ b. T b.place)) (stays b e)

  pub passes : (T : List ℕ → Bool) (bs : List Branch) → MissesUnder p T → filter (λ b. T b.place) (branches_after p r c bs) ≡ filter (λ b. T b.place) bs
  passes T [] m = refl
  passes T (b ∷ bs) m =
      filter-append (λ b. T b.place) (branch_after p r c b) (branches_after p r c bs)
      ∙ rw (passes-one T b m, passes T bs m) refl
      ∙ sym (filter-append (λ b. T b.place) (b ∷ []) bs)

  -- ---- so what is read at q

  pub record-stays : (q : List ℕ) (bs : List Branch) → is_prefix p q ≡ false → record_at q (branches_after p r c bs) ≡ record_at q bs
  record-stays q bs a = ap first_of (passes (same_place q) bs (same-misses p q a))

  pub children-stay : (q : List ℕ) (bs : List Branch) → IsApart p q → children_at q (branches_after p r c bs) ≡ children_at q bs
  children-stay q bs a = ap (map (λ b. b.current)) (passes (is_child q) bs (child-misses p q a))

  pub forker-stays : (q : List ℕ) (bs : List Branch) → is_prefix p q ≡ false → forker_at q (branches_after p r c bs) ≡ forker_at q bs
  forker-stays q bs a = ap (λ bs. map_of (first_of bs)) (passes (λ x. is_child x q) bs (parent-misses p q a))

-- ---- the iteration is read of the branches above

nowhere : (r : Record) → iteration_in r None ≡ None
nowhere (New n x) = refl
nowhere (Ready n x) = refl
nowhere (Pausing n x since until) = refl
nowhere (Again n x since uses until) = refl
nowhere (Forked n x since uses items) = refl
nowhere (Done x) = refl
nowhere (Failed e) = refl

no-way : (x q : List ℕ) → is_prefix x q ≡ false → beyond x q ≡ None
no-way [] q h = (cc)
no-way (i ∷ x) [] h = refl
no-way (i ∷ x) (j ∷ q) h = by (i == j) refl (no-way x q)
  where
    by : (c : Bool) → (i == j) ≡ c → (is_prefix x q ≡ false → beyond x q ≡ None) → cond c (beyond x q) None ≡ None
    by true e more = more (rw e at h)
    by false e more = refl

or-none : (o : Option (ℕ × Data)) → option_or o None ≡ o
or-none None = refl
or-none (Some x) = refl

of-above : (q : List ℕ) (bs : List Branch) → iteration_at q bs ≡ iteration_at q (filter (λ b. is_prefix b.place q) bs)
of-above q [] = refl
of-above q (b ∷ bs) = by (is_prefix b.place q) refl (of-above q bs)
  where
    by : (c : Bool) → is_prefix b.place q ≡ c → iteration_at q bs ≡ iteration_at q (filter (λ b. is_prefix b.place q) bs) → option_or (iteration_at q bs) (iteration_in b.current (beyond b.place q)) ≡ iteration_at q (cond c (b ∷ filter (λ b. is_prefix b.place q) bs) (filter (λ b. is_prefix b.place q) bs))
    by true e more = ap (λ o. option_or o (iteration_in b.current (beyond b.place q))) more
    by false e more = rw (no-way b.place q e, nowhere b.current) (or-none (iteration_at q bs)) ∙ more

pub iteration-stays : (p : List ℕ) (r : Record) (c : Children) (q : List ℕ) (bs : List Branch) → is_prefix p q ≡ false → iteration_at q (branches_after p r c bs) ≡ iteration_at q bs
iteration-stays p r c q bs a =
    of-above q (branches_after p r c bs) ∙ ap (iteration_at q) (passes p r c (λ x. is_prefix x q) bs (above-misses p q a)) ∙ sym (of-above q bs)

-- ---- what happens at two places apart

untouched : (p q : List ℕ) (s : Record) (d : Children) (bs : List Branch) → IsApart p q → Under p bs → branches_after q s d bs ≡ bs
untouched p q s d [] a u = refl
untouched p q s d (b ∷ bs) a u = rw (stays q s d b (false_from_ne_true (is_prefix q b.place) (above-both p q b.place a u.0))) (ap (λ xs. b ∷ xs) (untouched p q s d bs a u.1))

pub branches-commute : (p q : List ℕ) (r s : Record) (c d : Children) (bs : List Branch) → IsApart p q → branches_after q s d (branches_after p r c bs) ≡ branches_after p r c (branches_after q s d bs)
branches-commute p q r s c d [] a = refl
branches-commute p q r s c d (b ∷ bs) a =
    flat_map-append (branch_after q s d) (branch_after p r c b) (branches_after p r c bs)
    ∙ rw (one (is_prefix p b.place) (is_prefix q b.place) refl refl, branches-commute p q r s c d bs a) refl
    ∙ sym (flat_map-append (branch_after p r c) (branch_after q s d b) (branches_after q s d bs))
  where
    one : (u v : Bool) → is_prefix p b.place ≡ u → is_prefix q b.place ≡ v → branches_after q s d (branch_after p r c b) ≡ branches_after p r c (branch_after q s d b)
    one true v e f =
        let g : is_prefix q b.place ≡ false = false_from_ne_true (is_prefix q b.place) (above-both p q b.place a e) in
        untouched p q s d (branch_after p r c b) a (under p r c b e) ∙ sym (append-nil (branch_after p r c b)) ∙ sym (ap (branches_after p r c) (stays q s d b g))
    one false true e f = ap (branches_after q s d) (stays p r c b e) ∙ append-nil (branch_after q s d b) ∙ sym (untouched q p r c (branch_after q s d b) (apart-sym p q a) (under q s d b f))
    one false false e f = ap (branches_after q s d) (stays p r c b e) ∙ append-nil (branch_after q s d b) ∙ stays q s d b f ∙ sym (ap (branches_after p r c) (stays q s d b f) ∙ append-nil (branch_after p r c b) ∙ stays p r c b e)
