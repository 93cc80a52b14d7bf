-- What is told of states, of what was seen of each.
use Rattle.std.proofs.Common.{ℕ, ◌≡◌, ◌<◌, ◌≤◌, ◌+◌, ◌++◌, ◌&&◌, ◌∙◌, ◌⊎◌, inl, inr, ap, sym, refl, subst, arith, Bool, true, false, not, List, [], ◌∷◌, length, get_or, take, append-nil, Some, Option, IfSome}
use Rattle.std.specs.List.{All}
use Rattle.std.proofs.lemmas.Bool.{and_parts, and_from, both_ways}
use Rattle.asl_json_data.specs.Data.{Data}
use Rattle.asl_def.proofs.Wholes.{found_within}
use Rattle.asl_def.specs.Machines.{state_count}
use Rattle.asl_mock.specs.Answers.{Case}
use Rattle.asl_run_state.specs.World.{World, count_of}
use Rattle.asl_run_input.specs.declared.setup.Setup.{Setup}
use Rattle.asl_explore.specs.declared.answers.Run.{Run}
use Rattle.asl_explore.specs.declared.orders.Orders.{Orders}
use Rattle.asl_explore.specs.declared.remarks.Answers.{Answers}
use Rattle.asl_explore.specs.declared.remarks.Remarks.{Remarks}
use Rattle.asl_explore.specs.declared.sights.Sight.{Sight}
use Rattle.asl_explore.specs.declared.states.Stated.{Stated}
use Rattle.asl_explore.specs.Remarks.{AreOneBelow, AreRemarks, AreRuns, AreTold, AreUnanswered, IsAnswered, IsCutOff, IsNamed, IsShared, IsUnentered, answers_from, most_asked}
use Rattle.asl_explore.specs.Settled.{last_answer}
use Rattle.asl_explore.specs.States.{IsStated}
use Rattle.asl_explore.specs.private.Seeing.{AreSeen, IsSeen, IsSharedFrom}
use Rattle.asl_explore.specs.private.Remarking.{ArePut, IsUnlike}
use Rattle.asl_explore.proofs.Listing.{told-more}

-- ---- one state

stated-within : (s : Setup) (t : Stated) → IsStated s.machine t → t.number < state_count s.machine
stated-within s t h = found_within (λ (i : ℕ). i) (Some t.number) t.name s.machine (sym h.number)

pub stated-at : (d : Data) (ts : List Stated) (i : ℕ) (t : Stated) → i < length ts → t ≡ get_or ts i t → All (IsStated d) ts → IsStated d t
stated-at d ts i t l at all = subst (IsStated d) (sym at) (all i t l)

-- what was seen of a state that is told
pub sight-seen : (o : Orders) (s : Setup) (ws : List World) (xs : List Sight) (t : Stated) (x : Sight) → IsStated s.machine t → AreSeen o s ws xs → (t.number < length xs → x ≡ get_or xs t.number x) → IsSeen o s ws t.number x
sight-seen o s ws xs t x h seen f =
    let many = seen.many in
    let l : t.number < length xs = omega (arith, stated-within s t h, many) in
    subst (IsSeen o s ws t.number) (sym (f l)) (seen.each t.number x l)

module _ (o : Orders) (s : Setup) (ws : List World) (t : Stated) (x : Sight) (seen : IsSeen o s ws t.number x) where
  pub shared-so : IsUnlike s.case t.name x → IsShared o s ws t
  shared-so u = by u.0 u.1.0
    where
      at : (n : ℕ) → IsSharedFrom o s ws t.number n → (AreOneBelow s.case t.name n x.most → ⊥) → IsShared o s ws t
      at n y other = record {
        world = y.world;
        met = y.met;
        two = y.two;
        unlike = λ one. other (subst (λ m. AreOneBelow s.case t.name n m) (sym seen.most) (subst (λ k. AreOneBelow s.case t.name k (most_asked o s ws t.number)) y.number_is one));
      }

      by : (n : ℕ) → x.shared_from ≡ Some n → IsShared o s ws t
      by n e = at n (subst (λ (z : Option ℕ). IfSome z (IsSharedFrom o s ws t.number)) e seen.shared) (subst (λ k. AreOneBelow s.case t.name k x.most → ⊥) (let f : Some u.0 ≡ Some n = sym u.1.0 ∙ e in cc) u.1.1)

  pub shared-not : IfSome x.shared_from (λ n. AreOneBelow s.case t.name n x.most) → IsShared o s ws t → ⊥
  shared-not one h = by (seen.least h.world h.met h.two).0 (seen.least h.world h.met h.two).1.0 (seen.least h.world h.met h.two).1.1
    where
      by : (m : ℕ) → x.shared_from ≡ Some m → m ≤ count_of h.world.counts (Some t.number) → ⊥
      by m e le =
          let from : AreOneBelow s.case t.name m x.most = subst (λ (z : Option ℕ). IfSome z (λ n. AreOneBelow s.case t.name n x.most)) e one in
          let most = seen.most in
          h.unlike (λ i li lb ll. from i (omega (arith, le, li)) (omega (arith, lb, most)) ll ∙ sym (from (count_of h.world.counts (Some t.number)) le (omega (arith, li, lb, most)) (omega (arith, li, ll))))

  pub unentered-so : (complete b : Bool) → b ≡ (complete && not x.is_entered) → b ≡ true → IsUnentered complete o s ws t
  unentered-so complete b e t =
      let both = and_parts complete (not x.is_entered) (sym e ∙ t) in
      (both.0, sym seen.entered ∙ entered-not x.is_entered both.1)
    where
      entered-not : (c : Bool) → not c ≡ true → c ≡ false
      entered-not true h = (cc)
      entered-not false h = refl

  pub unentered-not : (complete b : Bool) → b ≡ (complete && not x.is_entered) → b ≡ false → IsUnentered complete o s ws t → ⊥
  unentered-not complete b e f h = both_ways b f (e ∙ and_from complete (not x.is_entered) h.0 (ap not (seen.entered ∙ h.1)))

  pub cut-off-so : x.is_cut_off ≡ true → IsCutOff s ws t
  cut-off-so e = sym seen.cut_off ∙ e

  pub cut-off-not : x.is_cut_off ≡ false → IsCutOff s ws t → ⊥
  cut-off-not e h = both_ways x.is_cut_off e (seen.cut_off ∙ h)

  pub unanswered-is : (complete : Bool) (before after : List Answers) → ArePut s.case t x complete before after → (xs : List Answers) × ((after ≡ before ++ xs) × AreUnanswered complete o s ws t xs)
  unanswered-is complete before after h = (h.0, (h.1.0, by h.1.1))
    where
      wanted : (complete && (t.is_task && x.is_entered)) ≡ true → IsAnswered complete o s ws t
      wanted e =
          let both = and_parts complete (t.is_task && x.is_entered) e in
          let more = and_parts t.is_task x.is_entered both.1 in
          record { complete_is = both.0; task = more.0; entered = sym seen.entered ∙ more.1 }

      unwanted : (complete && (t.is_task && x.is_entered)) ≡ false → IsAnswered complete o s ws t → ⊥
      unwanted e a = both_ways (complete && (t.is_task && x.is_entered)) e (and_from complete (t.is_task && x.is_entered) a.complete_is (and_from t.is_task x.is_entered a.task (seen.entered ∙ a.entered)))

      by : (((complete && (t.is_task && x.is_entered)) ≡ true) × ((runs : List Run) × (AreRuns s.case t.name 0 (last_answer + 1) runs × (h.0 ≡ answers_from t.name x.most runs)))) ⊎ (((complete && (t.is_task && x.is_entered)) ≡ false) × (h.0 ≡ [])) → AreUnanswered complete o s ws t h.0
      by (inl y) = inl (wanted y.0, record { runs = y.1.0; are = y.1.1.0; told = y.1.1.1 ∙ ap (λ m. answers_from t.name m y.1.0) seen.most })
      by (inr n) = inr (unwanted n.0, n.1)

-- ---- all of it

-- by the parts of a search
pub remarks-at : (complete : Bool) (o : Orders) (s z : Setup) (ws : List World) (cs : Case) (ts us : List Stated) (xs ys : List Sight) (r : Remarks) → z ≡ s → cs ≡ z.case → us ≡ ts → ys ≡ xs → All (IsStated s.machine) ts → AreSeen o s ws xs
    → ((o : Orders) (s : Setup) (ws : List World) → cs ≡ s.case → All (IsStated s.machine) us → AreSeen o s ws ys → AreRemarks complete o s ws us r) → AreRemarks complete o s ws ts r
remarks-at complete o s z ws cs ts us xs ys r ez ec eu ey all seen f =
    subst (λ (vs : List Stated). AreRemarks complete o s ws vs r) eu
    (f o s ws (ec ∙ ap (λ (x : Setup). x.case) ez) (subst (All (IsStated s.machine)) (sym eu) all) (subst (AreSeen o s ws) (sym ey) seen))

-- ---- one more state

pub named-more : (P : Stated → Type 0) (ts : List Stated) (i : ℕ) (t : Stated) (names more : List (List ℕ)) (b : Bool) → i < length ts → t ≡ get_or ts i t → (b ≡ true → P t) → (b ≡ false → P t → ⊥) → (b ≡ true → more ≡ names ++ t.name ∷ []) → (b ≡ false → more ≡ names) → AreTold (IsNamed P) (take i ts) names → AreTold (IsNamed P) (take (i + 1) ts) more
named-more P ts i t names more true l at holds fails put kept h = subst (AreTold (IsNamed P) (take (i + 1) ts)) (sym (put refl)) (told-more (IsNamed P) ts i t names (t.name ∷ []) l at h (inl (holds refl, refl)))
named-more P ts i t names more false l at holds fails put kept h = subst (AreTold (IsNamed P) (take (i + 1) ts)) (append-nil names ∙ sym (kept refl)) (told-more (IsNamed P) ts i t names [] l at h (inr (fails refl, refl)))

pub told-then : {A : Type 0} (P : Stated → List A → Type 0) (ts : List Stated) (i : ℕ) (t : Stated) (before after : List A) → i < length ts → t ≡ get_or ts i t → (xs : List A) × ((after ≡ before ++ xs) × P t xs) → AreTold P (take i ts) before → AreTold P (take (i + 1) ts) after
told-then P ts i t before after l at put h = subst (AreTold P (take (i + 1) ts)) (sym put.1.0) (told-more P ts i t before put.0 l at h put.1.1)

-- ---- one more run
