-- What the machine answers is right: a root and steps that the text spells, or the first byte that can't go on.
use Rattle.std.proofs.Common.{◌≡◌, ◌<◌, ◌≤◌, ◌-◌, ◌==◌, ℕ, suc, Bool, true, false, List, [], ◌∷◌, ◌++◌, length, refl, sym, ◌∙◌, ap, subst, arith, cond, append_assoc}
use Rattle.std.specs.Prelude.{Result, Ok, Err}
use Rattle.std.proofs.lemmas.List.{append-nil, length-append}
use Rattle.std.proofs.lemmas.Bool.{eqb-true}
use Rattle.asl_path.specs.declared.step.Root.{Root}
use Rattle.asl_path.specs.declared.step.Root.TheVariants.{Input, Context}
use Rattle.asl_path.specs.declared.step.Step.{Step}
use Rattle.asl_path.specs.Grammar.{SpellsRoot, SpellsPath, IsPath, IsPrefix}
use Rattle.asl_path.specs.Faults.{EndsAt, FaultAt}
use Rattle.asl_path.specs.private.Steps.{Mode, between, dot, name, bracket, quoted, closing, digits, Next, go, stop, begin_step, advance, finish, onward, run, with_root, from_root, steps}
use Rattle.asl_path.proofs.Passing.{path_passes}
use Rattle.asl_path.proofs.Fronts.{Reached, Holds, GoesOn, advance_reaches, reached_goes_on, finish_spells}

-- the first byte that can't go on has so many bytes from it on
pub record FaultLeft (t : List ℕ) (left : ℕ) : Type 0 where
  pub front : List ℕ
  pub rest : List ℕ
  pub parts : t ≡ front ++ rest
  pub left_is : length rest ≡ left
  pub alive : IsPrefix front
  pub dead : EndsAt front rest

abbrev pub Judged : List ℕ → Result (Root × List Step) ℕ → Type 0
Judged t (Ok x) = SpellsPath x.0 x.1 t
Judged t (Err left) = FaultLeft t left

no_path : (t : List ℕ) (left : ℕ) → steps t ≡ Err left → IsPath t → ⊥
no_path t left e h = let p = path_passes h.root h.steps t h.spelled in absurd cc

-- whatever follows this byte, the machine stops
abbrev Stops : List ℕ → ℕ → Type 0
Stops front c = (rest : List ℕ) → steps (front ++ c ∷ rest) ≡ Err (suc (length rest))

no_prefix : (front : List ℕ) (c : ℕ) → Stops front c → IsPrefix (front ++ c ∷ []) → ⊥
no_prefix front c f h = no_path (front ++ c ∷ h.more) (suc (length h.more)) (f h.more) (subst IsPath (append_assoc front (c ∷ []) h.more) h.is_path)

alive_behind : (root : Root) (p t : List ℕ) → SpellsRoot root p → GoesOn t → IsPrefix (p ++ t)
alive_behind root p t r h = record {
  more = h.more;
  is_path = record { root = root; steps = h.steps; spelled = record { front = p; back = t ++ h.more; parts = append_assoc p t h.more; front_is = r; back_is = h.spelled } };
}

finish_left : (m : Mode) (done : List Step) (left : ℕ) → finish m done ≡ Err left → 0 ≡ left
finish_left between done left e = absurd cc
finish_left dot done left e = cc
finish_left (name n) done left e = absurd cc
finish_left bracket done left e = cc
finish_left (quoted q n) done left e = cc
finish_left (closing n) done left e = cc
finish_left (digits k v) done left e = cc

-- the run behind the root
abbrev Rest : Root → List ℕ → Mode → List Step → List ℕ → Type 0
Rest root p m done t = (rest : List ℕ) → steps (p ++ (t ++ rest)) ≡ with_root root (run m done rest)

end_judged : (root : Root) (p : List ℕ) (m : Mode) (done : List Step) (t : List ℕ) → SpellsRoot root p → Reached m done t → Rest root p m done t → (o : Result (List Step) ℕ) → finish m done ≡ o → Judged (p ++ (t ++ [])) (with_root root o)
end_judged root p m done t r h f (Ok ss) e = record { front = p; back = t ++ []; parts = refl; front_is = r; back_is = rw append-nil (finish_spells m done ss t h e) }
end_judged root p m done t r h f (Err left) e =
    let all = p ++ (t ++ []) in
    record {
      front = all;
      rest = [];
      parts = sym (append-nil all);
      left_is = finish_left m done left e;
      alive = rw append-nil (alive_behind root p t r (reached_goes_on m done t h));
      dead = no_path all left (f [] ∙ ap (with_root root) e);
    }

pub run_judged : (root : Root) (p : List ℕ) (m : Mode) (done : List Step) (t xs : List ℕ) → SpellsRoot root p → Reached m done t → Rest root p m done t → Judged (p ++ (t ++ xs)) (with_root root (run m done xs))
run_judged root p m done t [] r h f = end_judged root p m done t r h f (finish m done) refl
run_judged root p m done t (c ∷ cs) r h f = next (advance m done c) refl (advance_reaches m done t c h) (λ n d g e. run_judged root p n d (t ++ c ∷ []) cs r g e)
  where
    next : (n : Next) → advance m done c ≡ n → Holds (t ++ c ∷ []) n
        → ((k : Mode) (d : List Step) → Reached k d (t ++ c ∷ []) → Rest root p k d (t ++ c ∷ []) → Judged (p ++ ((t ++ c ∷ []) ++ cs)) (with_root root (run k d cs)))
        → Judged (p ++ (t ++ c ∷ cs)) (with_root root (onward n (suc (length cs)) (λ k d. run k d cs)))
    next (go k d) e g again =
        subst (λ (z : List ℕ). Judged (p ++ z) (with_root root (run k d cs))) (append_assoc t (c ∷ []) cs)
        (again k d g (λ rest. ap (λ (z : List ℕ). steps (p ++ z)) (append_assoc t (c ∷ []) rest) ∙ f (c ∷ rest) ∙ ap (λ (z : Next). with_root root (onward z (suc (length rest)) (λ i j. run i j rest))) e))
    next stop e g again = record {
      front = p ++ t;
      rest = c ∷ cs;
      parts = sym (append_assoc p t (c ∷ cs));
      left_is = refl;
      alive = alive_behind root p t r (reached_goes_on m done t h);
      dead = no_prefix (p ++ t) c (λ rest. ap steps (append_assoc p t (c ∷ rest)) ∙ f (c ∷ rest) ∙ ap (λ (z : Next). with_root root (onward z (suc (length rest)) (λ i j. run i j rest))) e);
    }

no_steps : (root : Root) (p : List ℕ) → SpellsRoot root p → SpellsPath root [] p
no_steps root p r = record { front = p; back = []; parts = sym (append-nil p); front_is = r; back_is = refl }

root_alive : IsPrefix (36 ∷ [])
root_alive = record { more = []; is_path = record { root = Input; steps = []; spelled = no_steps Input (36 ∷ []) refl } }

nothing_alive : IsPrefix []
nothing_alive = record { more = 36 ∷ []; is_path = record { root = Input; steps = []; spelled = no_steps Input (36 ∷ []) refl } }

-- behind one dollar, and no second one
input_judged : (d : ℕ) (ds : List ℕ) → (d == 36) ≡ false → Judged (36 ∷ d ∷ ds) (with_root Input (run between [] (d ∷ ds)))
input_judged d ds e = first (d == 46) (d == 91) refl refl
  where
    first : (a b : Bool) → (d == 46) ≡ a → (d == 91) ≡ b → Judged (36 ∷ d ∷ ds) (with_root Input (run between [] (d ∷ ds)))
    first true b x y =
        let same = eqb-true d 46 x in
        subst (λ (z : ℕ). Judged (36 ∷ z ∷ ds) (with_root Input (run between [] (z ∷ ds)))) (sym same)
        (run_judged Input (36 ∷ []) dot [] (46 ∷ []) ds refl (record { front = []; back = 46 ∷ []; parts = refl; front_is = refl; back_is = refl }) (λ rest. refl))
    first false true x y =
        let same = eqb-true d 91 y in
        subst (λ (z : ℕ). Judged (36 ∷ z ∷ ds) (with_root Input (run between [] (z ∷ ds)))) (sym same)
        (run_judged Input (36 ∷ []) bracket [] (91 ∷ []) ds refl (record { front = []; back = 91 ∷ []; parts = refl; front_is = refl; back_is = refl }) (λ rest. refl))
    first false false x y =
        let stuck : begin_step [] d ≡ stop = rw (x, y) refl in
        let halts = λ (rest : List ℕ). ap (λ (z : Next). with_root Input (onward z (suc (length rest)) (λ k j. run k j rest))) stuck in
        subst (Judged (36 ∷ d ∷ ds)) (sym (halts ds))
        record {
          front = 36 ∷ [];
          rest = d ∷ ds;
          parts = refl;
          left_is = refl;
          alive = root_alive;
          dead = no_prefix (36 ∷ []) d (λ rest. ap (λ b. cond b (with_root Context (run between [] rest)) (with_root Input (run between [] (d ∷ rest)))) e ∙ halts rest);
        }

-- behind one dollar
root_judged : (cs : List ℕ) → Judged (36 ∷ cs) (from_root cs)
root_judged [] = no_steps Input (36 ∷ []) refl
root_judged (d ∷ ds) = second (d == 36) refl
  where
    second : (b : Bool) → (d == 36) ≡ b → Judged (36 ∷ d ∷ ds) (cond b (with_root Context (run between [] ds)) (with_root Input (run between [] (d ∷ ds))))
    second true e =
        subst (λ (z : ℕ). Judged (36 ∷ z ∷ ds) (with_root Context (run between [] ds))) (sym (eqb-true d 36 e))
        (run_judged Context (36 ∷ 36 ∷ []) between [] [] ds refl (record { front = []; back = []; parts = refl; front_is = refl; back_is = refl }) (λ rest. refl))
    second false e = input_judged d ds e

pub path_judged : (t : List ℕ) → Judged t (steps t)
path_judged [] = record { front = []; rest = []; parts = refl; left_is = refl; alive = nothing_alive; dead = no_path [] 0 refl }
path_judged (c ∷ cs) = first (c == 36) refl
  where
    first : (b : Bool) → (c == 36) ≡ b → Judged (c ∷ cs) (cond b (from_root cs) (Err (suc (length cs))))
    first true e = subst (λ (z : ℕ). Judged (z ∷ cs) (from_root cs)) (sym (eqb-true c 36 e)) (root_judged cs)
    first false e = record {
      front = [];
      rest = c ∷ cs;
      parts = refl;
      left_is = refl;
      alive = nothing_alive;
      dead = no_prefix [] c (λ rest. ap (λ b. cond b (from_root rest) (Err (suc (length rest)))) e);
    }

pub read_spells : (t : List ℕ) (root : Root) (ss : List Step) → steps t ≡ Ok (root, ss) → SpellsPath root ss t
read_spells t root ss e = subst (Judged t) e (path_judged t)

fault_left : (t : List ℕ) (left : ℕ) → steps t ≡ Err left → FaultLeft t left
fault_left t left e = subst (Judged t) e (path_judged t)

pub left_within : (t : List ℕ) (left : ℕ) → steps t ≡ Err left → left ≤ length t
left_within t left e = let h = fault_left t left e in omega (arith, ap length h.parts, length-append h.front h.rest, h.left_is)

pub fault_at : (t : List ℕ) (left : ℕ) → steps t ≡ Err left → FaultAt t (length t - left)
fault_at t left e =
    let h = fault_left t left e in
    record { front = h.front; rest = h.rest; parts = h.parts; at_is = omega (arith, ap length h.parts, length-append h.front h.rest, h.left_is); alive = h.alive; dead = h.dead }

-- a path has no fault
pub path_faultless : (t : List ℕ) (at : ℕ) → FaultAt t at → IsPath t → ⊥
path_faultless t at h p = faultless h.rest h.parts h.dead
  where
    faultless : (rest : List ℕ) → t ≡ h.front ++ rest → EndsAt h.front rest → ⊥
    faultless [] e dead = dead (subst IsPath (e ∙ append-nil h.front) p)
    faultless (c ∷ rest) e dead = dead (record { more = rest; is_path = subst IsPath (e ∙ sym (append_assoc h.front (c ∷ []) rest)) p })

-- one of two fronts of a list is the longer one
pub ahead : (a b c d : List ℕ) → a ++ b ≡ c ++ d → length a < length c → (x : ℕ) × (mid : List ℕ) × (rest : List ℕ) × ((b ≡ x ∷ rest) × (c ≡ a ++ x ∷ mid))
ahead [] b [] d e l = absurd (omega arith)
ahead [] b (y ∷ c) d e l = (y, c, c ++ d, (e, refl))
ahead (z ∷ a) b [] d e l = absurd (omega arith)
ahead (z ∷ a) b (y ∷ c) d e l =
    let tails : a ++ b ≡ c ++ d = cc in
    let heads : z ≡ y = cc in
    let x = ahead a b c d tails (omega arith) in
    (x.0, x.1, x.2, (x.3.0, ap (λ (n : ℕ). n ∷ c) (sym heads) ∙ ap (λ (l : List ℕ). z ∷ l) x.3.1))

shorter_prefix : (t u : List ℕ) → IsPrefix (t ++ u) → IsPrefix t
shorter_prefix t u h = record { more = u ++ h.more; is_path = subst IsPath (append_assoc t u h.more) h.is_path }

no_earlier : (t : List ℕ) (i j : ℕ) → FaultAt t i → FaultAt t j → i < j → ⊥
no_earlier t i j f g l =
    let x = ahead f.front f.rest g.front g.rest (sym f.parts ∙ g.parts) (omega (arith, f.at_is, g.at_is)) in
    let dead : EndsAt f.front (x.0 ∷ x.2) = subst (EndsAt f.front) x.3.0 f.dead in
    dead (shorter_prefix (f.front ++ x.0 ∷ []) x.1 (subst IsPrefix (x.3.1 ∙ sym (append_assoc f.front (x.0 ∷ []) x.1)) g.alive))

neither : (i j : ℕ) → (i < j → ⊥) → (j < i → ⊥) → i ≡ j
neither i j f g = grind (arith, f, g)

pub fault_once : (t : List ℕ) (i j : ℕ) → FaultAt t i → FaultAt t j → i ≡ j
fault_once t i j f g = neither i j (no_earlier t i j f g) (no_earlier t j i g f)
