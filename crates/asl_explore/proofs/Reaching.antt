-- Worlds that are known to reach an end, and steps that show it.
use Rattle.std.proofs.Common.{ℕ, zero, suc, ◌≡◌, ◌<◌, ◌≤◌, ◌+◌, ◌⊎◌, inl, inr, ◌∙◌, ap, sym, refl, subst, arith, Bool, true, false, List, [], ◌∷◌, length, get_or, Option, Some, None, IfSome}
use Rattle.std.specs.Prelude.{is_none, is_some, nat_lt}
use Rattle.std.specs.List.{All, AllWithin}
use Rattle.std.proofs.lemmas.Bool.Decides.{nat_tests}
use Rattle.std.proofs.lemmas.List.{get_or_read}
use Rattle.std.proofs.lemmas.List.Elements.{AllWithin-more}
use Rattle.asl_step.specs.declared.record.Record.{Record}
use Rattle.asl_run_branches.specs.Branches.{record_at}
use Rattle.asl_run_branches.specs.declared.earliest.Earliest.{Earliest}
use Rattle.asl_run_state.specs.World.{World, is_over}
use Rattle.asl_run_state.specs.Bare.{bare, earliest}
use Rattle.asl_run_input.specs.declared.setup.Setup.{Setup}
use Rattle.asl_exec.specs.Steps.{step}
use Rattle.asl_explore.specs.declared.orders.Orders.{Orders}
use Rattle.asl_explore.specs.declared.orders.Orders.TheVariants.{Every, Prompt}
use Rattle.asl_explore.specs.declared.endless.Lead.{Lead}
use Rattle.asl_explore.specs.declared.endless.Lead.TheVariants.{End, World as At}
use Rattle.asl_explore.specs.declared.endless.Link.{Link}
use Rattle.asl_explore.specs.declared.met.Node.{Node}
use Rattle.asl_explore.specs.Orders.{due, MayStep, IsTried, go}
use Rattle.asl_explore.specs.Searches.{IsOpenAt, StandsAt, worlds_of}
use Rattle.asl_explore.specs.Endless.{CanEnd}
use Rattle.asl_explore.specs.private.Reaching.{Reaches, LeadsOn, IsLead, IsLink, IsLeast, IsSoon, NoneMayStep, AllBefore, AreReaching, is_known}
use Rattle.asl_explore.proofs.Expanding.{node-at}
use Rattle.asl_explore.proofs.Whole.{there}

-- ---- a step that shows that an end is reached

-- it ends the execution
pub at-end : (o : Orders) (s : Setup) (w : World) (p : List ℕ) → IsTried o s w p → is_over (step s w p (due w p)).outcome ≡ true → CanEnd o s w
at-end o s w p tried e = record { places = p ∷ []; tried = (tried, tt); ends = e }

-- it leads to a world from which one is reached
pub before-end : (o : Orders) (s : Setup) (ws : List World) (w : World) (p : List ℕ) (i : ℕ) → IsTried o s w p → StandsAt ws i (go s w p) → Reaches o s ws i → CanEnd o s w
before-end o s ws w p i tried at reaches =
    let x : CanEnd o s (go s w p) = subst (CanEnd o s) (at.1 w) (reaches w) in
    record { places = p ∷ x.places; tried = (tried, x.tried); ends = x.ends }

-- where a step of the world of this number leads so
pub lead-end : (o : Orders) (s : Setup) (ws : List World) (i : ℕ) (l : Lead) → l ≡ End → ((d : World) → IsLead o s ws (get_or ws i d) l) → Reaches o s ws i
lead-end o s ws i l e h d = subst (IsLead o s ws (get_or ws i d)) e (h d)

pub lead-world : (o : Orders) (s : Setup) (ws : List World) (i next : ℕ) (l : Lead) → l ≡ At next → ((d : World) → IsLead o s ws (get_or ws i d) l) → LeadsOn o s ws i next
lead-world o s ws i next l e h reaches d = (subst (IsLead o s ws (get_or ws i d)) e (h d)) reaches

-- ---- which steps are tried

-- a step at the least moment at which a branch may
pub soon-tried : (o : Orders) (s : Setup) (w : World) (p : List ℕ) (bound : Option ℕ) (t : ℕ) → MayStep s (bare w) p → due (bare w) p ≡ t → IsSoon o bound t → IfSome bound (IsLeast s (bare w)) → IsTried o s (bare w) p
soon-tried Every s w p bound t may is soon least = tt
soon-tried Prompt s w p bound t may is soon least = (may, of bound (soon refl) least)
  where
    of : (b : Option ℕ) → (m : ℕ) × ((b ≡ Some m) × (t ≤ m)) → IfSome b (IsLeast s (bare w)) → (q : List ℕ) → MayStep s (bare (bare w)) q → due (bare w) p ≤ due (bare w) q
    of None x l q m = let e : None ≡ Some x.0 = x.1.0 in absurd (cc)
    of (Some k) x l q m =
        let e : k ≡ x.0 = cc (x.1.0) in
        let le = x.1.1 in
        let g : k ≤ due (bare w) q = l q m in
        omega (arith, is, e, le, g)

-- ---- the least moment at which a branch may step

-- where the branch at this place may step, the least moment so far isn't later
abbrev pub IsReckoned : Setup → World → Option ℕ → Earliest → Type 0
IsReckoned s w least e = MayStep s w e.place → (m : ℕ) × ((least ≡ Some m) × (m ≤ due w e.place))

pub least-of : (s : Setup) (w : World) (turns : List Earliest) (least : Option ℕ) (i : ℕ) → turns ≡ earliest w.last w.branches → length turns ≤ i → AllWithin (IsReckoned s w least) turns 0 i → IfSome least (IsLeast s w)
least-of s w turns None i is le h = tt
least-of s w turns (Some m) i is le h = λ q may. so q may (record_at q w.branches) refl
  where
    all : All (IsReckoned s w (Some m)) (earliest w.last w.branches)
    all = subst (All (IsReckoned s w (Some m))) is (λ k d l. h k d (omega arith) (omega (arith, l, le)))

    so : (q : List ℕ) → MayStep s w q → (r : Option Record) → record_at q w.branches ≡ r → m ≤ due w q
    so q may None e = let x : false ≡ true = ap is_some (sym e) ∙ may.0 in absurd (cc)
    so q may (Some r) e =
        let x = there w.last q w.branches r (IsReckoned s w (Some m)) all e may in
        let n : m ≡ x.0 = cc (x.1.0) in
        let l = x.1.1 in
        omega (arith, n, l)

-- where there is none so far, no branch may step
pub none-of : (s : Setup) (w : World) (turns : List Earliest) (least : Option ℕ) (i : ℕ) → turns ≡ earliest w.last w.branches → length turns ≤ i → is_none least ≡ true → AllWithin (IsReckoned s w least) turns 0 i → NoneMayStep s w
none-of s w turns (Some m) i is le none h = absurd (cc)
none-of s w turns None i is le none h = λ q may. so q may (record_at q w.branches) refl
  where
    all : All (IsReckoned s w None) (earliest w.last w.branches)
    all = subst (All (IsReckoned s w None)) is (λ k d l. h k d (omega arith) (omega (arith, l, le)))

    so : (q : List ℕ) → MayStep s w q → (r : Option Record) → record_at q w.branches ≡ r → ⊥
    so q may None e = let x : false ≡ true = ap is_some (sym e) ∙ may.0 in (cc)
    so q may (Some r) e =
        let x = there w.last q w.branches r (IsReckoned s w None) all e may in
        let none : None ≡ Some x.0 = x.1.0 in (cc)

-- the next branch may step, so one may at the lesser moment
pub open-more : (s : Setup) (w : World) (p : List ℕ) (a : Option ℕ) (k m : ℕ) → MayStep s w p × (due w p ≡ m) → IfSome a (IsOpenAt s w) → (k ≡ m) ⊎ (a ≡ Some k) → IsOpenAt s w k
open-more s w p a k m may h (inl e) = record { place = p; may = may.0; due_is = may.1 ∙ sym e }
open-more s w p a k m may h (inr e) = subst (λ (o : Option ℕ). IfSome o (IsOpenAt s w)) e h

reckoned-later : (s : Setup) (w : World) (a b : Option ℕ) (e : Earliest) → ((m : ℕ) → a ≡ Some m → (k : ℕ) × ((b ≡ Some k) × (k ≤ m))) → IsReckoned s w a e → IsReckoned s w b e
reckoned-later s w a b e f h may =
    let x = h may in
    let y = f x.0 x.1.0 in
    let l = x.1.1 in
    let g = y.1.1 in
    (y.0, (y.1.0, omega (arith, l, g)))

-- the next branch may step, at this moment
pub reckoned-some : (s : Setup) (w : World) (turns : List Earliest) (i : ℕ) (turn : Earliest) (a : Option ℕ) (k m : ℕ) → i < length turns → turn ≡ get_or turns i turn → due w turn.place ≡ m → k ≤ m → IfSome a (λ b. k ≤ b) → AllWithin (IsReckoned s w a) turns 0 i → AllWithin (IsReckoned s w (Some k)) turns 0 (i + 1)
reckoned-some s w turns i turn a k m l e is le before h =
    AllWithin-more (IsReckoned s w (Some k)) turns 0 i
    (λ j d z lt. reckoned-later s w a (Some k) (get_or turns j d) (earlier a before) (h j d z lt))
    (λ d. subst (IsReckoned s w (Some k)) (get_or_read turns i turn l e d) (λ may. (k, (refl, omega (arith, is, le)))))
  where
    earlier : (o : Option ℕ) → IfSome o (λ b. k ≤ b) → (n : ℕ) → o ≡ Some n → (j : ℕ) × ((Some k ≡ Some j) × (j ≤ n))
    earlier None b n q = absurd (cc)
    earlier (Some x) b n q = let same : x ≡ n = cc (q) in let g : k ≤ x = b in (k, (refl, omega (arith, same, g)))

-- it may not
pub reckoned-none : (s : Setup) (w : World) (turns : List Earliest) (i : ℕ) (turn : Earliest) (a : Option ℕ) → i < length turns → turn ≡ get_or turns i turn → (MayStep s w turn.place → ⊥) → AllWithin (IsReckoned s w a) turns 0 i → AllWithin (IsReckoned s w a) turns 0 (i + 1)
reckoned-none s w turns i turn a l e never h =
    AllWithin-more (IsReckoned s w a) turns 0 i h
    (λ d. subst (IsReckoned s w a) (get_or_read turns i turn l e d) (λ may. absurd (never may)))

-- ---- what is known

pub link-at : (o : Orders) (s : Setup) (ws : List World) (known : List Bool) (links : List Link) (i : ℕ) (l : Link) → i < length links → l ≡ get_or links i l → AreReaching o s ws known links → IsLink o s ws l
link-at o s ws known links i l lt e h = subst (IsLink o s ws) (sym e) (h.links_so i l lt)

-- a world that stands at a number shows it of this number
pub at-number : (o : Orders) (s : Setup) (ns : List Node) (i : ℕ) (n : Node) → i < length ns → n ≡ get_or ns i n → CanEnd o s (bare n.world) → Reaches o s (worlds_of ns) i
at-number o s [] i n l e x d = absurd (omega (arith, l))
at-number o s (y ∷ ns) zero n l e x d = subst (λ (z : Node). CanEnd o s (bare z.world)) e x
at-number o s (y ∷ ns) (suc i) n l e x d = at-number o s ns i n (omega (arith, l)) e x d

-- of one more in a row
pub before-more : (known : List Bool) (n : ℕ) → AllBefore known n → is_known known n ≡ true → AllBefore known (n + 1)
before-more known n h k i l = by (nat_lt i n) refl
  where
    by : (c : Bool) → nat_lt i n ≡ c → is_known known i ≡ true
    by true e = h i (grind (arith, nat_tests, e))
    by false e =
        let g : n ≤ i = grind (arith, nat_tests, e) in
        let is : n ≡ i = omega (arith, g, l) in
        ap (is_known known) (sym is) ∙ k

-- ---- by the parts of a step

module _ (o : Orders) (s z : Setup) (w v u : World) (p : List ℕ) (bound : Option ℕ) (t : ℕ) (ez : z ≡ s) (ev : v ≡ bare w) (may : MayStep z v p × (due v p ≡ t)) (soon : IsSoon o bound t) (eu : u ≡ step z v p t) (least : IfSome bound (IsLeast s (bare w))) where
  there-too : MayStep s (bare w) p × (due (bare w) p ≡ t)
  there-too = subst (λ (x : Setup). MayStep x (bare w) p × (due (bare w) p ≡ t)) ez (subst (λ (y : World). MayStep z y p × (due y p ≡ t)) ev may)

  tried : IsTried o s (bare w) p
  tried = soon-tried o s w p bound t there-too.0 there-too.1 soon least

  stepped-is : u ≡ step s (bare w) p (due (bare w) p)
  stepped-is = eu ∙ (λ i. step (ez i) (ev i) p t) ∙ ap (step s (bare w) p) (sym there-too.1)

  -- it ended the execution
  pub leads-end : is_over u.outcome ≡ true → CanEnd o s (bare w)
  leads-end over = at-end o s (bare w) p tried (ap (λ (x : World). is_over x.outcome) (sym stepped-is) ∙ over)

  -- it led to a world that was met
  pub leads-on : (ws : List World) (i : ℕ) → StandsAt ws i (bare u) → Reaches o s ws i → CanEnd o s (bare w)
  leads-on ws i at = before-end o s ws (bare w) p i tried (subst (λ (x : World). StandsAt ws i (bare x)) stepped-is at)

-- a step of the world of this number leads so
pub lead-at : (o : Orders) (s z : Setup) (ns : List Node) (i : ℕ) (n : Node) (bound : Option ℕ) (l : Lead) → z ≡ s → i < length ns → n ≡ get_or ns i n → IfSome bound (IsLeast s (bare n.world)) → (IfSome bound (IsLeast z (bare n.world)) → IsLead o z (worlds_of ns) (bare n.world) l) → (d : World) → IsLead o s (worlds_of ns) (get_or (worlds_of ns) i d) l
lead-at o s z ns i n bound l ez lt e least leads d =
    subst (λ (x : World). IsLead o s (worlds_of ns) x l) (sym (node-at ns i n d lt e))
    ((subst (λ (x : Setup). IfSome bound (IsLeast x (bare n.world)) → IsLead o x (worlds_of ns) (bare n.world) l) ez leads) least)
