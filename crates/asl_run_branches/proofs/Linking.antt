-- What branches know of events, after a step.
use Rattle.std.proofs.Common.{ℕ, ◌≡◌, ◌+◌, ◌≤◌, ◌==◌, ◌&&◌, ◌||◌, Bool, true, false, not, List, [], ◌∷◌, ◌++◌, map, refl, sym, ◌∙◌, ap, subst, arith, cond, length, max, Some, None}
use Rattle.std.proofs.lemmas.Grind.{common_steps}
use Rattle.std.proofs.lemmas.List.Folds.{list_any-append}
use Rattle.asl_history.specs.declared.event.Event.{Event}
use Rattle.asl_history.specs.Places.{is_prefix}
use Rattle.asl_history.specs.Events.{previous_id, IsHistory}
use Rattle.asl_step.specs.declared.record.Record.{Record}
use Rattle.std.specs.Prelude.{is_some}
use Rattle.asl_step.specs.declared.effect.Children.{Children}
use Rattle.asl_step.specs.declared.effect.Children.TheVariants.{Kept, Removed, Forked as Made}
use Rattle.asl_run_branches.specs.Branches.{Branch, same_place, first_of, record_at}
use Rattle.asl_run_branches.specs.Trees.{Held, Node, node_of, below_of, plain}
use Rattle.asl_run_branches.specs.Changes.{newborns, kids_of, Change, grown, litter, touched, node_after, nodes_after}
use Rattle.asl_run_branches.specs.private.Links.{known, latest, is_there, KnowUpTo, IsLinked}
use Rattle.asl_run_branches.proofs.Reading.{eq-true, latest-append}
use Rattle.asl_run_branches.proofs.Changing.{after_held}

and-left : (a b : Bool) → (a && b) ≡ true → a ≡ true
and-left true b h = refl
and-left false b h = h

and-right : (a b : Bool) → (a && b) ≡ true → b ≡ true
and-right true b h = h
and-right false b h = (cc)

true-eq : (x y : ℕ) → (x == y) ≡ true → x ≡ y
true-eq x y h = grind (arith, common_steps)

pub same-eq : (p q : List ℕ) → same_place p q ≡ true → p ≡ q
same-eq [] [] h = refl
same-eq [] (y ∷ ys) h = (cc)
same-eq (x ∷ xs) [] h = (cc)
same-eq (x ∷ xs) (y ∷ ys) h = let a = true-eq x y (and-left (x == y) (same_place xs ys) h) in let b = same-eq xs ys (and-right (x == y) (same_place xs ys) h) in rw (a, b) refl

same-self : (p : List ℕ) → same_place p p ≡ true
same-self [] = refl
same-self (x ∷ xs) = rw (eq-true x) (same-self xs)

-- a step that tells an event: its id is here
pub record Tell : Type 0 where
  pub after : Record
  pub id : ℕ
  pub keeps : Bool
  pub made : List Node

abbrev pub full : Tell → Change
full c = record { after = c.after; told = Some c.id; keeps = c.keeps; made = c.made }

-- ---- what is known is no more than the bound

known-most : (q r : List ℕ) (h : Held) (n : ℕ) → h.at ≤ n → h.under ≤ n → known q r h ≤ n
known-most [] [] h n a u = u
known-most [] (y ∷ ys) h n a u = omega arith
known-most (x ∷ xs) [] h n a u = a
known-most (x ∷ xs) (y ∷ ys) h n a u = step (x == y) (known-most xs ys h n a u)
  where
    step : (b : Bool) → known xs ys h ≤ n → cond b (known xs ys h) 0 ≤ n
    step true k = k
    step false k = omega arith

latest-most : (q : List ℕ) (n : ℕ) (bs : List Node) → KnowUpTo n bs → latest q bs ≤ n
latest-most q n [] k = omega arith
latest-most q n (b ∷ bs) k = let x = known-most q b.place b.held n k.0.0 k.0.1 in let y = latest-most q n bs k.1 in omega (arith, x, y)

more-known : (n m : ℕ) (bs : List Node) → n ≤ m → KnowUpTo n bs → KnowUpTo m bs
more-known n m [] l k = tt
more-known n m (b ∷ bs) l k = ((omega (arith, k.0.0), omega (arith, k.0.1)), more-known n m bs l k.1)

know-append : (n : ℕ) (xs ys : List Node) → KnowUpTo n xs → KnowUpTo n ys → KnowUpTo n (xs ++ ys)
know-append n [] ys a b = b
know-append n (x ∷ xs) ys a b = (a.0, know-append n xs ys a.1 b)

know-grown : (n : ℕ) (p : List ℕ) (bs : List Node) → KnowUpTo n bs → KnowUpTo n (grown p bs)
know-grown n p [] k = tt
know-grown n p (b ∷ bs) k = (k.0, know-grown n p bs k.1)

know-one : (s k a : Bool) (n : ℕ) (p : List ℕ) (c : Tell) (b : Node) → n ≤ c.id → KnowUpTo 0 c.made → (b.held.at ≤ n) × (b.held.under ≤ n) → KnowUpTo c.id (cond s (litter p (full c) b.held) (cond k [] (cond a (touched (Some c.id) b ∷ []) (b ∷ []))))
know-one true k a n p c b l m h = ((omega arith, omega arith), know-grown c.id p c.made (more-known 0 c.id c.made (omega arith) m))
know-one false true a n p c b l m h = tt
know-one false false true n p c b l m h = ((omega (arith, h.0), omega arith), tt)
know-one false false false n p c b l m h = ((omega (arith, h.0), omega (arith, h.1)), tt)

know-after : (n : ℕ) (p : List ℕ) (c : Tell) (bs : List Node) → n ≤ c.id → KnowUpTo 0 c.made → KnowUpTo n bs → KnowUpTo c.id (nodes_after p (full c) bs)
know-after n p c [] l m k = tt
know-after n p c (b ∷ bs) l m k = know-append c.id (node_after p (full c) b) (nodes_after p (full c) bs) (know-one (same_place p b.place) (is_prefix p b.place && not c.keeps) (is_prefix b.place p) n p c b l m k.0) (know-after n p c bs l m k.1)

-- ---- along the place, the new event is known

known-new : (p q : List ℕ) (c : Tell) (h : Held) → is_prefix p q ≡ true → known q p (after_held (full c) h) ≡ c.id
known-new [] [] c h e = refl
known-new [] (y ∷ ys) c h e = refl
known-new (x ∷ xs) [] c h e = (cc)
known-new (x ∷ xs) (y ∷ ys) c h e = let f = true-eq x y (and-left (x == y) (is_prefix xs ys) e) in rw (f, eq-true y) (known-new xs ys c h (and-right (x == y) (is_prefix xs ys) e))

known-self : (q : List ℕ) (h : Held) → known q q h ≡ h.under
known-self [] h = refl
known-self (x ∷ xs) h = rw (eq-true x) (known-self xs h)

at-or-under : (s k a : Bool) (p q : List ℕ) (c : Tell) (b : Node) → is_prefix p q ≡ true → s ≡ true → c.id ≤ latest q (cond s (litter p (full c) b.held) (cond k [] (cond a (touched (Some c.id) b ∷ []) (b ∷ []))))
at-or-under true k a p q c b h e = let x = known-new p q c b.held h in omega (arith, x)
at-or-under false k a p q c b h e = (cc)

below-knows : (p q : List ℕ) (c : Tell) (bs : List Node) → is_prefix p q ≡ true → is_there p bs ≡ true → c.id ≤ latest q (nodes_after p (full c) bs)
below-knows p q c [] h t = (cc)
below-knows p q c (b ∷ bs) h t = step (same_place p b.place) refl t (λ z. below-knows p q c bs h z)
  where
    step : (s : Bool) → same_place p b.place ≡ s → (s || is_there p bs) ≡ true → (is_there p bs ≡ true → c.id ≤ latest q (nodes_after p (full c) bs)) → c.id ≤ latest q (nodes_after p (full c) (b ∷ bs))
    step true e z more = let x = at-or-under (same_place p b.place) (is_prefix p b.place && not c.keeps) (is_prefix b.place p) p q c b h e in omega (arith, x, latest-append q (node_after p (full c) b) (nodes_after p (full c) bs))
    step false e z more = let x = more z in omega (arith, x, latest-append q (node_after p (full c) b) (nodes_after p (full c) bs))

-- ---- above the place, too

prefix-self : (p : List ℕ) → is_prefix p p ≡ true
prefix-self [] = refl
prefix-self (x ∷ xs) = rw (eq-true x) (prefix-self xs)

prefix-append : (p q : List ℕ) → is_prefix p (p ++ q) ≡ true
prefix-append [] q = refl
prefix-append (x ∷ xs) q = rw (eq-true x) (prefix-append xs q)

prefix-trans : (p q r : List ℕ) → is_prefix p q ≡ true → is_prefix q r ≡ true → is_prefix p r ≡ true
prefix-trans [] q r a b = refl
prefix-trans (x ∷ xs) [] r a b = (cc)
prefix-trans (x ∷ xs) (y ∷ ys) [] a b = (cc)
prefix-trans (x ∷ xs) (y ∷ ys) (z ∷ zs) a b =
    let e : x ≡ y = true-eq x y (and-left (x == y) (is_prefix xs ys) a) in
    let f : y ≡ z = true-eq y z (and-left (y == z) (is_prefix ys zs) b) in
    rw (e, f, eq-true z) (prefix-trans xs ys zs (and-right (x == y) (is_prefix xs ys) a) (and-right (y == z) (is_prefix ys zs) b))

-- what is under p is not at q, nor above q
nowhere : (s : Bool) (p q r : List ℕ) → is_prefix p q ≡ false → is_prefix p r ≡ true → same_place q r ≡ s → s ≡ false
nowhere true p q r n u e = let t : is_prefix p q ≡ true = subst (λ z. is_prefix p z ≡ true) (sym (same-eq q r e)) u in (cc)
nowhere false p q r n u e = refl

not-above : (s : Bool) (p q r : List ℕ) → is_prefix p q ≡ false → is_prefix p r ≡ true → is_prefix r q ≡ s → s ≡ false
not-above true p q r n u e = let t = prefix-trans p r q u e in (cc)
not-above false p q r n u e = refl

not-same : (s : Bool) (p q : List ℕ) → is_prefix p q ≡ false → same_place p q ≡ s → s ≡ false
not-same true p q n e = let t : is_prefix p q ≡ true = subst (λ z. is_prefix p z ≡ true) (same-eq p q e) (prefix-self p) in (cc)
not-same false p q n e = refl

at-above : (p q : List ℕ) (c : Tell) (b : Node) → is_prefix p q ≡ false → is_prefix q p ≡ true → b.place ≡ q → c.id ≤ latest q (node_after p (full c) b)
at-above p q c b n h e =
    let s : same_place p b.place ≡ false = rw e (not-same (same_place p q) p q n refl) in
    let k : is_prefix p b.place ≡ false = rw e n in
    let a : is_prefix b.place p ≡ true = rw e h in
    let x : known q b.place (record { place = b.held.place; current = b.held.current; at = b.held.at; under = c.id }) ≡ c.id = rw e (known-self q (record { place = b.held.place; current = b.held.current; at = b.held.at; under = c.id })) in
    rw (s, k, a) (omega (arith, x))

above-knows : (p q : List ℕ) (c : Tell) (bs : List Node) → is_prefix p q ≡ false → is_prefix q p ≡ true → is_there q bs ≡ true → c.id ≤ latest q (nodes_after p (full c) bs)
above-knows p q c [] n h t = (cc)
above-knows p q c (b ∷ bs) n h t = step (same_place q b.place) refl t (λ z. above-knows p q c bs n h z)
  where
    step : (s : Bool) → same_place q b.place ≡ s → (s || is_there q bs) ≡ true → (is_there q bs ≡ true → c.id ≤ latest q (nodes_after p (full c) bs)) → c.id ≤ latest q (nodes_after p (full c) (b ∷ bs))
    step true e z more = let x = at-above p q c b n h (sym (same-eq q b.place e)) in omega (arith, x, latest-append q (node_after p (full c) b) (nodes_after p (full c) bs))
    step false e z more = let x = more z in omega (arith, x, latest-append q (node_after p (full c) b) (nodes_after p (full c) bs))

-- ---- which places there are, but for those under p

grown-none : (p q : List ℕ) (bs : List Node) → is_prefix p q ≡ false → is_there q (grown p bs) ≡ false
grown-none p q [] n = refl
grown-none p q (b ∷ bs) n = rw (nowhere (same_place q (p ++ b.place)) p q (p ++ b.place) n (prefix-append p b.place) refl) (grown-none p q bs n)

litter-none : (p q : List ℕ) (c : Tell) (h : Held) → is_prefix p q ≡ false → is_there q (litter p (full c) h) ≡ false
litter-none p q c h n = rw (nowhere (same_place q p) p q p n (prefix-self p) refl) (grown-none p q c.made n)

or-no : (a : Bool) → (a || false) ≡ a
or-no true = refl
or-no false = refl

there-node : (s u k a : Bool) (p q : List ℕ) (c : Tell) (b : Node) → is_prefix p q ≡ false → same_place p b.place ≡ s → is_prefix p b.place ≡ u → is_there q (cond s (litter p (full c) b.held) (cond (u && k) [] (cond a (touched (Some c.id) b ∷ []) (b ∷ [])))) ≡ same_place q b.place
there-node true u k a p q c b n es eu =
    let t : is_prefix p b.place ≡ true = subst (λ z. is_prefix p z ≡ true) (same-eq p b.place es) (prefix-self p) in
    litter-none p q c b.held n ∙ sym (nowhere (same_place q b.place) p q b.place n t refl)
there-node false true true a p q c b n es eu = sym (nowhere (same_place q b.place) p q b.place n eu refl)
there-node false true false true p q c b n es eu = or-no (same_place q b.place)
there-node false true false false p q c b n es eu = or-no (same_place q b.place)
there-node false false k true p q c b n es eu = or-no (same_place q b.place)
there-node false false k false p q c b n es eu = or-no (same_place q b.place)

there-old : (p q : List ℕ) (c : Tell) (bs : List Node) → is_prefix p q ≡ false → is_there q (nodes_after p (full c) bs) ≡ is_there q bs
there-old p q c [] n = refl
there-old p q c (b ∷ bs) n =
    list_any-append (λ b. same_place q b.place) (node_after p (full c) b) (nodes_after p (full c) bs)
    ∙ rw (there-node (same_place p b.place) (is_prefix p b.place) (not c.keeps) (is_prefix b.place p) p q c b n refl refl, there-old p q c bs n) refl

-- ---- apart from the place, nothing changes

known-no : (q r : List ℕ) (h : Held) → is_prefix r q ≡ false → known q r h ≡ 0
known-no [] [] h n = (cc)
known-no [] (y ∷ ys) h n = refl
known-no (x ∷ xs) [] h n = (cc)
known-no (x ∷ xs) (y ∷ ys) h n = step (x == y) refl (λ z. known-no xs ys h z)
  where
    step : (b : Bool) → (x == y) ≡ b → (is_prefix ys xs ≡ false → known xs ys h ≡ 0) → cond b (known xs ys h) 0 ≡ 0
    step true e more = let s : (y == x) ≡ true = rw (true-eq x y e) (eq-true y) in more (rw s at n)
    step false e more = refl

known-at : (q r : List ℕ) (h : Held) (m : ℕ) → same_place q r ≡ false → known q r (record { place = h.place; current = h.current; at = h.at; under = m }) ≡ known q r h
known-at [] [] h m n = (cc)
known-at [] (y ∷ ys) h m n = refl
known-at (x ∷ xs) [] h m n = refl
known-at (x ∷ xs) (y ∷ ys) h m n = step (x == y) n (λ z. known-at xs ys h m z)
  where
    step : (b : Bool) → (b && same_place xs ys) ≡ false → (same_place xs ys ≡ false → known xs ys (record { place = h.place; current = h.current; at = h.at; under = m }) ≡ known xs ys h) → cond b (known xs ys (record { place = h.place; current = h.current; at = h.at; under = m })) 0 ≡ cond b (known xs ys h) 0
    step true e more = more e
    step false e more = refl

grown-apart : (p q : List ℕ) (bs : List Node) → is_prefix p q ≡ false → latest q (grown p bs) ≡ 0
grown-apart p q [] n = refl
grown-apart p q (b ∷ bs) n = rw (known-no q (p ++ b.place) b.held (not-above (is_prefix (p ++ b.place) q) p q (p ++ b.place) n (prefix-append p b.place) refl), grown-apart p q bs n) refl

litter-apart : (p q : List ℕ) (c : Tell) (h : Held) → is_prefix p q ≡ false → latest q (litter p (full c) h) ≡ 0
litter-apart p q c h n = rw (known-no q p (after_held (full c) h) n, grown-apart p q c.made n) refl

max-zero : (a : ℕ) → max a 0 ≡ a
max-zero a = omega arith

not-that : (s : Bool) (p q r : List ℕ) → is_prefix q p ≡ false → is_prefix r p ≡ true → same_place q r ≡ s → s ≡ false
not-that true p q r n h e = let t : is_prefix q p ≡ true = subst (λ z. is_prefix z p ≡ true) (sym (same-eq q r e)) h in (cc)
not-that false p q r n h e = refl

apart-one : (s u k a : Bool) (p q : List ℕ) (c : Tell) (b : Node) → is_prefix p q ≡ false → is_prefix q p ≡ false → same_place p b.place ≡ s → is_prefix p b.place ≡ u → is_prefix b.place p ≡ a → latest q (cond s (litter p (full c) b.held) (cond (u && k) [] (cond a (touched (Some c.id) b ∷ []) (b ∷ [])))) ≡ known q b.place b.held
apart-one true u k a p q c b n m es eu ea =
    let t : is_prefix p b.place ≡ true = subst (λ z. is_prefix p z ≡ true) (same-eq p b.place es) (prefix-self p) in
    litter-apart p q c b.held n ∙ sym (known-no q b.place b.held (not-above (is_prefix b.place q) p q b.place n t refl))
apart-one false true true a p q c b n m es eu ea = sym (known-no q b.place b.held (not-above (is_prefix b.place q) p q b.place n eu refl))
apart-one false true false true p q c b n m es eu ea = max-zero (known q b.place (touched (Some c.id) b).held) ∙ known-at q b.place b.held c.id (not-that (same_place q b.place) p q b.place m ea refl)
apart-one false true false false p q c b n m es eu ea = max-zero (known q b.place b.held)
apart-one false false k true p q c b n m es eu ea = max-zero (known q b.place (touched (Some c.id) b).held) ∙ known-at q b.place b.held c.id (not-that (same_place q b.place) p q b.place m ea refl)
apart-one false false k false p q c b n m es eu ea = max-zero (known q b.place b.held)

latest-apart : (p q : List ℕ) (c : Tell) (bs : List Node) → is_prefix p q ≡ false → is_prefix q p ≡ false → latest q (nodes_after p (full c) bs) ≡ latest q bs
latest-apart p q c [] n m = refl
latest-apart p q c (b ∷ bs) n m =
    latest-append q (node_after p (full c) b) (nodes_after p (full c) bs)
    ∙ rw (apart-one (same_place p b.place) (is_prefix p b.place) (not c.keeps) (is_prefix b.place p) p q c b n m refl refl refl, latest-apart p q c bs n m) refl

-- ---- the links are kept

-- events at p, the last of which has this id
abbrev pub IsToldAt : List ℕ → ℕ → List Event → List Event → Type 0
IsToldAt p id es more = (q : List ℕ) → previous_id q more ≡ cond (is_prefix p q || is_prefix q p) id (previous_id q es)

link-cases : (u a : Bool) (p q : List ℕ) (c : Tell) (bs : List Node) (es : List Event) → is_prefix p q ≡ u → is_prefix q p ≡ a → is_there p bs ≡ true → KnowUpTo 0 c.made → length es ≤ c.id → IsLinked bs es → is_there q (nodes_after p (full c) bs) ≡ true → latest q (nodes_after p (full c) bs) ≡ cond (u || a) c.id (previous_id q es)
link-cases true a p q c bs es eu ea t m i l h =
    let low = below-knows p q c bs eu t in
    let high = latest-most q c.id (nodes_after p (full c) bs) (know-after (length es) p c bs i m l.known) in
    omega (arith, low, high)
link-cases false true p q c bs es eu ea t m i l h =
    let low = above-knows p q c bs eu ea (sym (there-old p q c bs eu) ∙ h) in
    let high = latest-most q c.id (nodes_after p (full c) bs) (know-after (length es) p c bs i m l.known) in
    omega (arith, low, high)
link-cases false false p q c bs es eu ea t m i l h =
    latest-apart p q c bs eu ea ∙ l.links q (sym (there-old p q c bs eu) ∙ h)

-- where the step tells events, of which its new children know nothing
pub links-kept : (p : List ℕ) (c : Tell) (bs : List Node) (es more : List Event) → is_there p bs ≡ true → KnowUpTo 0 c.made → length es ≤ c.id → c.id ≡ length more → IsHistory more → IsToldAt p c.id es more → IsLinked bs es → IsLinked (nodes_after p (full c) bs) more
links-kept p c bs es more t m i n h told l = record {
  told = h;
  known = subst (λ n. KnowUpTo n (nodes_after p (full c) bs)) n (know-after (length es) p c bs i m l.known);
  links = λ q there. link-cases (is_prefix p q) (is_prefix q p) p q c bs es refl refl t m i l there ∙ sym (told q);
}

-- ---- and where it tells none, and leaves the branches under it

abbrev pub silent : Record → Change
silent r = record { after = r; told = None; keeps = true; made = [] }

no-way : (u : Bool) → (u && false) ≡ false
no-way true = refl
no-way false = refl

known-by : (q r : List ℕ) (h g : Held) → h.at ≡ g.at → h.under ≡ g.under → known q r h ≡ known q r g
known-by [] [] h g a u = u
known-by [] (y ∷ ys) h g a u = refl
known-by (x ∷ xs) [] h g a u = a
known-by (x ∷ xs) (y ∷ ys) h g a u = ap (λ k. cond (x == y) k 0) (known-by xs ys h g a u)

silent-known : (s a : Bool) (p q : List ℕ) (r : Record) (b : Node) → same_place p b.place ≡ s → latest q (cond s (litter p (silent r) b.held) (cond false [] (cond a (touched None b ∷ []) (b ∷ [])))) ≡ known q b.place b.held
silent-known true a p q r b e = max-zero (known q p (after_held (silent r) b.held)) ∙ known-by q p (after_held (silent r) b.held) b.held refl refl ∙ ap (λ z. known q z b.held) (same-eq p b.place e)
silent-known false true p q r b e = max-zero (known q b.place b.held)
silent-known false false p q r b e = max-zero (known q b.place b.held)

silent-latest : (p q : List ℕ) (r : Record) (bs : List Node) → latest q (nodes_after p (silent r) bs) ≡ latest q bs
silent-latest p q r [] = refl
silent-latest p q r (b ∷ bs) = latest-append q (node_after p (silent r) b) (nodes_after p (silent r) bs) ∙ rw (no-way (is_prefix p b.place), silent-known (same_place p b.place) (is_prefix b.place p) p q r b refl, silent-latest p q r bs) refl

silent-one : (s a : Bool) (p : List ℕ) (r : Record) (m : ℕ) (b : Node) → (b.held.at ≤ m) × (b.held.under ≤ m) → KnowUpTo m (cond s (litter p (silent r) b.held) (cond false [] (cond a (touched None b ∷ []) (b ∷ []))))
silent-one true a p r m b h = (h, tt)
silent-one false true p r m b h = (h, tt)
silent-one false false p r m b h = (h, tt)

silent-know : (p : List ℕ) (r : Record) (m : ℕ) (bs : List Node) → KnowUpTo m bs → KnowUpTo m (nodes_after p (silent r) bs)
silent-know p r m [] k = tt
silent-know p r m (b ∷ bs) k = know-append m (node_after p (silent r) b) (nodes_after p (silent r) bs) (rw (no-way (is_prefix p b.place)) (silent-one (same_place p b.place) (is_prefix b.place p) p r m b k.0)) (silent-know p r m bs k.1)

silent-place : (s a : Bool) (p q : List ℕ) (r : Record) (b : Node) → same_place p b.place ≡ s → is_there q (cond s (litter p (silent r) b.held) (cond false [] (cond a (touched None b ∷ []) (b ∷ [])))) ≡ same_place q b.place
silent-place true a p q r b e = rw (sym (same-eq p b.place e)) (or-no (same_place q p))
silent-place false true p q r b e = or-no (same_place q b.place)
silent-place false false p q r b e = or-no (same_place q b.place)

silent-there : (p q : List ℕ) (r : Record) (bs : List Node) → is_there q (nodes_after p (silent r) bs) ≡ is_there q bs
silent-there p q r [] = refl
silent-there p q r (b ∷ bs) =
    list_any-append (λ b. same_place q b.place) (node_after p (silent r) b) (nodes_after p (silent r) bs)
    ∙ rw (no-way (is_prefix p b.place), silent-place (same_place p b.place) (is_prefix b.place p) p q r b refl, silent-there p q r bs) refl

pub links-still : (p : List ℕ) (r : Record) (bs : List Node) (es : List Event) → IsLinked bs es → IsLinked (nodes_after p (silent r) bs) es
links-still p r bs es l = record {
  told = l.told;
  known = silent-know p r (length es) bs l.known;
  links = λ q there. silent-latest p q r bs ∙ l.links q (sym (silent-there p q r bs) ∙ there);
}

-- ---- what a step knows

there-one : (s : Bool) (b : Branch) (bs : List Branch) (t : Bool) → is_some (first_of bs) ≡ t → is_some (first_of (cond s (b ∷ bs) bs)) ≡ (s || t)
there-one true b bs t e = refl
there-one false b bs t e = e

-- a branch runs at a place where a node is
pub there-is : (p : List ℕ) (ns : List Node) → is_some (record_at p (map plain ns)) ≡ is_there p ns
there-is p [] = refl
there-is p (n ∷ ns) = there-one (same_place p n.place) (plain n) _ (is_there p ns) (there-is p ns)

newborns-unknown : (p : List ℕ) (i : ℕ) (rs : List Record) → KnowUpTo 0 (map node_of (below_of i (newborns p i rs)))
newborns-unknown p i [] = tt
newborns-unknown p i (r ∷ rs) = ((omega arith, omega arith), newborns-unknown p (i + 1) rs)

-- no event is told of new children
pub kids-unknown : (p : List ℕ) (c : Children) → KnowUpTo 0 (map node_of (below_of 0 (kids_of p c)))
kids-unknown p Kept = tt
kids-unknown p Removed = tt
kids-unknown p (Made rs) = newborns-unknown p 0 rs
