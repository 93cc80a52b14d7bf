-- What changes in a tree when something happens at a place.
use Rattle.std.proofs.Common.{ℕ, suc, zero, ◌≡◌, ◌≢◌, ◌+◌, ◌<◌, ◌≤◌, ◌&&◌, Bool, true, false, not, List, [], ◌∷◌, ◌++◌, refl, sym, ◌∙◌, ap, subst, arith, cond, length, set, Some, Option, map}
use Rattle.std.specs.Prelude.{slice_get}
use Rattle.std.proofs.lemmas.Grind.{flat_map-append}
use Rattle.std.proofs.lemmas.List.{append-nil, map-append}
use Rattle.asl_history.specs.Places.{is_prefix}
use Rattle.asl_step.specs.declared.effect.Children.{Children}
use Rattle.asl_step.specs.declared.effect.Children.TheVariants.{Kept, Removed, Forked as Made}
use Rattle.asl_step.specs.declared.record.Record.{Record}
use Rattle.asl_run_branches.specs.Branches.{same_place, numbered, made, family, branches_after}
use Rattle.asl_run_branches.specs.Trees.{Held, Spot, Family, Node, pushed, below_of, branch_of, branches_of, node_of, nodes_of, plain}
use Rattle.asl_run_branches.specs.Changes.{newborns, kids_of, litter_of, Change, change, marked, grown, litter, touched, node_after, nodes_after}
use Rattle.asl_run_branches.proofs.Reading.{neq-false, eq-true, nsub, nflat, nflat-cons, fam}

-- what the branch that steps has then
abbrev pub after_held : Change → Held → Held
after_held c h = record { place = h.place; current = c.after; at = marked c.told h.at; under = marked c.told h.under }

abbrev pub push : ℕ → Node → Node
push i b = record { place = i ∷ b.place; held = b.held }

spots-push : (i : ℕ) (ss : List Spot) → map node_of (map (pushed i) ss) ≡ map (push i) (map node_of ss)
spots-push i [] = refl
spots-push i (s ∷ ss) = ap (λ xs. node_of (pushed i s) ∷ xs) (spots-push i ss)

pub sub-push : (i : ℕ) (k : Family) → nsub i k ≡ map (push i) (nodes_of k)
sub-push i k = ap (λ xs. record { place = i ∷ []; held = k.head } ∷ xs) (spots-push i k.below)

grown-push : (n : ℕ) (ns : List ℕ) (bs : List Node) → grown (n ∷ ns) bs ≡ map (push n) (grown ns bs)
grown-push n ns [] = refl
grown-push n ns (b ∷ bs) = ap (λ xs. record { place = n ∷ (ns ++ b.place); held = b.held } ∷ xs) (grown-push n ns bs)

litter-push : (n : ℕ) (ns : List ℕ) (c : Change) (h : Held) → litter (n ∷ ns) c h ≡ map (push n) (litter ns c h)
litter-push n ns c h = ap (λ xs. record { place = n ∷ ns; held = after_held c h } ∷ xs) (grown-push n ns c.made)

one-push : (s k a : Bool) (n : ℕ) (ns : List ℕ) (c : Change) (b : Node) → cond s (litter (n ∷ ns) c b.held) (cond k [] (cond a (touched c.told (push n b) ∷ []) (push n b ∷ []))) ≡ map (push n) (cond s (litter ns c b.held) (cond k [] (cond a (touched c.told b ∷ []) (b ∷ []))))
one-push true k a n ns c b = litter-push n ns c b.held
one-push false true a n ns c b = refl
one-push false false true n ns c b = refl
one-push false false false n ns c b = refl

after-push : (n : ℕ) (ns : List ℕ) (c : Change) (b : Node) → node_after (n ∷ ns) c (push n b) ≡ map (push n) (node_after ns c b)
after-push n ns c b = rw (eq-true n) (one-push (same_place ns b.place) (is_prefix ns b.place && not c.keeps) (is_prefix b.place ns) n ns c b)

all-push : (n : ℕ) (ns : List ℕ) (c : Change) (bs : List Node) → nodes_after (n ∷ ns) c (map (push n) bs) ≡ map (push n) (nodes_after ns c bs)
all-push n ns c [] = refl
all-push n ns c (b ∷ bs) = rw (after-push n ns c b, all-push n ns c bs) (sym (map-append (push n) (node_after ns c b) (nodes_after ns c bs)))

other-push : (n m : ℕ) (ns : List ℕ) (c : Change) (bs : List Node) → m ≢ n → nodes_after (n ∷ ns) c (map (push m) bs) ≡ map (push m) bs
other-push n m ns c [] d = refl
other-push n m ns c (b ∷ bs) d = rw (neq-false n m (λ e. d (sym e)), neq-false m n d) (ap (λ xs. push m b ∷ xs) (other-push n m ns c bs d))

sub-other : (n m : ℕ) (ns : List ℕ) (c : Change) (k : Family) → m ≢ n → nodes_after (n ∷ ns) c (nsub m k) ≡ nsub m k
sub-other n m ns c k d = ap (nodes_after (n ∷ ns) c) (sub-push m k) ∙ other-push n m ns c (nodes_of k) d ∙ sym (sub-push m k)

past : (n i : ℕ) (ns : List ℕ) (c : Change) (ks : List Family) → n < i → nodes_after (n ∷ ns) c (nflat i ks) ≡ nflat i ks
past n i ns c [] l = refl
past n i ns c (k ∷ ks) l =
    ap (nodes_after (n ∷ ns) c) (nflat-cons i k ks)
    ∙ flat_map-append (node_after (n ∷ ns) c) (nsub i k) (nflat (i + 1) ks)
    ∙ rw (sub-other n i ns c k (λ x. omega arith), past n (i + 1) ns c ks (omega arith)) refl
    ∙ sym (nflat-cons i k ks)

no-child : (n i : ℕ) (ns : List ℕ) (c : Change) (ks : List Family) → i + length ks ≤ n → nodes_after (n ∷ ns) c (nflat i ks) ≡ nflat i ks
no-child n i ns c [] l = refl
no-child n i ns c (k ∷ ks) l =
    ap (nodes_after (n ∷ ns) c) (nflat-cons i k ks)
    ∙ flat_map-append (node_after (n ∷ ns) c) (nsub i k) (nflat (i + 1) ks)
    ∙ rw (sub-other n i ns c k (λ x. omega arith), no-child n (i + 1) ns c ks (omega arith)) refl
    ∙ sym (nflat-cons i k ks)

changed-sub : (n : ℕ) (ns : List ℕ) (c : Change) (k new : Family) → nodes_of new ≡ nodes_after ns c (nodes_of k) → nsub n new ≡ nodes_after (n ∷ ns) c (nsub n k)
changed-sub n ns c k new e = sub-push n new ∙ ap (map (push n)) e ∙ sym (all-push n ns c (nodes_of k)) ∙ sym (ap (nodes_after (n ∷ ns) c) (sub-push n k))

pub child-changed : (n i j : ℕ) (ns : List ℕ) (c : Change) (k new : Family) (ks : List Family) → n ≡ i + j → slice_get ks j ≡ Some k → nodes_of new ≡ nodes_after ns c (nodes_of k) → nflat i (set ks j new) ≡ nodes_after (n ∷ ns) c (nflat i ks)
child-changed n i j ns c k new [] e g a = (cc)
child-changed n i zero ns c k new (x ∷ xs) e g a =
    let m : n ≡ i = omega arith in
    let s : x ≡ k = cc in
    let same : nsub i new ≡ nodes_after (n ∷ ns) c (nsub i x) = subst (λ z. nsub z new ≡ nodes_after (n ∷ ns) c (nsub z x)) m (changed-sub n ns c x new (a ∙ ap (λ z. nodes_after ns c (nodes_of z)) (sym s))) in
    nflat-cons i new xs
    ∙ ap (λ z. z ++ nflat (i + 1) xs) same
    ∙ ap (λ z. nodes_after (n ∷ ns) c (nsub i x) ++ z) (sym (past n (i + 1) ns c xs (omega arith)))
    ∙ sym (flat_map-append (node_after (n ∷ ns) c) (nsub i x) (nflat (i + 1) xs))
    ∙ sym (ap (nodes_after (n ∷ ns) c) (nflat-cons i x xs))
child-changed n i (suc j) ns c k new (x ∷ xs) e g a =
    nflat-cons i x (set xs j new)
    ∙ ap (λ z. z ++ nflat (i + 1) (set xs j new)) (sym (sub-other n i ns c x (λ x. omega arith)))
    ∙ ap (λ z. nodes_after (n ∷ ns) c (nsub i x) ++ z) (child-changed n (i + 1) j ns c k new xs (omega arith) g a)
    ∙ sym (flat_map-append (node_after (n ∷ ns) c) (nsub i x) (nflat (i + 1) xs))
    ∙ sym (ap (nodes_after (n ∷ ns) c) (nflat-cons i x xs))

abbrev pub told_under : Change → Held → Held
told_under c h = record { place = h.place; current = h.current; at = h.at; under = marked c.told h.under }

-- a frame whose child was changed
pub after-child : (self : Family) (h : Held) (ks : List Family) (p : List ℕ) (n : ℕ) (ns : List ℕ) (c : Change) (k new : Family) → fam h ks ≡ self → p ≡ n ∷ ns → slice_get ks n ≡ Some k → nodes_of new ≡ nodes_after ns c (nodes_of k) → nodes_of (fam (told_under c h) (set ks n new)) ≡ nodes_after p c (nodes_of self)
after-child self h ks p n ns c k new v e g a =
    ap (λ xs. record { place = []; held = told_under c h } ∷ xs) (child-changed n 0 n ns c k new ks (omega arith) g a)
    ∙ ap (λ (z : Family). nodes_after (n ∷ ns) c (nodes_of z)) v
    ∙ ap (λ (z : List ℕ). nodes_after z c (nodes_of self)) (sym e)

pub after-none : (self : Family) (h : Held) (ks : List Family) (p : List ℕ) (n : ℕ) (ns : List ℕ) (c : Change) → fam h ks ≡ self → p ≡ n ∷ ns → length ks ≤ n → nodes_of (fam (told_under c h) ks) ≡ nodes_after p c (nodes_of self)
after-none self h ks p n ns c v e l =
    ap (λ xs. record { place = []; held = told_under c h } ∷ xs) (sym (no-child n 0 ns c ks (omega arith)))
    ∙ ap (λ (z : Family). nodes_after (n ∷ ns) c (nodes_of z)) v
    ∙ ap (λ (z : List ℕ). nodes_after z c (nodes_of self)) (sym e)

-- ---- at the frame itself

stay : (c : Change) (ss : List Spot) → c.keeps ≡ true → nodes_after [] c (map node_of ss) ≡ map node_of ss
stay c [] e = refl
stay c (s ∷ ss) e = rw e (ap (λ xs. node_of s ∷ xs) (stay c ss e))

go : (c : Change) (ss : List Spot) → c.keeps ≡ false → nodes_after [] c (map node_of ss) ≡ []
go c [] e = refl
go c (s ∷ ss) e = rw e (go c ss e)

grown-here : (bs : List Node) → grown [] bs ≡ bs
grown-here [] = refl
grown-here (b ∷ bs) = ap (λ xs. b ∷ xs) (grown-here bs)

pub here-kept : (self : Family) (h : Held) (ks : List Family) (p : List ℕ) (c : Change) → fam h ks ≡ self → p ≡ [] → c.keeps ≡ true → c.made ≡ [] → nodes_of (fam (after_held c h) ks) ≡ nodes_after p c (nodes_of self)
here-kept self h ks p c v e k m =
    ap (λ xs. record { place = []; held = after_held c h } ∷ xs) (sym (stay c (below_of 0 ks) k) ∙ ap (λ (z : List Node). grown [] z ++ nodes_after [] c (nflat 0 ks)) (sym m))
    ∙ ap (λ (z : Family). nodes_after [] c (nodes_of z)) v
    ∙ ap (λ (z : List ℕ). nodes_after z c (nodes_of self)) (sym e)

pub here-gone : (self : Family) (h : Held) (ks kids : List Family) (p : List ℕ) (c : Change) → fam h ks ≡ self → p ≡ [] → c.keeps ≡ false → c.made ≡ nflat 0 kids → nodes_of (fam (after_held c h) kids) ≡ nodes_after p c (nodes_of self)
here-gone self h ks kids p c v e k m =
    ap (λ xs. record { place = []; held = after_held c h } ∷ xs) (sym m ∙ sym (grown-here c.made) ∙ sym (append-nil (grown [] c.made)) ∙ ap (λ z. grown [] c.made ++ z) (sym (go c (below_of 0 ks) k)))
    ∙ ap (λ (z : Family). nodes_after [] c (nodes_of z)) v
    ∙ ap (λ (z : List ℕ). nodes_after z c (nodes_of self)) (sym e)

-- ---- as the world has it

branches-plain : (ss : List Spot) → map plain (map node_of ss) ≡ map branch_of ss
branches-plain [] = refl
branches-plain (s ∷ ss) = ap (λ xs. branch_of s ∷ xs) (branches-plain ss)

pub plain-nodes : (f : Family) → map plain (nodes_of f) ≡ branches_of f
plain-nodes f = ap (λ xs. record { place = []; current = f.head.current } ∷ xs) (branches-plain f.below)

-- the new children, as the root sees them
plain-newborns : (p q : List ℕ) (i : ℕ) (rs : List Record) → map plain (grown p (nflat i (newborns q i rs))) ≡ numbered p i rs
plain-newborns p q i [] = refl
plain-newborns p q i (r ∷ rs) = ap (λ xs. record { place = p ++ i ∷ []; current = r } ∷ xs) (plain-newborns p q (i + 1) rs)

plain-made : (p : List ℕ) (c : Children) → map plain (grown p (nflat 0 (kids_of p c))) ≡ made p c
plain-made p Kept = refl
plain-made p Removed = refl
plain-made p (Made rs) = plain-newborns p p 0 rs

plain-one : (s k a : Bool) (p : List ℕ) (c : Change) (b : Node) → map plain (cond s (litter p c b.held) (cond k [] (cond a (touched c.told b ∷ []) (b ∷ [])))) ≡ cond s (map plain (litter p c b.held)) (cond k [] (plain b ∷ []))
plain-one true k a p c b = refl
plain-one false true a p c b = refl
plain-one false false true p c b = refl
plain-one false false false p c b = refl

plain-litter : (p : List ℕ) (r : Record) (told : Option ℕ) (children : Children) (h : Held) → map plain (litter p (change r told (litter_of p children)) h) ≡ family p r children
plain-litter p r told children h = ap (λ xs. record { place = p; current = r } ∷ xs) (plain-made p children)

-- without their links, branches change as the world says
pub plain-after : (p : List ℕ) (r : Record) (told : Option ℕ) (children : Children) (ns : List Node) → map plain (nodes_after p (change r told (litter_of p children)) ns) ≡ branches_after p r children (map plain ns)
plain-after p r told children [] = refl
plain-after p r told children (b ∷ bs) =
    let c : Change = change r told (litter_of p children) in
    map-append plain (node_after p c b) (nodes_after p c bs)
    ∙ ap (λ xs. xs ++ map plain (nodes_after p c bs)) (plain-one (same_place p b.place) (is_prefix p b.place && not c.keeps) (is_prefix b.place p) p c b)
    ∙ rw (plain-litter p r told children b.held, plain-after p r told children bs) refl

pub branches-applied : (old new : Family) (p : List ℕ) (r : Record) (told : Option ℕ) (children : Children) → nodes_of new ≡ nodes_after p (change r told (litter_of p children)) (nodes_of old) → branches_of new ≡ branches_after p r children (branches_of old)
branches-applied old new p r told children e =
    sym (plain-nodes new) ∙ ap (map plain) e ∙ plain-after p r told children (nodes_of old) ∙ ap (branches_after p r children) (plain-nodes old)
