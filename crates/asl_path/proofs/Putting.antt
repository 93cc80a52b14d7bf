-- Laws of putting: what was put is there, and what is put last stays.
use Rattle.std.proofs.Common.{◌≡◌, ℕ, zero, suc, Bool, true, false, Option, Some, None, List, [], ◌∷◌, refl, sym, ◌∙◌, ap, subst, cond}
use Rattle.std.specs.Prelude.{option_map, option_and_then}
use Rattle.std.proofs.lemmas.Bool.{eq-eqb}
use Rattle.asl_json_data.specs.Data.{Data, null, boolean, number, text, list, dict, Chain, no_items, item, Pairs, no_members, member}
use Rattle.asl_json.specs.Meaning.{value_at}
use Rattle.asl_json.specs.Same.{bytes_eq}
use Rattle.asl_path.specs.declared.step.Step.{Step}
use Rattle.asl_path.specs.declared.step.Step.TheVariants.{Name, Index}
use Rattle.asl_path.specs.Walk.{item_at, child, at, put_member, put_item, put_child, put}
use Rattle.asl_path.proofs.Walking.{mapped, unmapped}

pub same_bytes : (k : List ℕ) → bytes_eq k k ≡ true
same_bytes [] = refl
same_bytes (c ∷ k) = rw (eq-eqb c c refl) (same_bytes k)

-- g sees no change in what f made
abbrev pub Ignores : (Data → Option Data) → (Data → Option Data) → Type 0
Ignores f g = (d w : Data) → f d ≡ Some w → g w ≡ g d

pub on_member : (b : Bool) (k : List ℕ) (f : Data → Option Data) (l : List ℕ) (d : Data) (ms : Pairs) → bytes_eq k l ≡ b → put_member k f (member l d ms) ≡ cond b (option_map (λ w. member l w ms) (f d)) (option_map (λ ns. member l d ns) (put_member k f ms))
on_member b k f l d ms e = ap (λ z. cond z (option_map (λ w. member l w ms) (f d)) (option_map (λ ns. member l d ns) (put_member k f ms))) e

member_again : (k : List ℕ) (f g : Data → Option Data) → Ignores f g → (ms ns : Pairs) → put_member k f ms ≡ Some ns → put_member k g ns ≡ put_member k g ms
member_again k f g i no_members ns h =
    let x = mapped (f (dict no_members)) (λ w. member k w no_members) ns h in
    subst (λ (z : Pairs). put_member k g z ≡ put_member k g no_members) x.1.1
    (on_member true k g k x.0 no_members (same_bytes k) ∙ ap (λ o. option_map (λ w. member k w no_members) o) (i (dict no_members) x.0 x.1.0))
member_again k f g i (member l d ms) ns h = again (bytes_eq k l) refl (member_again k f g i ms)
  where
    again : (b : Bool) → bytes_eq k l ≡ b → ((ns : Pairs) → put_member k f ms ≡ Some ns → put_member k g ns ≡ put_member k g ms) → put_member k g ns ≡ put_member k g (member l d ms)
    again true e rest =
        let x = mapped (f d) (λ w. member l w ms) ns (sym (on_member true k f l d ms e) ∙ h) in
        subst (λ (z : Pairs). put_member k g z ≡ put_member k g (member l d ms)) x.1.1
        (on_member true k g l x.0 ms e ∙ ap (λ o. option_map (λ w. member l w ms) o) (i d x.0 x.1.0) ∙ sym (on_member true k g l d ms e))
    again false e rest =
        let x = mapped (put_member k f ms) (λ ns. member l d ns) ns (sym (on_member false k f l d ms e) ∙ h) in
        subst (λ (z : Pairs). put_member k g z ≡ put_member k g (member l d ms)) x.1.1
        (on_member false k g l d x.0 e ∙ ap (λ o. option_map (λ ns. member l d ns) o) (rest x.0 x.1.0) ∙ sym (on_member false k g l d ms e))

item_again : (i : ℕ) (f g : Data → Option Data) → Ignores f g → (ds es : Chain) → put_item i f ds ≡ Some es → put_item i g es ≡ put_item i g ds
item_again i f g n no_items es h = absurd (cc)
item_again zero f g n (item d ds) es h =
    let x = mapped (f d) (λ w. item w ds) es h in
    subst (λ (z : Chain). put_item 0 g z ≡ put_item 0 g (item d ds)) x.1.1 (ap (λ o. option_map (λ w. item w ds) o) (n d x.0 x.1.0))
item_again (suc i) f g n (item d ds) es h =
    let x = mapped (put_item i f ds) (λ es. item d es) es h in
    subst (λ (z : Chain). put_item (suc i) g z ≡ put_item (suc i) g (item d ds)) x.1.1 (ap (λ o. option_map (λ es. item d es) o) (item_again i f g n ds x.0 x.1.0))

child_again : (v w : Data) (s : Step) (f g : Data → Option Data) → Ignores f g → put_child v s f ≡ Some w → put_child w s g ≡ put_child v s g
child_again (list ds) w (Index i) f g n h =
    let x = mapped (put_item i f ds) list w h in
    subst (λ (z : Data). put_child z (Index i) g ≡ put_child (list ds) (Index i) g) x.1.1 (ap (λ o. option_map list o) (item_again i f g n ds x.0 x.1.0))
child_again (dict ms) w (Name k) f g n h =
    let x = mapped (put_member k f ms) dict w h in
    subst (λ (z : Data). put_child z (Name k) g ≡ put_child (dict ms) (Name k) g) x.1.1 (ap (λ o. option_map dict o) (member_again k f g n ms x.0 x.1.0))
child_again x w y f g n h = absurd cc

-- what is put last stays
pub put_again : (ss : List Step) (v w x r : Data) → put v ss x ≡ Some w → put w ss r ≡ put v ss r
put_again [] v w x r h = refl
put_again (s ∷ ss) v w x r h = child_again v w s (λ d. put d ss x) (λ d. put d ss r) (λ d e q. put_again ss d e x r q) h

-- f made what is there now
record Made (f : Data → Option Data) (o : Option Data) : Type 0 where
  from : Data
  into : Data
  made : f from ≡ Some into
  is : o ≡ Some into

member_there : (k : List ℕ) (f : Data → Option Data) (ms ns : Pairs) → put_member k f ms ≡ Some ns → Made f (value_at k ns)
member_there k f no_members ns h =
    let x = mapped (f (dict no_members)) (λ w. member k w no_members) ns h in
    record { from = dict no_members; into = x.0; made = x.1.0; is = subst (λ (z : Pairs). value_at k z ≡ Some x.0) x.1.1 (ap (λ b. cond b (Some x.0) None) (same_bytes k)) }
member_there k f (member l d ms) ns h = there (bytes_eq k l) refl (member_there k f ms)
  where
    there : (b : Bool) → bytes_eq k l ≡ b → ((ns : Pairs) → put_member k f ms ≡ Some ns → Made f (value_at k ns)) → Made f (value_at k ns)
    there true e rest =
        let x = mapped (f d) (λ w. member l w ms) ns (sym (on_member true k f l d ms e) ∙ h) in
        record { from = d; into = x.0; made = x.1.0; is = subst (λ (z : Pairs). value_at k z ≡ Some x.0) x.1.1 (ap (λ b. cond b (Some x.0) (value_at k ms)) e) }
    there false e rest =
        let x = mapped (put_member k f ms) (λ ns. member l d ns) ns (sym (on_member false k f l d ms e) ∙ h) in
        let y = rest x.0 x.1.0 in
        record { from = y.from; into = y.into; made = y.made; is = subst (λ (z : Pairs). value_at k z ≡ Some y.into) x.1.1 (ap (λ b. cond b (Some d) (value_at k x.0)) e ∙ y.is) }

item_there : (i : ℕ) (f : Data → Option Data) (ds es : Chain) → put_item i f ds ≡ Some es → Made f (item_at i es)
item_there i f no_items es h = absurd (cc)
item_there zero f (item d ds) es h =
    let x = mapped (f d) (λ w. item w ds) es h in
    record { from = d; into = x.0; made = x.1.0; is = subst (λ (z : Chain). item_at 0 z ≡ Some x.0) x.1.1 refl }
item_there (suc i) f (item d ds) es h =
    let x = mapped (put_item i f ds) (λ es. item d es) es h in
    let y = item_there i f ds x.0 x.1.0 in
    record { from = y.from; into = y.into; made = y.made; is = subst (λ (z : Chain). item_at (suc i) z ≡ Some y.into) x.1.1 y.is }

child_there : (v w : Data) (s : Step) (f : Data → Option Data) → put_child v s f ≡ Some w → Made f (child w s)
child_there (list ds) w (Index i) f h =
    let x = mapped (put_item i f ds) list w h in
    let y = item_there i f ds x.0 x.1.0 in
    record { from = y.from; into = y.into; made = y.made; is = subst (λ (z : Data). child z (Index i) ≡ Some y.into) x.1.1 y.is }
child_there (dict ms) w (Name k) f h =
    let x = mapped (put_member k f ms) dict w h in
    let y = member_there k f ms x.0 x.1.0 in
    record { from = y.from; into = y.into; made = y.made; is = subst (λ (z : Data). child z (Name k) ≡ Some y.into) x.1.1 y.is }
child_there x w y f h = absurd cc

-- what was put is there
pub at_put : (ss : List Step) (v w r : Data) → put v ss r ≡ Some w → at w ss ≡ Some r
at_put [] v w r h = sym h
at_put (s ∷ ss) v w r h =
    let y = child_there v w s (λ d. put d ss r) h in
    ap (λ o. option_and_then {T = Data} {U = Data} (λ d. at d ss) o) y.is ∙ at_put ss y.from y.into r y.made

-- where f gives nothing, g gives nothing
abbrev pub Follows : (Data → Option Data) → (Data → Option Data) → Type 0
Follows f g = (d : Data) → f d ≡ None → g d ≡ None

member_fails : (k : List ℕ) (f g : Data → Option Data) → Follows f g → (ms : Pairs) → put_member k f ms ≡ None → put_member k g ms ≡ None
member_fails k f g n no_members h = ap (λ o. option_map (λ w. member k w no_members) o) (n (dict no_members) (unmapped (f (dict no_members)) (λ w. member k w no_members) h))
member_fails k f g n (member l d ms) h = fails (bytes_eq k l) refl (member_fails k f g n ms)
  where
    fails : (b : Bool) → bytes_eq k l ≡ b → (put_member k f ms ≡ None → put_member k g ms ≡ None) → put_member k g (member l d ms) ≡ None
    fails true e rest = on_member true k g l d ms e ∙ ap (λ o. option_map (λ w. member l w ms) o) (n d (unmapped (f d) (λ w. member l w ms) (sym (on_member true k f l d ms e) ∙ h)))
    fails false e rest = on_member false k g l d ms e ∙ ap (λ o. option_map (λ ns. member l d ns) o) (rest (unmapped (put_member k f ms) (λ ns. member l d ns) (sym (on_member false k f l d ms e) ∙ h)))

item_fails : (i : ℕ) (f g : Data → Option Data) → Follows f g → (ds : Chain) → put_item i f ds ≡ None → put_item i g ds ≡ None
item_fails i f g n no_items h = refl
item_fails zero f g n (item d ds) h = ap (λ o. option_map (λ w. item w ds) o) (n d (unmapped (f d) (λ w. item w ds) h))
item_fails (suc i) f g n (item d ds) h = ap (λ o. option_map (λ es. item d es) o) (item_fails i f g n ds (unmapped (put_item i f ds) (λ es. item d es) h))

child_fails : (v : Data) (s : Step) (f g : Data → Option Data) → Follows f g → put_child v s f ≡ None → put_child v s g ≡ None
child_fails null s f g n h = refl
child_fails (boolean b) s f g n h = refl
child_fails (number x) s f g n h = refl
child_fails (text x) s f g n h = refl
child_fails (list ds) (Name k) f g n h = refl
child_fails (list ds) (Index i) f g n h = ap (λ o. option_map list o) (item_fails i f g n ds (unmapped (put_item i f ds) list h))
child_fails (dict ms) (Index i) f g n h = refl
child_fails (dict ms) (Name k) f g n h = ap (λ o. option_map dict o) (member_fails k f g n ms (unmapped (put_member k f ms) dict h))

-- whether a place is there doesn't depend on what is put there
pub put_fails : (ss : List Step) (v x r : Data) → put v ss x ≡ None → put v ss r ≡ None
put_fails [] v x r h = absurd (cc)
put_fails (s ∷ ss) v x r h = child_fails v s (λ d. put d ss x) (λ d. put d ss r) (λ d q. put_fails ss d x r q) h

-- g gives what is there, and f gives it back
chained : (o : Option Data) (g : Data → Option Data) (r : Data) → option_and_then {T = Data} {U = Data} g o ≡ Some r → (w : Data) × ((o ≡ Some w) × (g w ≡ Some r))
chained None g r h = absurd cc
chained (Some w) g r h = (w, (refl, h))

member_same : (k : List ℕ) (f : Data → Option Data) (ms : Pairs) (w : Data) → value_at k ms ≡ Some w → f w ≡ Some w → put_member k f ms ≡ Some ms
member_same k f no_members w h e = absurd cc
member_same k f (member l d ms) w h e = same (bytes_eq k l) refl (member_same k f ms w)
  where
    same : (b : Bool) → bytes_eq k l ≡ b → (value_at k ms ≡ Some w → f w ≡ Some w → put_member k f ms ≡ Some ms) → put_member k f (member l d ms) ≡ Some (member l d ms)
    same true q again =
        let found : Some d ≡ Some w = sym (ap (λ b. cond b (Some d) (value_at k ms)) q) ∙ h in
        let is : d ≡ w = cc in
        on_member true k f l d ms q ∙ ap (λ (z : Data). option_map (λ x. member l x ms) (f z)) is ∙ ap (λ o. option_map (λ x. member l x ms) o) e ∙ ap (λ (z : Data). Some (member l z ms)) (sym is)
    same false q again =
        on_member false k f l d ms q ∙ ap (λ o. option_map (λ ns. member l d ns) o) (again (sym (ap (λ b. cond b (Some d) (value_at k ms)) q) ∙ h) e)

item_same : (i : ℕ) (f : Data → Option Data) (ds : Chain) (w : Data) → item_at i ds ≡ Some w → f w ≡ Some w → put_item i f ds ≡ Some ds
item_same i f no_items w h e = absurd cc
item_same zero f (item d ds) w h e =
    let is : d ≡ w = cc in
    ap (λ (z : Data). option_map (λ x. item x ds) (f z)) is ∙ ap (λ o. option_map (λ x. item x ds) o) e ∙ ap (λ (z : Data). Some (item z ds)) (sym is)
item_same (suc i) f (item d ds) w h e = ap (λ o. option_map (λ es. item d es) o) (item_same i f ds w h e)

child_same : (v w : Data) (s : Step) (f : Data → Option Data) → child v s ≡ Some w → f w ≡ Some w → put_child v s f ≡ Some v
child_same (list ds) w (Index i) f h e = ap (λ o. option_map list o) (item_same i f ds w h e)
child_same (dict ms) w (Name k) f h e = ap (λ o. option_map dict o) (member_same k f ms w h e)
child_same x w y f h e = absurd cc

-- to put what is there changes nothing
pub put_same : (ss : List Step) (v r : Data) → at v ss ≡ Some r → put v ss r ≡ Some v
put_same [] v r h = sym h
put_same (s ∷ ss) v r h =
    let x = chained (child v s) (λ w. at w ss) r h in
    child_same v x.0 s (λ w. put w ss r) x.1.0 (put_same ss x.0 r x.1.1)
