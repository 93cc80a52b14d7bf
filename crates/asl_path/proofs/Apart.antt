-- What steps name that part from those at which something is put.
use Rattle.std.proofs.Common.{◌≡◌, ℕ, zero, suc, Bool, true, false, Option, Some, None, List, [], ◌∷◌, refl, sym, ◌∙◌, ap, subst, cond, inl, inr}
use Rattle.std.specs.Prelude.{option_and_then}
use Rattle.std.specs.Cmp.Lexicographic.{same_text}
use Rattle.asl_json_data.specs.Data.{Data, null, boolean, number, text, list, dict, Chain, no_items, item, Pairs, no_members, member}
use Rattle.asl_json.specs.Meaning.{value_at}
use Rattle.asl_json.specs.Same.{bytes_eq}
use Rattle.asl_path.specs.declared.step.Step.{Step}
use Rattle.asl_path.specs.declared.step.Step.TheVariants.{Name, Index}
use Rattle.asl_path.specs.Walk.{item_at, child, at, put_member, put_item, put_child, put}
use Rattle.asl_path.specs.Laws.{AreApart}
use Rattle.asl_path.proofs.Walking.{mapped}
use Rattle.asl_path.proofs.Putting.{same_bytes, on_member}

same_name : (k l : List ℕ) → bytes_eq k l ≡ true → k ≡ l
same_name k l e = same_text k l (sym e)

other_name : (k l : List ℕ) → (k ≡ l → ⊥) → bytes_eq l k ≡ false
other_name k l ne = other (bytes_eq l k) refl
  where
    other : (b : Bool) → bytes_eq l k ≡ b → bytes_eq l k ≡ false
    other true e = absurd (ne (sym (same_name l k e)))
    other false e = e

-- the value behind the first member
value_cond : (b : Bool) (k l : List ℕ) (d : Data) (ms : Pairs) → bytes_eq k l ≡ b → value_at k (member l d ms) ≡ cond b (Some d) (value_at k ms)
value_cond b k l d ms e = ap (λ z. cond z (Some d) (value_at k ms)) e

-- ---- other members and items

member_other : (k l : List ℕ) (f : Data → Option Data) → (k ≡ l → ⊥) → (ms ns : Pairs) → put_member k f ms ≡ Some ns → value_at l ns ≡ value_at l ms
member_other k l f ne no_members ns h =
    let x = mapped (f (dict no_members)) (λ w. member k w no_members) ns h in
    subst (λ (z : Pairs). value_at l z ≡ None) x.1.1 (value_cond false l k x.0 no_members (other_name k l ne))
member_other k l f ne (member m d ms) ns h = other (bytes_eq k m) refl (member_other k l f ne ms)
  where
    other : (b : Bool) → bytes_eq k m ≡ b → ((ns : Pairs) → put_member k f ms ≡ Some ns → value_at l ns ≡ value_at l ms) → value_at l ns ≡ value_at l (member m d ms)
    other true e again =
        let x = mapped (f d) (λ w. member m w ms) ns (sym (on_member true k f m d ms e) ∙ h) in
        let no = other_name m l (λ q. ne (same_name k m e ∙ q)) in
        subst (λ (z : Pairs). value_at l z ≡ value_at l (member m d ms)) x.1.1 (value_cond false l m x.0 ms no ∙ sym (value_cond false l m d ms no))
    other false e again =
        let x = mapped (put_member k f ms) (λ ns. member m d ns) ns (sym (on_member false k f m d ms e) ∙ h) in
        subst (λ (z : Pairs). value_at l z ≡ value_at l (member m d ms)) x.1.1 (ap (λ (o : Option Data). cond (bytes_eq l m) (Some d) o) (again x.0 x.1.0))

item_other : (i j : ℕ) (f : Data → Option Data) → (i ≡ j → ⊥) → (ds es : Chain) → put_item i f ds ≡ Some es → item_at j es ≡ item_at j ds
item_other i j f ne no_items es h = absurd cc
item_other zero zero f ne (item d ds) es h = absurd (ne refl)
item_other zero (suc j) f ne (item d ds) es h =
    let x = mapped (f d) (λ w. item w ds) es h in
    subst (λ (z : Chain). item_at (suc j) z ≡ item_at j ds) x.1.1 refl
item_other (suc i) zero f ne (item d ds) es h =
    let x = mapped (put_item i f ds) (λ es. item d es) es h in
    subst (λ (z : Chain). item_at 0 z ≡ Some d) x.1.1 refl
item_other (suc i) (suc j) f ne (item d ds) es h =
    let x = mapped (put_item i f ds) (λ es. item d es) es h in
    subst (λ (z : Chain). item_at (suc j) z ≡ item_at j ds) x.1.1 (item_other i j f (λ e. ne (ap suc e)) ds x.0 x.1.0)

child_other : (v w : Data) (s u : Step) (f : Data → Option Data) → (s ≡ u → ⊥) → put_child v s f ≡ Some w → child w u ≡ child v u
child_other (list ds) w (Index i) (Name l) f ne h =
    let x = mapped (put_item i f ds) list w h in
    subst (λ (z : Data). child z (Name l) ≡ None) x.1.1 refl
child_other (list ds) w (Index i) (Index j) f ne h =
    let x = mapped (put_item i f ds) list w h in
    subst (λ (z : Data). child z (Index j) ≡ item_at j ds) x.1.1 (item_other i j f (λ e. ne (ap Index e)) ds x.0 x.1.0)
child_other (dict ms) w (Name k) (Index j) f ne h =
    let x = mapped (put_member k f ms) dict w h in
    subst (λ (z : Data). child z (Index j) ≡ None) x.1.1 refl
child_other (dict ms) w (Name k) (Name l) f ne h =
    let x = mapped (put_member k f ms) dict w h in
    subst (λ (z : Data). child z (Name l) ≡ value_at l ms) x.1.1 (member_other k l f (λ e. ne (ap Name e)) ms x.0 x.1.0)
child_other x w y u f ne h = absurd cc

-- ---- the same member or item, of which g sees what f leaves

abbrev then_at : (Data → Option Data) → Option Data → Option Data
then_at g o = option_and_then {T = Data} {U = Data} g o

record Leaves (f g : Data → Option Data) : Type 0 where
  kept : (d w : Data) → f d ≡ Some w → g w ≡ g d
  empty : g (dict no_members) ≡ None

member_kept : (k : List ℕ) (f g : Data → Option Data) → Leaves f g → (ms ns : Pairs) → put_member k f ms ≡ Some ns → then_at g (value_at k ns) ≡ then_at g (value_at k ms)
member_kept k f g keeps no_members ns h =
    let x = mapped (f (dict no_members)) (λ w. member k w no_members) ns h in
    subst (λ (z : Pairs). then_at g (value_at k z) ≡ None) x.1.1
    (ap (then_at g) (value_cond true k k x.0 no_members (same_bytes k)) ∙ keeps.kept (dict no_members) x.0 x.1.0 ∙ keeps.empty)
member_kept k f g keeps (member m d ms) ns h = kept (bytes_eq k m) refl (member_kept k f g keeps ms)
  where
    kept : (b : Bool) → bytes_eq k m ≡ b → ((ns : Pairs) → put_member k f ms ≡ Some ns → then_at g (value_at k ns) ≡ then_at g (value_at k ms)) → then_at g (value_at k ns) ≡ then_at g (value_at k (member m d ms))
    kept true e again =
        let x = mapped (f d) (λ w. member m w ms) ns (sym (on_member true k f m d ms e) ∙ h) in
        subst (λ (z : Pairs). then_at g (value_at k z) ≡ then_at g (value_at k (member m d ms))) x.1.1
        (ap (then_at g) (value_cond true k m x.0 ms e) ∙ keeps.kept d x.0 x.1.0 ∙ sym (ap (then_at g) (value_cond true k m d ms e)))
    kept false e again =
        let x = mapped (put_member k f ms) (λ ns. member m d ns) ns (sym (on_member false k f m d ms e) ∙ h) in
        subst (λ (z : Pairs). then_at g (value_at k z) ≡ then_at g (value_at k (member m d ms))) x.1.1
        (ap (then_at g) (value_cond false k m d x.0 e) ∙ again x.0 x.1.0 ∙ sym (ap (then_at g) (value_cond false k m d ms e)))

item_kept : (i : ℕ) (f g : Data → Option Data) → Leaves f g → (ds es : Chain) → put_item i f ds ≡ Some es → then_at g (item_at i es) ≡ then_at g (item_at i ds)
item_kept i f g keeps no_items es h = absurd cc
item_kept zero f g keeps (item d ds) es h =
    let x = mapped (f d) (λ w. item w ds) es h in
    subst (λ (z : Chain). then_at g (item_at 0 z) ≡ g d) x.1.1 (keeps.kept d x.0 x.1.0)
item_kept (suc i) f g keeps (item d ds) es h =
    let x = mapped (put_item i f ds) (λ es. item d es) es h in
    subst (λ (z : Chain). then_at g (item_at (suc i) z) ≡ then_at g (item_at i ds)) x.1.1 (item_kept i f g keeps ds x.0 x.1.0)

child_kept : (v w : Data) (s : Step) (f g : Data → Option Data) → Leaves f g → put_child v s f ≡ Some w → then_at g (child w s) ≡ then_at g (child v s)
child_kept (list ds) w (Index i) f g keeps h =
    let x = mapped (put_item i f ds) list w h in
    subst (λ (z : Data). then_at g (child z (Index i)) ≡ then_at g (item_at i ds)) x.1.1 (item_kept i f g keeps ds x.0 x.1.0)
child_kept (dict ms) w (Name k) f g keeps h =
    let x = mapped (put_member k f ms) dict w h in
    subst (λ (z : Data). then_at g (child z (Name k)) ≡ then_at g (value_at k ms)) x.1.1 (member_kept k f g keeps ms x.0 x.1.0)
child_kept x w y f g keeps h = absurd cc

empty_child : (s : Step) → child (dict no_members) s ≡ None
empty_child (Name k) = refl
empty_child (Index i) = refl

empty_at : (ss us : List Step) → AreApart ss us → at (dict no_members) us ≡ None
empty_at [] us apart = absurd apart
empty_at (s ∷ ss) [] apart = absurd apart
empty_at (s ∷ ss) (u ∷ us) apart = ap (then_at (λ d. at d us)) (empty_child u)

pub at_apart : (ss us : List Step) → AreApart ss us → (v w r : Data) → put v ss r ≡ Some w → at w us ≡ at v us
at_apart [] us apart v w r h = absurd apart
at_apart (s ∷ ss) [] apart v w r h = absurd apart
at_apart (s ∷ ss) (u ∷ us) (inl ne) v w r h = ap (then_at (λ d. at d us)) (child_other v w s u (λ d. put d ss r) ne h)
at_apart (s ∷ ss) (u ∷ us) (inr (e, apart)) v w r h =
    subst (λ (z : Step). then_at (λ d. at d us) (child w z) ≡ then_at (λ d. at d us) (child v z)) e
    (child_kept v w s (λ d. put d ss r) (λ d. at d us) (record { kept = λ d x q. at_apart ss us apart d x r q; empty = empty_at ss us apart }) h)
