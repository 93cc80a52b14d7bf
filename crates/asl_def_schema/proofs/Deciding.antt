-- Of a group at most one member counts, and of an exact one some member does.
use Rattle.std.proofs.Common.{◌≡◌, ℕ, suc, List, [], ◌∷◌, ◌++◌, Bool, true, false, ◌||◌, ◌&&◌, not, ◌⊎◌, inl, inr, refl, sym, subst, ◌∙◌}
use Rattle.std.specs.Prelude.{Some, map}
use Rattle.std.specs.Cmp.Lexicographic.{same_text}
use Rattle.asl_json_data.specs.Data.{Data, Pairs, no_members, member}
use Rattle.asl_json.specs.Same.{bytes_eq}
use Rattle.asl_json.specs.private.SameLaws.{bytes_refl}
use Rattle.asl_json.specs.Meaning.{value_at}
use Rattle.asl_json_data.specs.Distinct.{Members}
use Rattle.asl_def_schema.specs.Members.{Group, Shape, sort_at}
use Rattle.asl_def_schema.specs.Claims.{Spot, step, under, heres, claims, at_member, member_claims, group_demands, counts, any_counts, is_doubled, is_twice, any_in}
use Rattle.asl_def_schema.specs.First.{Each, Hold}
use Rattle.asl_def_schema.specs.Clean.{IsCleanInside}
use Rattle.asl_def_schema.proofs.Inside.{each_left, each_right, each_under, own_hold, or_right}

-- a group of these
abbrev pub IsGroup : Group → List Group → Type 0
IsGroup g [] = ⊥
IsGroup g (h ∷ hs) = (g ≡ h) ⊎ IsGroup g hs

pub not_true : (b : Bool) → not b ≡ true → b ≡ false
not_true true e = absurd cc
not_true false e = refl

pub neither_is : (a b : Bool) → (a || b) ≡ false → (a ≡ false) × (b ≡ false)
neither_is true b e = absurd cc
neither_is false b e = (refl, e)

and_false : (a b : Bool) → (a && b) ≡ false → b ≡ true → a ≡ false
and_false true b e t = absurd (let x : true ≡ false = sym t ∙ e in cc)
and_false false b e t = refl

-- what counts behind one that counts

single : (gs : List Group) (g : Group) (seen : Members) (k : List ℕ) (d : Data) → IsGroup g gs → is_doubled gs seen k d ≡ false → any_counts g seen ≡ true → counts g k d ≡ false
single [] g seen k d at e t = absurd at
single (h ∷ hs) g seen k d (inl same) e t =
    let off = neither_is (counts h k d && any_counts h seen) (is_doubled hs seen k d) e in
    subst (λ (x : Group). counts x k d ≡ false) (sym same) (and_false (counts h k d) (any_counts h seen) off.0 (subst (λ (x : Group). any_counts x seen ≡ true) same t))
single (h ∷ hs) g seen k d (inr at) e t = single hs g seen k d at (neither_is (counts h k d && any_counts h seen) (is_doubled hs seen k d) e).1 t

any_left : (g : Group) (xs ys : Members) → any_counts g xs ≡ true → any_counts g (xs ++ ys) ≡ true
any_left g [] ys e = absurd cc
any_left g (x ∷ xs) ys e = by (counts g x.0 x.1) refl (λ f. any_left g xs ys f)
  where
    by : (b : Bool) → counts g x.0 x.1 ≡ b → (any_counts g xs ≡ true → any_counts g (xs ++ ys) ≡ true) → (counts g x.0 x.1 || any_counts g (xs ++ ys)) ≡ true
    by true h rest = rw h refl
    by false h rest = rw h (rest (rw h at e))

any_last : (g : Group) (xs : Members) (k : List ℕ) (d : Data) → counts g k d ≡ true → any_counts g (xs ++ (k, d) ∷ []) ≡ true
any_last g [] k d e = rw e refl
any_last g (x ∷ xs) k d e = or_right (counts g x.0 x.1) (any_counts g (xs ++ (k, d) ∷ [])) (any_last g xs k d e)

-- the parts of the claims of members
alone_first : (p : Spot) (sh : Shape) (seen : Members) (i : ℕ) (k : List ℕ) (d : Data) (ms : Pairs) → Each Hold (member_claims p sh seen i (member k d ms)) → is_doubled sh.groups seen k d ≡ false
alone_first p sh seen i k d ms h =
    let spot = at_member p sh seen k d in
    let own = each_under (step i k) (claims spot (sort_at sh k) d) (each_left Hold (map (under (step i k)) (claims spot (sort_at sh k) d)) (member_claims p sh (seen ++ (k, d) ∷ []) (suc i) ms) h) in
    (neither_is (is_doubled sh.groups seen k d) (is_twice sh.others seen k) (not_true (is_doubled sh.groups seen k d || is_twice sh.others seen k) (own_hold spot (sort_at sh k) d own).0)).0

others_hold : (p : Spot) (sh : Shape) (seen : Members) (i : ℕ) (k : List ℕ) (d : Data) (ms : Pairs) → Each Hold (member_claims p sh seen i (member k d ms)) → Each Hold (member_claims p sh (seen ++ (k, d) ∷ []) (suc i) ms)
others_hold p sh seen i k d ms h = each_right Hold (map (under (step i k)) (claims (at_member p sh seen k d) (sort_at sh k) d)) (member_claims p sh (seen ++ (k, d) ∷ []) (suc i) ms) h

none_after : (p : Spot) (sh : Shape) (g : Group) (seen : Members) (i : ℕ) (ms : Pairs) (k : List ℕ) (d : Data) → IsGroup g sh.groups → any_counts g seen ≡ true → Each Hold (member_claims p sh seen i ms) → value_at k ms ≡ Some d → counts g k d ≡ false
none_after p sh g seen i no_members k d at t h e = absurd cc
none_after p sh g seen i (member l v ms) k d at t h e =
    by (bytes_eq k l) refl (single sh.groups g seen l v at (alone_first p sh seen i l v ms h) t)
    (λ f. none_after p sh g (seen ++ (l, v) ∷ []) (suc i) ms k d at (any_left g seen ((l, v) ∷ []) t) (others_hold p sh seen i l v ms h) f)
  where
    by : (b : Bool) → bytes_eq k l ≡ b → counts g l v ≡ false → (value_at k ms ≡ Some d → counts g k d ≡ false) → counts g k d ≡ false
    by true q off rest =
        let same : v ≡ d = let x = rw q at e in cc in
        let named : k ≡ l = same_text k l (sym q) in
        rw (← same, named) off
    by false q off rest = rest (rw q at e)

two_count : (p : Spot) (sh : Shape) (g : Group) (seen : Members) (i : ℕ) (ms : Pairs) (k l : List ℕ) (d e : Data) → IsGroup g sh.groups → Each Hold (member_claims p sh seen i ms) → bytes_eq k l ≡ false → value_at k ms ≡ Some d → value_at l ms ≡ Some e → counts g k d ≡ true → counts g l e ≡ true → ⊥
two_count p sh g seen i no_members k l d e at h ne a b x y = absurd cc
two_count p sh g seen i (member n v ms) k l d e at h ne a b x y =
    let rest = others_hold p sh seen i n v ms h in
    by (bytes_eq k n) (bytes_eq l n) refl refl (λ f q. two_count p sh g (seen ++ (n, v) ∷ []) (suc i) ms k l d e at rest ne f q x y)
    (λ c o w q. none_after p sh g (seen ++ (n, v) ∷ []) (suc i) ms o w at (any_last g seen n v c) rest q)
  where
    by : (s t : Bool) → bytes_eq k n ≡ s → bytes_eq l n ≡ t → (value_at k ms ≡ Some d → value_at l ms ≡ Some e → ⊥) → (counts g n v ≡ true → (o : List ℕ) (w : Data) → value_at o ms ≡ Some w → counts g o w ≡ false) → ⊥
    by true true p q rest after =
        let k_is : k ≡ n = same_text k n (sym p) in
        let l_is : l ≡ n = same_text l n (sym q) in
        let same : bytes_eq k l ≡ true = rw (k_is, l_is) (bytes_refl n) in
        cc
    by true false p q rest after =
        let v_is : v ≡ d = let z = rw p at a in cc in
        let k_is : k ≡ n = same_text k n (sym p) in
        let first : counts g n v ≡ true = rw (v_is, ← k_is) x in
        let off : counts g l e ≡ false = after first l e (rw q at b) in
        cc
    by false true p q rest after =
        let v_is : v ≡ e = let z = rw q at b in cc in
        let l_is : l ≡ n = same_text l n (sym q) in
        let first : counts g n v ≡ true = rw (v_is, ← l_is) y in
        let off : counts g k d ≡ false = after first k d (rw p at a) in
        cc
    by false false p q rest after = rest (rw p at a) (rw q at b)

-- two members of one group don't both count
pub one_counts : (names : List ℕ → Bool) (sh : Shape) (g : Group) (ms : Pairs) (k l : List ℕ) (d e : Data) → IsCleanInside names sh ms → IsGroup g sh.groups → bytes_eq k l ≡ false → value_at k ms ≡ Some d → value_at l ms ≡ Some e → counts g k d ≡ true → counts g l e ≡ true → ⊥
one_counts names sh g ms k l d e c at ne a b x y = two_count c.spot sh g [] 0 ms k l d e at c.members ne a b x y

exact_any : (gs : List Group) (g : Group) (ms : Pairs) → IsGroup g gs → g.exact ≡ true → Each Hold (heres (group_demands gs ms)) → any_in g ms ≡ true
exact_any [] g ms at e h = absurd at
exact_any (x ∷ xs) g ms (inl same) e h = subst (λ (y : Group). any_in y ms ≡ true) (sym same) (let is_exact : x.exact ≡ true = subst (λ (y : Group). y.exact ≡ true) same e in let f = h.0 in rw is_exact at f)
exact_any (x ∷ xs) g ms (inr at) e h = exact_any xs g ms at e h.1

-- of an exact group one does
pub some_counts : (names : List ℕ → Bool) (sh : Shape) (g : Group) (ms : Pairs) → IsCleanInside names sh ms → IsGroup g sh.groups → g.exact ≡ true → any_in g ms ≡ true
some_counts names sh g ms c at e = exact_any sh.groups g ms at e c.groups
