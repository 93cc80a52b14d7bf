-- What is found in an outline at the numbers of items and members.
use Rattle.std.proofs.Common.{◌≡◌, ℕ, zero, suc, ◌+◌, ◌-◌, ◌<◌, ◌≤◌, List, [], ◌∷◌, ◌++◌, length, get_or, take, drop, refl, sym, ap, subst, arith}
use Rattle.std.specs.Prelude.{Option, Some, None}
use Rattle.std.proofs.lemmas.List.{drop_more, drop_all, append-nil}
use Rattle.asl_json_data.specs.Data.{Data, null, boolean, number, text, list, dict, Chain, no_items, item, Pairs, no_members, member}
use Rattle.asl_json_data.specs.Distinct.{Members}
use Rattle.asl_json_scan.specs.Open.{Frame, in_list, in_dict}
use Rattle.asl_json_spans.specs.declared.span.Node.{Node}
use Rattle.asl_json_spans.specs.Places.{Place, place, places, item_places, member_places, part_places, item_at, member_at, part_at, part_of, place_at}
use Rattle.asl_json_spans.specs.Standing.{Stands, AllStand, IsOutline, Finds}
use Rattle.asl_json_spans.specs.private.Marks.{parts_of, behind_first, behind_some, found, first_of}

pub places_are : (st : List Frame) (d : Data) → places st d ≡ place st d ∷ part_places st d
places_are st null = refl
places_are st (boolean b) = refl
places_are st (number s) = refl
places_are st (text s) = refl
places_are st (list ds) = refl
places_are st (dict ms) = refl

all_front : (b : List ℕ) (ps qs : List Place) (ns : List Node) → AllStand b (ps ++ qs) ns → AllStand b ps (take (length ps) ns)
all_front b [] qs ns h = tt
all_front b (p ∷ ps) qs [] h = absurd h
all_front b (p ∷ ps) qs (n ∷ ns) h = (h.0, all_front b ps qs ns h.1)

all_back : (b : List ℕ) (ps qs : List Place) (ns : List Node) → AllStand b (ps ++ qs) ns → AllStand b qs (drop (length ps) ns)
all_back b [] qs ns h = h
all_back b (p ∷ ps) qs [] h = absurd h
all_back b (p ∷ ps) qs (n ∷ ns) h = all_back b ps qs ns h.1

size_less : (b : List ℕ) (st : List Frame) (d : Data) (n : Node) → Stands b (place st d) n → n.size - 1 ≡ length (part_places st d)
size_less b st d n h = omega (arith, h.size, ap length (places_are st d))

opened : (b : List ℕ) (st : List Frame) (d : Data) (qs : List Place) (ns : List Node) → AllStand b (places st d ++ qs) ns → AllStand b (place st d ∷ (part_places st d ++ qs)) ns
opened b st d qs ns h = subst (λ (ps : List Place). AllStand b (ps ++ qs) ns) (places_are st d) h

pub behind_stand : (b : List ℕ) (st : List Frame) (d : Data) (qs : List Place) (ns : List Node) → AllStand b (places st d ++ qs) ns → AllStand b qs (behind_first ns)
behind_stand b st d qs [] h = absurd (opened b st d qs [] h)
behind_stand b st d qs (n ∷ ns) h =
    let g = opened b st d qs (n ∷ ns) h in
    subst (λ (k : ℕ). AllStand b qs (drop k ns)) (sym (size_less b st d n g.0)) (all_back b (part_places st d) qs ns g.1)

pub parts_stand : (b : List ℕ) (st : List Frame) (d : Data) (qs : List Place) (ns : List Node) → AllStand b (places st d ++ qs) ns → AllStand b (part_places st d) (parts_of ns)
parts_stand b st d qs [] h = absurd (opened b st d qs [] h)
parts_stand b st d qs (n ∷ ns) h =
    let g = opened b st d qs (n ∷ ns) h in
    subst (λ (k : ℕ). AllStand b (part_places st d) (take k ns)) (sym (size_less b st d n g.0)) (all_front b (part_places st d) qs ns g.1)

-- the nodes of a place, and behind them those of others; none where there is no value
abbrev pub FoundAt : List ℕ → Option Place → List Node → Type 0
FoundAt b None ns = ns ≡ []
FoundAt b (Some p) ns = (qs : List Place) × AllStand b (places p.within p.value ++ qs) ns

none_stand : (b : List ℕ) (ns : List Node) → AllStand b [] ns → ns ≡ []
none_stand b [] h = refl
none_stand b (n ∷ ns) h = absurd h

nothing_behind : (i : ℕ) (ns : List Node) → ns ≡ [] → behind_some i ns ≡ []
nothing_behind zero ns e = e
nothing_behind (suc i) ns e = nothing_behind i (behind_first ns) (ap behind_first e)

items_found : (ds : Chain) (b : List ℕ) (st : List Frame) (seen : List Data) (i : ℕ) (ns : List Node) → AllStand b (item_places st seen ds) ns → FoundAt b (item_at st seen ds i) (behind_some i ns)
items_found no_items b st seen i ns h = nothing_behind i ns (none_stand b ns h)
items_found (item d ds) b st seen zero ns h = (item_places st (seen ++ d ∷ []) ds, h)
items_found (item d ds) b st seen (suc i) ns h = items_found ds b st (seen ++ d ∷ []) i (behind_first ns) (behind_stand b (in_list seen ∷ st) d (item_places st (seen ++ d ∷ []) ds) ns h)

members_found : (ms : Pairs) (b : List ℕ) (st : List Frame) (seen : Members) (i : ℕ) (ns : List Node) → AllStand b (member_places st seen ms) ns → FoundAt b (member_at st seen ms i) (behind_some i ns)
members_found no_members b st seen i ns h = nothing_behind i ns (none_stand b ns h)
members_found (member k d ms) b st seen zero ns h = (member_places st (seen ++ (k, d) ∷ []) ms, h)
members_found (member k d ms) b st seen (suc i) ns h = members_found ms b st (seen ++ (k, d) ∷ []) i (behind_first ns) (behind_stand b (in_dict seen k ∷ st) d (member_places st (seen ++ (k, d) ∷ []) ms) ns h)

values_found : (d : Data) (b : List ℕ) (st : List Frame) (i : ℕ) (ns : List Node) → AllStand b (part_places st d) ns → FoundAt b (part_at st d i) (behind_some i ns)
values_found null b st i ns h = nothing_behind i ns (none_stand b ns h)
values_found (boolean x) b st i ns h = nothing_behind i ns (none_stand b ns h)
values_found (number s) b st i ns h = nothing_behind i ns (none_stand b ns h)
values_found (text s) b st i ns h = nothing_behind i ns (none_stand b ns h)
values_found (list ds) b st i ns h = items_found ds b st [] i ns h
values_found (dict ms) b st i ns h = members_found ms b st [] i ns h

part_found : (b : List ℕ) (o : Option Place) (i : ℕ) (ns : List Node) → FoundAt b o ns → FoundAt b (part_of o i) (behind_some i (parts_of ns))
part_found b None i ns h = nothing_behind i (parts_of ns) (ap parts_of h)
part_found b (Some p) i ns h = values_found p.value b p.within i (parts_of ns) (parts_stand b p.within p.value h.0 ns h.1)

all_found : (is : List ℕ) (b : List ℕ) (o : Option Place) (ns : List Node) → FoundAt b o ns → FoundAt b (place_at o is) (found ns is)
all_found [] b o ns h = h
all_found (i ∷ is) b o ns h = all_found is b (part_of o i) (behind_some i (parts_of ns)) (part_found b o i ns h)

first_found : (b : List ℕ) (o : Option Place) (ns : List Node) → FoundAt b o ns → Finds b o (first_of ns)
first_found b None ns h = subst (λ (xs : List Node). Finds b None (first_of xs)) (sym h) tt
first_found b (Some p) [] h = absurd (opened b p.within p.value h.0 [] h.1)
first_found b (Some p) (n ∷ ns) h = (opened b p.within p.value h.0 (n ∷ ns) h.1).0

-- from the whole value in
pub place_found : (b : List ℕ) (d : Data) (ns : List Node) (is : List ℕ) → IsOutline b d ns → Finds b (place_at (Some (place [] d)) is) (first_of (found ns is))
place_found b d ns is h = first_found b (place_at (Some (place [] d)) is) (found ns is) (all_found is b (Some (place [] d)) ns ([], subst (λ (ps : List Place). AllStand b ps ns) (sym (append-nil (places [] d))) h))

-- ---- the loops

pub some_behind : (k : ℕ) (ns : List Node) → 0 < k → behind_some k ns ≡ behind_some (k - 1) (behind_first ns)
some_behind zero ns lt = absurd (omega arith)
some_behind (suc k) ns lt = let e : suc k - 1 ≡ k = omega arith in rw e refl

pub found_step : (ns : List Node) (is : List ℕ) (i : ℕ) → i < length is → found ns (drop i is) ≡ found (behind_some (get_or is i 0) (parts_of ns)) (drop (i + 1) is)
found_step ns is i lt = ap (found ns) (drop_more is i 0 lt)

pub found_end : (ns : List Node) (is : List ℕ) (i : ℕ) → length is ≤ i → found ns (drop i is) ≡ ns
found_end ns is i le = ap (found ns) (drop_all i is le)
