-- The faults of `read`, from those of the machine.
use Rattle.std.proofs.Common.{◌≡◌, ℕ, ◌-◌, ◌<◌, ◌≤◌, Bool, true, false, ◌==◌, ◌&&◌, ◌||◌, nat_lt, List, [], ◌∷◌, ◌++◌, length, take, Ok, Err, refl, sym, ap, subst, ◌∙◌, arith, eq-eqb, inl, inr}
use Rattle.std.proofs.lemmas.List.{length-append, length-take-le}
use Rattle.std.proofs.lemmas.Bool.{eqb-true}
use Rattle.std.proofs.Math.Seq.{take-length}
use Rattle.std.proofs.lemmas.Str.{utf8_valid_len-IsUtf8}
use Rattle.std.specs.Str.{IsUtf8}
use Rattle.std.specs.Str.Lossy.{utf8_valid_len}
use Rattle.asl_json_data.specs.Data.{Data}
use Rattle.asl_json.specs.View.{data_of}
use Rattle.asl_json_data.specs.Text.{quote, lone_spelled}
use Rattle.asl_json_scan.specs.private.Machine.{value, failed, run}
use Rattle.asl_json_scan.specs.private.Leads.{Fails}
use Rattle.asl_json_scan.specs.Open.{FaultAt}
use Rattle.asl_json_data.specs.Reads.{Reads}
use Rattle.asl_json_data.specs.Limits.{max_len}
use Rattle.asl_json_read.specs.Wrong.{front, FaultIn, MalformedAt, HasFault, IsFaultOf, IsFirstOf, IsRead, comes_before, place_of, rank_of, of_kind, placed, FitsIn, at_end}
use Rattle.asl_json_scan.specs.declared.fault.Fault.{Fault}
use Rattle.asl_json_scan.specs.declared.fault.Kind.{Kind}
use Rattle.asl_json_scan.specs.declared.fault.Kind.TheVariants.{Syntax, Duplicate, Depth, Number}
use Rattle.asl_json_scan.specs.declared.fault.Kind.TheVariants as kinds
use Rattle.asl_json_read.specs.declared.fault.JsonFault.{JsonFault}
use Rattle.asl_json_read.specs.declared.fault.JsonFault.TheVariants as faults
use Rattle.asl_json_scan.specs.declared.fault.Stop.{Stop}
use Rattle.asl_json_scan.specs.declared.fault.Stop.TheVariants as stops
use Rattle.asl_json.specs.declared.value.Json.{Json}
use Rattle.asl_json_scan.proofs.Passing.{text_read}
use Rattle.asl_json_scan.proofs.JudgingLemmas.{is_fault}
use Rattle.asl_json_scan.proofs.Leasting.{is_first, no_fault}

left_fits : (b : List ℕ) (kind : Kind) (left : ℕ) → FaultAt b kind left → left ≤ length b
left_fits b Syntax left h = omega (arith, ap length h.parts, length-append h.pre h.post, h.left_is)
left_fits b kinds.Lone left h = omega (arith, ap length h.parts, length-append h.pre (lone_spelled h.half ++ h.post), h.left_is)
left_fits b Duplicate left h = omega (arith, ap length h.parts, length-append h.pre (quote ∷ (h.inner ++ quote ∷ h.post)), h.left_is)
left_fits b Depth left h = omega (arith, ap length h.parts, length-append h.pre (h.opener ∷ h.post), h.left_is)
left_fits b Number left h = omega (arith, ap length h.parts, length-append h.pre (h.spelled ++ h.post), h.left_is)

stop_fits : (b : List ℕ) (e : Stop) → Fails e (run true value [] b) → FitsIn (length b) e
stop_fits b stops.Memory h = tt
stop_fits b (stops.Fault f) h = left_fits b f.kind f.left (is_fault b f h)

-- ---- where the bytes before the first malformed sequence end

front_all : (b : List ℕ) → IsUtf8 b → front b ≡ b
front_all b u = ap (λ (n : ℕ). take n b) (utf8_valid_len-IsUtf8 b u) ∙ take-length b

len_front : (b : List ℕ) (end : ℕ) → end ≡ utf8_valid_len b → end < length b → length (front b) ≡ end
len_front b end e lt = length-take-le (utf8_valid_len b) b (omega (arith, e)) ∙ sym e

at_front : (b : List ℕ) (end : ℕ) → end ≡ utf8_valid_len b → take end b ≡ front b
at_front b end e = ap (λ (n : ℕ). take n b) e

not_malformed : (b : List ℕ) (at : ℕ) → IsUtf8 b → MalformedAt b at → ⊥
not_malformed b at u h = omega (arith, h.at_is, h.malformed, utf8_valid_len-IsUtf8 b u)

-- ---- the machine's fault is one of the bytes

in_front : (b : List ℕ) (kind : Kind) (left : ℕ) → FaultAt (front b) kind left → (length (front b) < length b → left ≡ 0 → ⊥) → FaultIn b kind (length (front b) - left)
in_front b kind left h ahead =
    let fits = left_fits (front b) kind left h in
    let back : length (front b) - (length (front b) - left) ≡ left = omega arith in
    record { within = omega arith; fault_is = rw back h; first = λ e. at_the_end e fits (length b) ahead }
  where
    at_the_end : (length (front b) - left) ≡ length (front b) → left ≤ length (front b) → (n : ℕ) → (length (front b) < n → left ≡ 0 → ⊥) → n ≤ (length (front b) - left)
    at_the_end e fits n ahead = grind (arith, e, fits, ahead)

of_kind_is : (b : List ℕ) (kind : Kind) (at : ℕ) → FaultIn b kind at → IsFaultOf b (of_kind kind at)
of_kind_is b Syntax at h = inl h
of_kind_is b kinds.Lone at h = inr h
of_kind_is b Duplicate at h = h
of_kind_is b Depth at h = h
of_kind_is b Number at h = h

-- what is said of the machine's stop on the front, which isn't at its end where more bytes follow
record StopsIn (b : List ℕ) (len : ℕ) (e : Stop) : Type 0 where
  pub len_is : length (front b) ≡ len
  pub fails : Fails e (run true value [] (front b))
  pub ahead : len < length b → at_end e ≡ false

no_zero : (n : ℕ) → (n == 0) ≡ false → n ≡ 0 → ⊥
no_zero n e z = let yes : (n == 0) ≡ true = eq-eqb n 0 z in cc

stop_is : (b : List ℕ) (len : ℕ) (e : Stop) → StopsIn b len e → IsFaultOf b (placed len e)
stop_is b len stops.Memory h = tt
stop_is b len (stops.Fault f) h =
    subst (λ (n : ℕ). IsFaultOf b (of_kind f.kind (n - f.left))) h.len_is
    (of_kind_is b f.kind (length (front b) - f.left) (in_front b f.kind f.left (is_fault (front b) f h.fails) (λ lt. no_zero f.left (h.ahead (subst (λ (n : ℕ). n < length b) h.len_is lt)))))

-- ---- no other fault comes before it

abbrev rank : Kind → ℕ
rank Syntax = 2
rank kinds.Lone = 2
rank Depth = 3
rank Number = 4
rank Duplicate = 5

-- a fault of the bytes that is none of the size comes no earlier than at this place, and there with no lower rank
record Follows (f : JsonFault) (at rank : ℕ) : Type 0 where
  pub sized : (rank_of f == 0) ≡ false
  pub behind : at ≤ place_of f
  pub ranked : place_of f ≡ at → rank ≤ rank_of f

not_before : (sized : Bool) (p at r rank : ℕ) → sized ≡ false → at ≤ p → (p ≡ at → rank ≤ r) → (sized || nat_lt p at || ((p == at) && nat_lt r rank)) ≡ false
not_before true p at r rank s b h = absurd cc
not_before false p at r rank s b h = grind (arith, b, h)

follows_first : (f : JsonFault) (kind : Kind) (at : ℕ) → Follows f at (rank kind) → comes_before f (of_kind kind at) ≡ false
follows_first f Syntax at h = not_before (rank_of f == 0) (place_of f) at (rank_of f) 2 h.sized h.behind h.ranked
follows_first f kinds.Lone at h = not_before (rank_of f == 0) (place_of f) at (rank_of f) 2 h.sized h.behind h.ranked
follows_first f Depth at h = not_before (rank_of f == 0) (place_of f) at (rank_of f) 3 h.sized h.behind h.ranked
follows_first f Number at h = not_before (rank_of f == 0) (place_of f) at (rank_of f) 4 h.sized h.behind h.ranked
follows_first f Duplicate at h = not_before (rank_of f == 0) (place_of f) at (rank_of f) 5 h.sized h.behind h.ranked

kind_follows : (b : List ℕ) (k : Kind) (left : ℕ) → run true value [] (front b) ≡ failed k left → left ≤ length (front b) → (kind : Kind) (there : ℕ) → FaultIn b kind there → ((length (front b) - left) ≤ there) × (there ≡ (length (front b) - left) → kind ≡ k)
kind_follows b k left answer fits kind there h =
    let by = is_first (front b) k left answer kind (length (front b) - there) h.fault_is in
    (omega (arith, h.within, fits, by.0), λ same. by.1 (omega (arith, h.within, fits, same)))

kind_rank : (kind k : Kind) → kind ≡ k → rank k ≤ rank kind
kind_rank kind k e = subst (λ (x : Kind). rank x ≤ rank kind) e (omega arith)

-- the machine's stop against each fault that the bytes may have
stop_follows : (b : List ℕ) (len : ℕ) (g : Fault) → length b ≤ max_len → StopsIn b len (stops.Fault g) → (f : JsonFault) → HasFault b f → Follows f (len - g.left) (rank g.kind)
stop_follows b len g small h f has = of_fault f has
  where
    fits : g.left ≤ length (front b)
    fits = left_fits (front b) g.kind g.left (is_fault (front b) g h.fails)

    by : (kind : Kind) (there : ℕ) → FaultIn b kind there → ((length (front b) - g.left) ≤ there) × (there ≡ (length (front b) - g.left) → kind ≡ g.kind)
    by kind there k = kind_follows b g.kind g.left h.fails fits kind there k

    behind : (kind : Kind) (there : ℕ) → FaultIn b kind there → (len - g.left) ≤ there
    behind kind there k = omega (arith, (by kind there k).0, h.len_is)

    ranked : (kind : Kind) (there : ℕ) → FaultIn b kind there → there ≡ (len - g.left) → rank g.kind ≤ rank kind
    ranked kind there k e = kind_rank kind g.kind ((by kind there k).1 (omega (arith, e, h.len_is)))

    malformed : (at : ℕ) → MalformedAt b at → at ≡ len - g.left → ⊥
    malformed at m e =
        let here : length (front b) ≡ at = len_front b at m.at_is m.malformed in
        let z : g.left ≡ 0 = omega (arith, e, here, h.len_is, fits) in
        no_zero g.left (h.ahead (omega (arith, here, h.len_is, m.malformed))) z

    of_fault : (f : JsonFault) → HasFault b f → Follows f (len - g.left) (rank g.kind)
    of_fault (faults.Syntax at) (inl k) = record { sized = refl; behind = behind Syntax at k; ranked = ranked Syntax at k }
    of_fault (faults.Syntax at) (inr k) = record { sized = refl; behind = behind kinds.Lone at k; ranked = ranked kinds.Lone at k }
    of_fault (faults.Duplicate at) k = record { sized = refl; behind = behind Duplicate at k; ranked = ranked Duplicate at k }
    of_fault (faults.Depth at) k = record { sized = refl; behind = behind Depth at k; ranked = ranked Depth at k }
    of_fault (faults.Number at) k = record { sized = refl; behind = behind Number at k; ranked = ranked Number at k }
    of_fault faults.Size k = absurd (omega (arith, k, small))
    of_fault (faults.Utf8 at) k = record { sized = refl; behind = omega (arith, len_front b at k.at_is k.malformed, h.len_is); ranked = λ e. absurd (malformed at k e) }
    of_fault faults.OutOfMemory k = absurd k

of_kind_first : (b : List ℕ) (kind : Kind) (at : ℕ) → ((f : JsonFault) → HasFault b f → Follows f at (rank kind)) → IsFirstOf b (of_kind kind at)
of_kind_first b Syntax at h = λ f k. follows_first f Syntax at (h f k)
of_kind_first b kinds.Lone at h = λ f k. follows_first f kinds.Lone at (h f k)
of_kind_first b Duplicate at h = λ f k. follows_first f Duplicate at (h f k)
of_kind_first b Depth at h = λ f k. follows_first f Depth at (h f k)
of_kind_first b Number at h = λ f k. follows_first f Number at (h f k)

stop_first : (b : List ℕ) (len : ℕ) (e : Stop) → length b ≤ max_len → StopsIn b len e → IsFirstOf b (placed len e)
stop_first b len stops.Memory small h = tt
stop_first b len (stops.Fault g) small h = of_kind_first b g.kind (len - g.left) (stop_follows b len g small h)

-- a malformed sequence, before which no fault stands
utf8_first : (b : List ℕ) (at : ℕ) → length b ≤ max_len → MalformedAt b at → ((kind : Kind) (there : ℕ) → FaultIn b kind there → ⊥) → IsFirstOf b (faults.Utf8 at)
utf8_first b at small m none = λ f has. of_fault f has
  where
    of_fault : (f : JsonFault) → HasFault b f → comes_before f (faults.Utf8 at) ≡ false
    of_fault (faults.Syntax there) (inl k) = absurd (none Syntax there k)
    of_fault (faults.Syntax there) (inr k) = absurd (none kinds.Lone there k)
    of_fault (faults.Duplicate there) k = absurd (none Duplicate there k)
    of_fault (faults.Depth there) k = absurd (none Depth there k)
    of_fault (faults.Number there) k = absurd (none Number there k)
    of_fault faults.Size k = absurd (omega (arith, k, small))
    of_fault (faults.Utf8 there) k = not_before false there at 1 1 refl (omega (arith, k.at_is, m.at_is)) (λ e. omega arith)
    of_fault faults.OutOfMemory k = absurd k

front_is_read : (b : List ℕ) (v : Data) → run true value [] (front b) ≡ Ok v → (kind : Kind) (there : ℕ) → FaultIn b kind there → ⊥
front_is_read b v answer kind there k = no_fault (front b) v answer kind (length (front b) - there) k.fault_is

front_breaks_off : (b : List ℕ) (at : ℕ) (g : Fault) → MalformedAt b at → run true value [] (front b) ≡ Err g → g.left ≡ 0 → (kind : Kind) (there : ℕ) → FaultIn b kind there → ⊥
front_breaks_off b at g m answer z kind there k =
    let fits = left_fits (front b) g.kind g.left (is_fault (front b) g answer) in
    let by = kind_follows b g.kind g.left answer fits kind there k in
    let here = len_front b at m.at_is m.malformed in
    let there_is : there ≡ length (front b) = omega (arith, by.0, z, k.within) in
    omega (arith, k.first there_is, there_is, here, m.malformed)

-- ---- what `malformed` and `read` answer

-- bytes of which only a front is UTF-8
pub record IsCut (b : List ℕ) (end : ℕ) : Type 0 where
  pub end_is : end ≡ utf8_valid_len b
  pub inside : end < length b
  pub small : length b ≤ max_len

malformed_at : (b : List ℕ) (end : ℕ) → IsCut b end → MalformedAt b end
malformed_at b end c = record { at_is = c.end_is; malformed = c.inside }

on_front : (b : List ℕ) (end : ℕ) (P : List ℕ → Type 0) → IsCut b end → P (take end b) → P (front b)
on_front b end P c h = subst P (at_front b end c.end_is) h

pub cut_has : (b : List ℕ) (end : ℕ) → IsCut b end → IsFaultOf b (faults.Utf8 end)
cut_has b end c = malformed_at b end c

pub cut_read : (b : List ℕ) (end : ℕ) (v : Data) → IsCut b end → run true value [] (take end b) ≡ Ok v → IsFirstOf b (faults.Utf8 end)
cut_read b end v c h = utf8_first b end c.small (malformed_at b end c) (front_is_read b v (on_front b end (λ (x : List ℕ). run true value [] x ≡ Ok v) c h))

pub cut_open : (b : List ℕ) (end : ℕ) (x : Stop) → IsCut b end → Fails x (run true value [] (take end b)) → at_end x ≡ true → IsFirstOf b (faults.Utf8 end)
cut_open b end stops.Memory c h z = absurd cc
cut_open b end (stops.Fault g) c h z = utf8_first b end c.small (malformed_at b end c) (front_breaks_off b end g (malformed_at b end c) (on_front b end (λ (x : List ℕ). run true value [] x ≡ Err g) c h) (eqb-true g.left 0 z))

cut_stops : (b : List ℕ) (end : ℕ) (x : Stop) → IsCut b end → Fails x (run true value [] (take end b)) → at_end x ≡ false → StopsIn b end x
cut_stops b end x c h z = record { len_is = len_front b end c.end_is c.inside; fails = on_front b end (λ (y : List ℕ). Fails x (run true value [] y)) c h; ahead = λ _. z }

pub cut_fits : (b : List ℕ) (end : ℕ) (x : Stop) → IsCut b end → Fails x (run true value [] (take end b)) → FitsIn end x
cut_fits b end x c h = subst (λ (n : ℕ). FitsIn n x) (len_front b end c.end_is c.inside) (stop_fits (front b) x (on_front b end (λ (y : List ℕ). Fails x (run true value [] y)) c h))

pub cut_is : (b : List ℕ) (end : ℕ) (x : Stop) → IsCut b end → Fails x (run true value [] (take end b)) → at_end x ≡ false → IsFaultOf b (placed end x)
cut_is b end x c h z = stop_is b end x (cut_stops b end x c h z)

pub cut_first : (b : List ℕ) (end : ℕ) (x : Stop) → IsCut b end → Fails x (run true value [] (take end b)) → at_end x ≡ false → IsFirstOf b (placed end x)
cut_first b end x c h z = stop_first b end x c.small (cut_stops b end x c h z)

-- the machine over bytes that are UTF-8
pub record IsJudged (b : List ℕ) (x : Stop) : Type 0 where
  pub utf8 : IsUtf8 b
  pub small : length b ≤ max_len
  pub fails : Fails x (run true value [] b)

all_stops : (b : List ℕ) (x : Stop) → IsJudged b x → StopsIn b (length b) x
all_stops b x j =
    let same = front_all b j.utf8 in
    record { len_is = ap length same; fails = subst (λ (y : List ℕ). Fails x (run true value [] y)) (sym same) j.fails; ahead = λ lt. absurd (omega (arith, lt)) }

pub all_fits : (b : List ℕ) (x : Stop) → IsJudged b x → FitsIn (length b) x
all_fits b x j = stop_fits b x j.fails

pub all_is : (b : List ℕ) (x : Stop) → IsJudged b x → IsFaultOf b (placed (length b) x)
all_is b x j = stop_is b (length b) x (all_stops b x j)

pub all_first : (b : List ℕ) (x : Stop) → IsJudged b x → IsFirstOf b (placed (length b) x)
all_first b x j = stop_first b (length b) x j.small (all_stops b x j)

pub all_only : (b : List ℕ) (x : Stop) (v : Data) → IsJudged b x → Reads b v → IsRead {X = Json} data_of v (Err (placed (length b) x))
all_only b x v j r = told x j.fails
  where
    told : (x : Stop) → Fails x (run true value [] b) → IsRead {X = Json} data_of v (Err (placed (length b) x))
    told stops.Memory h = tt
    told (stops.Fault g) h = absurd (let e = text_read true v b r.0 r.1 in cc)

pub same_value : (b : List ℕ) (w v : Data) → run true value [] b ≡ Ok w → Reads b v → w ≡ v
same_value b w v h r = let e = text_read true v b r.0 r.1 in cc

-- what is read has no fault
pub all_faultless : (b : List ℕ) (v : Data) → IsUtf8 b → length b ≤ max_len → run true value [] b ≡ Ok v → (f : JsonFault) → HasFault b f → ⊥
all_faultless b v u small answer f has = of_fault f has
  where
    on_all : run true value [] (front b) ≡ Ok v
    on_all = subst (λ (x : List ℕ). run true value [] x ≡ Ok v) (sym (front_all b u)) answer

    of_fault : (f : JsonFault) → HasFault b f → ⊥
    of_fault (faults.Syntax there) (inl k) = front_is_read b v on_all Syntax there k
    of_fault (faults.Syntax there) (inr k) = front_is_read b v on_all kinds.Lone there k
    of_fault (faults.Duplicate there) k = front_is_read b v on_all Duplicate there k
    of_fault (faults.Depth there) k = front_is_read b v on_all Depth there k
    of_fault (faults.Number there) k = front_is_read b v on_all Number there k
    of_fault faults.Size k = omega (arith, k, small)
    of_fault (faults.Utf8 there) k = not_malformed b there u k
    of_fault faults.OutOfMemory k = k

-- no value is spelled where the machine fails
pub fails_none : (b : List ℕ) (e : Stop) (f : Fault) (v : Data) → e ≡ stops.Fault f → Fails e (run true value [] b) → Reads b v → ⊥
fails_none b stops.Memory f v is h r = absurd (cc)
fails_none b (stops.Fault g) f v is h r = let read : run true value [] b ≡ Ok v = text_read true v b r.0 r.1 in absurd (cc)
