-- How a list of linked events grows and shrinks at its end.
use Rattle.std.proofs.Common.{ℕ, ◌≡◌, ◌≤◌, ◌+◌, max, Bool, true, false, List, [], ◌∷◌, ◌++◌, length, length-append, sym, ◌∙◌, append_assoc, append-nil, arith, cond}
use Rattle.asl_history.specs.declared.event.Event.{Event}
use Rattle.asl_history.specs.Events.{is_along, previous_id, IsNext, AreLinked, IsHistory}

AreLinked-more : (before es : List Event) (e : Event) → AreLinked before es → IsNext (before ++ es) e → AreLinked before (es ++ e ∷ [])
AreLinked-more before [] e h next = (rw append-nil at next, tt)
AreLinked-more before (x ∷ es) e h next = (h.0, AreLinked-more (before ++ x ∷ []) es e h.1 (rw append_assoc next))

pub IsHistory-more : (es : List Event) (e : Event) → IsHistory es → IsNext es e → IsHistory (es ++ e ∷ [])
IsHistory-more es e h next = AreLinked-more [] es e h next

AreLinked-front : (before es : List Event) (e : Event) → AreLinked before (es ++ e ∷ []) → AreLinked before es × IsNext (before ++ es) e
AreLinked-front before [] e h = (tt, rw append-nil h.0)
AreLinked-front before (x ∷ es) e h = let r = AreLinked-front (before ++ x ∷ []) es e h.1 in ((h.0, r.0), rw append_assoc at r.1)

pub IsHistory-front : (es : List Event) (e : Event) → IsHistory (es ++ e ∷ []) → IsHistory es × IsNext es e
IsHistory-front es e h = AreLinked-front [] es e h

one_id : (b : Bool) (n : ℕ) → cond b n 0 ≤ n
one_id true n = omega arith
one_id false n = omega arith

previous_id-bound : (place : List ℕ) (before es : List Event) → AreLinked before es → previous_id place es ≤ length before + length es
previous_id-bound place before [] h = omega arith
previous_id-bound place before (e ∷ es) h =
    let rest = previous_id-bound place (before ++ e ∷ []) es h.1 in
    let here = one_id (is_along place e) e.id in
    let number = h.0.number in
    let len = length-append before (e ∷ []) in
    omega arith

previous_id-append : (place : List ℕ) (es : List Event) (e : Event) → previous_id place (es ++ e ∷ []) ≡ max (previous_id place es) (cond (is_along place e) e.id 0)
previous_id-append place [] e = omega arith
previous_id-append place (x ∷ es) e = let rest = previous_id-append place es e in omega arith

pub last_along : (place : List ℕ) (es : List Event) (e : Event) → IsHistory (es ++ e ∷ []) → is_along place e ≡ true → previous_id place (es ++ e ∷ []) ≡ e.id
last_along place es e h along =
    let front = IsHistory-front es e h in
    let number = front.1.number in
    let bound = previous_id-bound place [] es front.0 in
    let all = rw along at (previous_id-append place es e) in
    omega arith

pub last_elsewhere : (place : List ℕ) (es : List Event) (e : Event) → is_along place e ≡ false → previous_id place (es ++ e ∷ []) ≡ previous_id place es
last_elsewhere place es e along =
    let all = rw along at (previous_id-append place es e) in
    omega arith

-- ---- what a look from the end tells

pub found_last : (place : List ℕ) (rest front all : List Event) (e : Event) → rest ≡ front ++ e ∷ [] → IsHistory rest → previous_id place rest ≡ previous_id place all → is_along place e ≡ true → e.id ≡ previous_id place all
found_last place rest front all e split h same along = sym (last_along place front e (rw split at h) along) ∙ rw (← split) same

pub passed_last : (place : List ℕ) (rest front all : List Event) (e : Event) → rest ≡ front ++ e ∷ [] → IsHistory rest → previous_id place rest ≡ previous_id place all → is_along place e ≡ false → IsHistory front × (previous_id place front ≡ previous_id place all)
passed_last place rest front all e split h same along =
    let front_linked = IsHistory-front front e (rw split at h) in
    (front_linked.0, sym (last_elsewhere place front e along) ∙ rw (← split) same)
