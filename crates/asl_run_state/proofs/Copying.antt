-- Copying the first events of a history.
use Rattle.std.proofs.Common.{ℕ, zero, suc, ◌≡◌, ◌<◌, List, [], ◌∷◌, ◌++◌, length, get_or, take, sym, arith, append_assoc, append-nil}
use Rattle.asl_history.specs.declared.event.Event.{Event}
use Rattle.asl_history.specs.Events.{previous_id, IsNext, AreLinked, IsHistory, event_after}

linked-at : (before es : List Event) (i : ℕ) (e : Event) → AreLinked before es → i < length es → e ≡ get_or es i e → IsNext (before ++ take i es) e
linked-at before [] i e h l g = absurd (omega arith)
linked-at before (x ∷ es) zero e h l g = rw (append-nil before, g) h.0
linked-at before (x ∷ es) (suc i) e h l g = rw append_assoc at (linked-at (before ++ x ∷ []) es i e h.1 (omega arith) g)

-- each event of a history may follow those before it
pub next-at : (es : List Event) (i : ℕ) (e : Event) → IsHistory es → i < length es → e ≡ get_or es i e → IsNext (take i es) e
next-at es i e h l g = linked-at [] es i e h l g

-- made anew behind those, it is the same
pub same-event : (before : List Event) (e : Event) → IsNext before e → event_after before e.at e.kind e.place e.name e.body ≡ e
same-event before e h = λ i. record {
  id = sym h.number i;
  previous = sym h.link i;
  at = e.at;
  kind = e.kind;
  place = e.place;
  name = e.name;
  body = e.body;
}

linked-take : (n : ℕ) (before es : List Event) → AreLinked before es → AreLinked before (take n es)
linked-take zero before es h = tt
linked-take (suc n) before [] h = tt
linked-take (suc n) before (e ∷ es) h = (h.0, linked-take n (before ++ e ∷ []) es h.1)

-- the first so many events of a history are one
pub history-take : (n : ℕ) (es : List Event) → IsHistory es → IsHistory (take n es)
history-take n es h = linked-take n [] es h
