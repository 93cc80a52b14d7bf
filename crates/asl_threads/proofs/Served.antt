-- What turns add to seats.
use Rattle.std.proofs.Common.{◌≡◌, ◌∙◌, ℕ, zero, suc, ◌<◌, ◌≤◌, ◌+◌, ◌⊎◌, List, [], ◌∷◌, ◌++◌, length, Bool, true, false, arith, lit≤, refl, sym, ap, subst, append_assoc, append-nil, length-append}
use mathlib.Core.Logic.{⊎_elim}
use Rattle.std.proofs.lemmas.List.Elements.{All-nil, All-append, All-cons}
use Rattle.std.specs.List.{AllZip}
use Rattle.asl_session.specs.Sessions.{reply_to}
use Rattle.asl_session.specs.Laws.{is_step}
use Rattle.asl_threads.specs.declared.seat.Entry.{Entry}
use Rattle.asl_threads.specs.Runs.{SharedView, SeatView, session_of}
use Rattle.asl_threads.specs.Workers.{IsTold, Take, TakesTurns, Serves}
use Rattle.asl_threads.specs.Turns.{DueAt, Never, Later, Now, Stay, Tells, step_of, TurnsBy, Turned, Grows, AllGrow}

-- ---- a worker that ends with a turn that says it is the last

pub ends : {S : Type 0} (turn : ℕ → S → S → Bool → Type 0) (most n : ℕ) (old mid new : S) (last : Bool) → last ≡ true → n < most → Take turn n old mid false → turn n mid new last → TakesTurns most turn old new
ends turn most n old mid new last is below before here = record {
  count = suc n;
  last = true;
  few = omega arith;
  all = λ e. absurd cc;
  turns = (mid, before, subst (λ b. turn n mid new b) is here);
}

-- ---- one turn

none-more : (old new : SeatView) → new ≡ old → Grows 0 old new
none-more old new same = record {
  label = ap (λ (s : SeatView). s.label) same;
  number = ap (λ (s : SeatView). s.number) same;
  more = [];
  list = ap (λ (s : SeatView). s.list) same ∙ sym (append-nil old.list);
  few = lit≤ tt;
  steps = All-nil (λ (e : Entry). is_step e.command ≡ true);
}

at-most : (n m : ℕ) (old new : SeatView) → n ≤ m → Grows n old new → Grows m old new
at-most n m old new within h = record { label = h.label; number = h.number; more = h.more; list = h.list; few = (let f = h.few in omega arith); steps = h.steps }

told : (p : List ℕ) (now : ℕ) (old new : SharedView) (seat seat' : SeatView) → Tells (step_of p now) old new seat seat' → Grows 1 seat seat'
told p now old new seat seat' h =
    let e : Entry = record { command = step_of p now; reply = reply_to (session_of old) (step_of p now) } in
    record {
      label = ap (λ (s : SeatView). s.label) h.entry;
      number = ap (λ (s : SeatView). s.number) h.entry;
      more = e ∷ [];
      list = ap (λ (s : SeatView). s.list) h.entry;
      few = lit≤ tt;
      steps = All-cons (λ (e : Entry). is_step e.command ≡ true) e [] refl (All-nil (λ (e : Entry). is_step e.command ≡ true));
    }

turn-grows : (d : DueAt) (now : ℕ) (old new : SharedView) (seat seat' : SeatView) (last : Bool) → TurnsBy d now old new seat seat' last → Grows 1 seat seat'
turn-grows Never now old new seat seat' last h = at-most 0 1 seat seat' (lit≤ tt) (none-more seat seat' h.1.seat_stays)
turn-grows Later now old new seat seat' last h = at-most 0 1 seat seat' (lit≤ tt) (none-more seat seat' h.1.seat_stays)
turn-grows (Now p) now old new seat seat' last h = ⊎_elim
    (λ (s : Stay old new seat seat'). at-most 0 1 seat seat' (lit≤ tt) (none-more seat seat' s.seat_stays))
    (λ (t : Tells (step_of p now) old new seat seat'). told p now old new seat seat' t)
    h.1

turned-grows : (says : ℕ → Type 0) (seat seat' : SeatView) (last : Bool) → Turned says seat seat' last → Grows 1 seat seat'
turned-grows says seat seat' last h = turn-grows _ h.0 h.2 h.3 seat seat' last h.4

-- ---- the turns of a worker

further : (n : ℕ) (a b c : SeatView) → Grows n a b → Grows 1 b c → Grows (suc n) a c
further n a b c h k = record {
  label = k.label ∙ h.label;
  number = k.number ∙ h.number;
  more = h.more ++ k.more;
  list = k.list ∙ (ap (λ (es : List Entry). es ++ k.more) h.list ∙ append_assoc a.list h.more k.more);
  few = (let f = h.few in let g = k.few in omega (arith, length-append h.more k.more));
  steps = All-append (λ (e : Entry). is_step e.command ≡ true) h.more k.more h.steps k.steps;
}

module _ (began ended : ℕ → ℕ → Type 0) (says : ℕ → Type 0) where
  taken-grow : (worker n : ℕ) (old new : SeatView) (last : Bool) → Take (IsTold began ended (Turned says) worker) n old new last → Grows n old new
  taken-grow worker zero old new last h = none-more old new h.0
  taken-grow worker (suc n) old new last h = further n old h.0 new (taken-grow worker n old h.0 false h.1) (turned-grows says h.0 new last h.2.turned)

  served-grow : (most : ℕ) (old new : SeatView) → Serves most (IsTold began ended (Turned says)) old new → Grows most old new
  unfolding Serves
  served-grow most old new h = ⊎_elim
      (λ (e : new ≡ old). at-most 0 most old new (omega arith) (none-more old new e))
      (λ (t : (worker : ℕ) × TakesTurns most (IsTold began ended (Turned says) worker) old new). at-most t.1.count most old new t.1.few (taken-grow t.0 t.1.count old new t.1.last t.1.turns))
      h

  pub all_grow : (most : ℕ) (old new : List SeatView) → AllZip (Serves most (IsTold began ended (Turned says))) old new → AllGrow most old new
  all_grow most [] [] h = tt
  all_grow most [] (y ∷ ys) h = h
  all_grow most (x ∷ xs) [] h = h
  all_grow most (x ∷ xs) (y ∷ ys) h = (served-grow most x y h.0, all_grow most xs ys h.1)
