-- A branch that goes on under one that may step shows that a branch directly under this one has failed.
use Rattle.std.proofs.Common.{ℕ, ◌≡◌, ◌++◌, true, false, List, [], ◌∷◌, refl, ap, Some}
use Rattle.std.specs.Prelude.{is_some}
use Rattle.std.specs.List.{list_any}
use Rattle.asl_history.specs.Places.{is_prefix}
use Rattle.asl_step.specs.Records.{is_failed}
use Rattle.asl_step.specs.declared.effect.Effect.{Effect}
use Rattle.asl_step.specs.declared.record.ErrorOut.{ErrorOut}
use Rattle.asl_step.specs.declared.record.Record.{Record}
use Rattle.asl_step.specs.declared.record.Record.TheVariants.{New, Ready, Pausing, Again, Forked, Done, Failed}
use Rattle.asl_kinds.specs.Forks.{first_error}
use Rattle.asl_run_branches.specs.Branches.{children_at}
use Rattle.asl_run_state.specs.World.{World}
use Rattle.asl_run_input.specs.declared.setup.Setup.{Setup}
use Rattle.asl_exec.proofs.Going.{slots_at, IsReady}
use Rattle.asl_exec_swap_laws.proofs.Changing.{undone-by}
use Rattle.asl_exec_swap_laws.proofs.Rooted.{is_joining, rooted-above, below}
use Rattle.asl_exec_swap_laws.proofs.Pending.{IsPending, unfinished-by}
use Rattle.asl_exec_swap_laws.proofs.Inline.{IsGoing, joining-free, child-going, going-fails, going-at, not-done}

any-error : (rs : List Record) → list_any is_failed rs ≡ true → (e : ErrorOut) × (first_error rs ≡ Some e)
any-error [] h = (cc)
any-error (New n x ∷ rs) h = any-error rs h
any-error (Ready n x ∷ rs) h = any-error rs h
any-error (Pausing n x since until ∷ rs) h = any-error rs h
any-error (Again n x since uses until ∷ rs) h = any-error rs h
any-error (Forked n x since uses items ∷ rs) h = any-error rs h
any-error (Done x ∷ rs) h = any-error rs h
any-error (Failed e ∷ rs) h = (e, refl)

pub error-any : (rs : List Record) (e : ErrorOut) → first_error rs ≡ Some e → list_any is_failed rs ≡ true
error-any [] e h = (cc)
error-any (New n x ∷ rs) e h = error-any rs e h
error-any (Ready n x ∷ rs) e h = error-any rs e h
error-any (Pausing n x since until ∷ rs) e h = error-any rs e h
error-any (Again n x since uses until ∷ rs) e h = error-any rs e h
error-any (Forked n x since uses items ∷ rs) e h = error-any rs e h
error-any (Done x ∷ rs) e h = error-any rs e h
error-any (Failed f ∷ rs) e h = refl

-- it waits for those under it, one of which has failed
pub record HasFailed (u : World) (q : List ℕ) (m : Record) : Type 0 where
  pub joins : is_joining m ≡ true
  pub error : ErrorOut
  pub first : first_error (children_at q u.branches) ≡ Some error

pub failed-under : (s : Setup) (u : World) (p q : List ℕ) (r m : Record) (e : Effect) → IsPending s u p r e → IsReady s u q u.last m → is_prefix q p ≡ true → is_prefix p q ≡ false → HasFailed u q m
failed-under s u p q r m e w h a d =
    let bs = u.branches in
    let under = below q p a d in
    let i = under.0 in
    let rest = under.1.0 in
    let here : IsGoing p bs r = record {
      there = w.there;
      undone = not-done r (undone-by u p u.last (slots_at s u p) r w.ready);
      whole = unfinished-by u p u.last (slots_at s u p) r w.ready;
    } in
    let g = going-at bs p (q ++ i ∷ rest) r under.1.1 here in
    let c = child-going bs w.rooted q i rest r g in
    let joins : is_joining m ≡ true = rw h.there at (rooted-above bs w.rooted rest q i (ap is_some g.there)) in
    let failed = going-fails bs q i c.0 c.1 (joining-free u q u.last (slots_at s u q) m joins h.ready) in
    let x = any-error (children_at q bs) failed in
    record { joins = joins; error = x.0; first = x.1 }
