-- From an event that failed since one before it did to that one.
use Rattle.std.proofs.Common.{◌≡◌, ◌∙◌, ◌<◌, ◌+◌, ◌-◌, ℕ, suc, Bool, true, false, List, length, ap, sym, arith, Some, None}
use Rattle.std.specs.Prelude.{Option, if◌then◌else◌}
use Rattle.std.specs.Option.{option_and_then}
use Rattle.asl_json_data.specs.Data.{Data}
use Rattle.asl_history.specs.declared.event.Event.{Event}
use Rattle.asl_exec.specs.Lacking.{is_failed_with, is_handed_up, event_of, failed_task}

-- what becomes of an event
abbrev on : ℕ → Data → List Event → Event → Option Event
on n d es e = if is_failed_with d e then Some e else if is_handed_up e.kind then failed_task n d e.previous es else None

further : (n : ℕ) (d : Data) (id : ℕ) (es : List Event) (e : Event) → event_of id es ≡ Some e → is_failed_with d e ≡ false → is_handed_up e.kind ≡ true → failed_task (suc n) d id es ≡ failed_task n d e.previous es
further n d id es e at other up =
    ap (option_and_then (on n d es)) at
    ∙ ap (λ (b : Bool). if b then Some e else if is_handed_up e.kind then failed_task n d e.previous es else None) other
    ∙ ap (λ (b : Bool). if b then failed_task n d e.previous es else None) up

-- with one event less to go
pub step : (d : Data) (id first : ℕ) (es : List Event) (i : ℕ) (e : Event) → i < length es → event_of id es ≡ Some e → is_failed_with d e ≡ false → is_handed_up e.kind ≡ true
    → failed_task (length es - i) d id es ≡ failed_task (length es) d first es → failed_task (length es - (i + 1)) d e.previous es ≡ failed_task (length es) d first es
step d id first es i e lt at other up so_far =
    let left : length es - i ≡ suc (length es - (i + 1)) = omega (arith, lt) in
    sym (further (length es - (i + 1)) d id es e at other up) ∙ sym (ap (λ (n : ℕ). failed_task n d id es) left) ∙ so_far
