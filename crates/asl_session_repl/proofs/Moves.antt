-- Moves one after another.
use Rattle.std.proofs.Common.{ℕ, suc, ◌≡◌, ◌+◌, ◌-◌, ◌<◌, Bool, List, [], ◌∷◌, ◌++◌, true, false, sym, ◌∙◌, ap, arith, append_assoc, append-nil}
use Rattle.std.specs.Prelude.{◌&&◌, ◌||◌, codes}
use Rattle.asl_run_input.specs.declared.step_at.StepAt.{StepAt}
use Rattle.asl_session.specs.Sessions.{Session, world_in, reply_to, next_session}
use Rattle.asl_session.specs.declared.command.Command.TheVariants.{Step}
use Rattle.asl_session_repl.specs.Failing.{handles_error, ends_badly}
use Rattle.asl_session_repl.specs.Onward.{is_stepped, is_halt, halted, goes_on, moved, move_line, gone, gone_lines}

left : (most k : ℕ) → k < most → most - k ≡ suc (most - (k + 1))
left most k l = omega (arith, l)

pub lines-next : (h : Bool) (most k t : ℕ) (s : Session) (out all : List ℕ) → k < most → goes_on h t s ≡ true → out ++ gone_lines h (most - k) t s ≡ all → (out ++ move_line h t s) ++ gone_lines h (most - (k + 1)) t (moved t s) ≡ all
lines-next h most k t s out all l g e =
    let one : out ++ gone_lines h (suc (most - (k + 1))) t s ≡ all = rw (left most k l) at e in
    let two : out ++ (move_line h t s ++ gone_lines h (most - (k + 1)) t (moved t s)) ≡ all = rw g at one in
    append_assoc out (move_line h t s) (gone_lines h (most - (k + 1)) t (moved t s)) ∙ two

pub lines-stop : (h : Bool) (most k t : ℕ) (s : Session) (out all : List ℕ) → k < most → goes_on h t s ≡ false → out ++ gone_lines h (most - k) t s ≡ all → out ++ move_line h t s ≡ all
lines-stop h most k t s out all l g e =
    let one : out ++ gone_lines h (suc (most - (k + 1))) t s ≡ all = rw (left most k l) at e in
    let two : out ++ (move_line h t s ++ []) ≡ all = rw g at one in
    ap (λ x. out ++ x) (sym (append-nil (move_line h t s))) ∙ two

pub gone-next : (h : Bool) (most k t : ℕ) (s : Session) (all : Session) → k < most → goes_on h t s ≡ true → gone h (most - k) t s ≡ all → gone h (most - (k + 1)) t (moved t s) ≡ all
gone-next h most k t s all l g e =
    let one : gone h (suc (most - (k + 1))) t s ≡ all = rw (left most k l) at e in
    rw g at one

-- ---- moves stop behind a step

pub halt-is : (s u : Session) (a : StepAt) (halts taken handled badly : Bool) → taken ≡ is_stepped (reply_to s (Step a)) → handled ≡ handles_error s a → u ≡ next_session s (Step a) → badly ≡ ends_badly (world_in u) a.place → halts ≡ (taken && (handled || badly)) → halts ≡ is_halt true s a
halt-is s u a halts taken handled badly e f g k h = h ∙ (λ i. e i && (f i || (k ∙ ap (λ (v : Session). ends_badly (world_in v) a.place) g) i))

pub halted-line : (h : Bool) (old mid new line : List ℕ) → h ≡ true → mid ≡ old ++ line → new ≡ mid ++ (codes "something failed" ++ 10 ∷ []) → new ≡ old ++ halted h line
halted-line h old mid new line e m n = n ∙ ap (λ (l : List ℕ). l ++ (codes "something failed" ++ 10 ∷ [])) m ∙ append_assoc old line (codes "something failed" ++ 10 ∷ []) ∙ ap (λ (b : Bool). old ++ halted b line) (sym e)
