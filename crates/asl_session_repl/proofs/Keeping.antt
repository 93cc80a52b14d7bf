-- A line adds steps behind those of the session, or takes the last of them back; where the start is settled, it begins nothing anew.
use Rattle.std.proofs.Common.{ℕ, zero, suc, Bool, true, false, ◌≡◌, ◌≤◌, List, [], ◌∷◌, ◌++◌, length, take, drop, refl, sym, ◌∙◌, ap, subst, arith, append_assoc, append-nil}
use Rattle.std.specs.Prelude.{if◌then◌else◌, Option, Some, None, IfSome}
use Rattle.std.proofs.lemmas.List.{take-append-le, take-append-drop}
use Rattle.std.proofs.Math.Seq.{take-length}
use Rattle.asl_run_input.specs.declared.step_at.StepAt.{StepAt}
use Rattle.asl_exec.specs.declared.execution.Execution.{Execution}
use Rattle.asl_exec.specs.Steps.{opening, world_after}
use Rattle.asl_exec.specs.Views.{setup_of, world_of}
use Rattle.asl_exec.proofs.Growing.{after-append}
use Rattle.asl_trace.specs.declared.tree.Shows.TheVariants.{Changes}
use Rattle.asl_trace.specs.Steps.{tree_lines}
use Rattle.asl_session.specs.Sessions.{Session, reply_to, changed}
use Rattle.asl_session.specs.declared.command.Command.{Command}
use Rattle.asl_session.specs.declared.command.Command.TheVariants as command
use Rattle.asl_session.specs.declared.reply.Reply.{Reply}
use Rattle.asl_session.specs.declared.reply.Reply.TheVariants.{Stepped, Set, Cleared, Resumed, WentBack}
use Rattle.asl_session_repl.specs.declared.onward.Onward.{Onward}
use Rattle.asl_session_repl.specs.declared.onward.Onward.TheVariants.{Step}
use Rattle.asl_session_repl.specs.declared.request.Request.{Request}
use Rattle.asl_session_repl.specs.declared.request.Request.TheVariants.{Told, Step as Named, Next, Continue, Until}
use Rattle.asl_session_repl.specs.Dated.{last_moment, moment_of, dated_step}
use Rattle.asl_session_repl.specs.Onward.{onward_of, moved_by, moved, goes_on, gone, freed_by, freed}
use Rattle.asl_session_repl.specs.Answers.{Console, most_moves, gone_on, after, started_by, started, IsAnswer, Obeyed, Complained}
use Rattle.asl_session_repl.specs.declared.telling.Look.{Look}
use Rattle.asl_session_repl.specs.Telling.{AreToldThere, world_behind, lines_behind, IsToldOf}
use Rattle.asl_session_repl.specs.private.Shadows.{IsBehind}

-- ---- sessions that begin with the same, and have these steps and more

record Grows (s u : Session) : Type 0 where
  more : List StepAt
  setup_is : u.setup ≡ s.setup
  steps_are : u.steps ≡ s.steps ++ more

stays : (s : Session) → Grows s s
stays s = record { more = []; setup_is = refl; steps_are = sym (append-nil s.steps) }

further : (s t u : Session) → Grows s t → Grows t u → Grows s u
further s t u g h = record {
  more = g.more ++ h.more;
  setup_is = h.setup_is ∙ g.setup_is;
  steps_are = h.steps_are ∙ ap (λ (l : List StepAt). l ++ h.more) g.steps_are ∙ append_assoc s.steps g.more h.more;
}

either : (b : Bool) (s t u : Session) → Grows s t → Grows s u → Grows s (if b then t else u)
either true s t u g h = g
either false s t u g h = h

stepped : (s : Session) (a : StepAt) (r : Reply) → Grows s (changed s (command.Step a) r)
stepped s a Stepped = record { more = a ∷ []; setup_is = refl; steps_are = refl }
stepped s a r = stays s

resumed : (s : Session) (p : List ℕ) (r : Reply) → Grows s (changed s (command.Resume p) r)
resumed s p Resumed = record { more = []; setup_is = refl; steps_are = sym (append-nil s.steps) }
resumed s p r = stays s

by-onward : (s : Session) (o : Onward) → Grows s (moved_by s o)
by-onward s (Step a) = stepped s a (reply_to s (command.Step a))
by-onward s o = stays s

going : (h : Bool) (n t : ℕ) (s : Session) → Grows s (gone h n t s)
going h zero t s = stays s
going h (suc n) t s =
    let one : Grows s (moved t s) = by-onward s (onward_of t s) in
    either (goes_on h t s) s (gone h n t (moved t s)) (moved t s) (further s (moved t s) (gone h n t (moved t s)) one (going h n t (moved t s))) one

freeing : (s : Session) (o : Onward) → Grows s (freed_by s o)
freeing s (Step a) = resumed s a.place (reply_to s (command.Resume a.place))
freeing s o = stays s

going-on : (h : Bool) (n t : ℕ) (s : Session) → Grows s (gone_on h n t s)
going-on h n t s = further s (freed t s) (gone h n t (freed t s)) (freeing s (onward_of t s)) (going h n t (freed t s))

-- ---- or some of them

data GoesOn (s u : Session) : Type 0 where
  More : Grows s u → GoesOn s u
  Fewer : (k : ℕ) → u.setup ≡ s.setup → u.steps ≡ take k s.steps → GoesOn s u

told : (s : Session) (c : Command) (r : Reply) → GoesOn s (changed s c r)
told s (command.Step a) r = More (stepped s a r)
told s (command.Resume p) r = More (resumed s p r)
told s (command.Break n) Set = More (record { more = []; setup_is = refl; steps_are = sym (append-nil s.steps) })
told s (command.Clear n) Cleared = More (record { more = []; setup_is = refl; steps_are = sym (append-nil s.steps) })
told s (command.Back n) (WentBack k) = Fewer k refl refl
told s c r = More (stays s)

asked : (h : Bool) (s : Session) (r : Request) → GoesOn s (after h s r)
asked h s (Told c) = told s c (reply_to s c)
asked h s (Named p w) = More (stepped s (dated_step s p w) (reply_to s (command.Step (dated_step s p w))))
asked h s (Next n) = More (going-on h n last_moment s)
asked h s Continue = More (going-on h most_moves last_moment s)
asked h s (Until w) = More (going-on h most_moves (moment_of s w) s)
asked h s r = More (stays s)

same_start : (s : Session) (b : Bool) (r : Request) → b ≡ true → started_by s b r ≡ s
same_start s b r e = ap (λ (x : Bool). started_by s x r) e

answered : (c d : Console) (line text : List ℕ) (quits : Bool) → c.settled ≡ true → IsAnswer c line text quits d → GoesOn c.session d.session
answered c d line text quits settled (Obeyed r asks told quit next) =
    let start : started c r ≡ c.session = same_start c.session c.settled r settled in
    let here : GoesOn c.session (after c.halting (started c r) r) = subst (λ (s : Session). GoesOn c.session (after c.halting s r)) (sym start) (asked c.halting c.session r) in
    subst (λ (e : Console). GoesOn c.session e.session) (sym next) here
answered c d line text quits settled (Complained asks told quit next) = subst (λ (e : Console). GoesOn c.session e.session) (sym next) (More (stays c.session))

-- ---- where no step is taken back, what was behind the steps is so still

same_setup : (s u : Session) → GoesOn s u → u.setup ≡ s.setup
same_setup s u (More g) = g.setup_is
same_setup s u (Fewer k e f) = e

same_steps : (s u : Session) → GoesOn s u → length s.steps ≤ length u.steps → take (length s.steps) u.steps ≡ take (length s.steps) s.steps
same_steps s u (More g) le = ap (take (length s.steps)) g.steps_are ∙ take-append-le (length s.steps) s.steps g.more (omega arith)
same_steps s u (Fewer k e f) le =
    let long : length s.steps ≤ length (take k s.steps) = subst (λ (l : List StepAt). length s.steps ≤ length l) f le in
    ap (take (length s.steps)) f ∙ sym (take-append-le (length s.steps) (take k s.steps) (drop k s.steps) long) ∙ ap (take (length s.steps)) (take-append-drop k s.steps)

pub still_behind : (c d : Console) (line text : List ℕ) (quits : Bool) (x : Execution) → c.settled ≡ true → IsAnswer c line text quits d → length c.session.steps ≤ length d.session.steps → IsBehind (length c.session.steps) c.session x → IsBehind (length c.session.steps) d.session x
still_behind c d line text quits x settled a le h =
    let n = length c.session.steps in
    let on = answered c d line text quits settled a in
    let setup : c.session.setup ≡ d.session.setup = sym (same_setup c.session d.session on) in
    let steps : take n c.session.steps ≡ take n d.session.steps = sym (same_steps c.session d.session on le) in
    record {
      setup_is = h.setup_is ∙ setup;
      world_is = h.world_is ∙ (λ i. world_after (setup i) (opening (setup i)) (steps i));
    }

-- ---- an execution that is kept, or isn't

each : {A : Type 0} (P Q : A → Type 0) (o : Option A) → ((x : A) → P x → Q x) → IfSome o P → IfSome o Q
each P Q None f h = tt
each P Q (Some x) f h = f x h

-- where the start is settled, what was kept before a line is as far as the steps were
pub kept_behind : (c d : Console) (line text : List ℕ) (quits b : Bool) (o k : Option Execution) (before : List StepAt) → IfSome o (IsBehind (length c.session.steps) c.session) → b ≡ c.settled → k ≡ (if b then o else None) → before ≡ c.session.steps → IsAnswer c line text quits d → length before ≤ length d.session.steps → IfSome k (IsBehind (length before) d.session)
kept_behind c d line text quits false o k before h s e f a le = subst (λ (r : Option Execution). IfSome r (IsBehind (length before) d.session)) (sym e) tt
kept_behind c d line text quits true o k before h s e f a le =
    let less : length c.session.steps ≤ length d.session.steps = subst (λ (l : List StepAt). length l ≤ length d.session.steps) f le in
    let one : IfSome o (IsBehind (length c.session.steps) d.session) = each (IsBehind (length c.session.steps) c.session) (IsBehind (length c.session.steps) d.session) o (λ x g. still_behind c d line text quits x (sym s) a less g) h in
    let two : IfSome o (IsBehind (length before) d.session) = subst (λ (l : List StepAt). IfSome o (IsBehind (length l) d.session)) (sym f) one in
    subst (λ (r : Option Execution). IfSome r (IsBehind (length before) d.session)) (sym e) two

-- where there are as many steps behind it, it is there still
pub kept_there : (n : ℕ) (s : Session) (b : Bool) (k r : Option Execution) → r ≡ (if b then k else None) → (b ≡ true → n ≡ length s.steps) → (b ≡ true → IfSome k (IsBehind n s)) → IfSome r (IsBehind (length s.steps) s)
kept_there n s false k r e same h = subst (λ (q : Option Execution). IfSome q (IsBehind (length s.steps) s)) (sym e) tt
kept_there n s true k r e same h =
    let there : IfSome k (IsBehind (length s.steps) s) = subst (λ (m : ℕ). IfSome k (IsBehind m s)) (same refl) (h refl) in
    subst (λ (q : Option Execution). IfSome q (IsBehind (length s.steps) s)) (sym e) there

-- ---- an execution that took the steps behind

pub behind_all : (n : ℕ) (s u : Session) (x y : Execution) (ss : List StepAt) → u ≡ s → ss ≡ u.steps → IsBehind n u x → setup_of y ≡ setup_of x → world_of y ≡ world_after (setup_of x) (world_of x) (drop n ss) → IsBehind (length s.steps) s y
behind_all n s u x y ss e f h g w =
    let there : world_after (setup_of x) (world_of x) (drop n ss) ≡ world_after u.setup (world_behind n u) (drop n u.steps) = (λ i. world_after (h.setup_is i) (h.world_is i) (drop n (f i))) in
    let joined : world_after u.setup (world_behind n u) (drop n u.steps) ≡ world_after u.setup (opening u.setup) (take n u.steps ++ drop n u.steps) = sym (after-append u.setup (opening u.setup) (take n u.steps) (drop n u.steps)) in
    let whole : world_after u.setup (opening u.setup) (take n u.steps ++ drop n u.steps) ≡ world_behind (length u.steps) u = ap (λ (l : List StepAt). world_after u.setup (opening u.setup) l) (take-append-drop n u.steps ∙ sym (take-length u.steps)) in
    subst (λ (v : Session). IsBehind (length v.steps) v y) e (record {
      setup_is = g ∙ h.setup_is;
      world_is = w ∙ there ∙ joined ∙ whole;
    })

-- the lines of these steps are those that are told
pub told_behind : (look : Look) (n : ℕ) (s u : Session) (x : Execution) (ss : List StepAt) (l lines text : List ℕ) → u ≡ s → ss ≡ u.steps → IsBehind n u x → l ≡ lines → lines ≡ tree_lines Changes (setup_of x) (world_of x) (drop n ss) → AreToldThere look l u text → IsToldOf look n s text
told_behind look n s u x ss l lines text e f h k t told =
    let is : l ≡ lines_behind n u = k ∙ t ∙ (λ i. tree_lines Changes (h.setup_is i) (h.world_is i) (drop n (f i))) in
    let here : IsToldOf look n u text = subst (λ (m : List ℕ). AreToldThere look m u text) is told in
    subst (λ (v : Session). IsToldOf look n v text) e here
