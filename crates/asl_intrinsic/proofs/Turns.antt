-- Turns of the reader, as stretches of the machine's run.
use Rattle.std.proofs.Common.{◌≡◌, ◌<◌, ◌==◌, ℕ, suc, Bool, false, List, [], ◌∷◌, ◌++◌, length, reverse, refl, sym, ◌∙◌, ap, subst, arith}
use Rattle.std.specs.Prelude.{Result, Ok, Err, IfOk, IfErr, MatchResult}
use Rattle.std.proofs.lemmas.List.{reverse-append, length-reverse}
use Rattle.asl_path.specs.private.Leads.{NotFirst}
use Rattle.asl_intrinsic.specs.Tree.{Argument, call, arguments, Frame}
use Rattle.asl_intrinsic.specs.private.Steps.{Mode, opening, wanting, ended, Next, go, stop, begins, closes, in_opening, in_wanting, in_ended, step, onward, run_by, run}
use Rattle.asl_intrinsic.specs.private.Leads.{Fails, begun, Skips}
use Rattle.asl_intrinsic.specs.Grammar.{is_space}
use Rattle.asl_intrinsic.specs.private.Keeps.{Keeps, KeepsAll}
use Rattle.asl_intrinsic.specs.declared.frame.Open.{Open}
use Rattle.asl_intrinsic.specs.declared.front.Halt.{Halt}
use Rattle.asl_intrinsic.specs.declared.front.Halt.TheVariants.{Memory}
use Rattle.asl_intrinsic.specs.declared.reading.Reader.{Reader}
use Rattle.asl_intrinsic.specs.private.Hears.{Hears}
use Rattle.asl_intrinsic.proofs.Stretches.{goes, halts, skipped}

-- ---- the open calls

pub pushed : (os new : List Open) (o : Open) (f : Frame) (st : List Frame) → new ≡ os ++ o ∷ [] → KeepsAll (reverse os) st → Keeps (suc (length st)) o f → KeepsAll (reverse new) (f ∷ st)
pushed os new o f st e h k = subst (λ (z : List Open). KeepsAll z (f ∷ st)) (sym (ap reverse e ∙ reverse-append os (o ∷ []))) (k, h)

pub popped : (os front : List Open) (o : Open) (f : Frame) (st : List Frame) → os ≡ front ++ o ∷ [] → KeepsAll (reverse os) (f ∷ st) → Keeps (suc (length st)) o f × KeepsAll (reverse front) st
popped os front o f st e h = subst (λ (z : List Open). KeepsAll z (f ∷ st)) (ap reverse e ∙ reverse-append front (o ∷ [])) h

as_many : (os : List Open) (st : List Frame) → KeepsAll os st → length os ≡ length st
as_many [] [] h = refl
as_many [] (f ∷ st) h = absurd h
as_many (o ∷ os) [] h = absurd h
as_many (o ∷ os) (f ∷ st) h = ap suc (as_many os st h.1)

pub levels : (os : List Open) (st : List Frame) → KeepsAll (reverse os) st → length os ≡ length st
levels os st h = sym (length-reverse os) ∙ as_many (reverse os) st h

-- ---- spaces

pub opening_space : (st : List Frame) → step opening st 32 ≡ go opening st
unfolding in_opening
opening_space st = refl

pub wanting_space : (st : List Frame) → step wanting st 32 ≡ go wanting st
unfolding in_wanting
wanting_space st = refl

pub ended_space : (a : Argument) (f : Frame) (st : List Frame) → step (ended a) (f ∷ st) 32 ≡ go (ended a) (f ∷ st)
unfolding in_ended
ended_space a f st = refl

pub opening_skips : (t rest : List ℕ) (st : List Frame) → Skips t rest → run opening st t ≡ run opening st rest
opening_skips t rest st h = skipped opening st t rest (opening_space st) h

pub wanting_skips : (t rest : List ℕ) (st : List Frame) → Skips t rest → run wanting st t ≡ run wanting st rest
wanting_skips t rest st h = skipped wanting st t rest (wanting_space st) h

pub ended_skips : (t rest : List ℕ) (a : Argument) (f : Frame) (st : List Frame) → Skips t rest → run (ended a) (f ∷ st) t ≡ run (ended a) (f ∷ st) rest
ended_skips t rest a f st h = skipped (ended a) (f ∷ st) t rest (ended_space a f st) h

-- ---- brackets and commas

opening_closes : (f : Frame) (st : List Frame) → step opening (f ∷ st) 41 ≡ go (ended (call f.0 (arguments f.1))) st
unfolding in_opening closes
opening_closes f st = refl

pub bracket_closes : (lim : Bool) (t rest : List ℕ) (f : Frame) (st : List Frame) → t ≡ 41 ∷ rest → run_by lim opening (f ∷ st) t ≡ run_by lim (ended (call f.0 (arguments f.1))) st rest
bracket_closes lim t rest f st e = ap (run_by lim opening (f ∷ st)) e ∙ goes lim opening (ended (call f.0 (arguments f.1))) (f ∷ st) st 41 rest (opening_closes f st)

pub opening_begins : (st : List Frame) (c : ℕ) → (c == 32) ≡ false → (c == 41) ≡ false → step opening st c ≡ begins st c
unfolding in_opening
opening_begins st c e f = rw (e, f) refl

pub wanting_begins : (st : List Frame) (c : ℕ) → (c == 32) ≡ false → step wanting st c ≡ begins st c
unfolding in_wanting
wanting_begins st c e = rw e refl

pub opening_wants : (t : List ℕ) (st : List Frame) → NotFirst is_space t → NotFirst (λ c. c == 41) t → run opening st t ≡ begun st t
opening_wants [] st e f = refl
opening_wants (c ∷ cs) st e f = ap (λ (z : Next). onward z (suc (length cs)) (λ n s. run n s cs)) (opening_begins st c e f)

pub wanting_wants : (t : List ℕ) (st : List Frame) → NotFirst is_space t → run wanting st t ≡ begun st t
wanting_wants [] st e = refl
wanting_wants (c ∷ cs) st e = ap (λ (z : Next). onward z (suc (length cs)) (λ n s. run n s cs)) (wanting_begins st c e)

ended_comma : (a : Argument) (f : Frame) (st : List Frame) → step (ended a) (f ∷ st) 44 ≡ go wanting ((f.0, f.1 ++ a ∷ []) ∷ st)
unfolding in_ended
ended_comma a f st = refl

ended_bracket : (a : Argument) (f : Frame) (st : List Frame) → step (ended a) (f ∷ st) 41 ≡ go (ended (call f.0 (arguments (f.1 ++ a ∷ [])))) st
unfolding in_ended closes
ended_bracket a f st = refl

ended_lacks : (a : Argument) (f : Frame) (st : List Frame) (c : ℕ) → (c == 32) ≡ false → (c == 44) ≡ false → (c == 41) ≡ false → step (ended a) (f ∷ st) c ≡ stop 0
unfolding in_ended
ended_lacks a f st c e g h = rw (e, g, h) refl

pub comma_wants : (lim : Bool) (t rest : List ℕ) (a : Argument) (f : Frame) (st : List Frame) → t ≡ 44 ∷ rest → run_by lim (ended a) (f ∷ st) t ≡ run_by lim wanting ((f.0, f.1 ++ a ∷ []) ∷ st) rest
comma_wants lim t rest a f st e = ap (run_by lim (ended a) (f ∷ st)) e ∙ goes lim (ended a) wanting (f ∷ st) ((f.0, f.1 ++ a ∷ []) ∷ st) 44 rest (ended_comma a f st)

pub bracket_ends : (lim : Bool) (t rest : List ℕ) (a : Argument) (f : Frame) (st : List Frame) → t ≡ 41 ∷ rest → run_by lim (ended a) (f ∷ st) t ≡ run_by lim (ended (call f.0 (arguments (f.1 ++ a ∷ [])))) st rest
bracket_ends lim t rest a f st e = ap (run_by lim (ended a) (f ∷ st)) e ∙ goes lim (ended a) (ended (call f.0 (arguments (f.1 ++ a ∷ [])))) (f ∷ st) st 41 rest (ended_bracket a f st)

pub neither_follows : (t : List ℕ) (a : Argument) (f : Frame) (st : List Frame) → NotFirst is_space t → NotFirst (λ c. c == 44) t → NotFirst (λ c. c == 41) t → run (ended a) (f ∷ st) t ≡ Err (length t)
neither_follows [] a f st e g h = refl
neither_follows (c ∷ cs) a f st e g h = halts (ended a) (f ∷ st) c cs (ended_lacks a f st c e g h)

ended_alone : (a : Argument) (c : ℕ) → step (ended a) [] c ≡ stop 0
unfolding in_ended
ended_alone a c = refl

pub nothing_follows : (t : List ℕ) (a : Argument) → 0 < length t → run (ended a) [] t ≡ Err (length t)
nothing_follows [] a l = absurd (omega (arith, l))
nothing_follows (c ∷ cs) a l = halts (ended a) [] c cs (ended_alone a c)

pub whole_read : (t : List ℕ) (a : Argument) → (0 < length t → ⊥) → run (ended a) [] t ≡ Ok a
whole_read [] a l = refl
whole_read (c ∷ cs) a l = absurd (l (omega arith))

-- ---- an answer that is heard, or want of memory

pub memory_fails : (o : Result Argument ℕ) (r : Result Reader Halt) → IfOk r (Hears o) → IfErr r (λ e. e ≡ Memory) → MatchResult r (Hears o) (λ e. Fails e o)
memory_fails o (Ok x) h m = h
memory_fails o (Err e) h m = subst (λ (z : Halt). Fails z o) (sym m) tt

-- ---- one turn

pub split : (st : List Frame) → 0 < length st → (f : Frame) × (su : List Frame) × (st ≡ f ∷ su)
split [] l = absurd (omega (arith, l))
split (f ∷ su) l = (f, su, refl)

pub opening_goes : (o : Result Argument ℕ) (m : Mode) (t rest : List ℕ) (st : List Frame) → m ≡ opening → Skips t rest → o ≡ run m st t → o ≡ run opening st rest
opening_goes o m t rest st e h g = g ∙ ap (λ (z : Mode). run z st t) e ∙ opening_skips t rest st h

pub wanting_goes : (o : Result Argument ℕ) (m : Mode) (t rest : List ℕ) (st : List Frame) → m ≡ wanting → Skips t rest → o ≡ run m st t → o ≡ begun st rest
wanting_goes o m t rest st e h g = g ∙ ap (λ (z : Mode). run z st t) e ∙ wanting_skips t rest st h ∙ wanting_wants rest st h.stops

pub ended_goes : (o : Result Argument ℕ) (m : Mode) (t rest : List ℕ) (st su : List Frame) (f : Frame) (a : Argument) → m ≡ ended a → st ≡ f ∷ su → Skips t rest → o ≡ run m st t → o ≡ run (ended a) (f ∷ su) rest
ended_goes o m t rest st su f a e s h g = g ∙ ap (λ (z : Mode). run z st t) e ∙ ap (λ (z : List Frame). run (ended a) z t) s ∙ ended_skips t rest a f su h

pub no_calls : (os : List Open) (st : List Frame) → KeepsAll (reverse os) st → length os ≡ 0 → st ≡ []
no_calls os [] h e = refl
no_calls os (f ∷ st) h e = absurd (omega (arith, levels os (f ∷ st) h, e))

pub alone_goes : (o : Result Argument ℕ) (m : Mode) (t : List ℕ) (st : List Frame) (a : Argument) → m ≡ ended a → st ≡ [] → o ≡ run m st t → o ≡ run (ended a) [] t
alone_goes o m t st a e s g = g ∙ ap (λ (z : Mode). run z st t) e ∙ ap (λ (z : List Frame). run (ended a) z t) s
