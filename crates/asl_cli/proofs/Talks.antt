-- Talks line by line.
use Rattle.std.proofs.Common.{ℕ, ◌+◌, Bool, false, Result, Ok, Err, OnErr, ◌≡◌, ◌⊎◌, ◌&&◌, inl, inr, List, [], ◌∷◌, ◌++◌, length, true, refl, sym, subst, arith, ◌∙◌, ap, append_assoc, append-nil, length-append}
use Rattle.std.proofs.lemmas.Grind.{flat_map-append}
use Rattle.asl_host.specs.Outcomes.{fault_line, sink_use, IsWhole, IsBroken, IsPrinted, IsTold}
use Rattle.asl_host.proofs.Breaking.{broken_rest}
use Rattle.asl_session_repl.specs.declared.telling.Look.{Look}
use Rattle.asl_session_repl.specs.Answers.{Console, IsRefusedLine}
use Rattle.asl_session_repl.specs.Telling.{Answers, IsEndText}
use Rattle.asl_session_repl.specs.Talks.{given_lines, IsReplied, AreReplied, IsQuit, IsTalk, IsStopped}
use Rattle.asl_cli.specs.Streams.{input_use, io}
use Rattle.asl_cli.specs.Talking.{AreAnswered, IsOver, IsTalked, IsHalted, IsTalkedInPart, IsStop, IsHeard, IsEnd, IsStopTold, IsStopEnd, IsStopOf, IsInputFault, IsConversed, stop_line}
use Rattle.asl_session.specs.Sessions.{world_in}
use Rattle.std.specs.Prelude.{codes}

-- ---- one line more

replied-more : (strict : Bool) (look : Look) (c d e : Console) (ls : List (List ℕ)) (l text t : List ℕ) → AreReplied strict look c ls text d → IsReplied strict look d l t e → AreReplied strict look c (ls ++ l ∷ []) (text ++ t) e
replied-more strict look c d e [] l text t h r = (t, [], e, rw h.1 at r, rw h.0 (sym (append-nil t)), (refl, refl))
replied-more strict look c d e (k ∷ ks) l text t (first, rest, m, one, text_is, more) r = (first, rest ++ t, m, one, rw text_is (append_assoc first rest t), replied-more strict look m d e ks l rest t more r)

given-more : (ls : List (List ℕ)) (l start mid end : List ℕ) → mid ≡ start ++ given_lines ls → end ≡ mid ++ (l ++ 10 ∷ []) → end ≡ start ++ given_lines (ls ++ l ∷ [])
given-more ls l start mid end one two =
    let more : given_lines (ls ++ l ∷ []) ≡ given_lines ls ++ (l ++ 10 ∷ []) = flat_map-append (λ line. line ++ 10 ∷ []) ls (l ∷ []) ∙ ap (λ (x : List ℕ). given_lines ls ++ x) (append-nil (l ++ 10 ∷ [])) in
    two ∙ ap (λ (x : List ℕ). x ++ (l ++ 10 ∷ [])) one ∙ append_assoc start (given_lines ls) (l ++ 10 ∷ []) ∙ ap (λ (x : List ℕ). start ++ x) (sym more)

pub written-more : {O : Type 0} (taken : O → List ℕ) (failures : O → ℕ) (old mid new : O) (a b : List ℕ) → IsWhole (sink_use taken failures old mid) a → IsWhole (sink_use taken failures mid new) b → IsWhole (sink_use taken failures old new) (a ++ b)
written-more taken failures old mid new a b one two = (
  two.0 ∙ ap (λ (x : List ℕ). x ++ b) one.0 ∙ append_assoc (taken old) a b,
  two.1 ∙ one.1,
)

one-more : (ls : List (List ℕ)) (l : List ℕ) (number : ℕ) → number ≡ length ls → number + 1 ≡ length (ls ++ l ∷ [])
one-more ls l number e = let both = length-append ls (l ∷ []) in omega (arith, e, both)

pub answered-more : {I O : Type 0} (given : I → List ℕ) (ended : I → Bool) (taken : O → List ℕ) (failures : O → ℕ) (strict : Bool) (look : Look) (c d e : Console) (number : ℕ) (i j k : I) (o p q : O) (l t : List ℕ)
    → AreAnswered (input_use given ended i j) (sink_use taken failures o p) strict look c d number → given k ≡ given j ++ (l ++ 10 ∷ []) → IsReplied strict look d l t e → IsWhole (sink_use taken failures p q) t → AreAnswered (input_use given ended i k) (sink_use taken failures o q) strict look c e (number + 1)
answered-more given ended taken failures strict look c d e number i j k o p q l t h g r w = record {
  lines = h.lines ++ l ∷ [];
  text = h.text ++ t;
  given_is = given-more h.lines l (given i) (given j) (given k) h.given_is g;
  replied = replied-more strict look c d e h.lines l h.text t h.replied r;
  written = written-more taken failures o p q h.text t h.written w;
  number_is = one-more h.lines l number h.number_is;
}

-- ---- the end

last-stop : (look : Look) (c d e : Console) (ls : List (List ℕ)) (l text t : List ℕ) → AreReplied true look c ls text d → Answers look d l t false e → IsRefusedLine d l true → IsStopped look c (ls ++ l ∷ []) (text ++ t) e
last-stop look c d e ls l text t h a r = record { before = ls; told = text; here = d; line = l; answer = t; replied = h; answers = a; refused = r; lines_are = refl; text_is = refl }

-- the line ended a strict talk
pub halted : {I O : Type 0} (given : I → List ℕ) (ended : I → Bool) (taken : O → List ℕ) (failures : O → ℕ) (strict : Bool) (look : Look) (c d e : Console) (number : ℕ) (i j k : I) (o p q : O) (l t : List ℕ)
    → AreAnswered (input_use given ended i j) (sink_use taken failures o p) strict look c d number → given k ≡ given j ++ (l ++ 10 ∷ []) → IsStop strict look d l t e → IsWhole (sink_use taken failures p q) t
    → (strict ≡ true) × IsHalted (input_use given ended i k) (sink_use taken failures o q) look c e (number + 1)
halted given ended taken failures strict look c d e number i j k o p q l t h g (on, a, r) w = (
  on,
  record {
    lines = h.lines ++ l ∷ [];
    text = h.text ++ t;
    given_is = given-more h.lines l (given i) (given j) (given k) h.given_is g;
    stopped = last-stop look c d e h.lines l h.text t (subst (λ (b : Bool). AreReplied b look c h.lines h.text d) on h.replied) a r;
    written = written-more taken failures o p q h.text t h.written w;
    number_is = one-more h.lines l number h.number_is;
  },
)

quit-is : (strict : Bool) (look : Look) (c d e : Console) (ls : List (List ℕ)) (l text t : List ℕ) → AreReplied strict look c ls text d → Answers look d l t true e → IsQuit strict look c (ls ++ l ∷ []) (text ++ t) e
quit-is strict look c d e ls l text t h a = record { before = ls; told = text; here = d; line = l; answer = t; replied = h; quits = a; lines_are = refl; text_is = refl }

-- the line was the last one
pub talked-last : {I O : Type 0} (given : I → List ℕ) (ended : I → Bool) (taken : O → List ℕ) (failures : O → ℕ) (strict : Bool) (look : Look) (c d e : Console) (number : ℕ) (i j k : I) (o p q : O) (l t : List ℕ)
    → AreAnswered (input_use given ended i j) (sink_use taken failures o p) strict look c d number → given k ≡ given j ++ (l ++ 10 ∷ []) → Answers look d l t true e → IsWhole (sink_use taken failures p q) t → IsTalked (input_use given ended i k) (sink_use taken failures o q) strict look c e
talked-last given ended taken failures strict look c d e number i j k o p q l t h g a w = record {
  lines = h.lines ++ l ∷ [];
  text = h.text ++ t;
  given_is = given-more h.lines l (given i) (given j) (given k) h.given_is g;
  over = inl (quit-is strict look c d e h.lines l h.text t h.replied a);
  written = written-more taken failures o p q h.text t h.written w;
}

-- no more lines came
pub talked-out : {I O : Type 0} (given : I → List ℕ) (ended : I → Bool) (taken : O → List ℕ) (failures : O → ℕ) (strict : Bool) (look : Look) (c d : Console) (number : ℕ) (i j k : I) (o p : O)
    → AreAnswered (input_use given ended i j) (sink_use taken failures o p) strict look c d number → given k ≡ given j ++ [] → ended k ≡ true → IsTalked (input_use given ended i k) (sink_use taken failures o p) strict look c d
talked-out given ended taken failures strict look c d number i j k o p h g e = record {
  lines = h.lines;
  text = h.text;
  given_is = g ∙ append-nil (given j) ∙ h.given_is;
  over = inr (h.replied, e);
  written = h.written;
}

-- no further line could be read
pub talked-on : {I O : Type 0} (given : I → List ℕ) (ended : I → Bool) (taken : O → List ℕ) (failures : O → ℕ) (strict : Bool) (look : Look) (c d : Console) (number : ℕ) (i j k : I) (o p : O)
    → AreAnswered (input_use given ended i j) (sink_use taken failures o p) strict look c d number → given k ≡ given j → AreAnswered (input_use given ended i k) (sink_use taken failures o p) strict look c d number
talked-on given ended taken failures strict look c d number i j k o p h g = record {
  lines = h.lines;
  text = h.text;
  given_is = g ∙ h.given_is;
  replied = h.replied;
  written = h.written;
  number_is = h.number_is;
}

last-talk : (strict : Bool) (look : Look) (c d e : Console) (ls : List (List ℕ)) (l text t : List ℕ) → AreReplied strict look c ls text d → IsHeard strict look d l t e
    → IsTalk strict look c (ls ++ l ∷ []) (text ++ t) e ⊎ ((strict ≡ true) × IsStopped look c (ls ++ l ∷ []) (text ++ t) e)
last-talk strict look c d e ls l text t h (inl r) = inl (inl (replied-more strict look c d e ls l text t h r))
last-talk strict look c d e ls l text t h (inr (inl a)) = inl (inr (quit-is strict look c d e ls l text t h a))
last-talk strict look c d e ls l text t h (inr (inr (on, a, r))) = inr (on, last-stop look c d e ls l text t (subst (λ (b : Bool). AreReplied b look c ls text d) on h) a r)

-- the answer was written in part
pub talked-in-part : {I O : Type 0} (given : I → List ℕ) (ended : I → Bool) (taken : O → List ℕ) (failures : O → ℕ) (strict : Bool) (look : Look) (c d e : Console) (number : ℕ) (i j k : I) (o p q : O) (l t : List ℕ)
    → AreAnswered (input_use given ended i j) (sink_use taken failures o p) strict look c d number → given k ≡ given j ++ (l ++ 10 ∷ []) → IsHeard strict look d l t e → IsBroken (sink_use taken failures p q) t → IsTalkedInPart (input_use given ended i k) (sink_use taken failures o q) strict look c e
talked-in-part given ended taken failures strict look c d e number i j k o p q l t h g a b = record {
  lines = h.lines ++ l ∷ [];
  text = h.text ++ t;
  given_is = given-more h.lines l (given i) (given j) (given k) h.given_is g;
  talk = last-talk strict look c d e h.lines l h.text t h.replied a;
  broken = broken_rest taken failures o p q h.text t h.written b;
}

-- a text behind the talk
pub printed-behind : {O : Type 0} (taken : O → List ℕ) (failures : O → ℕ) (old mid new : O) (a b : List ℕ) (wanted status : ℕ) → IsWhole (sink_use taken failures old mid) a → IsPrinted (sink_use taken failures mid new) b wanted status → IsPrinted (sink_use taken failures old new) (a ++ b) wanted status
printed-behind taken failures old mid new a b wanted status w (inl h) = inl (written-more taken failures old mid new a b w h.0, h.1)
printed-behind taken failures old mid new a b wanted status w (inr h) = inr (broken_rest taken failures old mid new a b w h.0, h.1)

-- ---- one answer

-- an answer ends the talk, or doesn't
pub heard : (strict : Bool) (look : Look) (c d : Console) (l t : List ℕ) (quits refused : Bool) → Answers look c l t quits d → IsRefusedLine c l refused → IsHeard strict look c l t d
heard strict look c d l t true refused a r = inr (inl a)
heard true look c d l t false true a r = inr (inr (refl, a, r))
heard true look c d l t false false a r = inl (inl (a, r))
heard false look c d l t false refused a r = inl (inl (a, tt))

pub goes_on : (strict : Bool) (look : Look) (c d : Console) (l t : List ℕ) (quits refused : Bool) → quits ≡ false → (strict && refused) ≡ false → Answers look c l t quits d → IsRefusedLine c l refused → IsReplied strict look c l t d
goes_on strict look c d l t true refused e f a r = (cc)
goes_on true look c d l t false true e f a r = (cc)
goes_on true look c d l t false false e f a r = inl (a, r)
goes_on false look c d l t false refused e f a r = inl (a, tt)

pub stops : (strict : Bool) (look : Look) (c d : Console) (l t : List ℕ) (quits refused : Bool) → quits ≡ false → (strict && refused) ≡ true → Answers look c l t quits d → IsRefusedLine c l refused → IsStop strict look c l t d
stops strict look c d l t true refused e f a r = (cc)
stops true look c d l t false true e f a r = (refl, a, r)
stops true look c d l t false false e f a r = (cc)
stops false look c d l t false refused e f a r = (cc)

-- ---- a whole conversation

-- what is over is a talk
over-is : {I : Type 0} (given : I → List ℕ) (ended : I → Bool) (i j : I) (strict : Bool) (look : Look) (c d : Console) (ls : List (List ℕ)) (t : List ℕ) → IsOver (input_use given ended i j) strict look c ls t d → IsTalk strict look c ls t d
over-is given ended i j strict look c d ls t (inl q) = inr q
over-is given ended i j strict look c d ls t (inr (r, e)) = inl r

pub conversed : {I O E : Type 0} (given : I → List ℕ) (ended : I → Bool) (taken : O → List ℕ) (failures : O → ℕ) (err_taken : E → List ℕ) (err_failures : E → ℕ) (strict : Bool) (look : Look) (c d : Console) (i j : I) (o p q : O) (x y : E) (status : ℕ)
    → IsTalked (input_use given ended i j) (sink_use taken failures o p) strict look c d → IsEnd (io (sink_use taken failures p q) (sink_use err_taken err_failures x y) status) look d → IsConversed (input_use given ended i j) (io (sink_use taken failures o q) (sink_use err_taken err_failures x y) status) strict look c
conversed given ended taken failures err_taken err_failures strict look c d i j o p q x y status h (inl (end, is, same, printed)) = inl (inl (h.lines, h.text, end, d, h.given_is, h.over, is, same, printed-behind taken failures o p q h.text end 0 status h.written printed))
conversed given ended taken failures err_taken err_failures strict look c d i j o p q x y status h (inr e) = inl (inr (inl (h.lines, h.text, d, codes "OutOfMemory", h.given_is, over-is given ended i j strict look c d h.lines h.text h.over, rw e.0 h.written, inr refl, e.1, e.2)))

-- a line ended a strict talk
told-stop : {I O E : Type 0} (given : I → List ℕ) (ended : I → Bool) (taken : O → List ℕ) (failures : O → ℕ) (err_taken : E → List ℕ) (err_failures : E → ℕ) (look : Look) (c d : Console) (number : ℕ) (i j : I) (o p q : O) (x y : E) (status : ℕ) (end : List ℕ)
    → (h : IsHalted (input_use given ended i j) (sink_use taken failures o p) look c d number) → IsEndText look (world_in d.session) end → IsStopTold (io (sink_use taken failures p q) (sink_use err_taken err_failures x y) status) number end
    → IsStopOf (io (sink_use taken failures o q) (sink_use err_taken err_failures x y) status) look h.text d (length h.lines)
told-stop given ended taken failures err_taken err_failures look c d number i j o p q x y status end h is (inl (told, printed)) =
    inl (end, is, subst (λ n. IsTold (sink_use err_taken err_failures x y) (stop_line n)) h.number_is told, printed-behind taken failures o p q h.text end 1 status h.written printed)
told-stop given ended taken failures err_taken err_failures look c d number i j o p q x y status end h is (inr (same, two, told)) =
    inr (inl (rw same h.written, two, told))

stop-end : {I O E : Type 0} (given : I → List ℕ) (ended : I → Bool) (taken : O → List ℕ) (failures : O → ℕ) (err_taken : E → List ℕ) (err_failures : E → ℕ) (look : Look) (c d : Console) (number : ℕ) (i j : I) (o p q : O) (x y : E) (status : ℕ)
    → (h : IsHalted (input_use given ended i j) (sink_use taken failures o p) look c d number) → IsStopEnd (io (sink_use taken failures p q) (sink_use err_taken err_failures x y) status) look d number
    → IsStopOf (io (sink_use taken failures o q) (sink_use err_taken err_failures x y) status) look h.text d (length h.lines)
stop-end given ended taken failures err_taken err_failures look c d number i j o p q x y status h (inl (end, is, told)) = told-stop given ended taken failures err_taken err_failures look c d number i j o p q x y status end h is told
stop-end given ended taken failures err_taken err_failures look c d number i j o p q x y status h (inr (same, two, told)) = inr (inl (rw same h.written, two, told))

pub stopped : {I O E : Type 0} (given : I → List ℕ) (ended : I → Bool) (taken : O → List ℕ) (failures : O → ℕ) (err_taken : E → List ℕ) (err_failures : E → ℕ) (strict : Bool) (look : Look) (c d : Console) (number : ℕ) (i j : I) (o p q : O) (x y : E) (status : ℕ)
    → ((strict ≡ true) × IsHalted (input_use given ended i j) (sink_use taken failures o p) look c d number) → IsStopEnd (io (sink_use taken failures p q) (sink_use err_taken err_failures x y) status) look d number → IsConversed (input_use given ended i j) (io (sink_use taken failures o q) (sink_use err_taken err_failures x y) status) strict look c
stopped given ended taken failures err_taken err_failures strict look c d number i j o p q x y status (on, h) e = inr (on, (h.lines, h.text, d, h.given_is, h.stopped, stop-end given ended taken failures err_taken err_failures look c d number i j o p q x y status h e))

-- no further line could be read
pub unread : {I O E : Type 0} (given : I → List ℕ) (ended : I → Bool) (taken : O → List ℕ) (failures : O → ℕ) (err_taken : E → List ℕ) (err_failures : E → ℕ) (strict : Bool) (look : Look) (c d : Console) (i j : I) (o p : O) (x y : E) (t : List ℕ)
    → (number : ℕ) × AreAnswered (input_use given ended i j) (sink_use taken failures o p) strict look c d number → IsInputFault t → IsTold (sink_use err_taken err_failures x y) (fault_line t) → IsConversed (input_use given ended i j) (io (sink_use taken failures o p) (sink_use err_taken err_failures x y) 2) strict look c
unread given ended taken failures err_taken err_failures strict look c d i j o p x y t (number, h) f told = inl (inr (inl (h.lines, h.text, d, t, h.given_is, inl h.replied, h.written, f, refl, told)))

-- an answer was written in part
pub broken-off : {I O E : Type 0} (given : I → List ℕ) (ended : I → Bool) (taken : O → List ℕ) (failures : O → ℕ) (err_taken : E → List ℕ) (err_failures : E → ℕ) (strict : Bool) (look : Look) (c d : Console) (i j : I) (o p : O) (x : E)
    → IsTalkedInPart (input_use given ended i j) (sink_use taken failures o p) strict look c d → IsConversed (input_use given ended i j) (io (sink_use taken failures o p) (sink_use err_taken err_failures x x) 2) strict look c
broken-off given ended taken failures err_taken err_failures strict look c d i j o p x h = by h.talk
  where
    by : IsTalk strict look c h.lines h.text d ⊎ ((strict ≡ true) × IsStopped look c h.lines h.text d) → IsConversed (input_use given ended i j) (io (sink_use taken failures o p) (sink_use err_taken err_failures x x) 2) strict look c
    by (inl talk) = inl (inr (inr (h.lines, h.text, d, h.given_is, talk, h.broken, refl, refl)))
    by (inr (on, halt)) = inr (on, (h.lines, h.text, d, h.given_is, halt, inr (inr (h.broken, refl, refl))))

-- the answer was written in part
pub reply-broken : {T E O : Type 0} (r : Result T E) (taken : O → List ℕ) (failures : O → ℕ) (strict : Bool) (look : Look) (o p : O) (c d : Console) (l t : List ℕ) (quits refused : Bool)
    → Answers look c l t quits d → IsRefusedLine c l refused → IsBroken (sink_use taken failures o p) t → OnErr r ((x : List ℕ) × IsHeard strict look c l x d × IsBroken (sink_use taken failures o p) x)
reply-broken (Ok x) taken failures strict look o p c d l t quits refused a r b = (cc)
reply-broken (Err e) taken failures strict look o p c d l t quits refused a r b = (t, heard strict look c d l t quits refused a r, b)

-- ---- a greeting gives no line

pub greeted : {I O E : Type 0} (given : I → List ℕ) (ended : I → Bool) (taken : O → List ℕ) (failures : O → ℕ) (err_taken : E → List ℕ) (err_failures : E → ℕ) (strict : Bool) (look : Look) (c : Console) (i h j : I) (o p : O) (x y : E) (status : ℕ)
    → given h ≡ given i → IsConversed (input_use given ended h j) (io (sink_use taken failures o p) (sink_use err_taken err_failures x y) status) strict look c → IsConversed (input_use given ended i j) (io (sink_use taken failures o p) (sink_use err_taken err_failures x y) status) strict look c
greeted given ended taken failures err_taken err_failures strict look c i h j o p x y status e (inl (inl (lines, text, end, d, is, talk, ends, same, printed))) = inl (inl (lines, text, end, d, is ∙ ap (λ (l : List ℕ). l ++ given_lines lines) e, talk, ends, same, printed))
greeted given ended taken failures err_taken err_failures strict look c i h j o p x y status e (inl (inr (inl (lines, text, d, t, is, talk, whole, fault, two, told)))) = inl (inr (inl (lines, text, d, t, is ∙ ap (λ (l : List ℕ). l ++ given_lines lines) e, talk, whole, fault, two, told)))
greeted given ended taken failures err_taken err_failures strict look c i h j o p x y status e (inl (inr (inr (lines, text, d, is, talk, off, two, same)))) = inl (inr (inr (lines, text, d, is ∙ ap (λ (l : List ℕ). l ++ given_lines lines) e, talk, off, two, same)))
greeted given ended taken failures err_taken err_failures strict look c i h j o p x y status e (inr (on, (lines, text, d, is, halt, stop))) = inr (on, (lines, text, d, is ∙ ap (λ (l : List ℕ). l ++ given_lines lines) e, halt, stop))
