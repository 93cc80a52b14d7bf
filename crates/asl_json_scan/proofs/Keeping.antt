-- What the machine has read keeps the limits.
use Rattle.std.proofs.Common.{◌≡◌, ℕ, suc, Bool, true, false, cond, nat_le, ◌==◌, List, [], ◌∷◌, ◌++◌, length, Option, Some, None, Result, Ok, refl, subst, append_assoc}
use Rattle.std.proofs.lemmas.List.{append-nil}
use Rattle.asl_json_data.specs.Data.{Data, number, chain, pairs}
use Rattle.asl_json_data.specs.Grammar.{colon, open_bracket, close_bracket, open_brace, close_brace, is_space}
use Rattle.asl_json_data.specs.Parts.{comma}
use Rattle.asl_json_data.specs.Text.{quote}
use Rattle.asl_json_scan.specs.private.Chars.{Inside, goes, ends, breaks, lone, in_text}
use Rattle.asl_json_data.specs.Number.{is_over}
use Rattle.asl_json_data.specs.private.NumberParts.{next_part, may_end}
use Rattle.asl_json_scan.specs.private.Machine.{grown, Mode, value, word, chars, figure, after, first, key, key_chars, behind_key, Next, go, stop, deepens, closes, in_judged, in_value, in_word, chars_next, in_chars, in_figure, in_after, in_first, in_key, key_chars_next, in_key_chars, in_behind_key, failed, step, ended, onward, finish, walk, judgement, run}
use Rattle.asl_json_data.specs.Distinct.{Members, has_key}
use Rattle.asl_json_scan.specs.Open.{Frame, in_list, in_dict}
use Rattle.asl_json_data.specs.Limits.{max_depth, Allowed, AllowedItems, AllowedMembers}
use Rattle.asl_json_scan.specs.declared.fault.Fault.{Fault}
use Rattle.asl_json_scan.specs.declared.fault.Kind.TheVariants.{Syntax, Number}
use Rattle.asl_json_data.specs.declared.part.Part.{Part}
use Rattle.asl_json_data.specs.declared.part.Part.TheVariants.{Start}

abbrev Roomy : List Frame → Type 0
Roomy st = nat_le max_depth (length st) ≡ false

abbrev FrontAllowed : List Frame → Members → Type 0
FrontAllowed st ms = AllowedMembers true (suc (length st)) [] (pairs ms)

abbrev KeptFrames : List Frame → Type 0
KeptFrames [] = Unit {0}
KeptFrames (in_list ds ∷ st) = Roomy st × (AllowedItems true (suc (length st)) (chain ds) × KeptFrames st)
KeptFrames (in_dict ms k ∷ st) = Roomy st × (FrontAllowed st ms × ((has_key k ms ≡ false) × KeptFrames st))

abbrev pub Kept : Mode → List Frame → Type 0
Kept value st = KeptFrames st
Kept (word ws d) st = KeptFrames st × Allowed true (length st) d
Kept (chars q s) st = KeptFrames st
Kept (figure p s) st = KeptFrames st
Kept (after d) st = KeptFrames st × Allowed true (length st) d
Kept first st = KeptFrames st × Roomy st
Kept (key ms) st = KeptFrames st × (Roomy st × FrontAllowed st ms)
Kept (key_chars ms n q s) st = KeptFrames st × (Roomy st × FrontAllowed st ms)
Kept (behind_key ms k) st = KeptFrames st × (Roomy st × (FrontAllowed st ms × (has_key k ms ≡ false)))

abbrev KeptNext : Next → Type 0
KeptNext (go m st) = Kept m st
KeptNext (stop kind back) = Unit {0}

kept_cond : (b : Bool) (x y : Next) → (b ≡ true → KeptNext x) → (b ≡ false → KeptNext y) → KeptNext (cond b x y)
kept_cond true x y p q = p refl
kept_cond false x y p q = q refl

items_push : (n : ℕ) (ds : List Data) (d : Data) → AllowedItems true n (chain ds) → Allowed true n d → AllowedItems true n (chain (ds ++ d ∷ []))
items_push n [] d h w = (w, tt)
items_push n (e ∷ ds) d h w = (h.0, items_push n ds d h.1 w)

members_push : (n : ℕ) (seen ms : Members) (k : List ℕ) (d : Data) → AllowedMembers true n seen (pairs ms) → has_key k (seen ++ ms) ≡ false → Allowed true n d → AllowedMembers true n seen (pairs (ms ++ (k, d) ∷ []))
members_push n seen [] k d h new w = (rw append-nil at new, (w, tt))
members_push n seen (m ∷ ms) k d h new w = (h.0, (h.1.0, members_push n (seen ++ m ∷ []) ms k d h.1.1 (rw (append_assoc seen (m ∷ []) ms) new) w))

after_kept : (d : Data) (st : List Frame) (c : ℕ) → KeptFrames st → Allowed true (length st) d → KeptNext (in_after d st c)
unfolding in_after
after_kept d [] c h ok = kept_cond (is_space c) _ _ (λ _. (h, ok)) (λ _. tt)
after_kept d (in_list ds ∷ st) c h ok =
    let more = items_push (suc (length st)) ds d h.1.0 ok in
    kept_cond (is_space c) _ _ (λ _. (h, ok)) (λ _. kept_cond (c == comma) _ _ (λ _. (h.0, (more, h.1.1))) (λ _. kept_cond (c == close_bracket) _ _ (λ _. (h.1.1, (h.0, more))) (λ _. tt)))
after_kept d (in_dict ms k ∷ st) c h ok =
    let more = members_push (suc (length st)) [] ms k d h.1.0 h.1.1.0 ok in
    kept_cond (is_space c) _ _ (λ _. (h, ok)) (λ _. kept_cond (c == comma) _ _ (λ _. (h.1.1.1, (h.0, more))) (λ _. kept_cond (c == close_brace) _ _ (λ _. (h.1.1.1, (h.0, more))) (λ _. tt)))

judged_kept : (s : List ℕ) (st : List Frame) (c : ℕ) → KeptFrames st → KeptNext (in_judged true s st c)
unfolding in_judged
judged_kept s st c h = kept_cond (is_over s) _ _ (λ _. tt) (λ fits. after_kept (number s) st c h fits)

deepens_kept : (st : List Frame) (n : Next) → (Roomy st → KeptNext n) → KeptNext (deepens true st n)
unfolding deepens
deepens_kept st n h = kept_cond (nat_le max_depth (length st)) _ _ (λ _. tt) h

closes_kept : (st : List Frame) → KeptFrames st → KeptNext (closes st)
unfolding closes
closes_kept [] h = tt
closes_kept (in_list [] ∷ st) h = (h.1.1, (h.0, tt))
closes_kept (in_list (d ∷ ds) ∷ st) h = tt
closes_kept (in_dict ms k ∷ st) h = tt

chars_kept : (s : List ℕ) (st : List Frame) (n : Inside) → KeptFrames st → KeptNext (chars_next s st n)
chars_kept s st (goes q t) h = h
chars_kept s st ends h = (h, tt)
chars_kept s st breaks h = tt
chars_kept s st (lone back) h = tt

key_chars_kept : (ms : Members) (o : ℕ) (s : List ℕ) (st : List Frame) (n : Inside) → KeptFrames st × (Roomy st × FrontAllowed st ms) → KeptNext (key_chars_next true ms o s st n)
key_chars_kept ms o s st (goes q t) h = h
key_chars_kept ms o s st ends h = kept_cond (has_key s ms) _ _ (λ _. tt) (λ new. (h.0, (h.1.0, (h.1.1, new))))
key_chars_kept ms o s st breaks h = tt
key_chars_kept ms o s st (lone back) h = tt

kept_grown : (o : Option Part) (n : Next) (s : List ℕ) (st : List Frame) (c : ℕ) → KeptFrames st → KeptNext n → KeptNext (grown o n s st c)
kept_grown None n s st c h k = k
kept_grown (Some p) n s st c h k = h

step_kept : (m : Mode) (st : List Frame) (c : ℕ) → Kept m st → KeptNext (step true m st c)
unfolding in_value in_word in_chars in_figure in_first in_key in_key_chars in_behind_key
step_kept value st c h =
    kept_cond (is_space c) _ _ (λ _. h) (λ _. kept_cond (c == quote) _ _ (λ _. h) (λ _.
    kept_cond (c == open_bracket) _ _ (λ _. deepens_kept st _ (λ room. (room, (tt, h)))) (λ _.
    kept_cond (c == open_brace) _ _ (λ _. deepens_kept st _ (λ room. (h, room))) (λ _.
    kept_cond (c == 110) _ _ (λ _. (h, tt)) (λ _. kept_cond (c == 116) _ _ (λ _. (h, tt)) (λ _. kept_cond (c == 102) _ _ (λ _. (h, tt)) (λ _. kept_cond (c == close_bracket) _ _ (λ _. closes_kept st h) (λ _. kept_grown (next_part Start c) _ [] st c h tt))))))))
step_kept (word [] d) st c h = tt
step_kept (word (w ∷ []) d) st c h = kept_cond (c == w) _ _ (λ _. h) (λ _. tt)
step_kept (word (w ∷ x ∷ ws) d) st c h = kept_cond (c == w) _ _ (λ _. h) (λ _. tt)
step_kept (chars q s) st c h = chars_kept s st (in_text q s c) h
step_kept (figure p s) st c h = kept_grown (next_part p c) _ s st c h (kept_cond (may_end p) _ _ (λ _. judged_kept s st c h) (λ _. tt))
step_kept (after d) st c h = after_kept d st c h.0 h.1
step_kept first st c h = kept_cond (is_space c) _ _ (λ _. h) (λ _. kept_cond (c == quote) _ _ (λ _. (h.0, (h.1, tt))) (λ _. kept_cond (c == close_brace) _ _ (λ _. (h.0, (h.1, tt))) (λ _. tt)))
step_kept (key ms) st c h = kept_cond (is_space c) _ _ (λ _. h) (λ _. kept_cond (c == quote) _ _ (λ _. h) (λ _. tt))
step_kept (key_chars ms n q s) st c h = key_chars_kept ms n s st (in_text q s c) h
step_kept (behind_key ms k) st c h = kept_cond (is_space c) _ _ (λ _. h) (λ _. kept_cond (c == colon) _ _ (λ _. (h.1.0, (h.1.1.0, (h.1.1.1, h.0)))) (λ _. tt))

abbrev done : Data → Result Data Fault
done v = Ok v

done_is : (d v : Data) → done d ≡ done v → d ≡ v
done_is d v e = cc

ended_kept : (d v : Data) (st : List Frame) → Allowed true (length st) d → ended d st ≡ done v → Allowed true 0 v
ended_kept d v [] ok e = subst (Allowed true 0) (done_is d v e) ok
ended_kept d v (f ∷ st) ok e = absurd cc

number_kept : (s : List ℕ) (v : Data) (st : List Frame) → cond (is_over s) (failed Number (length s)) (ended (number s) st) ≡ done v → Allowed true 0 v
number_kept s v st e = told (is_over s) refl e
  where
    told : (x : Bool) → is_over s ≡ x → cond x (failed Number (length s)) (ended (number s) st) ≡ done v → Allowed true 0 v
    told true over e = absurd cc
    told false fits e = ended_kept (number s) v st fits e

figure_kept : (b : Bool) (s : List ℕ) (v : Data) (st : List Frame) → cond b (cond (is_over s) (failed Number (length s)) (ended (number s) st)) (failed Syntax 0) ≡ done v → Allowed true 0 v
figure_kept true s v st e = number_kept s v st e
figure_kept false s v st e = absurd cc

finish_kept : (m : Mode) (st : List Frame) (v : Data) → Kept m st → finish true m st ≡ done v → Allowed true 0 v
finish_kept (figure p s) st v h e = figure_kept (may_end p) s v st e
finish_kept (after d) st v h e = ended_kept d v st h.1 e
finish_kept x st v h e = absurd cc

next_kept : (f : Mode → List Frame → Result Data Fault) (left : ℕ) (n : Next) (v : Data) → KeptNext n → ((m : Mode) (st : List Frame) → Kept m st → f m st ≡ done v → Allowed true 0 v) → onward (judgement true) f left n ≡ done v → Allowed true 0 v
next_kept f left (go m st) v h later e = later m st h e
next_kept f left (stop kind back) v h later e = absurd cc

pub run_kept : (m : Mode) (st : List Frame) (b : List ℕ) (v : Data) → Kept m st → run true m st b ≡ done v → Allowed true 0 v
unfolding walk
run_kept m st [] v h e = finish_kept m st v h e
run_kept m st (c ∷ cs) v h e = next_kept (λ (o : Mode) (u : List Frame). run true o u cs) (suc (length cs)) (step true m st c) v (step_kept m st c h) (λ m' st' g d. run_kept m' st' cs v g d) e
