-- The machine behind a front of a text, without limits.
use Rattle.std.proofs.Common.{◌≡◌, ℕ, false, List, [], ◌∷◌, ◌++◌, length, refl, sym, ap, subst, ◌∙◌, append_assoc}
use Rattle.std.proofs.lemmas.List.{append-nil}
use Rattle.asl_json_data.specs.Data.{Data}
use Rattle.asl_json_data.specs.Distinct.{Members}
use Rattle.asl_json_data.specs.Grammar.{colon, open_bracket, open_brace, Spells}
use Rattle.asl_json_data.specs.Parts.{comma, Joined}
use Rattle.asl_json_scan.specs.private.Machine.{Mode, value, after, first, key, Next, go, stop, Outcome, reach}
use Rattle.asl_json_scan.specs.Open.{Frame, in_list, in_dict, SpellsFrontItems, SpellsFront, IsOpen, AwaitsKey}
use Rattle.asl_json_scan.proofs.Passing.{StopsFigure, AsksKey, first_asks, key_asks, spaces_pass, padded_pass, next_item_pass, member_pass, comma_pass, comma_stops, bracket_pass, brace_pass, name_pass, value_pass}
use Rattle.asl_json_scan.proofs.JudgingLemmas.{all_allowed}

abbrev pub state : Outcome Next
state = record { at_end = go; at_stop = stop }

free_value : (d : Data) (st : List Frame) (u rest : List ℕ) → StopsFigure state false rest → Spells d u → reach false value st (u ++ rest) ≡ reach false (after d) st rest
free_value d st u rest stops h = value_pass state false d u st rest stops h (all_allowed (length st) d)

front_items_pass : (seen ds : List Data) (t : List ℕ) (st : List Frame) (rest : List ℕ) → SpellsFrontItems ds t → reach false value (in_list seen ∷ st) (t ++ rest) ≡ reach false value (in_list (seen ++ ds) ∷ st) rest
front_items_pass seen [] t st rest h = ap (λ (x : List ℕ). reach false value (in_list seen ∷ st) (x ++ rest)) h ∙ ap (λ (l : List Data). reach false value (in_list l ∷ st) rest) (sym (append-nil seen))
front_items_pass seen (d ∷ ds) t st rest h =
    let b = h.back_is in
    let regrouped : t ++ rest ≡ h.front ++ comma ∷ (b.tail ++ rest) = rw (h.parts, b.parts) (simp append_assoc) in
    ap (reach false value (in_list seen ∷ st)) regrouped
    ∙ padded_pass state false d h.front (in_list seen ∷ st) (comma ∷ (b.tail ++ rest)) comma_stops h.front_is (λ u r stops g. free_value d (in_list seen ∷ st) u r stops g)
    ∙ next_item_pass state false seen d st (b.tail ++ rest)
    ∙ front_items_pass (seen ++ d ∷ []) ds b.tail st rest b.tail_is
    ∙ ap (λ (l : List Data). reach false value (in_list l ∷ st) rest) (append_assoc seen (d ∷ []) ds)

front_pass : (m : Mode) (seen ms : Members) (t : List ℕ) (st : List Frame) (rest : List ℕ) → AsksKey false m seen → SpellsFront ms t → (mode : Mode) → AsksKey false mode (seen ++ ms) → (ms ≡ [] → mode ≡ m) → ((e : ms ≡ [] → ⊥) → mode ≡ key (seen ++ ms))
    → reach false m st (t ++ rest) ≡ reach false mode st rest
front_pass m seen [] t st rest asks h mode final none some = ap (λ (x : List ℕ). reach false m st (x ++ rest)) h ∙ ap (λ (n : Mode). reach false n st rest) (sym (none refl))
front_pass m seen (x ∷ ms) t st rest asks h mode final none some =
    let b = h.back_is in
    let regrouped : t ++ rest ≡ h.front ++ comma ∷ (b.tail ++ rest) = rw (h.parts, b.parts) (simp append_assoc) in
    let seen' = seen ++ x ∷ [] in
    let same : seen' ++ ms ≡ seen ++ x ∷ ms = append_assoc seen (x ∷ []) ms in
    let is_key : mode ≡ key (seen ++ x ∷ ms) = some (λ e. cc) in
    ap (reach false m st) regrouped
    ∙ member_pass state false m seen x.0 x.1 h.front st (comma ∷ (b.tail ++ rest)) comma_stops asks h.front_is refl (λ u r stops g. free_value x.1 (in_dict seen x.0 ∷ st) u r stops g)
    ∙ comma_pass state false seen x.0 x.1 st (b.tail ++ rest)
    ∙ front_pass (key seen') seen' ms b.tail st rest (key_asks false seen') b.tail_is mode (subst (AsksKey false mode) (sym same) final) (λ e. is_key ∙ ap key (sym same ∙ ap (λ (l : Members). seen' ++ l) e ∙ append-nil seen')) (λ e. is_key ∙ ap key (sym same))

-- the mode behind a front of members
abbrev pub asking : Members → Mode
asking [] = first
asking (m ∷ ms) = key (m ∷ ms)

pub asking_asks : (ms : Members) → AsksKey false (asking ms) ms
asking_asks [] = first_asks false
asking_asks (m ∷ ms) = key_asks false (m ∷ ms)

asking_none : (ms : Members) → ms ≡ [] → asking ms ≡ first
asking_none [] e = refl
asking_none (m ∷ ms) e = absurd cc

asking_some : (ms : Members) → (ms ≡ [] → ⊥) → asking ms ≡ key ([] ++ ms)
asking_some [] e = absurd (e refl)
asking_some (m ∷ ms) e = refl

opened_pass : (ms : Members) (t : List ℕ) (st : List Frame) (rest : List ℕ) → Joined (SpellsFront ms) (λ e. e ≡ []) t → reach false value st (open_brace ∷ (t ++ rest)) ≡ reach false (asking ms) st rest
opened_pass ms t st rest h =
    let same : t ++ rest ≡ h.front ++ rest = rw (h.parts, h.back_is, append-nil) refl in
    ap (λ (x : List ℕ). reach false value st (open_brace ∷ x)) same ∙ brace_pass state false st (h.front ++ rest) refl
    ∙ front_pass first [] ms h.front st rest (first_asks false) h.front_is (asking ms) (asking_asks ms) (asking_none ms) (asking_some ms)

pub open_pass : (st : List Frame) (t rest : List ℕ) → IsOpen st t → reach false value [] (t ++ rest) ≡ reach false value st rest
open_pass [] t rest h = spaces_pass state false value [] t rest tt h
open_pass (in_list ds ∷ st) t rest h =
    let b = h.back_is in
    let j = b.tail_is in
    let regrouped : t ++ rest ≡ h.front ++ (open_bracket ∷ (j.front ++ (j.back ++ rest))) = rw (h.parts, b.parts, j.parts) (simp append_assoc) in
    ap (reach false value []) regrouped
    ∙ open_pass st h.front (open_bracket ∷ (j.front ++ (j.back ++ rest))) h.front_is
    ∙ bracket_pass state false st (j.front ++ (j.back ++ rest)) refl
    ∙ front_items_pass [] ds j.front st (j.back ++ rest) j.front_is
    ∙ spaces_pass state false value (in_list ds ∷ st) j.back rest tt j.back_is
open_pass (in_dict ms k' ∷ st) t rest h =
    let b = h.back_is in
    let j = b.tail_is in
    let k = j.back_is in
    let c = k.back_is in
    let after_brace = k.front ++ colon ∷ (c.tail ++ rest) in
    let regrouped : t ++ rest ≡ h.front ++ (open_brace ∷ (j.front ++ after_brace)) = rw (h.parts, b.parts, j.parts, k.parts, c.parts) (simp append_assoc) in
    ap (reach false value []) regrouped
    ∙ open_pass st h.front (open_brace ∷ (j.front ++ after_brace)) h.front_is
    ∙ opened_pass ms j.front st after_brace (record { front = j.front; back = []; parts = sym (append-nil j.front); front_is = j.front_is; back_is = refl })
    ∙ name_pass state false (asking ms) ms k' k.front st (c.tail ++ rest) (asking_asks ms) k.front_is refl
    ∙ spaces_pass state false value (in_dict ms k' ∷ st) c.tail rest tt c.tail_is

pub awaits_pass : (st : List Frame) (ms : Members) (t rest : List ℕ) → AwaitsKey st ms t → reach false value [] (t ++ rest) ≡ reach false (asking ms) st rest
awaits_pass st ms t rest h =
    let b = h.back_is in
    let j = b.tail_is in
    let regrouped : t ++ rest ≡ h.front ++ (open_brace ∷ (j.front ++ (j.back ++ rest))) = rw (h.parts, b.parts, j.parts) (simp append_assoc) in
    ap (reach false value []) regrouped
    ∙ open_pass st h.front (open_brace ∷ (j.front ++ (j.back ++ rest))) h.front_is
    ∙ opened_pass ms j.front st (j.back ++ rest) (record { front = j.front; back = []; parts = sym (append-nil j.front); front_is = j.front_is; back_is = refl })
    ∙ spaces_pass state false (asking ms) st j.back rest (asking_asks ms).spaced j.back_is
