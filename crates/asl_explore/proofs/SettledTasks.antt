-- Which Tasks are settled, by the numbers of their states.
use Rattle.std.proofs.Common.{ℕ, ◌≡◌, ◌<◌, ◌≤◌, ◌==◌, ◌∙◌, refl, sym, ap, subst, arith, Bool, true, false, List, length, get_or, set, Option, Some, None}
use Rattle.std.specs.Prelude.{nat_lt}
use Rattle.std.proofs.lemmas.Bool.{eqb-true, eqb-false}
use Rattle.std.proofs.lemmas.Bool.Decides.{nat_tests}
use Rattle.std.proofs.lemmas.List.{get_or-set_same, get_or-set_other, set_past}
use Rattle.asl_json_data.specs.Data.{Data}
use Rattle.asl_def.specs.Machines.{state_object, state_number}
use Rattle.asl_step_reads.specs.Reading.{reads}
use Rattle.asl_step_reads.specs.Mentions.{may_read}
use Rattle.asl_step_reads.specs.Steps.{token_keys}
use Rattle.asl_step_reads.proofs.Mentioning.{unmentioned}
use Rattle.asl_run_input.specs.declared.setup.Setup.{Setup}
use Rattle.asl_explore.specs.Settled.{AreOneFrom, IsSettled, IsSettledAt, AreSettledFrom, most_before}
use Rattle.asl_explore.proofs.Steady.{one-state}

-- ---- one Task

-- no text of this object may read the token, and the answers are one from this number on
pub settled-is : (s : Setup) (name : List ℕ) (count : ℕ) (d : Data) → state_object name s.machine ≡ Some d → may_read token_keys d ≡ false → AreOneFrom s.case name count → IsSettled s name count
settled-is s name count d is unread one = record {
  answers = one;
  unread = λ o at.
      let some : Some d ≡ Some o = sym is ∙ at in
      let same : d ≡ o = cc in
      subst (λ z. reads token_keys z ≡ false) same (unmentioned token_keys d unread);
}

-- it stays settled
pub settled-later : (s : Setup) (name : List ℕ) (from count : ℕ) → from ≤ count → count ≤ most_before → IsSettled s name from → IsSettledAt s name count
settled-later s name from count le room h = record {
  settled = record {
    answers = λ i li ih. h.answers i (omega (arith, le, li)) ih ∙ sym (h.answers count le (omega (arith, room)));
    unread = h.unread;
  };
  room = room;
}

-- ---- all that are known

pub settled-put : (s : Setup) (from : List (Option ℕ)) (name : List ℕ) (number count : ℕ) → state_number name s.machine ≡ Some number → IsSettled s name count → AreSettledFrom s from → AreSettledFrom s (set from number (Some count))
settled-put s from name number count is settled h other k n at there = by (k == number) refl
  where
    here : k ≡ number → (c : Bool) → nat_lt number (length from) ≡ c → IsSettled s other n
    here same true e =
        let lt : number < length from = grind (arith, nat_tests, e) in
        let read : get_or (set from number (Some count)) number None ≡ Some n = subst (λ z. get_or (set from number (Some count)) z None ≡ Some n) same there in
        let some : Some count ≡ Some n = sym (get_or-set_same from number (Some count) None lt) ∙ read in
        let one : count ≡ n = cc in
        let named : name ≡ other = one-state s.machine name other number is (subst (λ z. state_number other s.machine ≡ Some z) same at) in
        subst (λ z. IsSettled s z n) named (subst (λ z. IsSettled s name z) one settled)
    here same false e =
        let past : length from ≤ number = grind (arith, nat_tests, e) in
        h other k n at (sym (ap (λ xs. get_or xs k None) (set_past from number (Some count) past)) ∙ there)

    by : (c : Bool) → (k == number) ≡ c → IsSettled s other n
    by true e = here (eqb-true k number e) (nat_lt number (length from)) refl
    by false e = h other k n at (sym (get_or-set_other from number k (Some count) None (eqb-false k number e)) ∙ there)
