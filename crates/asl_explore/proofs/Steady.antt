-- How often a state was invoked before matters to its step by the answer and by the token alone; counts that don't matter.
use Rattle.std.proofs.Common.{ℕ, suc, ◌≡◌, ◌≤◌, ◌<◌, ◌+◌, ◌⊎◌, inl, inr, ◌==◌, Bool, true, false, List, refl, sym, ◌∙◌, ap, subst, arith, cond, length, get_or, set, option_map, Some, None, Option}
use Rattle.std.specs.Prelude.{[], nat_lt, unwrap_or}
use Rattle.std.specs.Option.{option_and_then}
use Rattle.std.proofs.lemmas.Bool.{both_ways, eqb-true, eqb-false}
use Rattle.std.proofs.lemmas.Bool.Decides.{nat_tests}
use Rattle.std.proofs.lemmas.List.{length-set, get_or-set_same, get_or-set_other, set_past}
use Rattle.asl_json_data.specs.Data.{Data, Pairs, no_members, member, pairs}
use Rattle.asl_json.specs.Same.{bytes_eq}
use Rattle.asl_def.specs.Machines.{number_at, state_number, state_object, states_of}
use Rattle.asl_mock.specs.Answers.{answer_to}
use Rattle.asl_step.specs.declared.effect.Effect.{Effect}
use Rattle.asl_step.specs.declared.record.Record.{Record}
use Rattle.asl_step.specs.Records.{state_in, name_in}
use Rattle.asl_step.specs.Seen.{Seen}
use Rattle.asl_kinds.specs.Table.{invokes}
use Rattle.asl_step_reads.specs.Reading.{reads}
use Rattle.asl_step_reads.specs.Steps.{token_keys, with_count}
use Rattle.asl_step_reads.proofs.Tokens.{counts, others}
use Rattle.asl_run_branches.proofs.Linking.{same-eq}
use Rattle.asl_run_state.specs.World.{World, count_of, raised, counts_after}
use Rattle.asl_run_input.specs.declared.setup.Setup.{Setup}
use Rattle.asl_exec.specs.Steps.{facts_of, number_in, object_in, invokes_by, seen_at, effect_in, effect_by}

-- ---- one number is that of one name

one-name : (ms : Pairs) (n m : List ℕ) (k : ℕ) → number_at n ms ≡ Some k → number_at m ms ≡ Some k → n ≡ m
one-name no_members n m k h g = (cc)
one-name (member l d ms) n m k h g = by (bytes_eq n l) (bytes_eq m l) (number_at n ms) (number_at m ms) refl refl refl refl (one-name ms n m) h g
  where
    by : (a b : Bool) (x y : Option ℕ) → bytes_eq n l ≡ a → bytes_eq m l ≡ b → number_at n ms ≡ x → number_at m ms ≡ y → ((j : ℕ) → number_at n ms ≡ Some j → number_at m ms ≡ Some j → n ≡ m)
        → cond a (Some 0) (option_map suc x) ≡ Some k → cond b (Some 0) (option_map suc y) ≡ Some k → n ≡ m
    by true true x y ea eb ex ey more h g = same-eq n l ea ∙ sym (same-eq m l eb)
    by true false x None ea eb ex ey more h g = (cc)
    by true false x (Some j) ea eb ex ey more h g = let z : suc j ≡ 0 = let c : Some (suc j) ≡ Some 0 = g ∙ sym h in (cc) in absurd (omega (arith, z))
    by false true None y ea eb ex ey more h g = (cc)
    by false true (Some i) y ea eb ex ey more h g = let z : suc i ≡ 0 = let c : Some (suc i) ≡ Some 0 = h ∙ sym g in (cc) in absurd (omega (arith, z))
    by false false None y ea eb ex ey more h g = (cc)
    by false false (Some i) None ea eb ex ey more h g = (cc)
    by false false (Some i) (Some j) ea eb ex ey more h g =
        let c : Some (suc i) ≡ Some (suc j) = h ∙ sym g in
        let z : suc i ≡ suc j = (cc) in
        let same : j ≡ i = omega (arith, z) in
        more i ex (ey ∙ ap Some same)

pub one-state : (d : Data) (n m : List ℕ) (k : ℕ) → state_number n d ≡ Some k → state_number m d ≡ Some k → n ≡ m
one-state d n m k h g = one-name (pairs (states_of d)) n m k h g

-- ---- a step of a branch, had its state been invoked so often before

abbrev pub counted : Setup → World → List ℕ → ℕ → Record → ℕ → Effect
counted s u p now r n = effect_in s.machine (facts_of s) (with_count (seen_at s.machine s.case u p now r) n)

-- no text of the state reads its token, and both numbers have one answer
pub record ReadsAlike (s : Setup) (name : List ℕ) (d : Data) (n m : ℕ) : Type 0 where
  pub unread : reads token_keys d ≡ false
  pub answers : answer_to s.case name n ≡ answer_to s.case name m

same-counted : (s : Setup) (u : World) (p : List ℕ) (now : ℕ) (r : Record) (n m : ℕ) → ((d : Data) → object_in s.machine r ≡ Some d → invokes d ≡ true → ReadsAlike s (name_in r) d n m) → counted s u p now r n ≡ counted s u p now r m
same-counted s u p now r n m h = by (object_in s.machine r) refl
  where
    v : Seen
    v = seen_at s.machine s.case u p now r

    of : (d : Data) → object_in s.machine r ≡ Some d → (b : Bool) → invokes d ≡ b → effect_by (Some d) (facts_of s) (with_count v n) ≡ effect_by (Some d) (facts_of s) (with_count v m)
    of d is true e = let x = h d is e in counts d (facts_of s) (with_count v m) n x.unread (λ t. x.answers)
    of d is false e = others d (facts_of s) (with_count v m) n e (ap invokes_by is ∙ e)

    by : (o : Option Data) → object_in s.machine r ≡ o → effect_by o (facts_of s) (with_count v n) ≡ effect_by o (facts_of s) (with_count v m)
    by None is = refl
    by (Some d) is = of d is (invokes d) refl

-- ---- a branch whose step does the same, whichever of these counts is read

-- its state invokes a service, all numbers from this one to that one have one answer, and no text of it reads its token
pub record IsSteady (s : Setup) (r : Record) (low high : ℕ) : Type 0 where
  pub answers : (i j : ℕ) → low ≤ i → i ≤ high → low ≤ j → j ≤ high → answer_to s.case (name_in r) i ≡ answer_to s.case (name_in r) j
  pub unread : (d : Data) → object_in s.machine r ≡ Some d → reads token_keys d ≡ false

-- or it invokes none
abbrev pub IsHeld : Setup → Record → ℕ → ℕ → Type 0
IsHeld s r low high = (invokes_by (object_in s.machine r) ≡ false) ⊎ IsSteady s r low high

pub held-does : (s : Setup) (u : World) (p : List ℕ) (now : ℕ) (r : Record) (low high i j : ℕ) → IsHeld s r low high → low ≤ i → i ≤ high → low ≤ j → j ≤ high → counted s u p now r i ≡ counted s u p now r j
held-does s u p now r low high i j (inl mute) a b c d = same-counted s u p now r i j (λ o is inv. absurd (both_ways (invokes o) (ap invokes_by (sym is) ∙ mute) inv))
held-does s u p now r low high i j (inr x) a b c d = same-counted s u p now r i j (λ o is inv. record { unread = x.unread o is; answers = x.answers i j a b c d })

pub held-less : (s : Setup) (r : Record) (low high i j : ℕ) → low ≤ i → j ≤ high → IsHeld s r low high → IsHeld s r i j
held-less s r low high i j a b (inl mute) = inl mute
held-less s r low high i j a b (inr x) = inr (record {
  answers = λ k l ak bk al bl. x.answers k l (omega (arith, a, ak)) (omega (arith, b, bk)) (omega (arith, a, al)) (omega (arith, b, bl));
  unread = x.unread;
})

-- ---- counts that don't matter in the next steps, which invoke services so often at most

-- to the state of this name, from both counts on
pub record IsLike (s : Setup) (name : List ℕ) (b c d : ℕ) : Type 0 where
  pub answers : (i j : ℕ) → c ≤ i → i ≤ c + b → d ≤ j → j ≤ d + b → answer_to s.case name i ≡ answer_to s.case name j
  pub unread : (o : Data) → state_object name s.machine ≡ Some o → reads token_keys o ≡ false

abbrev pub AreClose : Setup → ℕ → ℕ → ℕ → ℕ → Type 0
AreClose s b k c d = (c ≡ d) ⊎ ((name : List ℕ) → state_number name s.machine ≡ Some k → IsLike s name b c d)

-- of all states
pub record AreLike (s : Setup) (b : ℕ) (cs ds : List ℕ) : Type 0 where
  pub long : length cs ≡ length ds
  pub close : (k : ℕ) → AreClose s b k (get_or cs k 0) (get_or ds k 0)

close-less : (s : Setup) (a b k c d : ℕ) → a ≤ b → AreClose s b k c d → AreClose s a k c d
close-less s a b k c d le (inl same) = inl same
close-less s a b k c d le (inr like) = inr (λ name is. record {
  answers = λ i j ci ic dj jd. (like name is).answers i j ci (omega (arith, ic, le)) dj (omega (arith, jd, le));
  unread = (like name is).unread;
})

pub like-less : (s : Setup) (a b : ℕ) (cs ds : List ℕ) → a ≤ b → AreLike s b cs ds → AreLike s a cs ds
like-less s a b cs ds le h = record { long = h.long; close = λ k. close-less s a b k (get_or cs k 0) (get_or ds k 0) le (h.close k) }

pub like-self : (s : Setup) (b : ℕ) (cs : List ℕ) → AreLike s b cs cs
like-self s b cs = record { long = refl; close = λ k. inl refl }

close-back : (s : Setup) (b k c d : ℕ) → AreClose s b k c d → AreClose s b k d c
close-back s b k c d (inl same) = inl (sym same)
close-back s b k c d (inr like) = inr (λ name is. record {
  answers = λ i j di id cj jc. sym ((like name is).answers j i cj jc di id);
  unread = (like name is).unread;
})

pub like-back : (s : Setup) (b : ℕ) (cs ds : List ℕ) → AreLike s b cs ds → AreLike s b ds cs
like-back s b cs ds h = record { long = sym h.long; close = λ k. close-back s b k (get_or cs k 0) (get_or ds k 0) (h.close k) }

-- a step does the same
pub like-does : (s : Setup) (u : World) (p : List ℕ) (now : ℕ) (m : Record) (b : ℕ) (cs ds : List ℕ) → AreLike s b cs ds → counted s u p now m (count_of ds (number_in s.machine m)) ≡ counted s u p now m (count_of cs (number_in s.machine m))
like-does s u p now m b cs ds h = by (state_in m) refl
  where
    -- of a state of this number
    at : (n : List ℕ) → state_in m ≡ Some n → (k : ℕ) → state_number n s.machine ≡ Some k → AreClose s b k (get_or cs k 0) (get_or ds k 0) → counted s u p now m (get_or ds k 0) ≡ counted s u p now m (get_or cs k 0)
    at n e k f (inl same) = ap (counted s u p now m) (sym same)
    at n e k f (inr like) = same-counted s u p now m (get_or ds k 0) (get_or cs k 0) (λ o is inv. record {
      unread = (like n f).unread o (ap (option_and_then (λ z. state_object z s.machine)) (sym e) ∙ is);
      answers = subst (λ z. answer_to s.case z (get_or ds k 0) ≡ answer_to s.case z (get_or cs k 0)) (sym (ap (λ (o : Option (List ℕ)). unwrap_or o []) e)) (sym ((like n f).answers (get_or cs k 0) (get_or ds k 0) (omega arith) (omega arith) (omega arith) (omega arith)));
    })

    numbered : (n : List ℕ) → state_in m ≡ Some n → (k : Option ℕ) → state_number n s.machine ≡ k → counted s u p now m (count_of ds k) ≡ counted s u p now m (count_of cs k)
    numbered n e None f = refl
    numbered n e (Some k) f = at n e k f (h.close k)

    by : (o : Option (List ℕ)) → state_in m ≡ o → counted s u p now m (count_of ds (option_and_then (λ n. state_number n s.machine) o)) ≡ counted s u p now m (count_of cs (option_and_then (λ n. state_number n s.machine) o))
    by None e = refl
    by (Some n) e = numbered n e (state_number n s.machine) refl

-- ---- a count is raised

moved-close : (s : Setup) (b k c d x y : ℕ) → x ≡ c → y ≡ d → AreClose s b k c d → AreClose s b k x y
moved-close s b k c d x y e f h = rw (e, f) h

raised-close : (s : Setup) (a b k c d : ℕ) → a + 1 ≤ b → AreClose s b k c d → AreClose s a k (c + 1) (d + 1)
raised-close s a b k c d le (inl same) = inl (ap (λ z. z + 1) same)
raised-close s a b k c d le (inr like) = inr (λ name is. record {
  answers = λ i j ci ic dj jd. (like name is).answers i j (omega (arith, ci)) (omega (arith, ic, le)) (omega (arith, dj)) (omega (arith, jd, le));
  unread = (like name is).unread;
})

like-raised : (s : Setup) (a b : ℕ) (n : Option ℕ) (cs ds : List ℕ) → a + 1 ≤ b → AreLike s b cs ds → AreLike s a (raised n cs) (raised n ds)
like-raised s a b None cs ds le h = like-less s a b cs ds (omega (arith, le)) h
like-raised s a b (Some k) cs ds le h = record {
  long = length-set cs k (get_or cs k 0 + 1) ∙ h.long ∙ sym (length-set ds k (get_or ds k 0 + 1));
  close = λ j. by j (j == k) refl;
}
  where
    here : (c : Bool) → nat_lt k (length cs) ≡ c → AreClose s a k (get_or (set cs k (get_or cs k 0 + 1)) k 0) (get_or (set ds k (get_or ds k 0 + 1)) k 0)
    here true e =
        let lt : k < length cs = grind (arith, nat_tests, e) in
        let long = h.long in
        moved-close s a k (get_or cs k 0 + 1) (get_or ds k 0 + 1) _ _
        (get_or-set_same cs k (get_or cs k 0 + 1) 0 lt) (get_or-set_same ds k (get_or ds k 0 + 1) 0 (omega (arith, lt, long)))
        (raised-close s a b k (get_or cs k 0) (get_or ds k 0) le (h.close k))
    here false e =
        let past : length cs ≤ k = grind (arith, nat_tests, e) in
        let long = h.long in
        moved-close s a k (get_or cs k 0) (get_or ds k 0) _ _
        (ap (λ xs. get_or xs k 0) (set_past cs k (get_or cs k 0 + 1) past)) (ap (λ xs. get_or xs k 0) (set_past ds k (get_or ds k 0 + 1) (omega (arith, past, long))))
        (close-less s a b k (get_or cs k 0) (get_or ds k 0) (omega (arith, le)) (h.close k))

    by : (j : ℕ) (c : Bool) → (j == k) ≡ c → AreClose s a j (get_or (set cs k (get_or cs k 0 + 1)) j 0) (get_or (set ds k (get_or ds k 0 + 1)) j 0)
    by j true e = subst (λ z. AreClose s a z (get_or (set cs k (get_or cs k 0 + 1)) z 0) (get_or (set ds k (get_or ds k 0 + 1)) z 0)) (sym (eqb-true j k e)) (here (nat_lt k (length cs)) refl)
    by j false e =
        moved-close s a j (get_or cs j 0) (get_or ds j 0) _ _
        (get_or-set_other cs k j (get_or cs k 0 + 1) 0 (eqb-false j k e)) (get_or-set_other ds k j (get_or ds k 0 + 1) 0 (eqb-false j k e))
        (close-less s a b j (get_or cs j 0) (get_or ds j 0) (omega (arith, le)) (h.close j))

-- so often a step invokes a service
abbrev pub asked : Bool → ℕ
asked raises = cond raises 1 0

pub like-after : (s : Setup) (b : ℕ) (n : Option ℕ) (raises : Bool) (cs ds : List ℕ) → AreLike s (asked raises + b) cs ds → AreLike s b (counts_after n raises cs) (counts_after n raises ds)
like-after s b n true cs ds h = like-raised s b (1 + b) n cs ds (omega arith) h
like-after s b n false cs ds h = like-less s b (0 + b) cs ds (omega arith) h

-- that of a state, or not
pub count-after : (n k : Option ℕ) (raises : Bool) (cs : List ℕ) → (count_of (counts_after n raises cs) k ≡ count_of cs k) ⊎ ((raises ≡ true) × (count_of (counts_after n raises cs) k ≡ count_of cs k + 1))
count-after n k false cs = inl refl
count-after None k true cs = inl refl
count-after (Some n) None true cs = inl refl
count-after (Some n) (Some k) true cs = by (k == n) refl
  where
    here : (c : Bool) → nat_lt n (length cs) ≡ c → (get_or (set cs n (get_or cs n 0 + 1)) n 0 ≡ get_or cs n 0) ⊎ ((true ≡ true) × (get_or (set cs n (get_or cs n 0 + 1)) n 0 ≡ get_or cs n 0 + 1))
    here true e = inr (refl, get_or-set_same cs n (get_or cs n 0 + 1) 0 (grind (arith, nat_tests, e)))
    here false e = inl (ap (λ xs. get_or xs n 0) (set_past cs n (get_or cs n 0 + 1) (grind (arith, nat_tests, e))))

    by : (c : Bool) → (k == n) ≡ c → (get_or (set cs n (get_or cs n 0 + 1)) k 0 ≡ get_or cs k 0) ⊎ ((true ≡ true) × (get_or (set cs n (get_or cs n 0 + 1)) k 0 ≡ get_or cs k 0 + 1))
    by true e = subst (λ z. (get_or (set cs n (get_or cs n 0 + 1)) z 0 ≡ get_or cs z 0) ⊎ ((true ≡ true) × (get_or (set cs n (get_or cs n 0 + 1)) z 0 ≡ get_or cs z 0 + 1))) (sym (eqb-true k n e)) (here (nat_lt n (length cs)) refl)
    by false e = inl (get_or-set_other cs n k (get_or cs n 0 + 1) 0 (eqb-false k n e))

-- that of a branch which is held, once or not at all
pub like-ahead : (s : Setup) (r : Record) (raises : Bool) (b : ℕ) (cs : List ℕ) → (raises ≡ true → invokes_by (object_in s.machine r) ≡ true) → IsHeld s r (count_of cs (number_in s.machine r)) (count_of cs (number_in s.machine r) + (b + 1)) → AreLike s b cs (counts_after (number_in s.machine r) raises cs)
like-ahead s r false b cs i held = like-self s b cs
like-ahead s r true b cs i (inl mute) = absurd (both_ways (invokes_by (object_in s.machine r)) mute (i refl))
like-ahead s r true b cs i (inr x) = by (state_in r) refl (λ k l. x.answers k l) x.unread
  where
    -- of a state of this name and number
    at : (n : List ℕ) (k : ℕ) → state_number n s.machine ≡ Some k → ((i j : ℕ) → get_or cs k 0 ≤ i → i ≤ get_or cs k 0 + (b + 1) → get_or cs k 0 ≤ j → j ≤ get_or cs k 0 + (b + 1) → answer_to s.case n i ≡ answer_to s.case n j) → ((d : Data) → state_object n s.machine ≡ Some d → reads token_keys d ≡ false) → AreLike s b cs (set cs k (get_or cs k 0 + 1))
    at n k f answers unread = record { long = sym (length-set cs k (get_or cs k 0 + 1)); close = λ j. side j (j == k) refl }
      where
        here : (c : Bool) → nat_lt k (length cs) ≡ c → AreClose s b k (get_or cs k 0) (get_or (set cs k (get_or cs k 0 + 1)) k 0)
        here true e = moved-close s b k (get_or cs k 0) (get_or cs k 0 + 1) _ _ refl (get_or-set_same cs k (get_or cs k 0 + 1) 0 (grind (arith, nat_tests, e))) (inr (λ name is.
            let same : n ≡ name = one-state s.machine n name k f is in
            subst (λ z. IsLike s z b (get_or cs k 0) (get_or cs k 0 + 1)) same (record {
              answers = λ i j ci ic dj jd. answers i j ci (omega (arith, ic)) (omega (arith, dj)) (omega (arith, jd));
              unread = unread;
            })))
        here false e = inl (sym (ap (λ xs. get_or xs k 0) (set_past cs k (get_or cs k 0 + 1) (grind (arith, nat_tests, e)))))

        side : (j : ℕ) (c : Bool) → (j == k) ≡ c → AreClose s b j (get_or cs j 0) (get_or (set cs k (get_or cs k 0 + 1)) j 0)
        side j true e = subst (λ z. AreClose s b z (get_or cs z 0) (get_or (set cs k (get_or cs k 0 + 1)) z 0)) (sym (eqb-true j k e)) (here (nat_lt k (length cs)) refl)
        side j false e = inl (sym (get_or-set_other cs k j (get_or cs k 0 + 1) 0 (eqb-false j k e)))

    numbered : (n : List ℕ) (k : Option ℕ) → state_number n s.machine ≡ k → ((i j : ℕ) → count_of cs k ≤ i → i ≤ count_of cs k + (b + 1) → count_of cs k ≤ j → j ≤ count_of cs k + (b + 1) → answer_to s.case n i ≡ answer_to s.case n j) → ((d : Data) → state_object n s.machine ≡ Some d → reads token_keys d ≡ false) → AreLike s b cs (raised k cs)
    numbered n None f answers unread = like-self s b cs
    numbered n (Some k) f answers unread = at n k f answers unread

    by : (o : Option (List ℕ)) → state_in r ≡ o → ((i j : ℕ) → count_of cs (option_and_then (λ n. state_number n s.machine) o) ≤ i → i ≤ count_of cs (option_and_then (λ n. state_number n s.machine) o) + (b + 1) → count_of cs (option_and_then (λ n. state_number n s.machine) o) ≤ j → j ≤ count_of cs (option_and_then (λ n. state_number n s.machine) o) + (b + 1) → answer_to s.case (unwrap_or o []) i ≡ answer_to s.case (unwrap_or o []) j) → ((d : Data) → option_and_then (λ n. state_object n s.machine) o ≡ Some d → reads token_keys d ≡ false) → AreLike s b cs (raised (option_and_then (λ n. state_number n s.machine) o) cs)
    by None e answers unread = like-self s b cs
    by (Some n) e answers unread = numbered n (state_number n s.machine) refl answers unread
