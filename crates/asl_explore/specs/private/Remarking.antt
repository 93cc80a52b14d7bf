-- What is told of a state, of what was seen of it.
use Rattle.std.specs.Prelude.{ℕ, ◌≡◌, ◌⊎◌, ◌+◌, ◌++◌, ◌&&◌, Bool, true, false, List, [], Some}
use Rattle.asl_mock.specs.Answers.{Case}
use Rattle.asl_explore.specs.declared.answers.Run.{Run}
use Rattle.asl_explore.specs.declared.remarks.Answers.{Answers}
use Rattle.asl_explore.specs.declared.sights.Sight.{Sight}
use Rattle.asl_explore.specs.declared.states.Stated.{Stated}
use Rattle.asl_explore.specs.Remarks.{AreOneBelow, AreRuns, answers_from}
use Rattle.asl_explore.specs.Settled.{last_answer}

-- two branches were about to ask for an answer at once, and not all are equal from there on that
-- were asked for
abbrev pub IsUnlike : Case → List ℕ → Sight → Type 0
IsUnlike c name x =
    (n : ℕ) × ((x.shared_from ≡ Some n) × (AreOneBelow c name n x.most → ⊥))

-- the runs of the answers of which none was asked for
abbrev pub AreLeft : Case → List ℕ → ℕ → List Answers → Type 0
AreLeft c name most xs =
    (runs : List Run) × (AreRuns c name 0 (last_answer + 1) runs
    × (xs ≡ answers_from name most runs))

abbrev pub is_wanted : Stated → Sight → Bool → Bool
is_wanted t x complete = complete && (t.is_task && x.is_entered)

-- these are put behind those of other states, if they are wanted
abbrev pub ArePut : Case → Stated → Sight → Bool → List Answers → List Answers → Type 0
ArePut c t x complete before after =
    (xs : List Answers) × ((after ≡ before ++ xs)
    × (((is_wanted t x complete ≡ true) × AreLeft c t.name x.most xs)
    ⊎ ((is_wanted t x complete ≡ false) × (xs ≡ []))))
