-- Texts that are made of parts: one after another, with spaces round them, with commas between.
use Rattle.std.specs.Prelude.{◌≡◌, ℕ, List, [], ◌∷◌, ◌++◌}

abbrev pub comma : ℕ
comma = 44

-- first what A says, then what B says
pub record Joined (A B : List ℕ → Type 0) (t : List ℕ) : Type 0 where
  pub front : List ℕ
  pub back : List ℕ
  pub parts : t ≡ front ++ back
  pub front_is : A front
  pub back_is : B back

-- one byte, and then what A says
pub record Behind (c : ℕ) (A : List ℕ → Type 0) (t : List ℕ) : Type 0 where
  pub tail : List ℕ
  pub parts : t ≡ c ∷ tail
  pub tail_is : A tail

-- S, and spaces round it or none
pub record Spaced (AreSpaces S : List ℕ → Type 0) (t : List ℕ) : Type 0 where
  pub before : List ℕ
  pub inner : List ℕ
  pub behind : List ℕ
  pub parts : t ≡ before ++ (inner ++ behind)
  pub before_is : AreSpaces before
  pub inner_is : S inner
  pub behind_is : AreSpaces behind

-- parts with a comma before each, and the byte that closes them
abbrev pub MoreParts : ℕ → List (List ℕ → Type 0) → List ℕ → Type 0
MoreParts close [] t = t ≡ close ∷ []
MoreParts close (P ∷ Ps) t = Behind comma (Joined P (MoreParts close Ps)) t

-- parts with commas between them, or spaces where there are none, and the byte that closes them
abbrev pub Parts : (List ℕ → Type 0) → ℕ → List (List ℕ → Type 0) → List ℕ → Type 0
Parts AreSpaces close [] t = Joined AreSpaces (λ e. e ≡ close ∷ []) t
Parts AreSpaces close (P ∷ Ps) t = Joined P (MoreParts close Ps) t

-- what P says of each of these, each with a comma behind it
abbrev pub FrontParts : {X : Type 0} → (X → List ℕ → Type 0) → List X → List ℕ → Type 0
FrontParts P [] t = t ≡ []
FrontParts P (x ∷ xs) t = Joined (P x) (Behind comma (FrontParts P xs)) t
