-- Words that begin with the name of a command, and what its row reads of them.
use Rattle.std.proofs.Common.{◌≡◌, ◌∙◌, ◌<◌, ◌+◌, ◌⊎◌, inl, inr, ℕ, Bool, true, false, List, [], ◌∷◌, cond, map, ap, sym, subst, arith, ◌-◌, length, get_or, drop, take}
use Rattle.std.proofs.lemmas.List.{at_drop_more, take_all}
use Rattle.std.specs.Prelude.{Result, Option, Some, None, IfOk, IfErr, find}
use Rattle.std.specs.List.{list_all}
use Rattle.std.specs.Str.{bytes_eq}
use Rattle.clap.proofs.WalkLemmas.{both}
use Rattle.std.proofs.lemmas.Result.{IfErr-weaker, IfOk-weaker}
use Rattle.asl_arguments.specs.Grammar.{Command, command_seen}
use Rattle.asl_command_line.specs.Read.{command_named, DoesNotRead, IsRead, IsReadBehind, IsReadBy, IsUnread, IsUnreadBehind}
use Rattle.asl_command_line.specs.declared.answers.Answer.{Answer}
use Rattle.asl_command_line.specs.declared.answers.Answer.TheVariants as answer
use Rattle.asl_arguments.specs.declared.arguments.CommandRow.{CommandRow}
use Rattle.asl_words.specs.declared.screen.Screen.{Screen}
use Rattle.asl_command_line.specs.declared.reading.Line.{Line}

abbrev Texts : Type 0
Texts = List (List ℕ)

-- a list that has an element begins with its first one
pub headed : {X : Type 0} (f : X → List ℕ) (xs : List X) (x : X) → 0 < length xs → x ≡ get_or xs 0 x → map f xs ≡ f x ∷ map f (drop 1 xs)
headed f [] x has is = absurd (omega arith)
headed f (y ∷ ys) x has is = ap (λ z. f z ∷ map f ys) (sym is)

-- and the rest of it is what a pattern of a slice gives
pub behind_first : {X : Type 0} (f : X → List ℕ) (xs : List X) → 0 < length xs → (n : List ℕ) × (map f xs ≡ n ∷ map f (take (length xs - 1) (drop 1 xs)))
behind_first f [] has = absurd (omega arith)
behind_first f (y ∷ ys) has = (f y, ap (λ rest. f y ∷ map f rest) (sym (take_all (length (y ∷ ys) - 1) ys (omega arith))))

module _ (name : List ℕ) (rows : List CommandRow) (i : ℕ) (d : CommandRow) (within : i < length rows) where
  chosen : Bool → Option Command
  chosen b = cond b (Some (command_seen (get_or rows i d))) (find (λ c. bytes_eq c.name name) (map command_seen (drop (i + 1) rows)))

  find_on : find (λ c. bytes_eq c.name name) (map command_seen (drop i rows)) ≡ chosen (bytes_eq (get_or rows i d).name.now name)
  unfolding chosen
  find_on = at_drop_more (λ rs. find (λ c. bytes_eq c.name name) (map command_seen rs)) rows i d within

  -- a row of another name is passed by
  pub passed : false ≡ bytes_eq (get_or rows i d).name.now name → find (λ c. bytes_eq c.name name) (map command_seen (drop i rows)) ≡ command_named name
      → find (λ c. bytes_eq c.name name) (map command_seen (drop (i + 1) rows)) ≡ command_named name
  unfolding chosen
  passed other before = ap chosen other ∙ sym find_on ∙ before

  pub met : true ≡ bytes_eq (get_or rows i d).name.now name → find (λ c. bytes_eq c.name name) (map command_seen (drop i rows)) ≡ command_named name
      → Some (command_seen (get_or rows i d)) ≡ command_named name
  unfolding chosen
  met this before = ap chosen this ∙ sym find_on ∙ before

module _ (p : CommandRow → Bool) (rows : List CommandRow) (i : ℕ) (within : i < length rows) (all : list_all p (drop i rows) ≡ true) where
  halves : (d : CommandRow) → (p (get_or rows i d) ≡ true) × (list_all p (drop (i + 1) rows) ≡ true)
  halves d = both (p (get_or rows i d)) (list_all p (drop (i + 1) rows)) (sym (at_drop_more (list_all p) rows i d within) ∙ all)

  pub plain_here : (d : CommandRow) → p (get_or rows i d) ≡ true
  plain_here d = (halves d).0

-- and so do those behind a row
pub plain_on : (p : CommandRow → Bool) (rows : List CommandRow) (i : ℕ) → i < length rows → list_all p (drop i rows) ≡ true → list_all p (drop (i + 1) rows) ≡ true
plain_on p [] i within all = absurd (omega arith)
plain_on p (r ∷ rows) i within all = (halves p (r ∷ rows) i within all r).1

module _ (ts : Texts) (n : List ℕ) (more : Texts) (s : Screen) (whole : ts ≡ n ∷ more) where
  pub read_on : (c : CommandRow) (r : Result Line Answer) → Some (command_seen c) ≡ command_named n → IfOk r (IsReadBy c ts s) → IfOk r (IsReadBehind ts s)
  read_on c r named by = IfOk-weaker r _ _ (λ w h. subst (λ us. IsReadBehind us s w) (sym whole) (c, sym named, subst (λ us. IsReadBy c us s w) whole h)) by

  pub unread_on : (c : CommandRow) (r : Result Line Answer) → Some (command_seen c) ≡ command_named n
      → IfErr r (λ a. (a ≡ answer.OutOfMemory) ⊎ DoesNotRead c ts s) → IfErr r (λ a. (a ≡ answer.OutOfMemory) ⊎ IsUnreadBehind ts s)
  unread_on c r named by = IfErr-weaker r _ _ (λ a h. elim h [
    | inl memory ↦ inl memory
    | inr not ↦ inr (subst (λ us. IsUnreadBehind us s) (sym whole) (inr (c, sym named, subst (λ us. DoesNotRead c us s) whole not)))
  ]) by

  pub unnamed : None ≡ command_named n → IsUnreadBehind ts s
  unnamed none = subst (λ us. IsUnreadBehind us s) (sym whole) (inl (sym none))

  pub read_top : (r : Result Line Answer) → IfOk r (IsReadBehind more s) → IfOk r (IsRead ts s)
  read_top r by = IfOk-weaker r _ _ (λ w h. subst (λ us. IsRead us s w) (sym whole) h) by

  pub unread_top : (r : Result Line Answer) → IfErr r (λ a. (a ≡ answer.OutOfMemory) ⊎ IsUnreadBehind more s) → IfErr r (λ a. (a ≡ answer.OutOfMemory) ⊎ IsUnread ts s)
  unread_top r by = IfErr-weaker r _ _ (λ a h. elim h [
    | inl memory ↦ inl memory
    | inr not ↦ inr (subst (λ us. IsUnread us s) (sym whole) not)
  ]) by
