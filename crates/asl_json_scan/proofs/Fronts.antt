-- Fronts of a list that grow by an index.
use Rattle.std.proofs.Common.{◌≡◌, ℕ, zero, suc, ◌+◌, ◌≤◌, ◌<◌, true, false, ◌==◌, List, [], ◌∷◌, ◌++◌, length, get_or, take, drop, sym, ap, subst, ◌∙◌, add-one, arith, inl, inr}
use Rattle.std.proofs.lemmas.List.{take-append-drop, length-append}
use Rattle.std.proofs.Math.Seq.{take-add, take-length, drop-length}
use Rattle.std.proofs.lemmas.Bool.{cases_lt}
use Rattle.std.proofs.lemmas.Str.{IsUtf8-nil, IsUtf8-take, IsUtf8-drop, IsCharBoundary-from_take, IsCharBoundary-before_ascii, IsCharBoundary-after_ascii}
use Rattle.std.specs.Str.{IsUtf8}
use Rattle.asl_json_data.specs.Grammar.{is_space, AreSpaces}
use Rattle.asl_json_data.specs.Text.{quote, is_plain, ArePlain}
use Rattle.asl_json_scan.specs.private.Leads.{NoSpaceFirst, FirstIsNot, NoPlainFirst, Skips}

pub spaces_more : (xs : List ℕ) (i : ℕ) → i < length xs → AreSpaces (take i xs) → is_space (get_or xs i 0) ≡ true → AreSpaces (take (i + 1) xs)
spaces_more [] i lt h e = absurd (omega arith)
spaces_more (x ∷ xs) zero lt h e = (e, tt)
spaces_more (x ∷ xs) (suc i) lt h e = let more = spaces_more xs i (omega arith) h.1 e in rw add-one (h.0, rw add-one at more)

pub plain_more : (xs : List ℕ) (i : ℕ) → i < length xs → ArePlain (take i xs) → is_plain (get_or xs i 0) ≡ true → ArePlain (take (i + 1) xs)
plain_more [] i lt h e = absurd (omega arith)
plain_more (x ∷ xs) zero lt h e = (e, tt)
plain_more (x ∷ xs) (suc i) lt h e = let more = plain_more xs i (omega arith) h.1 e in rw add-one (h.0, rw add-one at more)

plain_append : (u v : List ℕ) → ArePlain u → ArePlain v → ArePlain (u ++ v)
plain_append [] v h g = g
plain_append (c ∷ u) v h g = (h.0, plain_append u v h.1 g)

pub plain_block : (xs : List ℕ) (i n : ℕ) → ArePlain (take i xs) → ArePlain (take n (drop i xs)) → ArePlain (take (i + n) xs)
plain_block xs i n h g = rw (take-add i n xs) (plain_append (take i xs) (take n (drop i xs)) h g)

no_space_at : (xs : List ℕ) (i : ℕ) → (i < length xs → is_space (get_or xs i 0) ≡ false) → NoSpaceFirst (drop i xs)
no_space_at [] zero h = tt
no_space_at [] (suc i) h = tt
no_space_at (x ∷ xs) zero h = h (omega arith)
no_space_at (x ∷ xs) (suc i) h = no_space_at xs i (λ lt. h (omega arith))

drop_at_byte : (xs : List ℕ) (i c : ℕ) → i < length xs → get_or xs i 0 ≡ c → drop i xs ≡ c ∷ drop (suc i) xs
drop_at_byte [] i c lt e = absurd (omega arith)
drop_at_byte (x ∷ xs) zero c lt e = ap (λ (y : ℕ). y ∷ xs) e
drop_at_byte (x ∷ xs) (suc i) c lt e = drop_at_byte xs i c (omega arith) e

pub skips_at : (xs : List ℕ) (i : ℕ) → AreSpaces (take i xs) → (i < length xs → is_space (get_or xs i 0) ≡ false) → Skips xs (drop i xs)
skips_at xs i h e = record { spaces = take i xs; parts = sym (take-append-drop i xs); spaces_are = h; stops = no_space_at xs i e }

pub utf8_before : (xs : List ℕ) (i : ℕ) → IsUtf8 xs → i < length xs → get_or xs i 0 ≡ quote → IsUtf8 (take i xs)
utf8_before xs i u lt e = IsUtf8-take xs i u (IsCharBoundary-before_ascii xs i lt (omega arith))

pub utf8_behind : (xs : List ℕ) (i : ℕ) → IsUtf8 xs → i < length xs → get_or xs i 0 < 128 → IsUtf8 (drop (i + 1) xs)
utf8_behind xs i u lt e = IsUtf8-drop xs (i + 1) u (IsCharBoundary-after_ascii xs i u lt e)

-- ASCII bytes come before
pub utf8_after : (c : ℕ) (xs : List ℕ) → c < 128 → IsUtf8 (c ∷ xs) → IsUtf8 xs
utf8_after c xs lt u = utf8_behind (c ∷ xs) 0 u (omega arith) lt

space_ascii : (c : ℕ) → is_space c ≡ true → c < 128
unfolding is_space
space_ascii c e = grind (arith, e)

pub utf8_spaces : (ws xs : List ℕ) → AreSpaces ws → IsUtf8 (ws ++ xs) → IsUtf8 xs
utf8_spaces [] xs h u = u
utf8_spaces (w ∷ ws) xs h u = utf8_spaces ws xs h.1 (utf8_after w (ws ++ xs) (space_ascii w h.0) u)

pub utf8_skips : (bytes rest : List ℕ) → Skips bytes rest → IsUtf8 bytes → IsUtf8 rest
utf8_skips bytes rest h u = utf8_spaces h.spaces rest h.spaces_are (subst IsUtf8 h.parts u)

pub after_at : (xs : List ℕ) (c : ℕ) → 0 < length xs → get_or xs 0 0 ≡ c → xs ≡ c ∷ drop 1 xs
after_at xs c lt e = drop_at_byte xs 0 c lt e

pub utf8_rest : (xs : List ℕ) → 0 < length xs → get_or xs 0 0 < 128 → IsUtf8 xs → IsUtf8 (drop 1 xs)
utf8_rest xs lt e u = utf8_behind xs 0 u lt e

pub first_not : (xs : List ℕ) (c : ℕ) → (0 < length xs → (get_or xs 0 0 == c) ≡ false) → FirstIsNot c xs
first_not [] c h = tt
first_not (x ∷ xs) c h = h (omega arith)

pub skips_shorter : (bytes rest : List ℕ) → Skips bytes rest → length rest ≤ length bytes
skips_shorter bytes rest h = omega (arith, ap length h.parts, length-append h.spaces rest)

pub utf8_past : (xs ws : List ℕ) (i : ℕ) → IsUtf8 xs → IsUtf8 ws → i ≤ length xs → take i xs ≡ ws → IsUtf8 (drop i xs)
utf8_past xs ws i u w le e = IsUtf8-drop xs i u (IsCharBoundary-from_take xs i u le (subst IsUtf8 (sym e) w))

-- all of a word has been seen
pub all_seen : (xs ws : List ℕ) (i : ℕ) → i ≤ length ws → length ws ≤ i → take i xs ≡ take i ws → (i ≡ length ws) × (take (length ws) xs ≡ ws)
all_seen xs ws i le ge e =
    let same : i ≡ length ws = omega arith in
    (same, subst (λ (n : ℕ). take n xs ≡ take n ws) same e ∙ take-length ws)

-- ---- where plain bytes end

pub no_plain_at : (xs : List ℕ) (i : ℕ) → (i < length xs → is_plain (get_or xs i 0) ≡ false) → NoPlainFirst (drop i xs)
no_plain_at [] zero h = tt
no_plain_at [] (suc i) h = tt
no_plain_at (x ∷ xs) zero h = h (omega arith)
no_plain_at (x ∷ xs) (suc i) h = no_plain_at xs i (λ lt. h (omega arith))

pub not_plain_ascii : (c : ℕ) → is_plain c ≡ false → c < 128
unfolding is_plain
not_plain_ascii c e = grind (arith, e)

pub plain_boundary : (xs : List ℕ) (i : ℕ) → IsUtf8 xs → i ≤ length xs → (i < length xs → is_plain (get_or xs i 0) ≡ false) → IsUtf8 (take i xs) × IsUtf8 (drop i xs)
plain_boundary xs i u le h = elim (cases_lt i (length xs)) [
  | inl lt ↦ let b = IsCharBoundary-before_ascii xs i lt (not_plain_ascii (get_or xs i 0) (h lt)) in (IsUtf8-take xs i u b, IsUtf8-drop xs i u b)
  | inr ge ↦
      let all : i ≡ length xs = omega arith in
      (subst (λ (n : ℕ). IsUtf8 (take n xs)) (sym all) (subst IsUtf8 (sym (take-length xs)) u), subst (λ (n : ℕ). IsUtf8 (drop n xs)) (sym all) (subst IsUtf8 (sym (drop-length xs)) IsUtf8-nil))
]
