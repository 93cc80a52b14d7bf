-- What is read of branches hangs on none of their moments.
use Rattle.std.proofs.Common.{ℕ, ◌≡◌, ◌+◌, ◌&&◌, ◌||◌, ◌∙◌, Bool, true, false, not, List, [], ◌∷◌, refl, sym, ap, cond, map, option_map, Option, Some, None}
use Rattle.std.specs.Option.{option_or}
use Rattle.std.specs.List.{filter, list_any, list_all}
use Rattle.asl_history.specs.Places.{is_child, is_beside}
use Rattle.asl_step.specs.declared.record.Record.{Record}
use Rattle.asl_step.specs.declared.record.Record.TheVariants.{New, Ready, Pausing, Again, Forked, Done, Failed}
use Rattle.asl_step.specs.Records.{state_in, is_failed, is_done}
use Rattle.asl_step_reads.specs.Steps.{timeless_record}
use Rattle.asl_run_branches.specs.Branches.{Branch, same_place, first_of, record_at, children_at, map_of, forker_at, is_stopped, beyond, iteration_in, iteration_at, is_elder, elders_at, undone_in, is_busy}
use Rattle.asl_exec_moment_laws.specs.Moments.{timeless_branch}

-- ---- of one record

pub state-stays : (r : Record) → state_in (timeless_record r) ≡ state_in r
state-stays (New n x) = refl
state-stays (Ready n x) = refl
state-stays (Pausing n x since until) = refl
state-stays (Again n x since uses until) = refl
state-stays (Forked n x since uses items) = refl
state-stays (Done x) = refl
state-stays (Failed e) = refl

failed-stays : (r : Record) → is_failed (timeless_record r) ≡ is_failed r
failed-stays (New n x) = refl
failed-stays (Ready n x) = refl
failed-stays (Pausing n x since until) = refl
failed-stays (Again n x since uses until) = refl
failed-stays (Forked n x since uses items) = refl
failed-stays (Done x) = refl
failed-stays (Failed e) = refl

done-stays : (r : Record) → is_done (timeless_record r) ≡ is_done r
done-stays (New n x) = refl
done-stays (Ready n x) = refl
done-stays (Pausing n x since until) = refl
done-stays (Again n x since uses until) = refl
done-stays (Forked n x since uses items) = refl
done-stays (Done x) = refl
done-stays (Failed e) = refl

map-stays : (o : Option Record) → map_of (option_map timeless_record o) ≡ map_of o
map-stays None = refl
map-stays (Some (New n x)) = refl
map-stays (Some (Ready n x)) = refl
map-stays (Some (Pausing n x since until)) = refl
map-stays (Some (Again n x since uses until)) = refl
map-stays (Some (Forked n x since uses [])) = refl
map-stays (Some (Forked n x since uses (i ∷ items))) = refl
map-stays (Some (Done x)) = refl
map-stays (Some (Failed e)) = refl

item-stays : (r : Record) (o : Option (List ℕ)) → iteration_in (timeless_record r) o ≡ iteration_in r o
item-stays (New n x) o = refl
item-stays (Ready n x) o = refl
item-stays (Pausing n x since until) o = refl
item-stays (Again n x since uses until) o = refl
item-stays (Forked n x since uses items) None = refl
item-stays (Forked n x since uses items) (Some []) = refl
item-stays (Forked n x since uses items) (Some (i ∷ deeper)) = refl
item-stays (Done x) o = refl
item-stays (Failed e) o = refl

-- ---- of several

any-stays : (rs : List Record) → list_any is_failed (map timeless_record rs) ≡ list_any is_failed rs
any-stays [] = refl
any-stays (r ∷ rs) = λ i. failed-stays r i || any-stays rs i

all-stay : (rs : List Record) → list_all is_done (map timeless_record rs) ≡ list_all is_done rs
all-stay [] = refl
all-stay (r ∷ rs) = λ i. done-stays r i && all-stay rs i

busy-stays : (rs : List Record) → is_busy (map timeless_record rs) ≡ is_busy rs
busy-stays rs = λ i. not (any-stays rs i) && not (all-stay rs i)

undone-stays : (rs : List Record) → undone_in (map timeless_record rs) ≡ undone_in rs
undone-stays [] = refl
undone-stays (r ∷ rs) = λ i. cond (done-stays r i) 0 1 + undone-stays rs i

-- ---- of branches whose places pass a test

first-stays : (T : List ℕ → Bool) (bs : List Branch) → first_of (filter (λ (b : Branch). T b.place) (map timeless_branch bs)) ≡ option_map timeless_record (first_of (filter (λ (b : Branch). T b.place) bs))
first-stays T [] = refl
first-stays T (b ∷ bs) = by (T b.place) (first-stays T bs)
  where
    by : (c : Bool) → first_of (filter (λ (b : Branch). T b.place) (map timeless_branch bs)) ≡ option_map timeless_record (first_of (filter (λ (b : Branch). T b.place) bs)) → first_of (cond c (timeless_branch b ∷ filter (λ (b : Branch). T b.place) (map timeless_branch bs)) (filter (λ (b : Branch). T b.place) (map timeless_branch bs))) ≡ option_map timeless_record (first_of (cond c (b ∷ filter (λ (b : Branch). T b.place) bs) (filter (λ (b : Branch). T b.place) bs)))
    by true more = refl
    by false more = more

kept-stay : (T : List ℕ → Bool) (bs : List Branch) → map (λ (b : Branch). b.current) (filter (λ (b : Branch). T b.place) (map timeless_branch bs)) ≡ map timeless_record (map (λ (b : Branch). b.current) (filter (λ (b : Branch). T b.place) bs))
kept-stay T [] = refl
kept-stay T (b ∷ bs) = by (T b.place) (kept-stay T bs)
  where
    by : (c : Bool) → map (λ (b : Branch). b.current) (filter (λ (b : Branch). T b.place) (map timeless_branch bs)) ≡ map timeless_record (map (λ (b : Branch). b.current) (filter (λ (b : Branch). T b.place) bs)) → map (λ (b : Branch). b.current) (cond c (timeless_branch b ∷ filter (λ (b : Branch). T b.place) (map timeless_branch bs)) (filter (λ (b : Branch). T b.place) (map timeless_branch bs))) ≡ map timeless_record (map (λ (b : Branch). b.current) (cond c (b ∷ filter (λ (b : Branch). T b.place) bs) (filter (λ (b : Branch). T b.place) bs)))
    by true more = ap (λ (rs : List Record). timeless_record b.current ∷ rs) more
    by false more = more

stopped-stays : (p : List ℕ) (bs : List Branch) → is_stopped p (map timeless_branch bs) ≡ is_stopped p bs
stopped-stays p [] = refl
stopped-stays p (b ∷ bs) = λ i. (failed-stays b.current i && is_beside p b.place) || stopped-stays p bs i

iteration-stays : (p : List ℕ) (bs : List Branch) → iteration_at p (map timeless_branch bs) ≡ iteration_at p bs
iteration-stays p [] = refl
iteration-stays p (b ∷ bs) = λ i. option_or (iteration-stays p bs i) (item-stays b.current (beyond b.place p) i)

forker-stays : (p : List ℕ) (bs : List Branch) → forker_at p (map timeless_branch bs) ≡ forker_at p bs
forker-stays p bs = ap map_of (first-stays (λ q. is_child q p) bs) ∙ map-stays (first_of (filter (λ (b : Branch). is_child b.place p) bs))

-- ---- of two lists of branches

module _ (p : List ℕ) (bs cs : List Branch) (same : map timeless_branch bs ≡ map timeless_branch cs) where
  pub record-same : option_map timeless_record (record_at p bs) ≡ option_map timeless_record (record_at p cs)
  record-same = sym (first-stays (same_place p) bs) ∙ ap (record_at p) same ∙ first-stays (same_place p) cs

  pub children-same : map timeless_record (children_at p bs) ≡ map timeless_record (children_at p cs)
  children-same = sym (kept-stay (is_child p) bs) ∙ ap (children_at p) same ∙ kept-stay (is_child p) cs

  elders-same : map timeless_record (elders_at p bs) ≡ map timeless_record (elders_at p cs)
  elders-same = sym (kept-stay (is_elder p) bs) ∙ ap (elders_at p) same ∙ kept-stay (is_elder p) cs

  pub busy-same : is_busy (children_at p bs) ≡ is_busy (children_at p cs)
  busy-same = sym (busy-stays (children_at p bs)) ∙ ap is_busy children-same ∙ busy-stays (children_at p cs)

  pub undone-same : undone_in (elders_at p bs) ≡ undone_in (elders_at p cs)
  undone-same = sym (undone-stays (elders_at p bs)) ∙ ap undone_in elders-same ∙ undone-stays (elders_at p cs)

  pub stopped-same : is_stopped p bs ≡ is_stopped p cs
  stopped-same = sym (stopped-stays p bs) ∙ ap (is_stopped p) same ∙ stopped-stays p cs

  pub iteration-same : iteration_at p bs ≡ iteration_at p cs
  iteration-same = sym (iteration-stays p bs) ∙ ap (iteration_at p) same ∙ iteration-stays p cs

  pub forker-same : forker_at p bs ≡ forker_at p cs
  forker-same = sym (forker-stays p bs) ∙ ap (forker_at p) same ∙ forker-stays p cs
