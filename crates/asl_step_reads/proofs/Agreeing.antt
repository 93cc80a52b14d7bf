-- Texts, calls and templates that don't read what stands at a chain of keys give the same.
use Rattle.std.proofs.Common.{◌≡◌, ℕ, List, Bool, true, false, ◌&&◌, refl, ap, cond}
use Rattle.std.specs.Prelude.{◌∷◌, Result, Ok, Err}
use Rattle.std.proofs.lemmas.Bool.{or_parts}
use Rattle.asl_json_data.specs.Results.{◌>>=◌}
use Rattle.asl_json_data.specs.Data.{Data, null, boolean, number, text, list, dict, Chain, no_items, item, Pairs, no_members, member}
use Rattle.asl_path.specs.declared.step.Root.{Root}
use Rattle.asl_path.specs.declared.step.Step.{Step}
use Rattle.asl_path.specs.private.Steps.{steps}
use Rattle.asl_path.specs.Paths.{at_by}
use Rattle.asl_intrinsic_functions.specs.Names.{function_named}
use Rattle.asl_intrinsic_functions.specs.Outcome.{Outcome}
use Rattle.asl_intrinsic.specs.Tree.{Argument, constant, quoted, path, call, Arguments, none, argument}
use Rattle.asl_intrinsic.specs.Calls.{is_context, first_written, apply_named, found, value_of, values_of}
use Rattle.asl_intrinsic.specs.Values.{value_by, ev}
use Rattle.asl_intrinsic.specs.private.Steps.{heard}
use Rattle.asl_template.specs.Names.{name_before, name_of}
use Rattle.asl_template.specs.Filling as filling
use Rattle.asl_template.specs.Filling.{is_path, called, text_value, computed, chosen, fill, fill_items, fill_members}
use Rattle.asl_step_io.specs.Paths.{part_of}
use Rattle.asl_step_reads.specs.Reading.{Keys, AreEqualBut, leads, path_reads, argument_reads, some_argument_reads, tree_reads, call_reads, text_reads, reads, some_text_in, some_text_among}
use Rattle.asl_step_reads.proofs.Parts.{at_agrees}

-- ---- one text

-- a text names the same with two Context Objects, and gives the same as a call
pub record Agrees (a b : Data) (t : List ℕ) : Type 0 where
  pub names : (x : Data) → part_of t x a ≡ part_of t x b
  pub gives : (x : Data) → ev t x a ≡ ev t x b

pub path_agrees : (ks : Keys) (a b : Data) (t : List ℕ) → AreEqualBut ks a b → path_reads ks t ≡ false → (x : Data) → part_of t x a ≡ part_of t x b
unfolding path_reads
path_agrees ks a b t same unread x = by (is_context t) (steps t) unread
  where
    by : (c : Bool) (r : Result (Root × List Step) ℕ) → (c && leads ks r) ≡ false → at_by (cond c a x) r ≡ at_by (cond c b x) r
    by false r h = refl
    by true (Err left) h = refl
    by true (Ok p) h = at_agrees ks p.1 a b same h

mutual
  pub tree_agrees : (ks : Keys) (a b : Data) (t : Argument) → AreEqualBut ks a b → argument_reads ks t ≡ false → (x : Data) → value_of t x a ≡ value_of t x b
  tree_agrees ks a b (constant d) same unread x = refl
  tree_agrees ks a b (quoted t) same unread x = refl
  tree_agrees ks a b (path t) same unread x = ap found (path_agrees ks a b t same unread x)
  tree_agrees ks a b (call n ts) same unread x =
      ap (λ (o : Outcome (List Data)). (o >>= (apply_named (function_named n) (first_written ts)))) (trees_agree ks a b ts same unread x)

  trees_agree : (ks : Keys) (a b : Data) (ts : Arguments) → AreEqualBut ks a b → some_argument_reads ks ts ≡ false → (x : Data) → values_of ts x a ≡ values_of ts x b
  trees_agree ks a b none same unread x = refl
  trees_agree ks a b (argument t ts) same unread x =
      let (own, others) = or_parts (argument_reads ks t) (some_argument_reads ks ts) unread in
      let first = tree_agrees ks a b t same own x in
      let rest = trees_agree ks a b ts same others x in
      λ i. ((first i) >>= (λ d. ((rest i) >>= (λ ds. Ok (d ∷ ds)))))

heard_agrees : (ks : Keys) (a b : Data) (r : Result Argument ℕ) → AreEqualBut ks a b → tree_reads ks r ≡ false → (x : Data) → value_by r x a ≡ value_by r x b
heard_agrees ks a b (Ok t) same unread x = tree_agrees ks a b t same unread x
heard_agrees ks a b (Err left) same unread x = refl

pub call_agrees : (ks : Keys) (a b : Data) (t : List ℕ) → AreEqualBut ks a b → call_reads ks t ≡ false → (x : Data) → ev t x a ≡ ev t x b
unfolding call_reads
call_agrees ks a b t same unread x = heard_agrees ks a b (heard t) same unread x

-- ---- all texts of a value

abbrev mutual
  pub AllAgree : Data → Data → Data → Type 0
  AllAgree a b null = Unit {0}
  AllAgree a b (boolean c) = Unit {0}
  AllAgree a b (number n) = Unit {0}
  AllAgree a b (text t) = Agrees a b t
  AllAgree a b (list ds) = ItemsAgree a b ds
  AllAgree a b (dict ms) = MembersAgree a b ms

  pub ItemsAgree : Data → Data → Chain → Type 0
  ItemsAgree a b no_items = Unit {0}
  ItemsAgree a b (item d ds) = AllAgree a b d × ItemsAgree a b ds

  pub MembersAgree : Data → Data → Pairs → Type 0
  MembersAgree a b no_members = Unit {0}
  MembersAgree a b (member k d ms) = AllAgree a b d × MembersAgree a b ms

text_agrees : (ks : Keys) (a b : Data) (t : List ℕ) → AreEqualBut ks a b → text_reads ks t ≡ false → Agrees a b t
text_agrees ks a b t same unread =
    let (no_path, no_call) = or_parts (path_reads ks t) (call_reads ks t) unread in
    record { names = path_agrees ks a b t same no_path; gives = call_agrees ks a b t same no_call }

mutual
  pub unread_agrees : (ks : Keys) (a b : Data) (d : Data) → AreEqualBut ks a b → reads ks d ≡ false → AllAgree a b d
  unread_agrees ks a b null same unread = tt
  unread_agrees ks a b (boolean c) same unread = tt
  unread_agrees ks a b (number n) same unread = tt
  unread_agrees ks a b (text t) same unread = text_agrees ks a b t same unread
  unread_agrees ks a b (list ds) same unread = unread_items ks a b ds same unread
  unread_agrees ks a b (dict ms) same unread = unread_members ks a b ms same unread

  unread_items : (ks : Keys) (a b : Data) (ds : Chain) → AreEqualBut ks a b → some_text_in (text_reads ks) ds ≡ false → ItemsAgree a b ds
  unread_items ks a b no_items same unread = tt
  unread_items ks a b (item d ds) same unread =
      let (own, others) = or_parts (reads ks d) (some_text_in (text_reads ks) ds) unread in
      (unread_agrees ks a b d same own, unread_items ks a b ds same others)

  unread_members : (ks : Keys) (a b : Data) (ms : Pairs) → AreEqualBut ks a b → some_text_among (text_reads ks) ms ≡ false → MembersAgree a b ms
  unread_members ks a b no_members same unread = tt
  unread_members ks a b (member k d ms) same unread =
      let (own, others) = or_parts (reads ks d) (some_text_among (text_reads ks) ms) unread in
      (unread_agrees ks a b d same own, unread_members ks a b ms same others)

-- with one Context Object all do
mutual
  pub all_agree : (a : Data) (d : Data) → AllAgree a a d
  all_agree a null = tt
  all_agree a (boolean c) = tt
  all_agree a (number n) = tt
  all_agree a (text t) = record { names = λ x. refl; gives = λ x. refl }
  all_agree a (list ds) = items_agree a ds
  all_agree a (dict ms) = members_agree a ms

  items_agree : (a : Data) (ds : Chain) → ItemsAgree a a ds
  items_agree a no_items = tt
  items_agree a (item d ds) = (all_agree a d, items_agree a ds)

  members_agree : (a : Data) (ms : Pairs) → MembersAgree a a ms
  members_agree a no_members = tt
  members_agree a (member k d ms) = (all_agree a d, members_agree a ms)

-- ---- templates

computed_agrees : (a b : Data) (k : List ℕ) (d x : Data) → AllAgree a b d → computed k d x a ≡ computed k d x b
computed_agrees a b k null x h = refl
computed_agrees a b k (boolean c) x h = refl
computed_agrees a b k (number n) x h = refl
computed_agrees a b k (text t) x h = λ i. cond (is_path t) (filling.found k (h.names x i)) (called k (h.gives x i))
computed_agrees a b k (list ds) x h = refl
computed_agrees a b k (dict ms) x h = refl

mutual
  pub fill_agrees : (a b : Data) (d x : Data) → AllAgree a b d → fill d x a ≡ fill d x b
  fill_agrees a b null x h = refl
  fill_agrees a b (boolean c) x h = refl
  fill_agrees a b (number n) x h = refl
  fill_agrees a b (text t) x h = refl
  fill_agrees a b (list ds) x h = ap (λ (o : filling.Outcome Chain). (o >>= (λ es. Ok (list es)))) (fill_items_agree a b ds x h)
  fill_agrees a b (dict ms) x h = ap (λ (o : filling.Outcome Pairs). (o >>= (λ ns. Ok (dict ns)))) (fill_members_agree a b ms x h)

  fill_items_agree : (a b : Data) (ds : Chain) (x : Data) → ItemsAgree a b ds → fill_items ds x a ≡ fill_items ds x b
  fill_items_agree a b no_items x h = refl
  fill_items_agree a b (item d ds) x h =
      let first = fill_agrees a b d x h.0 in
      let rest = fill_items_agree a b ds x h.1 in
      λ i. ((first i) >>= (λ e. ((rest i) >>= (λ es. Ok (item e es)))))

  fill_members_agree : (a b : Data) (ms : Pairs) (x : Data) → MembersAgree a b ms → fill_members ms x a ≡ fill_members ms x b
  fill_members_agree a b no_members x h = refl
  fill_members_agree a b (member k d ms) x h =
      let own = computed_agrees a b k d x h.0 in
      let first = fill_agrees a b d x h.0 in
      let rest = fill_members_agree a b ms x h.1 in
      λ i. ((chosen (name_before k) (own i) (first i)) >>= (λ e. ((rest i) >>= (λ ns. Ok (member (name_of k) e ns)))))

pub template_agrees : (ks : Keys) (a b : Data) (t : Data) → AreEqualBut ks a b → reads ks t ≡ false → (x : Data) → fill t x a ≡ fill t x b
template_agrees ks a b t same unread x = fill_agrees a b t x (unread_agrees ks a b t same unread)
