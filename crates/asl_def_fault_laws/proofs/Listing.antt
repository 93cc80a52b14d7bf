-- The faults of members, by the table of members.
use Rattle.std.proofs.Common.{◌≡◌, ◌⊎◌, ◌+◌, Bool, true, false, List, [], ◌∷◌, ◌++◌, inl, inr, refl, sym, ap, subst, ◌∙◌}
use Rattle.std.specs.Prelude.{Option, Some, codes}
use Rattle.asl_json_data.specs.Data.{Data, dict, Pairs}
use Rattle.asl_json.specs.Meaning.{value_at, count}
use Rattle.asl_def_schema.specs.declared.fault.FaultKind.{FaultKind}
use Rattle.asl_def_schema.specs.declared.fault.FaultKind.TheVariants as kind
use Rattle.asl_def_schema.specs.declared.fault.Step.{Step}
use Rattle.asl_def_schema.specs.declared.sort.Sort.TheVariants as sort
use Rattle.asl_def_schema.specs.declared.sort.Kind.{Kind}
use Rattle.asl_def_schema.specs.Members.{shape_in, sort_at, kind_named}
use Rattle.asl_def_schema.specs.Claims.{outside, demands, step, group_demands}
use Rattle.asl_def_fault_laws.specs.Parts.{Part, part, whole, part_at}
use Rattle.asl_def_fault_laws.specs.Faults.{One, HasFault}
use Rattle.asl_def_fault_laws.specs.Values.{IsOther}
use Rattle.asl_def_fault_laws.specs.Listed.{IsMissing, IsOfTable, IsUnlisted, IsUnsupported, of_a_member, of_a_text, HasNone, IsUndecided}
use Rattle.asl_def_fault_laws.proofs.Ones.{Breaks, here_in, head_or}
use Rattle.asl_def_fault_laws.proofs.Reaching.{spot_at, find_member, group_in, row_in, Leaves, root_out, object_in, IsReached, IsLacked, reach_out}
use Rattle.asl_def_fault_laws.proofs.Around.{then_step}
use Rattle.asl_def_fault_laws.proofs.Breaking.{wrong_out}
use Rattle.asl_def_fault_laws.proofs.Standing.{claimed, IsWrong, stands_out, fault_in, root_fault_in, stands_in, part_is, IsHeld, held_member}
use Rattle.asl_def_fault_laws.proofs.Tables.{is_unknown, is_unsupported, no_list_of_unknown, no_list_of_unsupported, unknown_out, unsupported_out, unknown_in, unsupported_in, by_row, by_others, by_groups}

-- the type that an object names
abbrev kind_in : Pairs → Option Kind
kind_in ms = kind_named (value_at (codes "Type") ms)

-- ---- F4 and F5

abbrev free_member : (d : Data) (place : List Step) (to : Part) (m : IsHeld d place to) → (shape_in m.member.outer_sort m.member.members).others ≡ sort.Unknown → IsOfTable d place
free_member d place to m closed =
    record {
      outer = m.outer;
      own = m.own;
      place_is = m.place_is;
      outer_sort = m.member.outer_sort;
      members = m.member.members;
      object = m.member.object;
      closed = closed;
      value = m.member.value;
      there = m.member.there;
    }

pub unlisted_out : (d : Data) (place : List Step) → HasFault d kind.UnknownField place → IsUnlisted d place
unlisted_out d place h =
    let r = stands_out kind.UnknownField d place refl refl h in
    let m = held_member is_unknown refl no_list_of_unknown d place r.to r.leads (ap is_unknown r.wrong) in
    let sorted = ap (λ (x : Part). is_unknown x.sort) (sym m.member.is) ∙ ap is_unknown r.wrong in
    let f = unknown_out m.member.outer_sort (kind_in m.member.members) m.own.name sorted in
    record { member = free_member d place r.to m f.closed; in_no_row = f.in_no_row; in_no_list = f.named }

-- what stands there
member_in : (d : Data) (place : List Step) (m : IsOfTable d place) → part_at (whole d) place ≡ Some (part (sort_at (shape_in m.outer_sort m.members) m.own.name) m.value)
member_in d place m =
    let to = part (sort_at (shape_in m.outer_sort m.members) m.own.name) m.value in
    let from = part m.outer_sort (dict m.members) in
    let led = then_step m.outer m.own (whole d) from to m.object (find_member m.outer_sort m.members m.own m.value (by_others m.outer_sort (kind_in m.members) m.closed) m.there) in
    subst (λ (us : List Step). part_at (whole d) us ≡ Some to) (sym m.place_is) led

pub unlisted_in : (d : Data) (place : List Step) → IsUnlisted d place → HasFault d kind.UnknownField place
unlisted_in d place h =
    let m = h.member in
    let sh = shape_in m.outer_sort m.members in
    let is : sort_at sh m.own.name ≡ sort.Unknown = unknown_in sh m.own.name (record { closed = m.closed; in_no_row = h.in_no_row; named = h.in_no_list }) in
    stands_in kind.UnknownField d place (part (sort_at sh m.own.name) m.value) (member_in d place m) is

pub unsupported_told : (d : Data) (place : List Step) → HasFault d kind.Unsupported place → IsUnsupported d place
unsupported_told d place h = by (stands_out kind.Unsupported d place refl refl h)
  where
    told : (to : Part) → part_at (whole d) place ≡ Some to → (to.sort ≡ sort.Unsupported) ⊎ IsOther to.sort to.value → IsUnsupported d place
    told to e (inl s) =
        let m = held_member is_unsupported refl no_list_of_unsupported d place to e (ap is_unsupported s) in
        let sorted = ap (λ (x : Part). is_unsupported x.sort) (sym m.member.is) ∙ ap is_unsupported s in
        let f = unsupported_out m.member.outer_sort (kind_in m.member.members) m.own.name sorted in
        of_a_member (free_member d place to m f.closed) f.named
    told to e (inr s) = of_a_text (record { found = to; stands = e; so = s })

    by : IsWrong kind.Unsupported d place → IsUnsupported d place
    by r = told r.to r.leads r.wrong

pub unsupported_meant : (d : Data) (place : List Step) → IsUnsupported d place → HasFault d kind.Unsupported place
unsupported_meant d place (of_a_member m named) =
    let sh = shape_in m.outer_sort m.members in
    let is : sort_at sh m.own.name ≡ sort.Unsupported = unsupported_in m.outer_sort (kind_in m.members) m.own.name m.closed named in
    stands_in kind.Unsupported d place (part (sort_at sh m.own.name) m.value) (member_in d place m) (inl is)
unsupported_meant d place (of_a_text v) = stands_in kind.Unsupported d place v.found v.stands (inr v.so)

-- ---- F3

missing_from : (d : Data) (place : List Step) → IsLacked kind.Missing place (whole d) → IsMissing d place
missing_from d place r =
    let l = r.lacks in
    let q = l.row in
    let own : r.own ≡ step (count l.members + q.number) q.row.name = sym (ap (head_or r.own) q.stands) in
    record {
      outer = r.outer;
      outer_sort = r.object.sort;
      members = l.members;
      object = r.leads ∙ ap (λ (x : Part). Some x) (part_is r.object r.object.sort (dict l.members) refl l.value);
      number = q.number;
      row = q.row;
      listed = q.listed;
      needed = q.needed;
      absent = q.absent;
      place_is = r.place_is ∙ ap (λ (t : Step). r.outer ++ t ∷ []) own;
    }

abbrev is_neither : FaultKind → Bool
is_neither kind.Neither = true
is_neither k = false

pub missing_out : (d : Data) (place : List Step) → HasFault d kind.Missing place → IsMissing d place
missing_out d place h = by (reach_out kind.Missing place outside (whole d) (claimed kind.Missing d place refl h))
  where
    own : (r : IsReached kind.Missing place outside (whole d)) → One (Breaks kind.Missing) (demands (spot_at outside (whole d) place) r.to.sort r.to.value) ⊎ Leaves kind.Missing r.to.sort r.to.value → IsMissing d place
    own r (inl u) = absurd (wrong_out kind.Missing (spot_at outside (whole d) place) r.to.sort r.to.value u)
    own r (inr u) = absurd (let f : true ≡ false = ap is_neither u.kind in cc)

    by : IsReached kind.Missing place outside (whole d) ⊎ IsLacked kind.Missing place (whole d) → IsMissing d place
    by (inl r) = own r (root_out kind.Missing (spot_at outside (whole d) place) r.to.sort r.to.value r.fault)
    by (inr r) = missing_from d place r

pub missing_in : (d : Data) (place : List Step) → IsMissing d place → HasFault d kind.Missing place
missing_in d place h =
    let own = step (count h.members + h.number) h.row.name in
    let row = row_in (count h.members) h.number (shape_in h.outer_sort h.members).rows h.members h.row h.listed h.needed h.absent in
    let object = object_in kind.Missing (own ∷ []) (spot_at outside (whole d) h.outer) h.outer_sort h.members (by_row h.outer_sort (kind_in h.members) h.number h.row h.listed) (inr row) in
    subst (HasFault d kind.Missing) (sym h.place_is) (fault_in kind.Missing d h.outer (own ∷ []) (part h.outer_sort (dict h.members)) h.object object)

-- ---- F9

pub undecided_out : (d : Data) (place : List Step) → HasFault d kind.Neither place → IsUndecided d place
undecided_out d place h = by (reach_out kind.Neither place outside (whole d) (claimed kind.Neither d place refl h))
  where
    own : (r : IsReached kind.Neither place outside (whole d)) → One (Breaks kind.Neither) (demands (spot_at outside (whole d) place) r.to.sort r.to.value) ⊎ Leaves kind.Neither r.to.sort r.to.value → IsUndecided d place
    own r (inl u) = absurd (wrong_out kind.Neither (spot_at outside (whole d) place) r.to.sort r.to.value u)
    own r (inr u) =
        record {
          outer_sort = r.to.sort;
          members = u.members;
          object = r.leads ∙ ap (λ (x : Part). Some x) (part_is r.to r.to.sort (dict u.members) refl u.value);
          none = u.none;
        }

    by : IsReached kind.Neither place outside (whole d) ⊎ IsLacked kind.Neither place (whole d) → IsUndecided d place
    by (inl r) = own r (root_out kind.Neither (spot_at outside (whole d) place) r.to.sort r.to.value r.fault)
    by (inr r) = absurd (let f : false ≡ true = ap is_neither r.lacks.row.kind in cc)

pub undecided_in : (d : Data) (place : List Step) → IsUndecided d place → HasFault d kind.Neither place
undecided_in d place h =
    let sh = shape_in h.outer_sort h.members in
    let groups = here_in kind.Neither (group_demands sh.groups h.members) (group_in sh.groups h.members h.none) in
    let object = object_in kind.Neither [] (spot_at outside (whole d) place) h.outer_sort h.members (by_groups (HasNone h.members) h.outer_sort (kind_in h.members) h.none) (inl groups) in
    root_fault_in kind.Neither d place (part h.outer_sort (dict h.members)) h.object object
