-- Where no text of a definition may read the clock, none does.
use Rattle.std.proofs.Common.{ℕ, ◌≡◌, ◌+◌, refl, Bool, true, false, List, [], Option, Some, None, if◌then◌else◌}
use Rattle.std.specs.Prelude.{is_none, option_map}
use Rattle.std.specs.Fmt.{decimal}
use Rattle.std.proofs.lemmas.Bool.{or_from}
use Rattle.asl_json_data.specs.Data.{Data, null, boolean, number, text, list, dict, Chain, no_items, item, Pairs, no_members, member}
use Rattle.asl_step_reads.specs.Mentions.{text_may_read}
use Rattle.asl_step_reads.specs.Reading.{reads, some_text, some_text_in, some_text_among}
use Rattle.asl_step_reads.specs.Steps.{clock_keys}
use Rattle.asl_step_reads.proofs.Mentioning.{unmentioned}
use Rattle.asl_explore.specs.Clock.{Way, further, first_way, way_to, way_among, way_in, pointer_text, clock_place}

neither : (a b : Option Way) → first_way a b ≡ None → (a ≡ None) × (b ≡ None)
neither None b e = (refl, e)
neither (Some ks) b e = (cc)

no-further : (k : List ℕ) (o : Option Way) → further k o ≡ None → o ≡ None
no-further k None e = refl
no-further k (Some ks) e = (cc)

abbrev here : Bool → Option Way
here b = if b then Some [] else None

unless : (b : Bool) → here b ≡ None → b ≡ false
unless true e = (cc)
unless false e = refl

module _ (p : List ℕ → Bool) where
  mutual
    none-there : (d : Data) → way_to p d ≡ None → some_text p d ≡ false
    none-there null e = refl
    none-there (boolean b) e = refl
    none-there (number n) e = refl
    none-there (text t) e = unless (p t) e
    none-there (list ds) e = none-among 0 ds e
    none-there (dict ms) e = none-in ms e

    none-among : (i : ℕ) (ds : Chain) → way_among p i ds ≡ None → some_text_in p ds ≡ false
    none-among i no_items e = refl
    none-among i (item d ds) e =
        let x = neither (further (decimal i) (way_to p d)) (way_among p (i + 1) ds) e in
        or_from (some_text p d) (some_text_in p ds) (none-there d (no-further (decimal i) (way_to p d) x.0)) (none-among (i + 1) ds x.1)

    none-in : (ms : Pairs) → way_in p ms ≡ None → some_text_among p ms ≡ false
    none-in no_members e = refl
    none-in (member k d ms) e =
        let x = neither (further k (way_to p d)) (way_in p ms) e in
        or_from (some_text p d) (some_text_among p ms) (none-there d (no-further k (way_to p d) x.0)) (none-in ms x.1)

unmapped : (o : Option Way) (p : Option (List ℕ)) → p ≡ option_map pointer_text o → is_none p ≡ true → o ≡ None
unmapped None p e n = refl
unmapped (Some ks) p e n = let x : is_none (Some (pointer_text ks)) ≡ true = rw e at n in (cc)

pub clock-unread : (d : Data) (p : Option (List ℕ)) → p ≡ clock_place d → is_none p ≡ true → reads clock_keys d ≡ false
clock-unread d p e n = unmentioned clock_keys d (none-there (text_may_read clock_keys) d (unmapped (way_to (text_may_read clock_keys) d) p e n))
