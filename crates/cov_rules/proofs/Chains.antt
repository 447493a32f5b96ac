-- The lists of a chain are read back, and its parts change one after the other.
use mathlib.Core.List.{[], ◌∷◌}
use Rattle.std.proofs.Common.{◌≡◌, refl, sym, ◌∙◌, ap, ℕ, zero, suc, ◌+◌, ◌<◌, ◌≤◌, ◌==◌, true, false, cond, ◌&&◌, List, ◌++◌, length, map, take, drop, get_or, set, Option, Some, None, ℤ, pos, add-one, arith}
use Rattle.std.specs.Prelude.{flat_map, option_map, is_some}
use Rattle.std.specs.List.{list_all, zip}
use Rattle.std.specs.Option.{option_map_or}
use Rattle.std.proofs.lemmas.List.{length-map, map-set, take_all, get_or-map}
use Rattle.std.proofs.lemmas.Bool.{eq-eqb}
use Rattle.std.proofs.Math.Seq.{map-set_same}
use Rattle.std.proofs.lemmas.List.Edits.{map_over_more}
use Rattle.region_owners.specs.Facts.{RegionFacts}
use Rattle.merge_rule.specs.RuleState.{RuleState}
use Rattle.cov_rules.specs.declared.part.Part.{Part}
use Rattle.cov_rules.specs.declared.part.Part.TheVariants.{Even, First, Clear}
use Rattle.cov_rules.specs.Simple.{is_simple, simple_room, simple_pick, simple_next}
use Rattle.cov_rules.specs.Chain.{with_length, lists_after, lists_in, parts_with, parts_of, fixed_by, kept_by, prepared_first, first_pick, next_parts}
use Rattle.cov_rules.specs.Kinds.{room, pick, next, IsPartlyPrepared}
use Rattle.cov_rules.specs.Parts.{state_of, chain_fixed, chain_kept}
use Rattle.cov_rules.proofs.Given.{none_of, option_some, given_at, given_none}

-- ---- lists in one

-- a list that was begun, and the lists after it
begun : (list rest : List ℤ) (more : List (List ℤ)) → lists_after 0 rest ≡ Some ([], more) → lists_after (length list) (list ++ rest) ≡ Some (list, more)
begun [] rest more after = after
begun (number ∷ list) rest more after = ap (option_map (λ (found : List ℤ × List (List ℤ)). (number ∷ found.0, found.1))) (begun list rest more after)

after : {X : Type 0} (key : X → List ℤ) (xs : List X) → lists_after 0 (flat_map (λ x. with_length (key x)) xs) ≡ Some ([], map key xs)
after key [] = refl
after key (x ∷ xs) = ap (option_map (λ (found : List ℤ × List (List ℤ)). ([], found.0 ∷ found.1))) (begun (key x) (flat_map (λ y. with_length (key y)) xs) (map key xs) (after key xs))

lists_back : {X : Type 0} (key : X → List ℤ) (xs : List X) → lists_in (flat_map (λ x. with_length (key x)) xs) ≡ Some (map key xs)
lists_back key xs = ap (option_map (λ (found : List ℤ × List (List ℤ)). found.1)) (after key xs)

-- ---- the parts

as_long : (rules : List RuleState) → (length (map (λ (r : RuleState). r.0) rules) == length (map (λ (r : RuleState). r.1) rules)) ≡ true
as_long rules = eq-eqb (length (map (λ (r : RuleState). r.0) rules)) (length (map (λ (r : RuleState). r.1) rules))
    (length-map rules (λ (r : RuleState). r.0) ∙ sym (length-map rules (λ (r : RuleState). r.1)))

zipped : (rules : List RuleState) → zip (map (λ (r : RuleState). r.0) rules) (map (λ (r : RuleState). r.1) rules) ≡ rules
zipped [] = refl
zipped (r ∷ rules) = ap (λ rs. r ∷ rs) (zipped rules)

-- the rules of the lists, where all are simple
with_lists : (rules : List RuleState) → list_all is_simple rules ≡ true → parts_with (Some (map (λ (r : RuleState). r.0) rules)) (Some (map (λ (r : RuleState). r.1) rules)) ≡ Some rules
with_lists rules simple =
    (λ i. cond (as_long rules i && list_all is_simple (zipped rules i)) (Some (zipped rules i)) None)
    ∙ (λ i. cond (simple i) (Some rules) None)

part_simple : (part : Part) → is_simple (state_of part) ≡ true
part_simple (Even kept) = refl
part_simple (First order) = refl
part_simple (Clear rule) = refl

all_simple : (parts : List Part) → list_all is_simple (map state_of parts) ≡ true
all_simple [] = refl
all_simple (part ∷ parts) = (λ i. part_simple part i && list_all is_simple (map state_of parts)) ∙ all_simple parts

-- a chain is read back
pub read_back : (parts : List Part) → parts_of (chain_fixed parts, chain_kept parts) ≡ Some (map state_of parts)
read_back parts =
    let rules = map state_of parts in
    (λ i. parts_with (lists_back (λ (r : RuleState). r.0) rules i) (lists_back (λ (r : RuleState). r.1) rules i)) ∙ with_lists rules (all_simple parts)

-- so what the kinds say of a chain is said of its parts
pub room_is : (parts : List Part) (members : ℕ) → room (chain_fixed parts) (chain_kept parts) members ≡ kept_by (prepared_first (length (map state_of parts)) (map state_of parts) members)
room_is parts members = ap (λ found. option_map_or (λ rules. kept_by (prepared_first (length rules) rules members)) found (simple_room (chain_fixed parts, chain_kept parts) members)) (read_back parts)

pub pick_is : (parts : List Part) (facts : RegionFacts) → pick (chain_fixed parts) (chain_kept parts) facts ≡ first_pick (map state_of parts) facts
pick_is parts facts = ap (λ found. option_map_or (λ rules. first_pick rules facts) found (simple_pick (chain_fixed parts, chain_kept parts) facts)) (read_back parts)

pub next_is : (parts : List Part) (facts : RegionFacts) → next (chain_fixed parts) (chain_kept parts) facts ≡ kept_by (next_parts (map state_of parts) facts)
next_is parts facts = ap (λ found. option_map_or (λ rules. kept_by (next_parts rules facts)) found (simple_next (chain_fixed parts, chain_kept parts) facts)) (read_back parts)

pub partly_is : (parts : List Part) (members count : ℕ) (now : List ℤ) → now ≡ kept_by (prepared_first count (map state_of parts) members) → IsPartlyPrepared (chain_fixed parts) (chain_kept parts) members now
partly_is parts members count now is = record {
  count = count;
  reached = is ∙ sym (ap (λ found. option_map_or (λ rules. kept_by (prepared_first count rules members)) found (chain_kept parts)) (read_back parts));
}

-- ---- the first ones changed

-- the first so many are changed
abbrev pub changed_first : (RuleState → RuleState) → ℕ → List RuleState → List RuleState
changed_first change count rules = map change (take count rules) ++ drop count rules

-- the change keeps what is fixed
pub record KeepsFixed (change : RuleState → RuleState) : Type 0 where
  pub same : (rule : RuleState) → (change rule).0 ≡ rule.0

fixed_changed : (change : RuleState → RuleState) → KeepsFixed change → (count : ℕ) (rules : List RuleState)
    → flat_map (λ (r : RuleState). with_length r.0) (changed_first change count rules) ≡ flat_map (λ (r : RuleState). with_length r.0) rules
fixed_changed change keeps zero rules = refl
fixed_changed change keeps (suc count) [] = refl
fixed_changed change keeps (suc count) (rule ∷ rules) = λ i. with_length (keeps.same rule i) ++ fixed_changed change keeps count rules i

-- so the chain's stays
pub still_fixed : (change : RuleState → RuleState) → KeepsFixed change → (count : ℕ) (parts now : List Part) → map state_of now ≡ changed_first change count (map state_of parts)
    → chain_fixed now ≡ chain_fixed parts
still_fixed change keeps count parts now is = ap fixed_by is ∙ ap (λ numbers. pos 4 ∷ numbers) (fixed_changed change keeps count (map state_of parts))

changed_long : (change : RuleState → RuleState) (k : ℕ) (rules : List RuleState) → length (changed_first change k rules) ≡ length rules
changed_long change zero rules = refl
changed_long change (suc k) [] = refl
changed_long change (suc k) (rule ∷ rules) = ap suc (changed_long change k rules)

-- the next one is as it was
changed_next : (change : RuleState → RuleState) (k : ℕ) (rules : List RuleState) (d : RuleState) → k < length rules → get_or (changed_first change k rules) k d ≡ get_or rules k d
changed_next change k [] d less = absurd (omega arith)
changed_next change zero (rule ∷ rules) d less = refl
changed_next change (suc k) (rule ∷ rules) d less = changed_next change k rules d (omega arith)

module _ (change : RuleState → RuleState) (parts now : List Part) (k : ℕ) (part : Part) (less : k < length parts) (is : map state_of now ≡ changed_first change k (map state_of parts)) (there : part ≡ get_or now k part) where
  long : k < length (map state_of parts)
  long = omega (arith, length-map parts state_of)

  inside : k < length now
  inside = omega (arith, less, sym (length-map now state_of) ∙ ap length is ∙ changed_long change k (map state_of parts) ∙ length-map parts state_of)

  read : state_of part ≡ get_or (map state_of now) k (state_of part)
  read = ap state_of there ∙ sym (get_or-map state_of now k part (state_of part) inside)

  -- the part is that of the beginning
  pub part_there : state_of part ≡ get_or (map state_of parts) k (state_of part)
  part_there = read ∙ ap (λ rs. get_or rs k (state_of part)) is ∙ changed_next change k (map state_of parts) (state_of part) long

  -- one part more is changed
  pub changed_more : (after : List Part) (changed : Part) → state_of changed ≡ change (state_of part) → after ≡ set now k changed → map state_of after ≡ changed_first change (k + 1) (map state_of parts)
  changed_more after changed made put =
      ap (map state_of) put ∙ map-set state_of now k changed ∙ (λ i. set (map state_of now) k (made i)) ∙ map_over_more change (map state_of parts) (map state_of now) k (state_of part) long is read

  -- none more is
  pub unchanged_at : (after : List Part) (same : Part) → state_of same ≡ state_of part → after ≡ set now k same → map state_of after ≡ changed_first change k (map state_of parts)
  unchanged_at after same made put = ap (map state_of) put ∙ map-set_same state_of now k same part (made ∙ ap state_of there) ∙ is

-- as many as there are are changed
changed_end : (change : RuleState → RuleState) (k : ℕ) (rules : List RuleState) → length rules ≤ k → changed_first change k rules ≡ changed_first change (length rules) rules
changed_end change zero [] all = refl
changed_end change (suc k) [] all = refl
changed_end change zero (rule ∷ rules) all = absurd (omega arith)
changed_end change (suc k) (rule ∷ rules) all = ap (λ rs. change rule ∷ rs) (changed_end change k rules (omega arith))

-- ---- parts that are prepared

-- the part after it was prepared
abbrev pub prepared : ℕ → RuleState → RuleState
prepared members rule = (rule.0, simple_room rule members)

pub prepared_keeps : (members : ℕ) → KeepsFixed (prepared members)
prepared_keeps members = record { same = λ rule. refl }

-- all were prepared
pub prepared_all : (parts now : List Part) (members k : ℕ) → length parts ≤ k → map state_of now ≡ changed_first (prepared members) k (map state_of parts)
    → chain_kept now ≡ room (chain_fixed parts) (chain_kept parts) members
prepared_all parts now members k all is =
    let long : length (map state_of parts) ≤ k = omega (arith, length-map parts state_of) in
    ap kept_by (is ∙ changed_end (prepared members) k (map state_of parts) long) ∙ sym (room_is parts members)

-- the first ones were
pub prepared_some : (parts now : List Part) (members k : ℕ) → map state_of now ≡ changed_first (prepared members) k (map state_of parts)
    → IsPartlyPrepared (chain_fixed parts) (chain_kept parts) members (chain_kept now)
prepared_some parts now members k is = partly_is parts members k (chain_kept now) (ap kept_by is)

-- ---- parts that are asked

-- the part after it was asked
abbrev pub asked : RegionFacts → RuleState → RuleState
asked facts rule = (rule.0, simple_next rule facts)

pub asked_keeps : (facts : RegionFacts) → KeepsFixed (asked facts)
asked_keeps facts = record { same = λ rule. refl }

-- after the part that picked the others stay
next_at : (facts : RegionFacts) (k : ℕ) (rules : List RuleState) (d : RuleState) → k < length rules → first_pick (take k rules) facts ≡ None
    → is_some (simple_pick (get_or rules k d) facts) ≡ true → next_parts rules facts ≡ changed_first (asked facts) (suc k) rules
next_at facts k [] d less none picks = absurd (omega arith)
next_at facts zero (rule ∷ rules) d less none picks = λ i. asked facts rule ∷ cond (picks i) rules (next_parts rules facts)
next_at facts (suc k) (rule ∷ rules) d less none picks =
    let parts = none_of (simple_pick rule facts) (first_pick (take k rules) facts) none in
    (λ i. asked facts rule ∷ cond (is_some (parts.0 i)) rules (next_parts rules facts)) ∙ ap (λ rs. asked facts rule ∷ rs) (next_at facts k rules d (omega arith) parts.1 picks)

-- where none picked all had their turn
next_none : (facts : RegionFacts) (rules : List RuleState) → first_pick rules facts ≡ None → next_parts rules facts ≡ changed_first (asked facts) (length rules) rules
next_none facts [] none = refl
next_none facts (rule ∷ rules) none =
    let parts = none_of (simple_pick rule facts) (first_pick rules facts) none in
    (λ i. asked facts rule ∷ cond (is_some (parts.0 i)) rules (next_parts rules facts)) ∙ ap (λ rs. asked facts rule ∷ rs) (next_none facts rules parts.1)

-- the chain's numbers after the part at k picked
pub asked_at : (parts now : List Part) (facts : RegionFacts) (k : ℕ) (part : Part) (place : Option ℕ) → k < length parts → first_pick (take k (map state_of parts)) facts ≡ None
    → state_of part ≡ get_or (map state_of parts) k (state_of part) → place ≡ simple_pick (state_of part) facts → is_some place ≡ true
    → map state_of now ≡ changed_first (asked facts) (k + 1) (map state_of parts) → (place ≡ pick (chain_fixed parts) (chain_kept parts) facts) × (chain_kept now ≡ next (chain_fixed parts) (chain_kept parts) facts)
asked_at parts now facts k part place less none there picks some is =
    let rules = map state_of parts in
    let long : k < length rules = omega (arith, length-map parts state_of) in
    let here : place ≡ simple_pick (get_or rules k (state_of part)) facts = picks ∙ ap (λ r. simple_pick r facts) there in
    let found : first_pick rules facts ≡ place = given_at (λ r. simple_pick r facts) k rules (state_of part) long none ∙ option_some (simple_pick (get_or rules k (state_of part)) facts) (first_pick (drop (suc k) rules) facts) (ap is_some (sym here) ∙ some) ∙ sym here in (
      sym found ∙ sym (pick_is parts facts),
      ap kept_by (is ∙ ap (λ n. changed_first (asked facts) n rules) (add-one k) ∙ sym (next_at facts k rules (state_of part) long none (ap is_some (sym here) ∙ some))) ∙ sym (next_is parts facts),
    )

-- and where none picked
pub asked_all : (parts now : List Part) (facts : RegionFacts) (k : ℕ) → length parts ≤ k → first_pick (take k (map state_of parts)) facts ≡ None
    → map state_of now ≡ changed_first (asked facts) k (map state_of parts) → (None ≡ pick (chain_fixed parts) (chain_kept parts) facts) × (chain_kept now ≡ next (chain_fixed parts) (chain_kept parts) facts)
asked_all parts now facts k all none is =
    let rules = map state_of parts in
    let long : length rules ≤ k = omega (arith, length-map parts state_of) in
    let found : first_pick rules facts ≡ None = ap (λ rs. first_pick rs facts) (sym (take_all k rules long)) ∙ none in
    (sym found ∙ sym (pick_is parts facts), ap kept_by (is ∙ changed_end (asked facts) k rules long ∙ sym (next_none facts rules found)) ∙ sym (next_is parts facts))

-- one part more picked nothing
pub none_more : (parts : List Part) (facts : RegionFacts) (k : ℕ) (part : Part) (place : Option ℕ) → k < length parts → first_pick (take k (map state_of parts)) facts ≡ None
    → state_of part ≡ get_or (map state_of parts) k (state_of part) → place ≡ simple_pick (state_of part) facts → is_some place ≡ false → first_pick (take (k + 1) (map state_of parts)) facts ≡ None
none_more parts facts k part place less none there picks missing =
    let rules = map state_of parts in
    let long : k < length rules = omega (arith, length-map parts state_of) in
    given_none (λ r. simple_pick r facts) k rules (state_of part) long none (ap is_some (sym (picks ∙ ap (λ r. simple_pick r facts) there)) ∙ missing)
