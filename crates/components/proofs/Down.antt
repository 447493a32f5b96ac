-- Ways down, write by write.
use mathlib.Core.List.{List, [], ◌∷◌}
use Rattle.std.proofs.Common.{◌≡◌, refl, sym, ◌∙◌, ap, subst, ℕ, ◌+◌, ◌<◌, ◌≤◌, length, get_or, set, inl, inr, arith}
use Rattle.std.proofs.lemmas.Bool.{cases_eq, cases_lt}
use Rattle.std.proofs.lemmas.List.{get_or-set_same, get_or-set_other, get_or_default, length-set}
use Rattle.std.proofs.lemmas.List.Elements.{Contains-get_or}
use Rattle.std.proofs.lemmas.List.FromFn.{length-range_with_len, get_or-range_with_len}
use Rattle.std.specs.List.{range_with_len}
use Rattle.components.specs.declared.link.Link.{Link}
use Rattle.components.specs.Connected.{AreLinksWithin, IsTied, LeadsAlong, IsConnected, AreComponents}
use Rattle.components.specs.Lower.{AreLow, AreConnected, AreKept}
use Rattle.components.proofs.Ways.{connected-same, connected-tied, connected-trans, connected-within}

-- ---- one write: the node i gets v

module _ (lower : List ℕ) (i v : ℕ) (within : i < length lower) where
  here : get_or (set lower i v) i 0 ≡ v
  here = get_or-set_same lower i v 0 within

  other : (x : ℕ) → (x ≡ i → ⊥) → get_or (set lower i v) x 0 ≡ get_or lower x 0
  other x apart = get_or-set_other lower i x v 0 apart

  was_within : (x : ℕ) → x < length (set lower i v) → x < length lower
  was_within x h = (let long = length-set lower i v in omega (arith, h, long))

  is_within : (x : ℕ) → x < length lower → x < length (set lower i v)
  is_within x h = (let long = length-set lower i v in omega (arith, h, long))

  pub low-set : v ≤ i → AreLow lower → AreLow (set lower i v)
  low-set le low x h = elim (cases_eq x i) [
    | inl same ↦ subst (λ k. get_or (set lower i v) k 0 ≤ k) (sym same) (subst (λ k. k ≤ i) (sym here) le)
    | inr apart ↦ subst (λ k. k ≤ x) (sym (other x apart)) (low x (was_within x h))
  ]

  pub connected-set : (links : List Link) → IsConnected links i v → AreConnected links lower → AreConnected links (set lower i v)
  connected-set links way all x h = elim (cases_eq x i) [
    | inl same ↦ subst (λ k. IsConnected links k (get_or (set lower i v) k 0)) (sym same) (subst (λ k. IsConnected links i k) (sym here) way)
    | inr apart ↦ subst (λ k. IsConnected links x k) (sym (other x apart)) (all x (was_within x h))
  ]

  pub kept-set : (number : ℕ → ℕ) → number i ≡ number (get_or lower i 0) → AreKept (set lower i v) number → AreKept lower number
  kept-set number same kept x h = elim (cases_eq x i) [
    | inl is ↦ subst (λ k. number k ≡ number (get_or lower k 0)) (sym is) same
    | inr apart ↦ kept x (is_within x h) ∙ ap number (other x apart)
  ]

  pub kept-here : (number : ℕ → ℕ) → AreKept (set lower i v) number → number i ≡ number v
  kept-here number kept = kept i (is_within i within) ∙ ap number here

-- ---- down from a node

-- the way down from the node has come to another one, and some on it have one after their lower one
pub record IsWayDown (before after : List ℕ) (node at : ℕ) : Type 0 where
  pub low : AreLow after
  pub no_later : at ≤ node
  pub others : (x : ℕ) → get_or before x 0 ≡ x → get_or after x 0 ≡ x
  pub kept : (number : ℕ → ℕ) → AreKept after number → AreKept before number × (number node ≡ number at)
  pub connected : (links : List Link) → AreConnected links before → AreConnected links after × IsConnected links node at

pub way-more : (before lower : List ℕ) (node at : ℕ) → at < length lower → get_or lower at 0 < at → IsWayDown before lower node at
    → IsWayDown before (set lower at (get_or lower (get_or lower at 0) 0)) node (get_or lower (get_or lower at 0) 0)
way-more before lower node at within falls so_far =
    let mid = get_or lower at 0 in
    let next = get_or lower mid 0 in
    let after = set lower at next in
    let mid_within : mid < length lower = omega (arith, falls, within) in
    let le : next ≤ mid = so_far.low mid mid_within in
    let early = so_far.no_later in
    let mid_kept : get_or after mid 0 ≡ next = other lower at next within mid (λ same. omega (arith, same, falls)) in
    record {
      low = low-set lower at next within (omega (arith, le, falls)) so_far.low;
      no_later = omega (arith, le, falls, early);
      others = λ x own.
          other lower at next within x (λ same. (let now = so_far.others x own in let here = ap (λ k. get_or lower k 0) same in omega (arith, now, same, here, falls)))
          ∙ so_far.others x own;
      kept = λ number kept.
          let to_next : number at ≡ number next = kept-here lower at next within number kept in
          let from_mid : number mid ≡ number next = kept mid (is_within lower at next within mid mid_within) ∙ ap number mid_kept in
          let earlier = so_far.kept number (kept-set lower at next within number (to_next ∙ sym from_mid) kept) in
          (earlier.0, earlier.1 ∙ to_next);
      connected = λ links all.
          let (ways, way) = so_far.connected links all in
          let on = connected-trans links at mid next (ways at within) (ways mid mid_within) in
          (connected-set lower at next within links on ways, connected-trans links node at next way on);
    }

-- ---- all nodes

-- the first nodes have the ends of their ways down
pub record AreSettled (before after : List ℕ) (count : ℕ) : Type 0 where
  pub long : length after ≡ length before
  pub low : AreLow after
  pub rest : (x : ℕ) → count ≤ x → get_or after x 0 ≡ get_or before x 0
  pub kept : (x : ℕ) → x < count → get_or after x 0 ≡ get_or after (get_or before x 0) 0
  pub connected : (links : List Link) → AreConnected links before → AreConnected links after

pub settled-none : (lower : List ℕ) → AreLow lower → AreSettled lower lower 0
settled-none lower low = record {
  long = refl;
  low = low;
  rest = λ x from. refl;
  kept = λ x h. absurd (omega (arith, h));
  connected = λ links all. all;
}

pub settled-more : (before lower : List ℕ) (i : ℕ) → AreLow before → i < length lower → AreSettled before lower i
    → AreSettled before (set lower i (get_or lower (get_or lower i 0) 0)) (i + 1)
settled-more before lower i low within so_far =
    let mid = get_or lower i 0 in
    let next = get_or lower mid 0 in
    let after = set lower i next in
    let long = so_far.long in
    let le : mid ≤ i = so_far.low i within in
    let next_le : next ≤ mid = so_far.low mid (omega (arith, le, within)) in
    let was : mid ≡ get_or before i 0 = so_far.rest i (omega arith) in
    record {
      long = length-set lower i next ∙ so_far.long;
      low = low-set lower i next within (omega (arith, le, next_le)) so_far.low;
      rest = λ x from. other lower i next within x (λ same. omega (arith, same, from)) ∙ so_far.rest x (omega (arith, from));
      kept = λ x h. elim (cases_eq x i) [
        | inl same ↦ subst (λ k. get_or after k 0 ≡ get_or after (get_or before k 0) 0) (sym same)
            (subst (λ m. get_or after i 0 ≡ get_or after m 0) was (elim (cases_eq mid i) as (λ _. get_or after i 0 ≡ get_or after mid 0) [
              | inl itself ↦ ap (λ k. get_or after k 0) (sym itself)
              | inr apart ↦ here lower i next within ∙ sym (other lower i next within mid apart)
            ]))
        | inr apart ↦ (
            let early : x < i = omega (arith, h, apart) in
            let lower_x = low x (omega (arith, early, within, long)) in
            other lower i next within x apart ∙ so_far.kept x early
            ∙ sym (other lower i next within (get_or before x 0) (λ same. omega (arith, same, early, lower_x)))
            )
      ];
      connected = λ links all.
          let ways = so_far.connected links all in
          connected-set lower i next within links (connected-trans links i mid next (ways i within) (ways mid (omega (arith, le, within)))) ways;
    }

-- ---- two nodes at the ends of their ways

-- the node i, which had itself, gets v
pub bottom-set : (lower : List ℕ) (i v : ℕ) → i < length lower → get_or lower i 0 ≡ i → (number : ℕ → ℕ) → AreKept (set lower i v) number → AreKept lower number × (number i ≡ number v)
bottom-set lower i v within own number kept = (kept-set lower i v within number (ap number (sym own)) kept, kept-here lower i v within number kept)

-- ---- all links

-- numbers that are the same at each node and the one that it has are the same at both ends of the first links
pub record AreJoined (nodes : ℕ) (links : List Link) (count : ℕ) (lower : List ℕ) : Type 0 where
  pub long : length lower ≡ nodes
  pub low : AreLow lower
  pub connected : AreConnected links lower
  pub kept : (number : ℕ → ℕ) → AreKept lower number → (i : ℕ) (d : Link) → i < count → number (get_or links i d).from ≡ number (get_or links i d).to

pub joined-none : (nodes : ℕ) (links : List Link) (lower : List ℕ) → lower ≡ range_with_len 0 nodes → AreJoined nodes links 0 lower
joined-none nodes links lower is = record {
  long = long;
  low = λ x h. (let same = own x (omega (arith, h, long)) in omega (arith, same));
  connected = λ x h. connected-same links x (get_or lower x 0) (sym (own x (omega (arith, h, long))));
  kept = λ number kept i d h. absurd (omega (arith, h));
}
  where
    long : length lower ≡ nodes
    long = ap (λ (xs : List ℕ). length xs) is ∙ length-range_with_len 0 nodes

    own : (x : ℕ) → x < nodes → get_or lower x 0 ≡ x
    own x below = (let at = get_or-range_with_len 0 nodes x 0 below in ap (λ (xs : List ℕ). get_or xs x 0) is ∙ at ∙ omega arith)

-- the ends of one more link are joined
pub joined-more : (nodes : ℕ) (links : List Link) (i : ℕ) (d : Link) (lower after : List ℕ) → i < length links → length after ≡ length lower → AreLow after
    → ((number : ℕ → ℕ) → AreKept after number → AreKept lower number × (number (get_or links i d).from ≡ number (get_or links i d).to))
    → (IsConnected links (get_or links i d).from (get_or links i d).to → AreConnected links lower → AreConnected links after)
    → AreJoined nodes links i lower → AreJoined nodes links (i + 1) after
joined-more nodes links i d lower after within long low kept connected so_far = record {
  long = long ∙ so_far.long;
  low = low;
  connected = connected (connected-tied links link.from link.to (record { link = link; among = Contains-get_or links i d within; ends = inl (refl, refl) })) so_far.connected;
  kept = λ number same j e h. (
      let (earlier, here) = kept number same in
      elim (cases_lt j i) [
        | inl early ↦ so_far.kept number earlier j e early
        | inr late ↦ (
            let last : j ≡ i = omega (arith, h, late) in
            let one : get_or links i d ≡ get_or links j e = get_or_default links i d e within ∙ ap (λ k. get_or links k e) (sym last) in
            subst (λ (l : Link). number l.from ≡ number l.to) one here
            )
      ]
      );
}
  where
    link : Link
    link = get_or links i d

-- ---- the numbers are those of the components

-- the least nodes, from those that the ways down lead to
pub joined-all : (nodes : ℕ) (links : List Link) (count : ℕ) (lower least : List ℕ) → AreLinksWithin nodes links → length links ≤ count → AreJoined nodes links count lower
    → length least ≡ length lower → AreLow least → AreKept lower (λ x. get_or least x 0) → AreConnected links least → AreComponents nodes links least
joined-all nodes links count lower least within all joined long low kept connected = record {
  count = long ∙ joined.long;
  own = λ x h. connected x (omega (arith, h, long, joined.long));
  least = λ x y h (way, leads).
      let same = leads_same x way y leads in
      let y_within = connected-within nodes links x y within h (way, leads) in
      let y_low = low y (omega (arith, y_within, long, joined.long)) in
      omega (arith, same, y_low);
}
  where
    number : ℕ → ℕ
    number x = get_or least x 0

    tie_same : (x y : ℕ) → IsTied links x y → get_or least x 0 ≡ get_or least y 0
    tie_same x y tie =
        let (i, below, is) = tie.among in
        let both : get_or least tie.link.from 0 ≡ get_or least tie.link.to 0 =
        subst (λ (l : Link). get_or least l.from 0 ≡ get_or least l.to 0) is (joined.kept (λ x. get_or least x 0) kept i tie.link (omega (arith, below, all))) in
        elim tie.ends [
          | inl along ↦ ap (λ k. get_or least k 0) (sym along.0) ∙ both ∙ ap (λ k. get_or least k 0) along.1
          | inr back ↦ ap (λ k. get_or least k 0) (sym back.1) ∙ sym both ∙ ap (λ k. get_or least k 0) back.0
        ]

    leads_same : (x : ℕ) (way : List ℕ) (y : ℕ) → LeadsAlong links x way y → get_or least x 0 ≡ get_or least y 0
    leads_same x [] y same = ap (λ k. get_or least k 0) same
    leads_same x (z ∷ way) y leads = tie_same x z leads.0 ∙ leads_same z way y leads.1
