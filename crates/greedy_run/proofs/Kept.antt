-- What filtering gives: the first place that is kept after a place, and the last before it.
use mathlib.Core.List.{[], ◌∷◌}
use Rattle.std.proofs.Common.{◌≡◌, refl, sym, ◌∙◌, ap, subst, ℕ, zero, suc, ◌+◌, ◌-◌, ◌<◌, Bool, true, false, not, cond, List, ◌++◌, get_or, ◌↔◌, arith}
use Rattle.std.specs.Prelude.{length, reverse, take, drop, filter, Some, None, slice_get, unwrap_or}
use Rattle.std.proofs.lemmas.Bool.{false≢true, not_from_true, not_from_false, not-true}
use Rattle.std.proofs.lemmas.List.{append-nil, length-reverse, reverse-append, reverse-reverse, get_or-reverse}
use Rattle.std.proofs.lemmas.List.Elements.{filter-append}
use Rattle.std.proofs.lemmas.Option.{none-some, slice_get_within, slice_get-get_or, get_or_from_slice_get}
use Rattle.cov_types.specs.declared.coord.Coord.{Coord}
use Rattle.greedy_run.specs.Run.{is_removed, IsLastBefore, IsFirstAfter, point_before, point_after}

-- ---- the first that is kept

pub record IsFirstKept {X : Type 0} (keep : X → Bool) (xs : List X) (j : ℕ) (x : X) : Type 0 where
  pub at : slice_get xs j ≡ Some x
  pub kept : keep x ≡ true
  pub before : (i : ℕ) (y : X) → i < j → slice_get xs i ≡ Some y → keep y ≡ false

some_is : {X : Type 0} (a b : X) → Some a ≡ Some b → a ≡ b
some_is a b h = ap (λ o. unwrap_or o a) h

module _ {X : Type 0} (keep : X → Bool) where
  pub first_kept : (xs : List X) (x : X) → slice_get (filter keep xs) 0 ≡ Some x → (j : ℕ) × IsFirstKept keep xs j x
  first_kept [] x h = absurd (none-some x h)
  first_kept (y ∷ xs) x h = by (first_kept xs x) (keep y) refl h
    where
      by : (slice_get (filter keep xs) 0 ≡ Some x → (j : ℕ) × IsFirstKept keep xs j x) → (b : Bool) → keep y ≡ b → slice_get (cond b (y ∷ filter keep xs) (filter keep xs)) 0 ≡ Some x → (j : ℕ) × IsFirstKept keep (y ∷ xs) j x
      by later true e k = (0, record { at = k; kept = ap keep (sym (some_is y x k)) ∙ e; before = λ i z less at. absurd (omega arith) })
      by later false e k = let rest = later k in (suc rest.0, record { at = rest.1.at; kept = rest.1.kept; before = λ i z less at. earlier rest.0 rest.1 i z less at })
        where
          earlier : (j : ℕ) → IsFirstKept keep xs j x → (i : ℕ) (z : X) → i < suc j → slice_get (y ∷ xs) i ≡ Some z → keep z ≡ false
          earlier j r zero z less at = ap keep (sym (some_is y z at)) ∙ e
          earlier j r (suc i) z less at = r.before i z (omega arith) at

  pub kept_first : (xs : List X) (j : ℕ) (x : X) → IsFirstKept keep xs j x → slice_get (filter keep xs) 0 ≡ Some x
  kept_first [] j x h = absurd (none-some x h.at)
  kept_first (y ∷ xs) zero x h = by (keep y) (ap keep (some_is y x h.at) ∙ h.kept)
    where
      by : (b : Bool) → b ≡ true → slice_get (cond b (y ∷ filter keep xs) (filter keep xs)) 0 ≡ Some x
      by true e = h.at
      by false e = absurd (false≢true e)
  kept_first (y ∷ xs) (suc j) x h =
      by (keep y) (h.before 0 y (omega arith) refl) (kept_first xs j x (record { at = h.at; kept = h.kept; before = λ i z less at. h.before (suc i) z (omega arith) at }))
    where
      by : (b : Bool) → b ≡ false → slice_get (filter keep xs) 0 ≡ Some x → slice_get (cond b (y ∷ filter keep xs) (filter keep xs)) 0 ≡ Some x
      by true e rest = absurd (false≢true (sym e))
      by false e rest = rest

  -- filtering goes with reversing
  pub filter_reversed : (xs : List X) → reverse (filter keep xs) ≡ filter keep (reverse xs)
  filter_reversed [] = refl
  filter_reversed (y ∷ xs) = by (keep y) refl (filter_reversed xs) ∙ sym (filter-append keep (reverse xs) (y ∷ [])) ∙ ap (filter keep) (sym (reverse-append (y ∷ []) xs))
    where
      by : (b : Bool) → keep y ≡ b → reverse (filter keep xs) ≡ filter keep (reverse xs) → reverse (cond b (y ∷ filter keep xs) (filter keep xs)) ≡ filter keep (reverse xs) ++ cond b (y ∷ []) []
      by true e rest = reverse-append (y ∷ []) (filter keep xs) ∙ ap (λ zs. zs ++ y ∷ []) rest
      by false e rest = rest ∙ sym (append-nil (filter keep (reverse xs)))

-- ---- places in what is taken, dropped and reversed

take_at : {X : Type 0} (n : ℕ) (xs : List X) (i : ℕ) (x : X) → i < n → slice_get xs i ≡ Some x → slice_get (take n xs) i ≡ Some x
take_at zero xs i x less h = absurd (omega arith)
take_at (suc n) [] i x less h = absurd (none-some x h)
take_at (suc n) (y ∷ xs) zero x less h = h
take_at (suc n) (y ∷ xs) (suc i) x less h = take_at n xs i x (omega arith) h

taken_at : {X : Type 0} (n : ℕ) (xs : List X) (i : ℕ) (x : X) → slice_get (take n xs) i ≡ Some x → (i < n) × (slice_get xs i ≡ Some x)
taken_at zero xs i x h = absurd (none-some x (of_none xs i h))
  where
    of_none : (xs : List _) (i : ℕ) → slice_get (take 0 xs) i ≡ Some x → None ≡ Some x
    of_none [] i h = h
    of_none (y ∷ xs) i h = h
taken_at (suc n) [] i x h = absurd (none-some x h)
taken_at (suc n) (y ∷ xs) zero x h = (omega arith, h)
taken_at (suc n) (y ∷ xs) (suc i) x h = let rest = taken_at n xs i x h in (omega (arith, rest.0), rest.1)

drop_at : {X : Type 0} (n : ℕ) (xs : List X) (i : ℕ) → slice_get (drop n xs) i ≡ slice_get xs (n + i)
drop_at zero xs i = (let same : i ≡ 0 + i = omega arith in ap (slice_get xs) same)
drop_at (suc n) [] i = refl
drop_at (suc n) (y ∷ xs) i = drop_at n xs i ∙ (let same : suc (n + i) ≡ suc n + i = omega arith in ap (slice_get (y ∷ xs)) same)

reverse_at : {X : Type 0} (xs : List X) (i : ℕ) (x : X) → slice_get xs i ≡ Some x → slice_get (reverse xs) (length xs - 1 - i) ≡ Some x
reverse_at xs i x h =
    let within = slice_get_within xs i x h in
    let k = length xs - 1 - i in
    let inside : k < length xs = omega arith in
    let turned : k < length (reverse xs) = omega (arith, length-reverse xs) in
    let place : length xs - 1 - k ≡ i = omega arith in
    slice_get-get_or (reverse xs) k x turned ∙ ap (λ y. Some y) (get_or-reverse xs k x inside ∙ ap (λ n. get_or xs n x) place ∙ get_or_from_slice_get xs i x x h)

reversed_at : {X : Type 0} (xs : List X) (j : ℕ) (x : X) → slice_get (reverse xs) j ≡ Some x → (j < length xs) × (slice_get xs (length xs - 1 - j) ≡ Some x)
reversed_at xs j x h =
    let within = slice_get_within (reverse xs) j x h in
    let long = length-reverse xs in
    let back = reverse_at (reverse xs) j x h in
    (omega (arith, within, long), subst (λ ys. slice_get ys (length xs - 1 - j) ≡ Some x) (reverse-reverse xs) (subst (λ n. slice_get (reverse (reverse xs)) (n - 1 - j) ≡ Some x) long back))

-- ---- the neighbours of a place

module _ (removed points : List Coord) (place : ℕ) where
  abbrev keep : Coord → Bool
  keep p = not (is_removed removed p)

  there_is : (p : Coord) → keep p ≡ true → is_removed removed p ≡ false
  there_is p h = not-true (is_removed removed p) h

  gone_is : (p : Coord) → keep p ≡ false → is_removed removed p ≡ true
  gone_is p h = by (is_removed removed p) h
    where
      by : (b : Bool) → not b ≡ false → b ≡ true
      by true k = refl
      by false k = absurd (false≢true (sym k))

  pub after_is : (c : Coord) → (point_after removed points place ≡ Some c) ↔ ((k : ℕ) × IsFirstAfter removed points place k c)
  after_is c = (there, back)
    where
      there : point_after removed points place ≡ Some c → (k : ℕ) × IsFirstAfter removed points place k c
      there h =
          let first = first_kept keep (drop (place + 1) points) c h in (
            place + 1 + first.0,
            record {
              after = omega arith;
              at = sym (drop_at (place + 1) points first.0) ∙ first.1.at;
              there = there_is c first.1.kept;
              between = λ j p past less at. gone_is p (first.1.before (j - (place + 1)) p (omega arith) (drop_at (place + 1) points (j - (place + 1)) ∙ subst (λ n. slice_get points n ≡ Some p) (omega arith) at));
            },
          )

      back : (k : ℕ) × IsFirstAfter removed points place k c → point_after removed points place ≡ Some c
      back (k, h) =
          let past = h.after in
          let split : place + 1 + (k - (place + 1)) ≡ k = omega arith in
          kept_first keep (drop (place + 1) points) (k - (place + 1)) c (record {
            at = drop_at (place + 1) points (k - (place + 1)) ∙ ap (slice_get points) split ∙ h.at;
            kept = not_from_false _ h.there;
            before = λ i p less at. not_from_true _ (h.between (place + 1 + i) p (omega arith) (omega arith) (sym (drop_at (place + 1) points i) ∙ at));
          })

  pub before_is : (a : Coord) → (point_before removed points place ≡ Some a) ↔ ((k : ℕ) × IsLastBefore removed points place k a)
  before_is a = (there, back)
    where
      there : point_before removed points place ≡ Some a → (k : ℕ) × IsLastBefore removed points place k a
      there h =
          let first = first_kept keep (reverse (take place points)) a (ap (λ ps. slice_get ps 0) (sym (filter_reversed keep (take place points))) ∙ h) in
          let at = reversed_at (take place points) first.0 a first.1.at in
          let taken = taken_at place points (length (take place points) - 1 - first.0) a at.1 in (
            length (take place points) - 1 - first.0,
            record {
              before = taken.0;
              at = taken.1;
              there = there_is a first.1.kept;
              between = λ j p past less is. (
                  let inside = take_at place points j p less is in
                  let within = slice_get_within (take place points) j p inside in
                  gone_is p (first.1.before (length (take place points) - 1 - j) p (omega (arith, at.0)) (reverse_at (take place points) j p inside)));
            },
          )

      back : (k : ℕ) × IsLastBefore removed points place k a → point_before removed points place ≡ Some a
      back (k, h) =
          let inside = take_at place points k a h.before h.at in
          let within = slice_get_within (take place points) k a inside in
          ap (λ ps. slice_get ps 0) (filter_reversed keep (take place points))
          ∙ kept_first keep (reverse (take place points)) (length (take place points) - 1 - k) a (record {
            at = reverse_at (take place points) k a inside;
            kept = not_from_false _ h.there;
            before = λ i p less at. (
                let its = reversed_at (take place points) i p at in
                let taken = taken_at place points (length (take place points) - 1 - i) p its.1 in
                not_from_true _ (h.between (length (take place points) - 1 - i) p (omega (arith, its.0)) taken.0 taken.1));
          })
