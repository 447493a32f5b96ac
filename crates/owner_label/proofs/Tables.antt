-- Labels that stand in one list: reading one, and writing one more.
use mathlib.Core.List.{[], ◌∷◌}
use Rattle.std.proofs.Common.{◌≡◌, refl, sym, ◌∙◌, ap, subst, ℕ, zero, suc, ◌≤◌, ◌<◌, List, ◌++◌, set, replicate, length, get_or, take, drop, Some, slice_get, arith}
use Rattle.std.proofs.lemmas.List.{length-map, length-append, take-append-le, take_all, drop_at, get_or-map, get_or-replicate, length-replicate, map-set}
use Rattle.std.proofs.lemmas.List.Elements.{All-head, All-tail, All-weaker, All-set}
use Rattle.std.proofs.lemmas.Option.{slice_get-get_or}
use Rattle.std.proofs.lemmas.Slice.{between_is}
use Rattle.owner_label.specs.declared.toggle.Span.{Span}
use Rattle.owner_label.specs.Members.{IsToggledOnto, IsToggledFrom}
use Rattle.owner_label.specs.Spans.{at_span, labels_at, IsSpan, AreSpans}

-- ---- reading

module _ (spans : List Span) (members : List ℕ) (n : ℕ) (s : Span) (within : n < length spans) (is : s ≡ get_or spans n s) where
  pub label_at_span : slice_get (labels_at spans members) n ≡ Some (at_span members s)
  label_at_span =
      slice_get-get_or (labels_at spans members) n (at_span members s) (omega (arith, length-map spans (at_span members)))
      ∙ ap (λ (xs : List ℕ). Some xs) (get_or-map (at_span members) spans n s (at_span members s) within ∙ ap (at_span members) (sym is))

  pub label_or_empty : get_or (labels_at spans members) n [] ≡ at_span members s
  label_or_empty = get_or-map (at_span members) spans n s [] within ∙ ap (at_span members) (sym is)

  pub span_there : AreSpans spans members → IsSpan members s
  span_there are = subst (λ t. IsSpan members t) (sym is) (are n s within)

pub labels-length : (spans : List Span) (members : List ℕ) → length (labels_at spans members) ≡ length spans
labels-length spans members = length-map spans (at_span members)

-- ---- so many empty labels

pub empty_spans : (count : ℕ) (s : Span) → s.from ≡ 0 → s.to ≡ 0 → AreSpans (replicate count s) []
empty_spans count s from to k d within =
    let same = get_or-replicate count k s d (omega (arith, length-replicate count s)) in
    subst (λ t. IsSpan [] t) (sym same) (record { rises = omega (arith, from, to); within = omega (arith, to) })

empty_labels : (count : ℕ) (s : Span) → labels_at (replicate count s) [] ≡ replicate count []
empty_labels zero s = refl
empty_labels (suc n) s = λ i. nothing s.from s.to i ∷ empty_labels n s i
  where
    none_taken : (b : ℕ) (xs : List ℕ) → xs ≡ [] → take b xs ≡ []
    none_taken zero xs e = refl
    none_taken (suc b) xs e = ap (take (suc b)) e

    none : (a : ℕ) (xs : List ℕ) → xs ≡ [] → drop a xs ≡ []
    none zero xs e = e
    none (suc a) xs e = ap (drop (suc a)) e

    nothing : (a b : ℕ) → at_span [] (record { from = a; to = b }) ≡ []
    nothing a b = between_is {X = ℕ} [] a b ∙ none a (take b []) (none_taken b [] refl)

pub empty_table : (spans : List Span) (members : List ℕ) (count : ℕ) (s : Span) → spans ≡ replicate count s → members ≡ [] → labels_at spans members ≡ replicate count []
empty_table spans members count s all nothing = (λ i. labels_at (all i) (nothing i)) ∙ empty_labels count s

-- ---- a longer list

pub spans_stay : (spans : List Span) (members longer : List ℕ) → length members ≤ length longer → AreSpans spans members → AreSpans spans longer
spans_stay spans members longer le are = All-weaker (IsSpan members) (IsSpan longer) (λ s is. record { rises = is.rises; within = omega (arith, is.within) }) spans are

label_stays : (members added : List ℕ) (s : Span) → IsSpan members s → at_span (members ++ added) s ≡ at_span members s
label_stays members added s is =
    between_is (members ++ added) s.from s.to ∙ ap (drop s.from) (take-append-le s.to members added is.within) ∙ sym (between_is members s.from s.to)

labels_stay : (spans : List Span) (members added : List ℕ) → AreSpans spans members → labels_at spans (members ++ added) ≡ labels_at spans members
labels_stay [] members added are = refl
labels_stay (s ∷ spans) members added are =
    λ i. label_stays members added s (All-head (IsSpan members) s spans are) i ∷ labels_stay spans members added (All-tail (IsSpan members) s spans are) i

-- ---- one more label

module _ (spans : List Span) (before : List ℕ) (n : ℕ) (label members after : List ℕ) (new : Span) (are : AreSpans spans before) (onto : IsToggledOnto before label members after)
    (from : new.from ≡ length before) (to : new.to ≡ length after) where
  new_label : at_span after new ≡ onto.added
  new_label =
      between_is after new.from new.to ∙ ap (drop new.from) (ap (λ k. take k after) to ∙ take_all (length after) after (omega arith))
      ∙ ap (λ k. drop k after) from ∙ ap (drop (length before)) onto.put ∙ drop_at before onto.added (length before) refl

  pub toggled_from : IsToggledFrom (labels_at spans before) n label members (labels_at (set spans n new) after)
  toggled_from = record {
    written = onto.added;
    put = map-set (at_span after) spans n new
        ∙ (λ i. set ((ap (labels_at spans) onto.put ∙ labels_stay spans before onto.added are) i) n (new_label i));
    toggled = onto.toggled;
  }

  longer : length before ≤ length after
  longer = omega (arith, ap length onto.put, length-append before onto.added)

  pub spans_new : AreSpans (set spans n new) after
  spans_new = All-set (IsSpan after) spans n new (record { rises = omega (arith, from, to, longer); within = omega (arith, to) }) (spans_stay spans before after longer are)

-- the same of the label that is read
module _ (spans : List Span) (before : List ℕ) (n neighbour : ℕ) (s : Span) (within : neighbour < length spans) (is : s ≡ get_or spans neighbour s) (members after : List ℕ) (new : Span) (are : AreSpans spans before)
    (onto : IsToggledOnto before (at_span before s) members after) (from : new.from ≡ length before) (to : new.to ≡ length after) where
  pub toggled_read : IsToggledFrom (labels_at spans before) n (get_or (labels_at spans before) neighbour []) members (labels_at (set spans n new) after)
  toggled_read =
      subst (λ label. IsToggledFrom (labels_at spans before) n label members (labels_at (set spans n new) after)) (sym (label_or_empty spans before neighbour s within is))
      (toggled_from spans before n (at_span before s) members after new are onto from to)
