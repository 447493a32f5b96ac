-- The marks of the uses before a place.
use Rattle.std.proofs.Common.{◌≡◌, ℕ, ◌+◌, ◌<◌, ◌≤◌, List, [], ◌∷◌, ◌++◌, length, get_or, All, Contains, refl, sym, ap, ◌∙◌, subst, arith, inl, inr, Some}
use Rattle.std.specs.Prelude.{AllPairs, slice_get}
use Rattle.std.proofs.lemmas.Bool.{cases_lt}
use Rattle.std.proofs.lemmas.List.Elements.{Contains-append_left, Contains-get_or, Contains-push, Contains-push_cases}
use Rattle.std.proofs.lemmas.List.Quantifiers.{all_pairs_push}
use Rattle.std.proofs.lemmas.Option.{same_Some, slice_get-get_or, slice_get_within, get_or_from_slice_get}
use Rattle.cov_types.specs.declared.edge_use.EdgeUse.{EdgeUse}
use Rattle.cov_valid.specs.Kinds.{IsFaultOf}
use Rattle.cov_valid.specs.Marks.{IsMarkBy, AreMarksBy}
use Rattle.cov_valid.specs.declared.mark.Kind.{Kind}
use Rattle.cov_valid.specs.declared.mark.Kind.TheVariants.{Meets, Repeated, SameSide, Inside, NarrowGap}
use Rattle.cov_valid.specs.declared.mark.Mark.{Mark}

-- a use is at fault in one kind at most
pub same_kind : (uses : List EdgeUse) (edge : EdgeUse) (a b : Kind) → IsFaultOf uses edge a → IsFaultOf uses edge b → a ≡ b
same_kind uses edge Meets Meets h k = refl
same_kind uses edge Meets Repeated h k = absurd (k.0 h)
same_kind uses edge Meets SameSide h k = absurd (k.0 h)
same_kind uses edge Meets Inside h k = absurd (k.0 h)
same_kind uses edge Repeated Meets h k = absurd (h.0 k)
same_kind uses edge Repeated Repeated h k = refl
same_kind uses edge Repeated SameSide h k = absurd (k.1 h.1)
same_kind uses edge Repeated Inside h k = absurd (k.1 h.1)
same_kind uses edge SameSide Meets h k = absurd (h.0 k)
same_kind uses edge SameSide Repeated h k = absurd (h.1 k.1)
same_kind uses edge SameSide SameSide h k = refl
same_kind uses edge SameSide Inside h k = absurd (k.2 h.2)
same_kind uses edge Inside Meets h k = absurd (h.0 k)
same_kind uses edge Inside Repeated h k = absurd (h.1 k.1)
same_kind uses edge Inside SameSide h k = absurd (h.2 k.2)
same_kind uses edge Inside Inside h k = refl
same_kind uses edge Meets NarrowGap h k = absurd k
same_kind uses edge Repeated NarrowGap h k = absurd k
same_kind uses edge SameSide NarrowGap h k = absurd k
same_kind uses edge Inside NarrowGap h k = absurd k
same_kind uses edge NarrowGap b h k = absurd h

-- two marks with the same parts are one
same_marks : (m n : Mark) → m.member ≡ n.member → m.place ≡ n.place → m.kind ≡ n.kind → m ≡ n
same_marks m n e f g = λ i. record { member = e i; place = f i; kind = g i }

-- the list has exactly the marks with a place before n, by ascending place
pub record AreMarksBefore (of : EdgeUse → Kind → Type 0) (uses : List EdgeUse) (n : ℕ) (marks : List Mark) : Type 0 where
  pub in_order : AllPairs (λ (a : Mark) (b : Mark). a.place < b.place) marks
  pub before : (m : Mark) → Contains marks m → m.place < n
  pub sound : (m : Mark) → Contains marks m → IsMarkBy of uses m
  pub complete : (m : Mark) → m.place < n → IsMarkBy of uses m → Contains marks m

pub AreMarksBefore-none : (of : EdgeUse → Kind → Type 0) (uses : List EdgeUse) → AreMarksBefore of uses 0 []
AreMarksBefore-none of uses = record {
  in_order = λ i j d h k. absurd (omega (arith, k));
  before = λ m h. absurd (omega (arith, h.1));
  sound = λ m h. absurd (omega (arith, h.1));
  complete = λ m h k. absurd (omega (arith, h));
}

-- the use that a loop over the uses comes to
pub use_at : (uses shown : List EdgeUse) (i : ℕ) (u : EdgeUse) → shown ≡ uses → i < length shown → u ≡ get_or shown i u → slice_get uses i ≡ Some u
use_at uses shown i u same within at =
    ap (λ (l : List EdgeUse). slice_get l i) (sym same) ∙ (slice_get-get_or shown i u within ∙ ap (λ (v : EdgeUse). Some v) (sym at))

-- the use that a mark at a place stands for
marked_at : (of : EdgeUse → Kind → Type 0) (uses : List EdgeUse) (i : ℕ) (u : EdgeUse) (m : Mark) → slice_get uses i ≡ Some u → m.place ≡ i → (mark : IsMarkBy of uses m) → mark.marked ≡ u
marked_at of uses i u m at here mark = same_Some mark.marked u (sym mark.at_place ∙ (ap (slice_get uses) here ∙ at))

-- the next use is at fault in no kind
pub AreMarksBefore-skip : (of : EdgeUse → Kind → Type 0) (uses : List EdgeUse) (i : ℕ) (u : EdgeUse) (marks : List Mark)
    → AreMarksBefore of uses i marks → slice_get uses i ≡ Some u → ((kind : Kind) → ¬ of u kind) → AreMarksBefore of uses (i + 1) marks
AreMarksBefore-skip of uses i u marks are at faultless = record {
  in_order = are.in_order;
  before = λ m h. let earlier : m.place < i = are.before m h in omega arith;
  sound = are.sound;
  complete = λ m below mark. elim (cases_lt m.place i) [
    | inl earlier ↦ are.complete m earlier mark
    | inr later ↦
        let here : m.place ≡ i = omega arith in
        absurd (faultless m.kind (subst (λ (v : EdgeUse). of v m.kind) (marked_at of uses i u m at here mark) mark.kind))
  ];
}

-- the next use is at fault, and its mark is put behind the others
pub AreMarksBefore-push : (of : EdgeUse → Kind → Type 0) (uses : List EdgeUse) (i : ℕ) (u : EdgeUse) (n : Mark) (marks : List Mark)
    → AreMarksBefore of uses i marks → slice_get uses i ≡ Some u → n.member ≡ u.member → n.place ≡ i → of u n.kind → ((kind : Kind) → of u kind → n.kind ≡ kind)
    → AreMarksBefore of uses (i + 1) (marks ++ n ∷ [])
AreMarksBefore-push of uses i u n marks are at member place kind only =
    let new_mark : IsMarkBy of uses n = record { marked = u; at_place = ap (slice_get uses) place ∙ at; member = member; kind = kind } in
    record {
      in_order = all_pairs_push (λ (a : Mark) (b : Mark). a.place < b.place) marks n are.in_order
          (λ k d h. let earlier : (get_or marks k d).place < i = are.before (get_or marks k d) (Contains-get_or marks k d h) in omega arith);
      before = λ m h. elim (Contains-push_cases marks n m h) [
        | inl old ↦ let earlier : m.place < i = are.before m old in omega arith
        | inr new ↦ let same : n.place ≡ m.place = ap (λ (x : Mark). x.place) new in omega arith
      ];
      sound = λ m h. elim (Contains-push_cases marks n m h) [
        | inl old ↦ are.sound m old
        | inr new ↦ subst (IsMarkBy of uses) new new_mark
      ];
      complete = λ m below mark. elim (cases_lt m.place i) [
        | inl earlier ↦ Contains-append_left marks (n ∷ []) m (are.complete m earlier mark)
        | inr later ↦
            let here : m.place ≡ i = omega arith in
            let use_is : mark.marked ≡ u = marked_at of uses i u m at here mark in
            let kind_is : n.kind ≡ m.kind = only m.kind (subst (λ (v : EdgeUse). of v m.kind) use_is mark.kind) in
            let same : n ≡ m = same_marks n m (member ∙ sym (mark.member ∙ ap (λ (v : EdgeUse). v.member) use_is)) (place ∙ sym here) kind_is in
            subst (Contains (marks ++ n ∷ [])) same (Contains-push marks n)
      ];
    }

-- after the last use the list has all marks
pub AreMarksBefore-all : (of : EdgeUse → Kind → Type 0) (uses : List EdgeUse) (i : ℕ) (marks : List Mark) → length uses ≤ i → AreMarksBefore of uses i marks → AreMarksBy of uses marks
AreMarksBefore-all of uses i marks past are = record {
  in_order = are.in_order;
  exact = λ m. (are.sound m, λ mark. let within : m.place < length uses = slice_get_within uses m.place mark.marked mark.at_place in are.complete m (omega arith) mark);
}

-- every mark has the place of a use
pub AreMarksBy-places : (of : EdgeUse → Kind → Type 0) (uses : List EdgeUse) (marks : List Mark) → AreMarksBy of uses marks → All (λ (m : Mark). m.place < length uses) marks
AreMarksBy-places of uses marks are k d h =
    let mark : IsMarkBy of uses (get_or marks k d) = (are.exact (get_or marks k d)).0 (Contains-get_or marks k d h) in
    slice_get_within uses (get_or marks k d).place mark.marked mark.at_place

-- every mark has the number of its use's member
pub AreMarksBy-members : (of : EdgeUse → Kind → Type 0) (uses : List EdgeUse) (members : ℕ) (marks : List Mark) → All (λ (u : EdgeUse). u.member < members) uses → AreMarksBy of uses marks → All (λ (m : Mark). m.member < members) marks
AreMarksBy-members of uses members marks in_range are k d h =
    let mark : IsMarkBy of uses (get_or marks k d) = (are.exact (get_or marks k d)).0 (Contains-get_or marks k d h) in
    let place : ℕ = (get_or marks k d).place in
    let use_at : get_or uses place mark.marked ≡ mark.marked = get_or_from_slice_get uses place mark.marked mark.marked mark.at_place in
    let below : (get_or uses place mark.marked).member < members = in_range place mark.marked (slice_get_within uses place mark.marked mark.at_place) in
    let member_at : (get_or uses place mark.marked).member ≡ mark.marked.member = ap (λ (u : EdgeUse). u.member) use_at in
    let member_is : (get_or marks k d).member ≡ mark.marked.member = mark.member in
    omega arith
