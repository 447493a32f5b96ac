-- The table of partners, as the ends are gone over.
use Rattle.std.proofs.Common.{◌≡◌, ◌≢◌, ◌⊎◌, refl, sym, ◌∙◌, ap, subst, ℕ, ◌+◌, ◌<◌, ◌≤◌, Bool, true, false, cond, List, length, get_or, set, Option, Some, None, inl, inr, arith}
use Rattle.std.specs.Prelude.{slice_get, IsPermutation}
use Rattle.std.proofs.lemmas.Bool.{cases_order, true≢false, false≢true}
use Rattle.std.proofs.lemmas.List.{get_or-set_same, get_or-set_other}
use Rattle.std.proofs.lemmas.List.Sorted.{Contains-permutation, IsPermutation-sym}
use Rattle.std.proofs.lemmas.Option.{slice_get_within, slice_get-get_or, get_or_from_slice_get, same_Some}
use Rattle.std.proofs.Math.ListN.{length-set}
use Rattle.cov_types.specs.declared.coord.Coord.{Coord}
use Rattle.cov_types.specs.declared.seg.Seg.{Seg}
use Rattle.cov_types.specs.Coord.{is_same_coord}
use Rattle.cov_types.proofs.Equal.{Decides-same_coords}
use Rattle.line_walk.specs.declared.edge_end.EdgeEnd.{EdgeEnd}
use Rattle.line_walk.specs.declared.partners.Partners.{Partners}
use Rattle.line_walk.specs.Ends.{ends_from, IsOtherThere}
use Rattle.line_walk.specs.Partners.{IsAtVertex, HasEndAt, IsPartnerOrNone, partner_at, with_partner, ArePartners}
use Rattle.line_walk.proofs.EndsOf.{end_of_edge, has_ends, permuted-degree, one_place}

-- the partners are right at the first so many ends
pub record ArePartnersTo (edges : List Seg) (ends : List EdgeEnd) (count : ℕ) (partners : List Partners) : Type 0 where
  pub size : length partners ≡ length edges
  pub each : (j : ℕ) (d : EdgeEnd) (e : Seg) (p : Partners) → j < count → slice_get ends j ≡ Some d → slice_get edges d.edge ≡ Some e → slice_get partners d.edge ≡ Some p → IsPartnerOrNone edges d.vertex d.edge (partner_at e d.vertex p)

pub partners_none : (edges : List Seg) (ends : List EdgeEnd) (partners : List Partners) → length partners ≡ length edges → ArePartnersTo edges ends 0 partners
partners_none edges ends partners size = record { size = size; each = λ j d e p less. absurd (omega arith) }

module _ (edges : List Seg) (ends : List EdgeEnd) (moved : IsPermutation (ends_from 0 edges) ends) where
  pub its_edge : (i : ℕ) (d : EdgeEnd) → slice_get ends i ≡ Some d → HasEndAt edges d.edge d.vertex
  its_edge i d at =
      let within = slice_get_within ends i d at in
      let there = Contains-permutation ends (ends_from 0 edges) d (IsPermutation-sym (ends_from 0 edges) ends moved) (i, within, get_or_from_slice_get ends i d d at) in
      let of = end_of_edge 0 edges there.0 d (slice_get-get_or (ends_from 0 edges) there.0 d there.1 ∙ ap Some there.2) in
      let z : of.place ≡ d.edge = (let n = of.numbered in omega (arith, n)) in
      (of.edge, (subst (λ k. slice_get edges k ≡ Some of.edge) z of.at, of.end))

  pub its_within : (i : ℕ) (x : EdgeEnd) → i < length ends → (get_or ends i x).edge < length edges
  its_within i x within = let (e, has) = its_edge i (get_or ends i x) (slice_get-get_or ends i x within) in slice_get_within edges (get_or ends i x).edge e has.0

  -- the other end's edge is the partner
  pub partner_is : (i : ℕ) (d : EdgeEnd) → slice_get ends i ≡ Some d → (other : Option ℕ) → IsOtherThere ends i d.vertex other → IsPartnerOrNone edges d.vertex d.edge other
  partner_is i d at None h = λ two. h (permuted-degree edges ends moved d.vertex ∙ two)
  partner_is i d at (Some k) h = record {
    two = sym (permuted-degree edges ends moved d.vertex) ∙ h.two;
    differs = λ same. h.differs (one_place edges ends moved d.vertex d.edge h.place i (subst (λ n. slice_get ends h.place ≡ Some (record { vertex = d.vertex; edge = n })) same h.at) at);
    ends = its_edge h.place (record { vertex = d.vertex; edge = k }) h.at;
  }

  module _ (partners : List Partners) (i : ℕ) (d : EdgeEnd) (at : slice_get ends i ≡ Some d) (before : ArePartnersTo edges ends i partners) (e : Seg) (is : slice_get edges d.edge ≡ Some e) (own : Partners) (other : Option ℕ)
      (old : slice_get partners d.edge ≡ Some own) (there : IsOtherThere ends i d.vertex other)
    where
      abbrev now : List Partners
      now = set partners d.edge (with_partner e d.vertex other own)

      here : slice_get now d.edge ≡ Some (with_partner e d.vertex other own)
      here =
          let within = slice_get_within partners d.edge own old in
          slice_get-get_or now d.edge own (omega (arith, length-set partners d.edge (with_partner e d.vertex other own)))
          ∙ ap Some (get_or-set_same partners d.edge (with_partner e d.vertex other own) own within)

      elsewhere : (k : ℕ) (p : Partners) → k ≢ d.edge → slice_get now k ≡ Some p → slice_get partners k ≡ Some p
      elsewhere k p differs at_k =
          let within = slice_get_within now k p at_k in
          slice_get-get_or partners k p (omega (arith, length-set partners d.edge (with_partner e d.vertex other own)))
          ∙ ap Some (sym (get_or-set_other partners d.edge k (with_partner e d.vertex other own) p differs) ∙ get_or_from_slice_get now k p p at_k)

      same_end : (v : Coord) → IsAtVertex e v → IsAtVertex e d.vertex → is_same_coord e.lo v ≡ is_same_coord e.lo d.vertex → v ≡ d.vertex
      same_end v (inl a) (inl b) same = sym a ∙ b
      same_end v (inr a) (inr b) same = sym a ∙ b
      same_end v (inl a) (inr b) same = sym a ∙ (Decides-same_coords e.lo d.vertex).0 (sym same ∙ (Decides-same_coords e.lo v).1 a)
      same_end v (inr a) (inl b) same = sym ((Decides-same_coords e.lo v).0 (same ∙ (Decides-same_coords e.lo d.vertex).1 b)) ∙ b

      abbrev changed : Bool → Partners
      changed b = cond b (record { at_lo = other; at_hi = own.at_hi }) (record { at_lo = own.at_lo; at_hi = other })

      at_same : (a b : Bool) → a ≡ b → cond a (changed b).at_lo (changed b).at_hi ≡ other
      at_same true true h = refl
      at_same false false h = refl
      at_same true false h = absurd (true≢false h)
      at_same false true h = absurd (false≢true h)

      at_other : (a b : Bool) → a ≢ b → cond a (changed b).at_lo (changed b).at_hi ≡ cond a own.at_lo own.at_hi
      at_other true true h = absurd (h refl)
      at_other false false h = absurd (h refl)
      at_other true false h = refl
      at_other false true h = refl

      same_or_not : (a b : Bool) → (a ≡ b) ⊎ (a ≢ b)
      same_or_not true true = inl refl
      same_or_not false false = inl refl
      same_or_not true false = inr true≢false
      same_or_not false true = inr false≢true

      -- at another end of the same edge, or at this one
      at_edge : (v : Coord) → IsAtVertex e v → IsAtVertex e d.vertex → IsPartnerOrNone edges v d.edge (partner_at e v own) ⊎ (v ≡ d.vertex) → IsPartnerOrNone edges v d.edge (partner_at e v (with_partner e d.vertex other own))
      at_edge v end its either = by (same_or_not (is_same_coord e.lo v) (is_same_coord e.lo d.vertex)) either
        where
          by : (is_same_coord e.lo v ≡ is_same_coord e.lo d.vertex) ⊎ (is_same_coord e.lo v ≢ is_same_coord e.lo d.vertex) → IsPartnerOrNone edges v d.edge (partner_at e v own) ⊎ (v ≡ d.vertex)
              → IsPartnerOrNone edges v d.edge (partner_at e v (with_partner e d.vertex other own))
          by (inl same) either =
              subst (IsPartnerOrNone edges v d.edge) (sym (at_same (is_same_coord e.lo v) (is_same_coord e.lo d.vertex) same))
              (subst (λ q. IsPartnerOrNone edges q d.edge other) (sym (same_end v end its same)) (partner_is i d at other there))
          by (inr differ) (inl right) = subst (IsPartnerOrNone edges v d.edge) (sym (at_other (is_same_coord e.lo v) (is_same_coord e.lo d.vertex) differ)) right
          by (inr differ) (inr same) = absurd (differ (ap (is_same_coord e.lo) same))

      at_one : (f : Seg) → slice_get edges d.edge ≡ Some f → f ≡ e
      at_one f at_f = same_Some f e (sym at_f ∙ is)

      its_end : IsAtVertex e d.vertex
      its_end = let own_edge = its_edge i d at in subst (λ f. IsAtVertex f d.vertex) (at_one own_edge.0 own_edge.1.0) own_edge.1.1

      later : (j : ℕ) (g : EdgeEnd) (f : Seg) (p : Partners) → j < i + 1 → slice_get ends j ≡ Some g → slice_get edges g.edge ≡ Some f → slice_get now g.edge ≡ Some p → IsPartnerOrNone edges g.vertex g.edge (partner_at f g.vertex p)
      later j g f p less at_g at_f at_p = elim (cases_order g.edge d.edge) [
        | inl same ↦ (
            let f_is : f ≡ e = at_one f (subst (λ k. slice_get edges k ≡ Some f) same at_f) in
            let p_is : p ≡ with_partner e d.vertex other own = same_Some p (with_partner e d.vertex other own) (sym (subst (λ k. slice_get now k ≡ Some p) same at_p) ∙ here) in
            let own_end = its_edge j g at_g in
            let end : IsAtVertex e g.vertex = subst (λ s. IsAtVertex s g.vertex) (same_Some own_end.0 e (sym own_end.1.0 ∙ ap (slice_get edges) same ∙ is)) own_end.1.1 in
            let right : IsPartnerOrNone edges g.vertex d.edge (partner_at e g.vertex own) ⊎ (g.vertex ≡ d.vertex) = elim (cases_order j i) [
              | inl one ↦ inr (ap (λ (x : EdgeEnd). x.vertex) (same_Some g d (sym at_g ∙ ap (slice_get ends) one ∙ at)))
              | inr rest ↦ elim rest [
                | inl earlier ↦ inl (subst (λ k. IsPartnerOrNone edges g.vertex k (partner_at e g.vertex own)) same (before.each j g e own earlier at_g (ap (slice_get edges) same ∙ is) (ap (slice_get partners) same ∙ old)))
                | inr past ↦ absurd (omega arith)
              ]
            ] in
            subst (λ k. IsPartnerOrNone edges g.vertex k (partner_at f g.vertex p)) (sym same)
            (subst (λ s. IsPartnerOrNone edges g.vertex d.edge (partner_at s g.vertex p)) (sym f_is)
            (subst (λ q. IsPartnerOrNone edges g.vertex d.edge (partner_at e g.vertex q)) (sym p_is) (at_edge g.vertex end its_end right))))
        | inr apart ↦ (
            let differs : g.edge ≢ d.edge = λ same. elim apart [ inl low ↦ omega (arith, same, low) | inr high ↦ omega (arith, same, high) ] in
            elim (cases_order j i) [
              | inl one ↦ absurd (differs (ap (λ (x : EdgeEnd). x.edge) (same_Some g d (sym at_g ∙ ap (slice_get ends) one ∙ at))))
              | inr rest ↦ elim rest [
                | inl earlier ↦ before.each j g f p earlier at_g at_f (elsewhere g.edge p differs at_p)
                | inr past ↦ absurd (omega arith)
              ]
            ])
      ]

      pub partners_more : ArePartnersTo edges ends (i + 1) now
      partners_more = record { size = length-set partners d.edge (with_partner e d.vertex other own) ∙ before.size; each = later }

  pub partners_all : (partners : List Partners) (count : ℕ) → length ends ≤ count → ArePartnersTo edges ends count partners → ArePartners edges partners
  partners_all partners count all h = record {
    size = h.size;
    each = λ k e p v at at_p end. (
        let there = Contains-permutation (ends_from 0 edges) ends (record { vertex = v; edge = 0 + k }) moved (has_ends 0 edges k e at v end) in
        let z : 0 + k ≡ k = omega arith in
        let at_end : slice_get ends there.0 ≡ Some (record { vertex = v; edge = k }) = slice_get-get_or ends there.0 (record { vertex = v; edge = 0 + k }) there.1 ∙ ap Some there.2 ∙ ap (λ n. Some (record { vertex = v; edge = n })) z in
        let within = there.1 in
        h.each there.0 (record { vertex = v; edge = k }) e p (omega arith) at_end at at_p);
  }
