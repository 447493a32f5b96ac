-- A point lies in one place.
use Rattle.std.proofs.Common.{◌≡◌, refl, sym, ap, ◌∙◌, ℕ, ◌<◌, true≢false, List, arith, inl, inr}
use Rattle.std.proofs.lemmas.Bool.{cases_lt}
use Rattle.cov_locate.specs.Where.{IsLeastHolder, IsWhere}
use Rattle.cov_locate.specs.declared.place.Where.{Where}
use Rattle.cov_locate.specs.declared.place.Where.TheVariants.{Edge, Member, Nowhere}
use Rattle.cov_types.specs.declared.coord.Coord.{Coord}
use Rattle.cov_types.specs.declared.edge_use.EdgeUse.{EdgeUse}

module _ (uses : List EdgeUse) (p : Coord) where
  not_less : (m n : ℕ) → IsLeastHolder uses p m → IsLeastHolder uses p n → ¬ (m < n)
  not_less m n first second less = true≢false (sym first.holds ∙ second.least m less)

  -- one member is the least that holds a point
  one_least : (m n : ℕ) → IsLeastHolder uses p m → IsLeastHolder uses p n → m ≡ n
  one_least m n first second =
      elim (cases_lt m n) [
        | inl less ↦ absurd (not_less m n first second less)
        | inr above ↦ elim (cases_lt n m) [ inl less ↦ absurd (not_less n m second first less) | inr below ↦ omega (arith, above, below) ]
      ]

  pub one_where : (first second : Where) → IsWhere uses p first → IsWhere uses p second → first ≡ second
  one_where Edge Edge is also = refl
  one_where Edge (Member n) is also = absurd (also.0 is)
  one_where Edge Nowhere is also = absurd (also.0 is)
  one_where (Member m) Edge is also = absurd (is.0 also)
  one_where (Member m) (Member n) is also = ap Member (one_least m n is.1 also.1)
  one_where (Member m) Nowhere is also = absurd (true≢false (sym is.1.holds ∙ also.1 m))
  one_where Nowhere Edge is also = absurd (is.0 also)
  one_where Nowhere (Member n) is also = absurd (true≢false (sym also.1.holds ∙ is.1 n))
  one_where Nowhere Nowhere is also = refl
