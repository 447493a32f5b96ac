-- Of two edges below a point one is nearer, and nearer than what is farther.
use mathlib.Core.List.{List, [], ◌∷◌}
use Rattle.std.proofs.Common.{◌≡◌, sym, subst, ℕ, ◌<◌, length, get_or, Contains, pos, ◌-ℤ◌, ◌*ℤ◌, ◌<ℤ◌, ◌⊎◌, inl, inr, IsTrue, arith}
use Rattle.std.proofs.lemmas.List.Elements.{All-contains, Contains-get_or}
use Rattle.cov_types.specs.declared.seg.Seg.{Seg}
use Rattle.cov_types.specs.Range.{IsSegInRange}
use Rattle.integer_laws.proofs.Ring.{lin}
use Rattle.integer_laws.proofs.Sign.{positive_times_positive, positive_factor}
use Rattle.plane.specs.Point.{Point, at_coord}
use Rattle.plane.specs.Segment.{side}
use Rattle.plane.specs.Ray.{sweep}
use Rattle.plane.proofs.Points.{d_positive}
use Rattle.plane.proofs.Sweeps.{rises-in_range}
use Rattle.crossing_laws.proofs.Lists.{contains_here, contains_there}
use Rattle.sector_laws.specs.Sector.{IsPlanar}
use Rattle.region_laws.specs.Below.{is_under, IsBelow, sweep_rise, IsNearer, IsNearestBelow}
use Rattle.region_laws.proofs.Down.{tie}
use Rattle.region_laws.proofs.Edge.{under-is}
use Rattle.region_laws.proofs.Nearest.{nearest_or_none}
use Rattle.region_laws.proofs.Balance.{first_or_later}

-- ---- not both are nearer

-- as far below p, and e leads on above f
lead : (p : Point) (e f : Seg) → IsSegInRange e → IsTrue (is_under e p) → (side e p *ℤ sweep_rise f) ≡ (side f p *ℤ sweep_rise e) → pos 0 <ℤ side f (at_coord e.hi)
    → pos 0 <ℤ ((sweep_rise e *ℤ (f.hi.x -ℤ f.lo.x)) -ℤ (sweep_rise f *ℤ (e.hi.x -ℤ e.lo.x)))
lead p e f r u even above =
    let up = rises-in_range e r in
    let under = (under-is e p).0 u in
    let deep = positive_times_positive {x = sweep_rise e} {y = pos p.d} (omega (arith, lin)) (d_positive p) in
    let product = positive_times_positive {x = sweep_rise e *ℤ pos p.d} {y = side f (at_coord e.hi)} deep above in
    positive_factor ((sweep (at_coord e.hi) *ℤ pos p.d) -ℤ sweep p) ((sweep_rise e *ℤ (f.hi.x -ℤ f.lo.x)) -ℤ (sweep_rise f *ℤ (e.hi.x -ℤ e.lo.x)))
    (omega (arith, lin, under.to)) (omega (arith, lin, tie e f p))

pub nearer-asymm : (p : Point) (e f : Seg) → IsSegInRange e → IsSegInRange f → IsTrue (is_under e p) → IsTrue (is_under f p) → IsNearer p e f → IsNearer p f e → ⊥
nearer-asymm p e f re rf ue uf nearer back =
    elim nearer [
      | inl less ↦ elim back [ inl more ↦ omega (arith, lin) | inr even ↦ (let q = even.0 in omega (arith, lin)) ]
      | inr as_far ↦ elim back [
        | inl more ↦ (let q = as_far.0 in omega (arith, lin))
        | inr again ↦ (
            let first = lead p e f re ue as_far.0 as_far.1 in
            let second = lead p f e rf uf again.0 again.1 in
            omega (arith, lin)
            )
      ]
    ]

-- ---- fewer edges

pub planar-fewer : (edges fewer : List Seg) → ((e : Seg) → Contains fewer e → Contains edges e) → IsPlanar edges → IsPlanar fewer
planar-fewer edges fewer among planar = record {
  in_range = in_range fewer among;
  noded = λ e f i j. planar.noded e f (among e i) (among f j);
}
  where
    in_range : (some : List Seg) → ((e : Seg) → Contains some e → Contains edges e) → (k : ℕ) (d : Seg) → k < length some → IsSegInRange (get_or some k d)
    in_range some all k d below = All-contains IsSegInRange edges (get_or some k d) planar.in_range (all (get_or some k d) (Contains-get_or some k d below))

pub in_range_of : (edges : List Seg) → IsPlanar edges → (e : Seg) → Contains edges e → IsSegInRange e
in_range_of edges planar e c = All-contains IsSegInRange edges e planar.in_range c

-- ---- one of two is nearer, and of three one

module _ (edges : List Seg) (planar : IsPlanar edges) (p : Point) where
  nearer_back : (e f : Seg) → IsBelow edges p e → IsBelow edges p f → IsNearer p e f → (f ≡ e) ⊎ IsNearer p f e → ⊥
  nearer_back e f b c h back =
      let re = in_range_of edges planar e b.among in
      let rf = in_range_of edges planar f c.among in
      elim back [
        | inl same ↦ (let again = subst (λ x. IsNearer p e x) same h in nearer-asymm p e e re re b.under b.under again again)
        | inr nearer ↦ nearer-asymm p e f re rf b.under c.under h nearer
      ]

  pub nearer-total : (e f : Seg) → IsBelow edges p e → IsBelow edges p f → (e ≡ f) ⊎ (IsNearer p e f ⊎ IsNearer p f e)
  nearer-total e f b c =
      let two = e ∷ f ∷ [] in
      let among = λ (x : Seg) (i : Contains two x). (elim (first_or_later e (f ∷ []) x i) as (λ _. Contains edges x) [
        | inl one ↦ subst (λ y. Contains edges y) one b.among
        | inr later ↦ elim (first_or_later f [] x later) as (λ _. Contains edges x) [
          | inl one ↦ subst (λ y. Contains edges y) one c.among
          | inr none ↦ absurd (omega (arith, none.1))
        ]
      ]) in
      let below_e : IsBelow two p e = record { among = contains_here e (f ∷ []); under = b.under } in
      let below_f : IsBelow two p f = record { among = contains_there e f (f ∷ []) (contains_here f []); under = c.under } in
      elim (nearest_or_none two (planar-fewer edges two among planar) p) [
        | inr none ↦ absurd (none e below_e)
        | inl found ↦ elim (first_or_later e (f ∷ []) found.0 found.1.below.among) [
          | inl is_e ↦ elim (subst (λ x. (x ≡ f) ⊎ IsNearer p x f) (sym is_e) (found.1.nearest f below_f)) as (λ _. (e ≡ f) ⊎ (IsNearer p e f ⊎ IsNearer p f e)) [
            | inl same ↦ inl same
            | inr nearer ↦ inr (inl nearer)
          ]
          | inr later ↦ elim (first_or_later f [] found.0 later) [
            | inl is_f ↦ elim (subst (λ x. (x ≡ e) ⊎ IsNearer p x e) (sym is_f) (found.1.nearest e below_e)) as (λ _. (e ≡ f) ⊎ (IsNearer p e f ⊎ IsNearer p f e)) [
              | inl same ↦ inl (sym same)
              | inr nearer ↦ inr (inr nearer)
            ]
            | inr none ↦ absurd (omega (arith, none.1))
          ]
        ]
      ]

  pub nearer-trans : (e f g : Seg) → IsBelow edges p e → IsBelow edges p f → IsBelow edges p g → IsNearer p e f → IsNearer p f g → (e ≡ g) ⊎ IsNearer p e g
  nearer-trans e f g b c d h k =
      let three = e ∷ f ∷ g ∷ [] in
      let among = λ (x : Seg) (i : Contains three x). (elim (first_or_later e (f ∷ g ∷ []) x i) as (λ _. Contains edges x) [
        | inl one ↦ subst (λ y. Contains edges y) one b.among
        | inr later ↦ elim (first_or_later f (g ∷ []) x later) as (λ _. Contains edges x) [
          | inl one ↦ subst (λ y. Contains edges y) one c.among
          | inr last ↦ elim (first_or_later g [] x last) as (λ _. Contains edges x) [
            | inl one ↦ subst (λ y. Contains edges y) one d.among
            | inr none ↦ absurd (omega (arith, none.1))
          ]
        ]
      ]) in
      let below_e : IsBelow three p e = record { among = contains_here e (f ∷ g ∷ []); under = b.under } in
      let below_f : IsBelow three p f = record { among = contains_there e f (f ∷ g ∷ []) (contains_here f (g ∷ [])); under = c.under } in
      let below_g : IsBelow three p g = record { among = contains_there e g (f ∷ g ∷ []) (contains_there f g (g ∷ []) (contains_here g [])); under = d.under } in
      elim (nearest_or_none three (planar-fewer edges three among planar) p) [
        | inr none ↦ absurd (none e below_e)
        | inl found ↦ elim (first_or_later e (f ∷ g ∷ []) found.0 found.1.below.among) [
          | inl is_e ↦ subst (λ x. (x ≡ g) ⊎ IsNearer p x g) (sym is_e) (found.1.nearest g below_g)
          | inr later ↦ elim (first_or_later f (g ∷ []) found.0 later) [
            | inl is_f ↦ absurd (nearer_back e f b c h (subst (λ x. (x ≡ e) ⊎ IsNearer p x e) (sym is_f) (found.1.nearest e below_e)))
            | inr last ↦ elim (first_or_later g [] found.0 last) [
              | inl is_g ↦ absurd (nearer_back f g c d k (subst (λ x. (x ≡ f) ⊎ IsNearer p x f) (sym is_g) (found.1.nearest f below_f)))
              | inr none ↦ absurd (omega (arith, none.1))
            ]
          ]
        ]
      ]

  -- so one edge is nearest
  pub one_nearest : (e f : Seg) → IsNearestBelow edges p e → IsNearestBelow edges p f → e ≡ f
  one_nearest e f h k =
      elim (h.nearest f k.below) [
        | inl same ↦ same
        | inr nearer ↦ absurd (nearer_back e f h.below k.below nearer (k.nearest e h.below))
      ]
