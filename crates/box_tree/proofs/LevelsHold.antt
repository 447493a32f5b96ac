-- The levels of a packed tree: reading one, and adding one.
use Rattle.std.proofs.Common.{◌≡◌, ℕ, zero, suc, ◌+◌, ◌<◌, List, [], ◌∷◌, ◌++◌, length, get_or, refl, ap, ◌∙◌, sym, subst, arith, Vec, Global, length-append, inl, inr}
use Rattle.std.proofs.lemmas.Bool.{cases_lt}
use Rattle.box_tree.proofs.Descent.{fewer_hulls}
use Rattle.box_tree.specs.Hulls.{AreHulls}
use Rattle.box_tree.specs.Levels.{IsPacked, level_at}
use Rattle.box_tree.specs.declared.rect.Rect.{Rect}

-- the level that is read
pub level_at-read : (levels : List (Vec Rect Global)) (k : ℕ) (v : Vec Rect Global) → k < length levels → v ≡ get_or levels k v → level_at levels k ≡ v.items
level_at-read [] k v h e = absurd (omega arith)
level_at-read (level ∷ levels) zero v h e = ap (λ (w : Vec Rect Global). w.items) (sym e)
level_at-read (level ∷ levels) (suc k) v h e = level_at-read levels k v (omega arith) e

-- a level more leaves the others
pub level_at-front : (levels more : List (Vec Rect Global)) (k : ℕ) → k < length levels → level_at (levels ++ more) k ≡ level_at levels k
level_at-front [] more k h = absurd (omega arith)
level_at-front (level ∷ levels) more zero h = refl
level_at-front (level ∷ levels) more (suc k) h = level_at-front levels more k (omega arith)

pub level_at-last : (levels : List (Vec Rect Global)) (v : Vec Rect Global) → level_at (levels ++ v ∷ []) (length levels) ≡ v.items
level_at-last [] v = refl
level_at-last (level ∷ levels) v = level_at-last levels v

-- a tree of one level
pub packed_one : (v : Vec Rect Global) (levels : List (Vec Rect Global)) → levels ≡ v ∷ [] → IsPacked levels × (level_at levels 0 ≡ v.items)
packed_one v levels e =
    subst (λ (ls : List (Vec Rect Global)). IsPacked ls × (level_at ls 0 ≡ v.items)) (sym e)
    (record { some = omega arith; hulls = λ k h. absurd (omega arith) }, refl)

along : {hulls boxes hulls' boxes' : List Rect} → hulls' ≡ hulls → boxes' ≡ boxes → AreHulls hulls boxes → AreHulls hulls' boxes'
along {hulls} {boxes} {hulls'} {boxes'} e f h = subst (λ (hs : List Rect). AreHulls hs boxes') (sym e) (subst (λ (bs : List Rect). AreHulls hulls bs) (sym f) h)

-- the hulls of the last level make a level more
pub packed_more : (levels : List (Vec Rect Global)) (top : ℕ) (v : Vec Rect Global) → top + 1 ≡ length levels → IsPacked levels → AreHulls v.items (level_at levels top) → IsPacked (levels ++ v ∷ [])
packed_more levels top v last packed h =
    let longer : length (levels ++ v ∷ []) ≡ length levels + 1 = length-append levels (v ∷ []) in
    record {
      some = omega arith;
      hulls = λ k below. elim (cases_lt (suc k) (length levels)) [
        | inl h' ↦ along (level_at-front levels (v ∷ []) (suc k) h') (level_at-front levels (v ∷ []) k (omega arith)) (packed.hulls k h')
        | inr h' ↦
            let at_top : suc k ≡ length levels = omega arith in
            let under : k ≡ top = omega arith in
            along (ap (level_at (levels ++ v ∷ [])) at_top ∙ level_at-last levels v) (ap (level_at (levels ++ v ∷ [])) under ∙ level_at-front levels (v ∷ []) top (omega arith)) h
      ];
    }

-- the hulls of a level are above it
pub hulls_above : (levels : List (Vec Rect Global)) (depth k : ℕ) → IsPacked levels → k + 1 ≡ depth → depth < length levels → AreHulls (level_at levels depth) (level_at levels k)
hulls_above levels depth k packed e lt =
    let next : depth ≡ suc k = omega arith in
    along (ap (level_at levels) next) refl (packed.hulls k (omega arith))

-- what a step of the building does: the last level's hulls stand above it, the lowest level is as before, and the new last level is shorter
pub record IsGrown (levels later : List (Vec Rect Global)) (top : ℕ) : Type 0 where
  pub packed : IsPacked later
  pub lowest : level_at later 0 ≡ level_at levels 0
  pub last : (top + 1) + 1 ≡ length later
  pub shorter : 8 < length (level_at levels top) → length (level_at later (top + 1)) < length (level_at levels top)

pub grown : (levels later : List (Vec Rect Global)) (top : ℕ) (v hulls : Vec Rect Global) → top + 1 ≡ length levels → IsPacked levels
    → v ≡ get_or levels top v → AreHulls hulls.items v.items → later ≡ levels ++ hulls ∷ [] → IsGrown levels later top
grown levels later top v hulls last packed read h e =
    let under : level_at levels top ≡ v.items = level_at-read levels top v (omega arith) read in
    let above : AreHulls hulls.items (level_at levels top) = along refl under h in
    subst (λ (ls : List (Vec Rect Global)). IsGrown levels ls top) (sym e) (record {
      packed = packed_more levels top hulls last packed above;
      lowest = level_at-front levels (hulls ∷ []) 0 packed.some;
      last = omega (arith, length-append levels (hulls ∷ []));
      shorter = λ many.
          let here : level_at (levels ++ hulls ∷ []) (top + 1) ≡ hulls.items = ap (level_at (levels ++ hulls ∷ [])) last ∙ level_at-last levels hulls in
          let fewer : length hulls.items < length (level_at levels top) = fewer_hulls hulls.items (level_at levels top) above many in
          subst (λ (bs : List Rect). length bs < length (level_at levels top)) (sym here) fewer;
    })

-- the last level is long, by its length as it is read
pub long_top : (levels : List (Vec Rect Global)) (top : ℕ) (v : Vec Rect Global) (n : ℕ) → top + 1 ≡ length levels → v ≡ get_or levels top v → n ≡ v.len → 8 < n → 8 < length (level_at levels top)
long_top levels top v n last read len many =
    let under : level_at levels top ≡ v.items = level_at-read levels top v (omega arith) read in
    subst (λ (bs : List Rect). 8 < length bs) (sym under) (omega (arith, v.ok))
