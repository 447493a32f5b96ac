-- Connected is an equivalence.
use Rattle.std.proofs.Common.{◌≡◌, refl, sym, subst, ℕ, ◌<◌, List, [], ◌∷◌, ◌++◌, inl, inr}
use Rattle.std.proofs.lemmas.List.Elements.{All-contains}
use Rattle.components.specs.declared.link.Link.{Link}
use Rattle.components.specs.Connected.{AreLinksWithin, IsTied, LeadsAlong, IsConnected}

-- a tie holds both ways
pub tied-sym : (links : List Link) (x y : ℕ) → IsTied links x y → IsTied links y x
tied-sym links x y tie = record {
  link = tie.link;
  among = tie.among;
  ends = elim tie.ends [ inl forwards ↦ inr forwards | inr back ↦ inl back ];
}

-- both nodes of a tie are within
pub tied-within : (nodes : ℕ) (links : List Link) (x y : ℕ) → AreLinksWithin nodes links → IsTied links x y → (x < nodes) × (y < nodes)
tied-within nodes links x y within tie =
    let (from, to) = All-contains (λ (l : Link). (l.from < nodes) × (l.to < nodes)) links tie.link within tie.among in
    elim tie.ends [
      | inl forwards ↦ (subst (λ z. z < nodes) forwards.0 from, subst (λ z. z < nodes) forwards.1 to)
      | inr back ↦ (subst (λ z. z < nodes) back.1 to, subst (λ z. z < nodes) back.0 from)
    ]

pub connected-same : (links : List Link) (x y : ℕ) → x ≡ y → IsConnected links x y
connected-same links x y same = ([], same)

pub connected-tied : (links : List Link) (x y : ℕ) → IsTied links x y → IsConnected links x y
connected-tied links x y tie = (y ∷ [], (tie, refl))

-- two ways, one after the other
pub leads-join : (links : List Link) (x y z : ℕ) (way more : List ℕ) → LeadsAlong links x way y → LeadsAlong links y more z → LeadsAlong links x (way ++ more) z
leads-join links x y z [] more first second = subst (λ v. LeadsAlong links v more z) (sym first) second
leads-join links x y z (v ∷ way) more first second = (first.0, leads-join links v y z way more first.1 second)

pub connected-trans : (links : List Link) (x y z : ℕ) → IsConnected links x y → IsConnected links y z → IsConnected links x z
connected-trans links x y z (way, first) (more, second) = (way ++ more, leads-join links x y z way more first second)

leads-back : (links : List Link) (x y : ℕ) (way : List ℕ) → LeadsAlong links x way y → IsConnected links y x
leads-back links x y [] same = connected-same links y x (sym same)
leads-back links x y (v ∷ way) leads =
    connected-trans links y v x (leads-back links v y way leads.1) (connected-tied links v x (tied-sym links x v leads.0))

pub connected-sym : (links : List Link) (x y : ℕ) → IsConnected links x y → IsConnected links y x
connected-sym links x y (way, leads) = leads-back links x y way leads

leads-within : (nodes : ℕ) (links : List Link) (x y : ℕ) (way : List ℕ) → AreLinksWithin nodes links → x < nodes → LeadsAlong links x way y → y < nodes
leads-within nodes links x y [] within below same = subst (λ z. z < nodes) same below
leads-within nodes links x y (v ∷ way) within below leads = leads-within nodes links v y way within (tied-within nodes links x v within leads.0).1 leads.1

pub connected-within : (nodes : ℕ) (links : List Link) (x y : ℕ) → AreLinksWithin nodes links → x < nodes → IsConnected links x y → y < nodes
connected-within nodes links x y within below (way, leads) = leads-within nodes links x y way within below leads
