-- What callers know of the numbers of components.
use Rattle.std.proofs.Common.{◌≡◌, refl, sym, subst, ℕ, ◌<◌, ◌≤◌, List, get_or, arith}
use Rattle.components.specs.declared.link.Link.{Link}
use Rattle.components.specs.Connected.{IsConnected, AreComponents}
use Rattle.components.proofs.Ways.{connected-same, connected-sym, connected-trans}

-- the number of a node is not past the node
pub number-low : (nodes : ℕ) (links : List Link) (numbers : List ℕ) (x : ℕ) → AreComponents nodes links numbers → x < nodes → get_or numbers x 0 ≤ x
number-low nodes links numbers x all below = all.least x x below (connected-same links x x refl)

-- connected nodes have one number
pub same_component : (nodes : ℕ) (links : List Link) (numbers : List ℕ) (x y : ℕ) → AreComponents nodes links numbers → x < nodes → y < nodes
    → IsConnected links x y → get_or numbers x 0 ≡ get_or numbers y 0
same_component nodes links numbers x y all x_below y_below way =
    let first = all.least x (get_or numbers y 0) x_below (connected-trans links x y (get_or numbers y 0) way (all.own y y_below)) in
    let second = all.least y (get_or numbers x 0) y_below (connected-trans links y x (get_or numbers x 0) (connected-sym links x y way) (all.own x x_below)) in
    omega (arith, first, second)

-- nodes with one number are connected
pub same_number : (nodes : ℕ) (links : List Link) (numbers : List ℕ) (x y : ℕ) → AreComponents nodes links numbers → x < nodes → y < nodes
    → get_or numbers x 0 ≡ get_or numbers y 0 → IsConnected links x y
same_number nodes links numbers x y all x_below y_below same =
    let back = connected-sym links y (get_or numbers y 0) (all.own y y_below) in
    connected-trans links x (get_or numbers x 0) y (all.own x x_below) (subst (λ z. IsConnected links z y) (sym same) back)

-- the number of a node has itself as its number
pub own_number : (nodes : ℕ) (links : List Link) (numbers : List ℕ) (x : ℕ) → AreComponents nodes links numbers → x < nodes
    → get_or numbers (get_or numbers x 0) 0 ≡ get_or numbers x 0
own_number nodes links numbers x all below =
    let low = number-low nodes links numbers x all below in
    sym (same_component nodes links numbers x (get_or numbers x 0) all below (omega (arith, low, below)) (all.own x below))

-- there is one such list of numbers only, at each node
pub number-only : (nodes : ℕ) (links : List Link) (numbers others : List ℕ) (x : ℕ) → AreComponents nodes links numbers → AreComponents nodes links others → x < nodes
    → get_or numbers x 0 ≡ get_or others x 0
number-only nodes links numbers others x all also below =
    let first = all.least x (get_or others x 0) below (also.own x below) in
    let second = also.least x (get_or numbers x 0) below (all.own x below) in
    omega (arith, first, second)
