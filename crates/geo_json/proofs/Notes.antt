-- What is noted of some parts and then of others is noted of all of them.
use Rattle.std.proofs.Common.{◌≡◌, ℕ, ◌+◌, List, [], ◌∷◌, ◌++◌, length, flat_map, Option, Some, None, refl, ap, ◌∙◌, sym, arith, append_assoc, length-append}
use Rattle.std.proofs.lemmas.List.{append-nil}
use Rattle.std.specs.Option.{option_or}
use Rattle.std.proofs.lemmas.Grind.{flat_map-append}
use Rattle.serde_json.specs.Data.{Num}
use Rattle.geo_json.specs.Shape.{Position, RingShape, PolygonShape}
use Rattle.geo_json.specs.Fault.{first, number_faults, planar_faults, ring_faults, faults_of_rings, positions_of, numbers_of, rings_of}
use Rattle.geo_json.specs.Noting.{noting, noting_numbers, noting_positions, noting_rings}
use Rattle.geo_json.specs.declared.error.JsonFault.{JsonFault}
use Rattle.geo_json.specs.declared.first_faults.FirstFaults.{FirstFaults}

-- ---- the first of two lists

pub first-append : {A : Type 0} → (xs ys : List A) → first (xs ++ ys) ≡ option_or (first xs) (first ys)
first-append [] ys = refl
first-append (x ∷ xs) ys = refl

or_assoc : {A : Type 0} → (a b c : Option A) → option_or (option_or a b) c ≡ option_or a (option_or b c)
or_assoc None b c = refl
or_assoc (Some x) b c = refl

or_none : {A : Type 0} → (a : Option A) → option_or a None ≡ a
or_none None = refl
or_none (Some x) = refl

or_first : {A : Type 0} → (a : Option A) (xs ys : List A) → option_or a (first (xs ++ ys)) ≡ option_or (option_or a (first xs)) (first ys)
or_first a xs ys = ap (option_or a) (first-append xs ys) ∙ sym (or_assoc a (first xs) (first ys))

-- ---- what is noted

-- and then others of each kind, and rings more
noting-noting : (f : FirstFaults) (p n r q m s : List JsonFault) (i j : ℕ) → noting (p ++ q) (n ++ m) (r ++ s) (i + j) f ≡ noting q m s j (noting p n r i f)
noting-noting f p n r q m s i j =
    let total : f.rings + (i + j) ≡ f.rings + i + j = omega arith in
    λ k. record f { planar = or_first f.planar p q k; number = or_first f.number n m k; ring = or_first f.ring r s k; rings = total k }

-- the same, where they are given by equations
noted_both : (f : FirstFaults) (p n r q m s pq nm rs : List JsonFault) (i j count : ℕ) → pq ≡ p ++ q → nm ≡ n ++ m → rs ≡ r ++ s → count ≡ i + j → noting pq nm rs count f ≡ noting q m s j (noting p n r i f)
noted_both f p n r q m s pq nm rs i j count ep en er ec = (λ k. noting (ep k) (en k) (er k) (ec k) f) ∙ noting-noting f p n r q m s i j

-- nothing is noted
pub noting-nothing : (f : FirstFaults) → noting [] [] [] 0 f ≡ f
noting-nothing f =
    let same : f.rings + 0 ≡ f.rings = omega arith in
    λ k. record f { planar = or_none f.planar k; number = or_none f.number k; ring = or_none f.ring k; rings = same k }

-- ---- the parts of joined lists

numbers-append : (feature : ℕ) (xs ys : List Position) → flat_map (number_faults feature) (numbers_of (xs ++ ys)) ≡ flat_map (number_faults feature) (numbers_of xs) ++ flat_map (number_faults feature) (numbers_of ys)
numbers-append feature xs ys =
    ap (flat_map (number_faults feature)) (flat_map-append (λ (position : Position). position) xs ys) ∙ flat_map-append (number_faults feature) (numbers_of xs) (numbers_of ys)

positions-append : (xs ys : List RingShape) → positions_of (xs ++ ys) ≡ positions_of xs ++ positions_of ys
positions-append xs ys = flat_map-append (λ (ring : RingShape). ring) xs ys

faults_of_rings-append : (number : ℕ) (xs ys : List RingShape) → faults_of_rings number (xs ++ ys) ≡ faults_of_rings number xs ++ faults_of_rings (number + length xs) ys
faults_of_rings-append number [] ys = let same : number ≡ number + 0 = omega arith in ap (λ n. faults_of_rings n ys) same
faults_of_rings-append number (x ∷ xs) ys =
    let next : number + 1 + length xs ≡ number + length (x ∷ xs) = omega arith in
    ap (λ (l : List JsonFault). ring_faults number x ++ l) (faults_of_rings-append (number + 1) xs ys ∙ ap (λ n. faults_of_rings (number + 1) xs ++ faults_of_rings n ys) next)
    ∙ sym (append_assoc (ring_faults number x) (faults_of_rings (number + 1) xs) (faults_of_rings (number + length (x ∷ xs)) ys))

-- ---- one part more

pub numbers_more : (xs : List Num) (n : Num) (f : FirstFaults) → noting_numbers (xs ++ n ∷ []) f ≡ noting_numbers (n ∷ []) (noting_numbers xs f)
numbers_more xs n f =
    let faults = flat_map (number_faults f.feature) in
    noted_both f [] (faults xs) [] [] (faults (n ∷ [])) [] [] (faults (xs ++ n ∷ [])) [] 0 0 0 refl (flat_map-append (number_faults f.feature) xs (n ∷ [])) refl refl

pub positions_more : (xs : List Position) (p : Position) (f : FirstFaults) → noting_positions (xs ++ p ∷ []) f ≡ noting_positions (p ∷ []) (noting_positions xs f)
positions_more xs p f =
    let planar = flat_map (planar_faults f.feature) in
    let number = λ (l : List Position). flat_map (number_faults f.feature) (numbers_of l) in
    noted_both f (planar xs) (number xs) [] (planar (p ∷ [])) (number (p ∷ [])) [] (planar (xs ++ p ∷ [])) (number (xs ++ p ∷ [])) [] 0 0 0
    (flat_map-append (planar_faults f.feature) xs (p ∷ [])) (numbers-append f.feature xs (p ∷ [])) refl refl

rings_both : (xs ys : List RingShape) (f : FirstFaults) → noting_rings (xs ++ ys) f ≡ noting_rings ys (noting_rings xs f)
rings_both xs ys f =
    let planar = flat_map (planar_faults f.feature) in
    let number = λ (l : List Position). flat_map (number_faults f.feature) (numbers_of l) in
    let split = positions-append xs ys in
    noted_both f (planar (positions_of xs)) (number (positions_of xs)) (faults_of_rings f.rings xs) (planar (positions_of ys)) (number (positions_of ys)) (faults_of_rings (f.rings + length xs) ys)
    (planar (positions_of (xs ++ ys))) (number (positions_of (xs ++ ys))) (faults_of_rings f.rings (xs ++ ys)) (length xs) (length ys) (length (xs ++ ys))
    (ap planar split ∙ flat_map-append (planar_faults f.feature) (positions_of xs) (positions_of ys))
    (ap number split ∙ numbers-append f.feature (positions_of xs) (positions_of ys))
    (faults_of_rings-append f.rings xs ys) (length-append xs ys)

pub rings_more : (xs : List RingShape) (ring : RingShape) (f : FirstFaults) → noting_rings (xs ++ ring ∷ []) f ≡ noting_rings (ring ∷ []) (noting_rings xs f)
rings_more xs ring f = rings_both xs (ring ∷ []) f

pub polygons_more : (xs : List PolygonShape) (polygon : PolygonShape) (f : FirstFaults) → noting_rings (rings_of (xs ++ polygon ∷ [])) f ≡ noting_rings polygon (noting_rings (rings_of xs) f)
polygons_more xs polygon f =
    let split : rings_of (xs ++ polygon ∷ []) ≡ rings_of xs ++ polygon =
    flat_map-append (λ (rings : PolygonShape). rings) xs (polygon ∷ []) ∙ ap (λ (l : List RingShape). rings_of xs ++ l) (append-nil polygon) in
    ap (λ l. noting_rings l f) split ∙ rings_both (rings_of xs) polygon f

-- ---- what the reader notes of one part

pub noting_number : (n : Num) (f : FirstFaults) → noting [] (number_faults f.feature n) [] 0 f ≡ noting_numbers (n ∷ []) f
noting_number n f = ap (λ l. noting [] l [] 0 f) (sym (append-nil (number_faults f.feature n)))

-- a position's numbers, and then how many they are
pub noting_position : (numbers : Position) (f : FirstFaults) → noting (planar_faults f.feature numbers) [] [] 0 (noting_numbers numbers f) ≡ noting_positions (numbers ∷ []) f
noting_position numbers f =
    let faults = flat_map (number_faults f.feature) in
    sym (noted_both f [] (faults numbers) [] (planar_faults f.feature numbers) [] [] (planar_faults f.feature numbers ++ []) (faults (numbers ++ [])) [] 0 0 0
    (append-nil (planar_faults f.feature numbers)) (ap faults (append-nil numbers) ∙ sym (append-nil (faults numbers))) refl refl)

-- a ring's positions, and then itself
pub noting_ring : (ring : RingShape) (f : FirstFaults) → noting [] [] (ring_faults f.rings ring) 1 (noting_positions ring f) ≡ noting_rings (ring ∷ []) f
noting_ring ring f =
    let planar = flat_map (planar_faults f.feature) in
    let number = λ (l : List Position). flat_map (number_faults f.feature) (numbers_of l) in
    let split = append-nil ring in
    sym (noted_both f (planar ring) (number ring) [] [] [] (ring_faults f.rings ring) (planar (ring ++ [])) (number (ring ++ [])) (ring_faults f.rings ring ++ []) 0 1 1
    (ap planar split ∙ sym (append-nil (planar ring))) (ap number split ∙ sym (append-nil (number ring))) (append-nil (ring_faults f.rings ring)) refl)
