-- What the machine keeps of the parts of a file.
use Rattle.std.proofs.Common.{◌≡◌, ℕ, ◌+◌, length-append, Bool, List, [], ◌∷◌, ◌++◌, length, map, flat_map, Option, Some, None, ℤ, sym, refl, ap, ◌∙◌, append-nil, arith}
use Rattle.std.proofs.lemmas.Grind.{flat_map-append}
use Rattle.std.specs.Option.{option_or}
use Rattle.cov_types.specs.declared.coord.Coord.{Coord}
use Rattle.geo_text.specs.Token.{Numeral}
use Rattle.geo_text.specs.Decimal.{value}
use Rattle.geo_text.specs.Grammar.{Position, Ring}
use Rattle.geo_text.specs.Reading.{x_of, y_of, positions}
use Rattle.geo_text.specs.Fault.{ring_numbers}
use Rattle.geo_text.specs.Number.{Precision, no_fraction, is_fine}
use Rattle.geo_text.specs.Machine.{with_extra, with_number, number_fault, with_ring, ring_fault}
use Rattle.geo_text.specs.declared.error.TextFault.{TextFault}
use Rattle.geo_text.specs.declared.error.TextFault.TheVariants.{NotPlanar}
use Rattle.geo_text.specs.declared.faults.Faults.{Faults}
use Rattle.geo_text.proofs.Options.{option_or-assoc, option_or-none}
use Rattle.geo_text.proofs.Limits.{limit}
use Rattle.geo_text.proofs.Fractions.{fraction_from}

-- a position by the values of its first two numbers
abbrev pub coordinate_by : (Numeral → ℤ) → Position → Coord
coordinate_by v p = record { x = v (x_of p); y = v (y_of p) }

module _ (precision : Precision) where
  -- the value that is read of a number, and whether its fraction is not at fault
  abbrev pub read_value : Numeral → ℤ
  read_value n = limit precision.cap (value precision.scale n)

  abbrev pub is_whole : Numeral → Bool
  is_whole n = is_fine (fraction_from (no_fraction precision.scale) n.fraction)

  -- the points that are read of a ring, the last too
  abbrev pub ring_points : Ring → List Coord
  ring_points r = map (coordinate_by read_value) (positions r)

  -- ---- the first faults of lists

  abbrev pub first_extra : List ℕ → Option TextFault
  first_extra [] = None
  first_extra (a ∷ places) = Some (NotPlanar a)

  abbrev pub fault_of_number : Numeral → Option TextFault
  fault_of_number n = number_fault n.at (read_value n) (is_whole n)

  abbrev pub first_number_fault : List Numeral → Option TextFault
  first_number_fault [] = None
  first_number_fault (n ∷ ns) = option_or (fault_of_number n) (first_number_fault ns)

  -- of rings from number k on
  abbrev pub first_ring_fault : ℕ → List Ring → Option TextFault
  first_ring_fault k [] = None
  first_ring_fault k (r ∷ rs) = option_or (ring_fault k (ring_points r)) (first_ring_fault (k + 1) rs)

  first_extra-append : (xs ys : List ℕ) → first_extra (xs ++ ys) ≡ option_or (first_extra xs) (first_extra ys)
  first_extra-append [] ys = refl
  first_extra-append (x ∷ xs) ys = refl

  first_number_fault-append : (xs ys : List Numeral) → first_number_fault (xs ++ ys) ≡ option_or (first_number_fault xs) (first_number_fault ys)
  first_number_fault-append [] ys = refl
  first_number_fault-append (x ∷ xs) ys = ap (option_or (fault_of_number x)) (first_number_fault-append xs ys) ∙ sym (option_or-assoc (fault_of_number x) (first_number_fault xs) (first_number_fault ys))

  first_ring_fault-append : (k : ℕ) (xs ys : List Ring) → first_ring_fault k (xs ++ ys) ≡ option_or (first_ring_fault k xs) (first_ring_fault (k + length xs) ys)
  first_ring_fault-append k [] ys = ap (λ n. first_ring_fault n ys) (omega arith)
  first_ring_fault-append k (x ∷ xs) ys =
      let shift : k + 1 + length xs ≡ k + length (x ∷ xs) = omega arith in
      ap (option_or (ring_fault k (ring_points x))) (first_ring_fault-append (k + 1) xs ys ∙ ap (λ n. option_or (first_ring_fault (k + 1) xs) (first_ring_fault n ys)) shift)
      ∙ sym (option_or-assoc (ring_fault k (ring_points x)) (first_ring_fault (k + 1) xs) (first_ring_fault (k + length (x ∷ xs)) ys))

  -- ---- faults with those of further places, numbers and rings

  abbrev faults : Option TextFault → Option TextFault → Option TextFault → ℕ → Faults
  faults planar number ring rings = record { planar = planar; number = number; ring = ring; rings = rings }

  same_faults : (p p' n n' r r' : Option TextFault) (k k' : ℕ) → p ≡ p' → n ≡ n' → r ≡ r' → k ≡ k' → faults p n r k ≡ faults p' n' r' k'
  same_faults p p' n n' r r' k k' ep en er ek =
      ap (λ x. faults x n r k) ep ∙ ap (λ x. faults p' x r k) en ∙ ap (λ x. faults p' n' x k) er ∙ ap (λ x. faults p' n' r' x) ek

  -- within a ring
  abbrev pub noted : Faults → List ℕ → List Numeral → Faults
  noted f places ns = record f { planar = option_or f.planar (first_extra places); number = option_or f.number (first_number_fault ns) }

  -- behind rings
  abbrev pub grown : Faults → List ℕ → List Ring → Faults
  grown f places rs = record {
    planar = option_or f.planar (first_extra places);
    number = option_or f.number (first_number_fault (flat_map ring_numbers rs));
    ring = option_or f.ring (first_ring_fault f.rings rs);
    rings = f.rings + length rs;
  }

  joined : {A : Type 0} (x y z yz : Option A) → yz ≡ option_or y z → option_or (option_or x y) z ≡ option_or x yz
  joined x y z yz e = option_or-assoc x y z ∙ ap (option_or x) (sym e)

  pub noted-append : (f : Faults) (xs ys : List ℕ) (ms ns : List Numeral) → noted (noted f xs ms) ys ns ≡ noted f (xs ++ ys) (ms ++ ns)
  noted-append f xs ys ms ns = same_faults _ _ _ _ _ _ _ _
      (joined f.planar (first_extra xs) (first_extra ys) (first_extra (xs ++ ys)) (first_extra-append xs ys))
      (joined f.number (first_number_fault ms) (first_number_fault ns) (first_number_fault (ms ++ ns)) (first_number_fault-append ms ns))
      refl refl

  pub noted-nil : (f : Faults) → noted f [] [] ≡ f
  noted-nil f = same_faults _ _ _ _ _ _ _ _ (option_or-none f.planar) (option_or-none f.number) refl refl

  pub with_number-noted : (n : Numeral) (f : Faults) → with_number n.at (read_value n) (is_whole n) f ≡ noted f [] (n ∷ [])
  with_number-noted n f = same_faults _ _ _ _ _ _ _ _ (sym (option_or-none f.planar)) (ap (option_or f.number) (sym (option_or-none (fault_of_number n)))) refl refl

  pub with_extra-noted : (a : ℕ) (f : Faults) → with_extra a f ≡ noted f (a ∷ []) []
  with_extra-noted a f = same_faults _ _ _ _ _ _ _ _ refl (sym (option_or-none f.number)) refl refl

  pub with_ring-noted : (r : Ring) (f : Faults) (places : List ℕ) → with_ring (ring_points r) (noted f places (ring_numbers r)) ≡ grown f places (r ∷ [])
  with_ring-noted r f places = same_faults _ _ _ _ _ _ _ _ refl
      (ap (λ ns. option_or f.number (first_number_fault ns)) (sym (append-nil (ring_numbers r))))
      (ap (option_or f.ring) (sym (option_or-none (ring_fault f.rings (ring_points r))))) refl

  pub grown-append : (f : Faults) (xs ys : List ℕ) (rs ss : List Ring) → grown (grown f xs rs) ys ss ≡ grown f (xs ++ ys) (rs ++ ss)
  grown-append f xs ys rs ss = same_faults _ _ _ _ _ _ _ _
      (joined f.planar (first_extra xs) (first_extra ys) (first_extra (xs ++ ys)) (first_extra-append xs ys))
      (joined f.number _ _ (first_number_fault (flat_map ring_numbers (rs ++ ss))) (ap first_number_fault (flat_map-append ring_numbers rs ss) ∙ first_number_fault-append (flat_map ring_numbers rs) (flat_map ring_numbers ss)))
      (joined f.ring (first_ring_fault f.rings rs) (first_ring_fault (f.rings + length rs) ss) (first_ring_fault f.rings (rs ++ ss)) (first_ring_fault-append f.rings rs ss))
      (omega (arith, length-append rs ss))

  pub grown-nil : (f : Faults) → grown f [] [] ≡ f
  grown-nil f = same_faults _ _ _ _ _ _ _ _ (option_or-none f.planar) (option_or-none f.number) (option_or-none f.ring) (omega arith)

  pub with_extra-grown : (a : ℕ) (f : Faults) → with_extra a f ≡ grown f (a ∷ []) []
  with_extra-grown a f = same_faults _ _ _ _ _ _ _ _ refl (sym (option_or-none f.number)) (sym (option_or-none f.ring)) (omega arith)
