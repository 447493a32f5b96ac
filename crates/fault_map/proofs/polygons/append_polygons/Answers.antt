use Rattle.std.proofs.Common.{◌≡◌, ◌∙◌, ◌++◌, ◌∷◌, [], refl, sym, ap, subst, ℕ, List, length, get_or, append-nil, append_assoc, Option, None, arith}
use Rattle.std.specs.Prelude.{flat_map}
use Rattle.std.proofs.lemmas.List.Concat.{flat_map-append}
use Rattle.std.proofs.lemmas.Option.{slice_get_within, get_or_from_slice_get}
use Rattle.cov_types.specs.declared.coord.Coord.{Coord}
use Rattle.plane.specs.Region.{IsOuterRegion}
use Rattle.crossing_laws.proofs.Located.{side_within}
use Rattle.cov_build.specs.Owners.{owner_in}
use Rattle.sound_polygons.specs.Cleaned.{IsBuilt}
use Rattle.fault_map.specs.Polygon.{IsInner}
use Rattle.fault_map.proofs.ByPlace.{outer_free}
use Rattle.fault_map.proofs.Pieces.{each_built}
use Rattle.fault_map.proofs.Yielded.{moved_on, all_yielded}
use Rattle.fault_map.proofs.polygons.append_polygons.Goals as goal

pub owners_by_place-requires-clause-within : goal.owners_by_place-requires-clause-within
owners_by_place-requires-clause-within c = λ k d inside.
    (let region = (c.requires.inner k d inside).region in
    let within = side_within c.args.a.now (get_or c.args.piece.now k d) region.at region.side in
    omega (arith, within, c.len.ensures.count))

pub polygons-requires-clause-outer : goal.polygons-requires-clause-outer
polygons-requires-clause-outer c = subst (λ (os : List (Option ℕ)). (n : ℕ) → IsOuterRegion c.args.a.now n → owner_in os n ≡ None) (sym c.deref.ensures.value)
    (outer_free c.args.a.now c.args.piece.now (owner_in c.in_ok-owners.owners.items) (λ k r at. subst (IsInner c.args.a.now) (get_or_from_slice_get c.args.piece.now k r 0 at) (c.requires.inner k 0 (slice_get_within c.args.piece.now k r at))) c.in_ok-owners.ensures.owners)

pub loop-member-init : goal.loop-member-init
loop-member-init c = record { all = sym (append-nil c.args.found.now.items); left = refl }

pub loop-member-preserved : goal.loop-member-preserved
loop-member-preserved c =
    let its = c.loop-member in
    record {
      all = c.in_ok-append.ensures.items ∙ (λ i. its.invariant.all i ++ c.member.view_is i) ∙ append_assoc c.args.found.now.items (flat_map (λ polys. polys) its.yielded) c.in-Some.member
          ∙ ap (λ (ps : List (List (List Coord))). c.args.found.now.items ++ ps) (sym (flat_map-append (λ polys. polys) its.yielded (c.in-Some.member ∷ []) ∙ ap (λ (ps : List (List (List Coord))). flat_map (λ polys. polys) its.yielded ++ ps) (append-nil c.in-Some.member)));
      left = moved_on its.yielded _ its.member-iterator.rest.items c.into_iter-member-iterator.result.rest.items c.in-Some.member its.invariant.left c.in-Some.ensures.steps.0;
    }

pub returns : goal.returns
returns c =
    let its = c.loop-member in
    let built = c.in_ok-built.built in
    let all = all_yielded its.yielded its.member-iterator.rest.items c.into_iter-member-iterator.result.rest.items its.invariant.left (omega (arith, c.in-None.ensures.steps.0, its.member-iterator.rest.ok.0)) ∙ c.into_iter-member-iterator.ensures.into_iter_gives.0 ∙ c.built.view_is in (
      flat_map (λ polys. polys) built,
      (
        each_built c.args.a.now c.args.piece.now (owner_in c.in_ok-owners.owners.items) built c.len.ensures.planar c.len.ensures.distinct c.requires.inner c.in_ok-owners.ensures.owners
            (λ o same numbered. subst (λ (os : List (Option ℕ)). IsBuilt o (owner_in os) (length c.args.piece.now) built) c.deref.ensures.value (c.in_ok-built.ensures.polygons o same numbered)),
        its.invariant.all ∙ ap (λ (ms : List (List (List (List Coord)))). c.args.found.now.items ++ flat_map (λ polys. polys) ms) all,
      ),
    )
