use Rattle.std.proofs.Common.{◌≡◌, ◌∙◌, refl, sym, ap, subst, ℕ, ◌+◌, ◌<◌, length, get_or, set, List, Option, Some, None, slice_get, [], ◌∷◌, ◌++◌, arith}
use Rattle.std.specs.Global.{Vec}
use Rattle.std.specs.Prelude.{IfSome, IfNone}
use Rattle.std.proofs.lemmas.Option.{slice_get_read, same_Some}
use Rattle.cov_types.specs.declared.coord.Coord.{Coord}
use Rattle.cov_build.specs.Members.{IsMemberPart, AreAllPartPolygons}
use Rattle.cov_build.specs.Rings.{IsBoundaryPolygon}
use Rattle.cov_build.specs.declared.boundary.BoundaryEdge.{BoundaryEdge}
use Rattle.cov_build.proofs.OwnerLinks.{owner_is}
use Rattle.cov_build.proofs.MemberLists.{members_none, members_skip, members_more}
use Rattle.cov_build.proofs.build.polygons_of_parts.Goals.{in-Some+in_ok-polygon-in-Some+in_ok-push-in-Some, in-None}
use Rattle.cov_build.proofs.build.polygons_of_parts.Goals as goal

pub loop-part-init : goal.loop-part-init
loop-part-init c = members_none c.args.boundaries.now c.args.owners.now c.args.members c.in_ok-list.list.items c.in_ok-list.ensures

pub loop-part-preserved : goal.loop-part-preserved
loop-part-preserved c =
    let lists = c.args.boundaries.now in
    let owners = c.args.owners.now in
    let part = c.loop-part.part in
    let vec = c.index-boundaries-part.result in
    let at : slice_get lists part ≡ Some vec = slice_get_read lists (length lists) part vec refl c.loop-part-test.true c.index-boundaries-part.is in
    elim c.match-owner_of_boundary.branch [
      | in-Some+in_ok-polygon-in-Some+in_ok-push-in-Some w ↦ (
          let i = w.in-Some.owner in
          let out = c.loop-part.list.items in
          let before = w.index_mut-member.result.now in
          let after = w.push.new.self.items in
          let rings = w.in_ok-polygon-in-Some.polygon in
          let found = subst (λ (o : Option ℕ). IfSome o (λ n. (0 < length c.deref.result.now) × (get_or owners part None ≡ Some n))) w.in-Some.is c.owner_of_boundary.ensures.some in
          let made : c.match-owner_of_boundary.list.items ≡ set out i after = ap (λ (v : Vec (List (List (List Coord)))). v.items) w.list-is in
          let small : i < c.args.members = subst (λ (o : Option ℕ). IfSome o (λ n. n < c.args.members)) found.1 (c.requires.below part None (let long = c.requires.count in let lt = c.loop-part-test.true in omega (arith, long, lt))) in
          let of : IsMemberPart lists owners i part vec.items = record {
            vec = vec;
            at = at;
            is = refl;
            some = subst (λ (bs : List BoundaryEdge). 0 < length bs) c.deref.ensures.value found.0;
            owned = owner_is owners part ∙ found.1;
          } in
          let polygon = subst (λ (bs : List BoundaryEdge). IsBoundaryPolygon bs rings) w.deref-in-Some.ensures.value w.in_ok-polygon-in-Some.ensures in
          subst (AreAllPartPolygons lists owners (part + 1) c.args.members) (sym made)
          (members_more lists owners c.requires.apart part c.args.members out i before after vec.items rings (let count = c.loop-part.invariant.count in omega (arith, count, small)) w.index_mut-member.ensures.value
          (w.in_ok-push-in-Some.ensures.items ∙ ap (λ (ps : List (List (List Coord))). ps ++ rings ∷ []) w.member.view_is) of polygon c.loop-part.invariant)
          )
      | in-None w ↦ (
          let none = subst (λ (o : Option ℕ). IfNone o ((i : ℕ) → 0 < length c.deref.result.now → (get_or owners part None ≡ Some i) → ⊥)) w.in-None.is c.owner_of_boundary.ensures.none in
          subst (λ (v : Vec (List (List (List Coord)))). AreAllPartPolygons lists owners (part + 1) c.args.members v.items) (sym w.list-is)
          (members_skip lists owners part c.args.members c.loop-part.list.items (λ i boundary of. (
          let same : boundary ≡ c.deref.result.now = sym of.is ∙ ap (λ (v : Vec BoundaryEdge). v.items) (same_Some of.vec vec (sym of.at ∙ at)) ∙ sym c.deref.ensures.value in
          none i (subst (λ (bs : List BoundaryEdge). 0 < length bs) same of.some) (sym (owner_is owners part) ∙ of.owned)
          )) c.loop-part.invariant)
          )
    ]

pub returns : goal.returns
returns c = subst (λ n. AreAllPartPolygons c.args.boundaries.now c.args.owners.now n c.args.members c.loop-part.list.items) (omega (arith, c.loop-part-test.false, c.loop-part.auto.part-end)) c.loop-part.invariant
