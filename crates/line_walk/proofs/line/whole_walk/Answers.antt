use Rattle.std.proofs.Common.{◌∙◌, ap, sym, refl, length, inl}
use Rattle.std.proofs.lemmas.Bool.{false≢true}
use Rattle.std.proofs.lemmas.Option.{slice_get_read}
use Rattle.std.proofs.lemmas.Result.{IfOk-weaker}
use Rattle.cov_types.specs.declared.seg.Seg.{Seg}
use Rattle.cov_types.proofs.Equal.{Decides-same_coords}
use Rattle.line_walk.proofs.WholeLines.{whole_back, whole_there_and_back}
use Rattle.line_walk.proofs.line.whole_walk.Goals as goal

pub walk_from-requires-clause-begins : goal.walk_from-requires-clause-begins
walk_from-requires-clause-begins c =
    let e = c.index-edges-first.result in
    (e, (slice_get_read c.args.edges.now (length c.args.edges.now) c.args.first e refl c.requires.within c.index-edges-first.is, inl (ap (λ (s : Seg). s.lo) c.index-edges-first.is)))

pub walk_from-requires-else-eq : goal.walk_from-requires-else-eq
walk_from-requires-else-eq c = record { ascending = c.requires.ascending; partners = c.requires.partners; begins = c.in_ok-there.ensures.last }

pub returns-then-eq : goal.returns-then-eq
returns-then-eq c =
    let e = c.index-edges-first.result in
    let at = slice_get_read c.args.edges.now (length c.args.edges.now) c.args.first e refl c.requires.within c.index-edges-first.is in
    whole_back c.args.edges.now c.requires.ascending _ c.args.first c.in_ok-there.there c.in_ok-there.ensures ((Decides-same_coords c.in_ok-there.there.to _).0 (sym c.eq.ensures ∙ c.if-eq.true)) c.requires.first e at (sym (ap (λ (s : Seg). s.lo) c.index-edges-first.is))

pub returns-else-eq : goal.returns-else-eq
returns-else-eq c =
    let e = c.index-edges-first.result in
    let at = slice_get_read c.args.edges.now (length c.args.edges.now) c.args.first e refl c.requires.within c.index-edges-first.is in
    IfOk-weaker c.walk_from-else-eq.result _ _ (λ w h. whole_there_and_back c.args.edges.now c.requires.ascending _ c.args.first c.in_ok-there.there c.in_ok-there.ensures (λ same. false≢true (sym c.if-eq.false ∙ c.eq.ensures ∙ (Decides-same_coords c.in_ok-there.there.to _).1 same)) w h e at) c.walk_from-else-eq.ensures
