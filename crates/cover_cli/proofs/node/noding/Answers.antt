-- The text has the noded edges and the lists of the odd uses.
use Rattle.std.proofs.Common.{◌≡◌, ◌∙◌, List, ◌∷◌, Vec, map, ap, subst, refl, length, arith}
use Rattle.std.specs.declared.alloc.Global.{Global}
use Rattle.cov_types.specs.Uses.{uses_of}
use Rattle.cov_types.specs.declared.edge_use.EdgeUse.{EdgeUse}
use Rattle.cov_types.specs.declared.seg.Seg.{Seg}
use Rattle.cov_write.specs.Written.{lines_text}
use Rattle.cover_cli.proofs.Listing.{member_lists_are, lists_moved}
use Rattle.cover_cli.specs.Lines.{AreMemberLists}
use Rattle.arrangement.specs.Noding.{IsNoded, odd_uses}
use Rattle.arrangement.specs.declared.odd_use.OddUse.{OddUse}
use Rattle.cover_cli.proofs.node.noding.Goals as goal

pub returns : goal.returns
returns c =
    let edges : List Seg = c.in_ok-noded.noded.edges.items in
    let pairs : List OddUse = c.in_ok-noded.noded.odd.items in
    let uses : c.deref.result.now ≡ uses_of c.args.c.now = c.deref.ensures.value ∙ c.in_ok-uses.ensures.exact in
    let odd : c.deref-2.result.now ≡ odd_uses edges pairs = c.deref-2.ensures.value ∙ c.in_ok-odd.ensures in
    let count : c.len.result ≡ length c.args.c.now = omega (arith, ap length c.c.view_is) in
    let lists : AreMemberLists (odd_uses edges pairs) (length c.args.c.now) c.in_ok-lists.lists.items =
    lists_moved _ _ _ _ _ _ odd count refl c.in_ok-lists.ensures in
    let inserted : c.deref-3.result.now ≡ c.in_ok-noded.noded.edges ∷ c.in_ok-lists.lists.items = c.deref-3.ensures.value ∙ c.in_ok-insert.ensures.items in
    let IsNodedBy : List EdgeUse → Type 0 = λ list. IsNoded list edges pairs in
    record {
      done = refl;
      edges = edges;
      odd = pairs;
      noded = subst IsNodedBy uses c.in_ok-noded.ensures.exact;
      lines = c.in_ok-text.ensures
          ∙ ap (λ (all : List (Vec Seg Global)). lines_text c.args.scale (map (λ (l : Vec Seg Global). l.items) all)) inserted
          ∙ ap (λ (all : List (List Seg)). lines_text c.args.scale (edges ∷ all)) (member_lists_are (odd_uses edges pairs) c.args.c.now c.in_ok-lists.lists.items lists);
    }
