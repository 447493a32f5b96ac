use Rattle.std.proofs.Common.{ℕ, ◌*◌, ◌<◌, List, length, sym, subst}
use Rattle.cov_types.specs.declared.seg.Seg.{Seg}
use Rattle.arrangement.specs.Overlay.{IsRegion}
use Rattle.owner_label.proofs.Overlays.{answered_region}
use Rattle.fault_map.proofs.bordering.label_beyond.Goals as goal

pub label-requires : goal.label-requires
label-requires c =
    let n = 2 * length c.args.r.now in
    let within : c.number.result < n = subst (λ (k : ℕ). k < n) (sym c.number.ensures) (c.twin-beyond.ensures.within (length c.args.r.now) (subst (λ (k : ℕ). k < n) (sym c.of_number.ensures) c.requires.within)) in
    record { region = subst (λ (es : List Seg). IsRegion es c.region_of.result) (sym c.requires.labels) (answered_region c.args.r.now c.number.result c.region_of.result within c.region_of.ensures.region) }
