use Rattle.std.proofs.Common.{ap, ◌∙◌}
use Rattle.geo_json.specs.Reading.{held}
use Rattle.geo_json.specs.declared.features.Features.{Features}
use Rattle.json_write.specs.Text.{features_of, IsWritten}
use Rattle.json_write.proofs.ReadBack.{read_back}
use Rattle.json_write.proofs.Whole.{document_written}
use Rattle.json_write.proofs.document.json_of.Goals as goal

pub returns : goal.returns
returns c =
    let w = c.in_ok-append_features.ensures in
    let features = c.args.features.now in
    let text = c.extend_from_slice-2.new.self.items in
    let written : IsWritten (features_of (held features)) text =
    document_written features c.deref.result.now c.deref-2.result.now c.deref-3.result.now w.0 _ _ _ _
    (c.deref.ensures.value ∙ ap (λ (f : Features). f.coverage) c.features.view_is)
    (c.deref-2.ensures.value ∙ ap (λ (f : Features). f.properties.items) c.features.view_is)
    (c.deref-3.ensures.value ∙ ap (λ (f : Features). f.ids.items) c.features.view_is)
    w.1 c.new-out.ensures.items c.in_ok-extend_from_slice.ensures.items w.2 c.in_ok-extend_from_slice-2.ensures.items in
    record { written = written; reads_back = λ readable. read_back (held features) text readable written }
