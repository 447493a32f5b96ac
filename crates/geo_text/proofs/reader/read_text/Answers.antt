use Rattle.geo_text.proofs.Formed.{result_formed}
use Rattle.geo_text.proofs.Verdicts.{says}
use Rattle.geo_text.proofs.reader.read_text.Goals as goal

pub returns : goal.returns
returns c =
    let bytes = c.args.bytes.now in
    let said = says c.args.scale bytes c.read_all.result c.read_all.ensures in
    record {
      read = said.read;
      faultless = said.faultless;
      formed = result_formed c.args.scale bytes c.read_all.result c.requires.length c.read_all.ensures;
      fault = said.fault;
    }
