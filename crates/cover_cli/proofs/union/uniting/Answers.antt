-- The text is the written form of the one member that is the union.
use Rattle.std.proofs.Common.{◌≡◌, [], ◌∷◌, refl, subst, rules}
use Rattle.geo_json.specs.Reading.{Reading}
use Rattle.cov_types.specs.Coverage.{Members}
use Rattle.feature_files.specs.Form.{IsWrittenAs}
use Rattle.feature_files.specs.Reading.{bare}
use Rattle.cover_cli.proofs.union.uniting.Goals as goal

pub returns : goal.returns
returns c =
    let union = c.in_ok-union in
    let one : c.push.new.self.items ≡ union.union ∷ [] = search rules in
    record {
      admitted = c.requires.valid;
      done = refl;
      out = union.union ∷ [];
      united = union.ensures.polygons;
      union = union.ensures.union;
      valid = union.ensures.valid;
      formed = union.ensures.formed;
      written = subst (λ (members : Members). IsWrittenAs c.args.to.now c.args.scale (bare members) c.in_ok-text.text.items) one
          (subst (λ (r : Reading). IsWrittenAs c.args.to.now c.args.scale r c.in_ok-text.text.items) c.in_ok-features.ensures c.in_ok-text.ensures);
    }
