use Rattle.std.proofs.Common.{◌≡◌, ◌-◌, List, ℕ, length, sym, ap, subst, arith, Some}
use Rattle.std.specs.Prelude.{slice_get}
use Rattle.std.proofs.lemmas.Bool.{iff_false}
use Rattle.cov_valid.proofs.Toggles.{toggled_pop, toggled_in}
use Rattle.cov_valid.proofs.holders.toggle.Goals as goal

pub returns-then-is_last : goal.returns-then-is_last
returns-then-is_last c =
    let old = c.args.members.now.items in
    let last : slice_get old (length old - 1) ≡ Some c.args.member = subst (λ (ns : List ℕ). slice_get ns (length ns - 1) ≡ Some c.args.member) c.deref.ensures.value (c.is_last.ensures.0 c.if-is_last.true) in
    toggled_pop old c.pop.new.self.items c.args.member c.args.members.now.len c.pop.result c.pop.ensures.items (omega (arith, c.deref.ensures.len, ap length c.deref.ensures.value)) (c.pop.ensures.value 0) last c.requires.ascending

pub returns-in_ok-push : goal.returns-in_ok-push
returns-in_ok-push c =
    toggled_in c.args.members.now.items c.push.new.self.items c.args.member c.in_ok-push.ensures.items
    (λ h. iff_false c.is_last.ensures c.if-is_last.false (subst (λ (ns : List ℕ). slice_get ns (length ns - 1) ≡ Some c.args.member) (sym c.deref.ensures.value) h))
    c.requires.ascending c.requires.at_most
