-- Which calls of a shelf fail.
use Rattle.std.specs.Prelude.{ℕ, List, Bool, true, false, ◌&&◌, ◌==◌}
use Rattle.std.specs.List.{list_any}
use Rattle.cov_io.specs.Count.{one_more}
use Rattle.cov_io.specs.declared.fail.Call.{Call}
use Rattle.cov_io.specs.declared.fail.Call.TheVariants.{OpenInput, Read, Create, Write, Close}
use Rattle.cov_io.specs.declared.fail.Fail.{Fail}

-- the calls that are to fail, and how many calls of each kind there were, up to the last value of a counter
pub record Planned : Type 0 where
  pub fails : List Fail
  pub opened : ℕ
  pub read : ℕ
  pub created : ℕ
  pub written : ℕ
  pub closed : ℕ

-- how many calls of this kind there were
abbrev pub count_of : Planned → Call → ℕ
count_of p OpenInput = p.opened
count_of p Read = p.read
count_of p Create = p.created
count_of p Write = p.written
count_of p Close = p.closed

-- the plan after one more call of this kind
abbrev pub counted : Planned → Call → Planned
counted p OpenInput = record p { opened = one_more p.opened }
counted p Read = record p { read = one_more p.read }
counted p Create = record p { created = one_more p.created }
counted p Write = record p { written = one_more p.written }
counted p Close = record p { closed = one_more p.closed }

-- the two calls are of one kind
abbrev pub same_call : Call → Call → Bool
same_call OpenInput OpenInput = true
same_call Read Read = true
same_call Create Create = true
same_call Write Write = true
same_call Close Close = true
same_call _ _ = false

-- the plan names the next call of this kind
abbrev pub is_named : Planned → Call → Bool
is_named p call = list_any (λ f. same_call f.call call && f.nth == count_of p call) p.fails
