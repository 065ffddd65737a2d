use Rattle.std.proofs.Common.{◌≡◌, List, ap, ◌∙◌}
use Rattle.std.specs.declared.vec.Vec.{Vec}
use Rattle.tw_parallel.proofs.Coming.{one_taken}
use Rattle.tw_parallel.proofs.vacancy.take_log.Goals as goal

pub returns-in-Some-clause-others : goal.returns-in-Some-clause-others
returns-in-Some-clause-others c =
    one_taken c.args.logs.now c.in-Some.logs c.args.router c.replace.new.dest c.in-Some.is ((λ i. (c.replace.ensures.after i).items) ∙ c.new.ensures.items)
