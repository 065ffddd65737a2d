use Rattle.std.proofs.Common.{arith, subst}
use Rattle.tw_model.specs.Rules.{IsNet}
use Rattle.tw_instance.specs.Instance.{net_of}
use Rattle.tw_instance.proofs.Permitted.{few_permitted}
use Rattle.tw_instance.proofs.Sound.{is_whole}
use Rattle.tw_instance.proofs.instance.Instance.count.Goals as goal

pub overflow_cast-result : goal.overflow_cast-result
overflow_cast-result c =
    let few = few_permitted (net_of c.self.inside) c.self.invariant.net in
    let n = c.self.inside.paths.ok.0 in
    omega (arith, c.len.ensures)

pub overflow_add-result : goal.overflow_add-result
overflow_add-result c =
    let few = few_permitted (net_of c.self.inside) c.self.invariant.net in
    let n = c.self.inside.paths.ok.0 in
    omega (arith, c.len.ensures)

pub returns-clause-few : goal.returns-clause-few
returns-clause-few c =
    let few = few_permitted (net_of c.self.inside) c.self.invariant.net in
    let n = c.self.inside.paths.ok.0 in
    omega (arith, c.len.ensures)

pub returns-clause-distinct : goal.returns-clause-distinct
returns-clause-distinct c = (is_whole c.args.self.now (subst IsNet c.self.view_is c.self.invariant.net)).distinct
