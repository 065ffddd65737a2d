use Rattle.std.proofs.Common.{◌∙◌, ap, ap₂}
use Rattle.tw_model.specs.Net.{Net}
use Rattle.tw_elimination.specs.Rounds.{left_in}
use Rattle.tw_policy_commands.specs.Safe.{left_words}
use Rattle.tw_policy_commands.proofs.Texts.{texts_more}
use Rattle.tw_policy_commands.proofs.lines.router_lines.Goals as goal

pub loop-node-preserved : goal.loop-node-preserved
loop-node-preserved c =
    let e = c.args.elimination.now in
    let net = c.instance-instance.ensures.value ∙ ap (λ x. x.net) c.case.ensures.value in
    texts_more (λ v. left_words e.case.net v (left_in e.case e.rounds v)) c.loop-node.node c.loop-node.lines.items c.push.new.self.items c.in_ok-words_at.field-0
    c.in_ok-push.ensures.items c.loop-node.invariant
    (c.in_ok-words_at.ensures ∙ ap₂ (λ (n : Net) xs. left_words n c.loop-node.node xs) net c.left.ensures.value)
