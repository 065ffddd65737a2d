use Rattle.tw_text.proofs.Adding.{node_is, swap_taken}
use Rattle.tw_text.proofs.draft.scenes.add_swap.Goals as goal

pub returns : goal.returns
returns c =
    let case = c.args.case.now in
    let node = node_is case.net c.args.node _ (rw (← c.instance.ensures.value) c.in_ok-node.ensures) in
    λ version. swap_taken version case c.args.time c.args.node c.args.first c.args.second _ _ _ _ c.instance.ensures.case node c.place_of-first.ensures c.place_of-second.ensures (c.add_scene.ensures version)
