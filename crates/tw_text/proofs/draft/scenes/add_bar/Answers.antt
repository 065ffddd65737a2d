use Rattle.tw_text.proofs.Adding.{allow_taken, forbid_taken, node_is}
use Rattle.tw_text.proofs.draft.scenes.add_bar.Goals as goal

pub returns-then-forbids : goal.returns-then-forbids
returns-then-forbids c =
    let case = c.args.case.now in
    let node = node_is case.net c.args.node _ (rw (← c.instance.ensures.value) c.in_ok-node.ensures) in
    λ version. rw c.if-forbids.true (forbid_taken version case c.args.time c.args.node c.args.line _ _ _ c.instance.ensures.case node c.place_of-line.ensures (c.add_scene.ensures version))

pub returns : goal.returns
returns c =
    let case = c.args.case.now in
    let node = node_is case.net c.args.node _ (rw (← c.instance.ensures.value) c.in_ok-node.ensures) in
    λ version. rw c.if-forbids.false (allow_taken version case c.args.time c.args.node c.args.line _ _ _ c.instance.ensures.case node c.place_of-line.ensures (c.add_scene-2.ensures version))
