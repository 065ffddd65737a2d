use Rattle.std.proofs.Common.{◌++◌, ap, arith, length, ◌∙◌}
use Rattle.tw_routing.proofs.Kept.{few}
use Rattle.tw_routing.proofs.Own.{all_sent, effect_is, fits_there, full_is, full_told, noted}
use Rattle.tw_routing.proofs.handlers.RoutingProcessModel.forward.Goals as goal

pub handle_fitting-requires-clause-fits : goal.handle_fitting-requires-clause-fits
handle_fitting-requires-clause-fits c = fits_there _ _ _ c.requires.own c.args.event.now c.requires.home c.requires.suits c.requires.time

pub returns-in-Ok-clause-state : goal.returns-in-Ok-clause-state
returns-in-Ok-clause-state c =
    ap (λ x. x.state) c.in-Ok.ensures.state ∙ ap (λ x. x.state) (effect_is _ _ _ c.requires.own c.args.event.now c.requires.home)

pub returns-in-Ok-clause-note : goal.returns-in-Ok-clause-note
returns-in-Ok-clause-note c =
    let known = ap (λ x. x.state) c.in-Ok.ensures.state ∙ ap (λ x. x.state) (effect_is _ _ _ c.requires.own c.args.event.now c.requires.home) in
    noted _ _ _ c.requires.own c.args.event.now c.requires.home _ _ c.in-Ok.ensures.handled known

pub returns-in-Ok-clause-full : goal.returns-in-Ok-clause-full
returns-in-Ok-clause-full c =
    let same = full_is _ _ _ c.requires.own c.args.event.now c.requires.home in
    (λ k. cc, λ t. (let k = c.in-Ok.ensures.full.1 (same ∙ t) in cc))

pub returns-clause-full : goal.returns-clause-full
returns-clause-full c =
    full_told _ _ _ _ (full_is _ _ _ c.requires.own c.args.event.now c.requires.home) c.refused.ensures c.in-Err.ensures.full

pub put_behind-requires : goal.put_behind-requires
put_behind-requires c =
    let sent = all_sent _ _ _ c.requires.own c.args.event.now c.requires.home _ _ c.new-sent.ensures.items c.in-Ok.ensures.sends in
    let most = few c.args.self.now c.case.ensures.case c.args.router.now.state c.args.event.now in
    omega (arith, ap length (c.deref.ensures ∙ sent), most, c.requires.room)

pub returns-in-Ok-clause-sends : goal.returns-in-Ok-clause-sends
returns-in-Ok-clause-sends c =
    let sent = all_sent _ _ _ c.requires.own c.args.event.now c.requires.home _ _ c.new-sent.ensures.items c.in-Ok.ensures.sends in
    c.put_behind.ensures.items ∙ ap (λ xs. c.args.sends.now.items ++ xs) (c.deref.ensures ∙ sent)
