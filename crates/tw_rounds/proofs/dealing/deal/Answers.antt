use Rattle.tw_rounds.proofs.dealing.deal.Goals as goal

pub deal_last-requires-clause-ruled : goal.deal_last-requires-clause-ruled
deal_last-requires-clause-ruled g c =
    let r = c.requires.ruled in
    (r.0, r.1, r.2, c.loop.invariant r.0 r.1 r.2 r.3)
