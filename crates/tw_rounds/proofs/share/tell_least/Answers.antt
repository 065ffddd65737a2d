use Rattle.std.proofs.Common.{◌≡◌, [], get_or, set, ap, ◌∙◌, sym, subst}
use Rattle.std.proofs.lemmas.Option.{slice_get-get_or}
use Rattle.tw_rounds.proofs.Lists.{get_set, set_each}
use Rattle.tw_process.specs.Behaviour.{simulation_of}
use Rattle.tw_rounds.proofs.Shares.{told}
use Rattle.tw_rounds.specs.Members.{Mailed, place_of}
use Rattle.tw_rounds.specs.Shares.{KeepsRule}
use Rattle.tw_rule.specs.Place.{NoneLooseBefore}
use Rattle.tw_sim.specs.Simulation.{IsLawful}
use Rattle.tw_rounds.proofs.share.tell_least.Goals as goal

pub returns-clause-rule : goal.returns-clause-rule
returns-clause-rule g c = λ round start.
    let xs = c.args.members.now in
    let read = c.index-members-0.result in
    let x = get_or xs 0 read in
    let at = slice_get-get_or xs 0 read c.requires.some in
    subst (λ y. KeepsRule g.M.Event.Timed.parts g.M.Event.Ord.cmp g.M.ProcessModel.behaviour round start xs [] (set xs 0 y) []) (sym c.put_least.ensures)
    (told g.M.Event.Timed.parts g.M.Event.Ord.cmp g.M.ProcessModel.behaviour round start xs 0 x at c.least_of-least.result)

pub returns-clause-told : goal.returns-clause-told
returns-clause-told g c = λ first there.
    let sim = λ (model : g.row.M.Denot). simulation_of g.M.Event.Timed.parts g.M.Event.Ord.cmp (g.M.ProcessModel.behaviour model) in
    let xs = c.args.members.now in
    let read = c.index-members-0.result in
    let x = get_or xs 0 read in
    let t = c.least_of-least.result in
    let y = c.put_least.new.self in
    let at = slice_get-get_or xs 0 read c.requires.some in
    let put = get_set xs 0 x y at in
    let same : first ≡ y = cc in
    let least : first.least ≡ t = ap (λ z. z.least) (same ∙ c.put_least.ensures) in
    let loose = λ (z : Mailed g.row.M.Denot _). IsLawful (sim z.process.model) → NoneLooseBefore (sim z.process.model) first.least (place_of z) in
    set_each (λ j z. loose z) xs 0 y
    (subst loose (sym c.put_least.ensures) (subst (λ n. IsLawful (sim x.process.model) → NoneLooseBefore (sim x.process.model) n (place_of x)) (sym least) (c.least_of-least.ensures.loose 0 x at)))
    (λ j z here. subst (λ n. IsLawful (sim z.process.model) → NoneLooseBefore (sim z.process.model) n (place_of z)) (sym least) (c.least_of-least.ensures.loose j z here))
