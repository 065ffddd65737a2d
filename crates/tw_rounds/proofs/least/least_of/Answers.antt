use Rattle.std.proofs.Common.{◌≡◌, Some, length, slice_get, refl, subst, inl, inr, arith}
use Rattle.std.proofs.lemmas.Bool.{cases_lt}
use Rattle.std.proofs.lemmas.Option.{slice_get_read}
use Rattle.tw_process.specs.Behaviour.{simulation_of}
use Rattle.tw_rounds.proofs.Lists.{within}
use Rattle.tw_rounds.specs.Members.{place_of}
use Rattle.tw_rule.specs.Place.{NoneLooseBefore}
use Rattle.tw_sim.specs.Simulation.{IsLawful}
use Rattle.tw_rounds.proofs.least.least_of.Goals as goal

pub loop-member-preserved : goal.loop-member-preserved
loop-member-preserved g c =
    let sim = λ (model : g.row.M.Denot). simulation_of g.M.Event.Timed.parts g.M.Event.Ord.cmp (g.M.ProcessModel.behaviour model) in
    let xs = c.args.members.now in
    let index = c.loop-member.member-index in
    let item = c.member-item.result in
    let here = slice_get_read xs (length xs) index item refl c.loop-member-test.true c.member-item.is in
    let most = c.least_time-least.ensures.most in
    let before = c.loop-member.invariant in
    let so_far = before.most in
    record {
      most = omega arith;
      loose = λ i x l at law. elim (cases_lt i index) [
        | inl lt ↦ (λ e h. (let old = before.loose i x lt at law e h in omega arith))
        | inr ge ↦
            let is : i ≡ index = omega arith in
            let there : slice_get xs index ≡ Some x = subst (λ k. slice_get xs k ≡ Some x) is at in
            let same : item ≡ x = cc (here, there) in
            subst (λ z. IsLawful (sim z.process.model) → NoneLooseBefore (sim z.process.model) c.least_time-least.result (place_of z)) same c.least_time-least.ensures.loose law
      ];
    }

pub returns-clause-loose : goal.returns-clause-loose
returns-clause-loose g c = λ i x at.
    c.loop-member.invariant.loose i x (let l = within c.args.members.now i x at in let end = c.loop-member-test.false in omega arith) at
