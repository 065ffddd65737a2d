use Rattle.std.proofs.Common.{◌≡◌, ◌+◌, ◌<◌, ◌≤◌, Some, slice_get, sym, subst, inl, inr, arith}
use Rattle.std.proofs.lemmas.Bool.{cases_lt}
use Rattle.tw_process.specs.Behaviour.{simulation_of}
use Rattle.tw_rounds.proofs.Lists.{set_others, there_at, within}
use Rattle.tw_rounds.proofs.Waits.{one_raised}
use Rattle.tw_rounds.specs.Alone.{AreCommitted}
use Rattle.tw_rounds.specs.Members.{Mailed, raised}
use Rattle.tw_rounds.proofs.waiting.raise_all.Goals as goal

pub loop-place-init : goal.loop-place-init
loop-place-init g c = record {
  same = λ run waits stop are. are;
  raised = λ i x l at. absurd (omega (arith, l));
}

pub loop-place-preserved : goal.loop-place-preserved
loop-place-preserved g c =
    let sim = λ (model : g.row.M.Denot). simulation_of g.M.Event.Timed.parts g.M.Event.Ord.cmp (g.M.ProcessModel.behaviour model) in
    let xs = c.loop-place.members in
    let n = c.loop-place.place in
    let old = there_at xs n (let test = c.loop-place-test.true in omega (arith, test, c.loop-place.auto.members)) in
    let became = c.raise_at.ensures old.0 old.1 in
    record {
      same = λ run waits stop are.
          subst (AreCommitted (sim run.model) run waits) (sym became)
          (one_raised (sim run.model) run waits c.args.bound xs n old.0 stop old.1 (c.loop-place.invariant.same run waits stop are));
      raised = λ i x l at.
          set_others (λ j (z : Mailed _ _). j < n + 1 → c.args.bound ≤ z.process.bound) xs n (raised c.args.bound old.0) (λ k. omega arith)
          (λ j z there apart k. c.loop-place.invariant.raised j z (elim (cases_lt j n) [ inl less ↦ less | inr ge ↦ absurd (apart (omega (arith, ge, k))) ]) there)
          i x (subst (λ ys. slice_get ys i ≡ Some x) became at) l;
    }

pub returns : goal.returns
returns g c = record {
  same = c.loop-place.invariant.same;
  raised = λ i x at. c.loop-place.invariant.raised i x (let l = within c.loop-place.members i x at in let end = c.loop-place-test.false in omega (arith, l, end, c.loop-place.auto.members)) at;
}
