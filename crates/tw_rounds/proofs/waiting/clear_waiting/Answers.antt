use Rattle.std.proofs.Common.{[], refl, sym, subst, inl, inr, arith}
use Rattle.std.proofs.lemmas.Bool.{cases_lt, eq-eqb, ne_eqb}
use Rattle.tw_process.specs.Behaviour.{simulation_of}
use Rattle.tw_rounds.proofs.Lists.{there_at}
use Rattle.tw_rounds.proofs.Waits.{changed, one_changed, waits_same}
use Rattle.tw_rounds.specs.Alone.{AreCommitted}
use Rattle.tw_rounds.proofs.waiting.clear_waiting.Goals as goal

pub loop-place-init : goal.loop-place-init
loop-place-init g c = λ run waits are. (waits, are, λ r l. absurd (omega (arith, l)))

pub loop-place-preserved : goal.loop-place-preserved
loop-place-preserved g c = λ run waits are.
    let m = simulation_of g.M.Event.Timed.parts g.M.Event.Ord.cmp (g.M.ProcessModel.behaviour run.model) in
    let xs = c.loop-place.members in
    let k = c.loop-place.invariant run waits are in
    let n = c.loop-place.place in
    let old = there_at xs n (let test = c.loop-place-test.true in omega (arith, test, c.loop-place.auto.members)) in
    let cleared = changed m run n [] k.0 in (
      cleared,
      subst (AreCommitted m run cleared) (sym (c.clear_at.ensures old.0 old.1)) (one_changed m run k.0 xs n old.0 [] old.1 k.1),
      λ r l. elim (cases_lt r n) [
        | inl less ↦ (let other = ne_eqb r n (λ is. omega (arith, is, less)) in rw other (k.2 r less))
        | inr ge ↦ (let here = eq-eqb r n (omega (arith, ge, l)) in rw here refl)
      ],
    )

pub returns : goal.returns
returns g c = λ run waits are.
    let m = simulation_of g.M.Event.Timed.parts g.M.Event.Ord.cmp (g.M.ProcessModel.behaviour run.model) in
    let k = c.loop-place.invariant run waits are in
    waits_same m run k.0 (λ r. []) c.loop-place.members (λ r l. k.2 r (let end = c.loop-place-test.false in omega (arith, l, end, c.loop-place.auto.members))) k.1
