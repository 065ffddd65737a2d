use Rattle.std.proofs.Common.{◌<◌, nat_lt, inl, inr}
use Rattle.std.proofs.lemmas.Bool.{cases_Bool, ltb-true}
use Rattle.tw_seq.proofs.Homes.{first_is}
use Rattle.tw_seq.proofs.one_thread.OneThread.copy_next.Goals as goal

pub returns-clause-some : goal.returns-clause-some
returns-clause-some c =
    let time = c.copy_least.new.event.time in
    let stop = c.self.inside.stop in
    elim (cases_Bool (nat_lt time stop)) [
      | inl b ↦
          let soon : time < stop = ltb-true time stop b in
          rw b (rw (← c.self.view_is) (let first = first_is c.self.inside.pending.events c.copy_least.new.event c.if-not-copy_least.ensures.some in (first.0, first.1, soon)))
      | inr b ↦ rw b tt
    ]
