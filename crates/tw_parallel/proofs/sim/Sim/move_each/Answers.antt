use Rattle.std.proofs.Common.{◌≡◌, ℕ, ◌+◌, ◌<◌, ◌==◌, ◌⊎◌, List, Some, get_or, length, nat_lt, slice_get, refl, ap, sym, ◌∙◌, subst, inl, inr, arith}
use Rattle.std.proofs.lemmas.Bool.{and_parts, cases_eq, eqb-true}
use Rattle.std.proofs.lemmas.Option.{slice_get-get_or}
use Rattle.std.specs.List.{list_all}
use Rattle.tw_exchange.specs.Board.{who, workers}
use Rattle.tw_parallel.proofs.Moved.{rearranged_both, rearranged_self}
use Rattle.tw_parallel.specs.Sim.{IsSim, Sim}
use Rattle.tw_parallel.proofs.sim.Sim.move_each.Goals as goal

-- where a router's worker is as it was, it is the old one or the named one still
still : (owners : List ℕ) (r old was now : ℕ) → now ≡ was → (was ≡ old) ⊎ (slice_get owners r ≡ Some was) → (now ≡ old) ⊎ (slice_get owners r ≡ Some now)
still owners r old was now same (inl is) = inl (same ∙ is)
still owners r old was now same (inr is) = inr (is ∙ ap (λ w. Some w) (sym same))

pub loop-router-init : goal.loop-router-init
loop-router-init c = record {
  moved = λ r l. absurd (omega arith);
  each = λ r l. inl refl;
  listed = c.requires.listed;
  rearranged = rearranged_self c.args.self.now;
  sim = subst IsSim c.self.view_is c.self.invariant.sim;
}

pub returns-in_err-move_router-clause-each : goal.returns-in_err-move_router-clause-each
returns-in_err-move_router-clause-each c = λ r l.
    let owners = c.args.owners.now in
    let old = who c.args.self.now.board r in
    let was = who c.loop-router.self.board r in
    let now = who c.move_router.new.self.board r in
    let router = c.loop-router.router in
    let before = c.loop-router.invariant.each r l in
    elim (cases_eq r router) [
      | inl is ↦ (let b = c.move_router.new.self.board in
          still owners r old was now (ap (λ k. who b k) is ∙ (c.in_err-move_router.ensures.stays ∙ ap (λ k. who c.loop-router.self.board k) (sym is))) before)
      | inr ne ↦ still owners r old was now (c.in_err-move_router.ensures.others r ne) before
    ]

pub loop-router-preserved : goal.loop-router-preserved
loop-router-preserved c =
    let s = c.args.self.now in
    let owners = c.args.owners.now in
    let router = c.loop-router.router in
    let new = c.move_router.new.self in
    let long : length owners ≡ s.case.net.nodes
    = eqb-true (length owners) s.case.net.nodes (and_parts (length owners == s.case.net.nodes) (list_all (λ w. nat_lt w (workers s.board)) owners) c.requires.fit).0 in
    let count : c.nodes-router-end.result ≡ s.case.net.nodes
    = c.nodes-router-end.ensures.value ∙ (ap (λ net. net.nodes) c.instance.ensures.value ∙ ap (λ (t : Sim). t.case.net.nodes) c.self.view_is) in
    let more = c.loop-router-test.true in
    let within : router < length owners = omega arith in
    record {
      moved = λ r l. elim (cases_eq r router) [
        | inl is ↦ ap (slice_get owners) is ∙ (slice_get-get_or owners router 0 within ∙ ap (λ w. Some w) (sym c.in_ok-move_router.ensures.moved ∙ ap (who new.board) (sym is)))
        | inr ne ↦ c.loop-router.invariant.moved r (omega arith) ∙ ap (λ w. Some w) (sym (c.in_ok-move_router.ensures.others r ne))
      ];
      each = λ r l. elim (cases_eq r router) [
        | inl is ↦ inr (ap (slice_get owners) is ∙ (slice_get-get_or owners router 0 within ∙ ap (λ w. Some w) (sym c.in_ok-move_router.ensures.moved ∙ ap (who new.board) (sym is))))
        | inr ne ↦ still owners r (who s.board r) (who c.loop-router.self.board r) (who new.board r) (c.in_ok-move_router.ensures.others r ne) (c.loop-router.invariant.each r l)
      ];
      listed = c.in_ok-move_router.ensures.listed;
      rearranged = rearranged_both s c.loop-router.self new c.loop-router.invariant.rearranged c.in_ok-move_router.ensures.rearranged;
      sim = c.in_ok-move_router.ensures.sim;
    }
